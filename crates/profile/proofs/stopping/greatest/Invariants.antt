use Rattle.std.proofs.Common.{◌-◌, ◌≤◌, pos}
use Rattle.profile.specs.Ramp.{greatest_above}
use Rattle.profile.proofs.stopping.greatest.Given as goal

-- the speed looked for lies from low to high
abbrev pub invariant-loop-low : goal.invariant-loop-low
invariant-loop-low l =
    let found = greatest_above l.slowest l.deceleration (pos l.room) (l.fastest - l.slowest) in
    (l.slowest ≤ l.low) × (l.high ≤ l.fastest) × (l.low ≤ found) × (found ≤ l.high)

abbrev pub decreases-loop-low : goal.decreases-loop-low
decreases-loop-low l = l.high - l.low

-- The rule for the next speed of a motor that ramps. Assumes nothing.
use Rattle.std.specs.Prelude.{ℕ, zero, suc, ◌+◌, ◌-◌, min, max, Bool, cond, ◌||◌, ℤ, pos, neg_ℤ, ◌==◌, int_le}
use Rattle.coil.specs.Directions.{way_of}
use Rattle.coil.specs.declared.direction.Direction.{Direction}
use Rattle.coil.specs.declared.direction.Direction.TheVariants.{Forward, Backward}
use Rattle.profile.specs.declared.Limits.{Limits}
use Rattle.profile.specs.declared.Speed.{Speed}

-- a distance, counted along a direction
abbrev pub along : Direction → ℤ → ℤ
along Forward d = d
along Backward d = neg_ℤ d

-- the microsteps that a speed makes in one cycle
abbrev pub signed : Speed → ℤ
signed s = along s.direction (pos s.size)

-- so many terms of n + (n - dec) + (n - 2 × dec) + ..; `-` stops at 0, so that after the positive terms only 0 is added
unfoldable pub descent : ℕ → ℕ → ℕ → ℕ
descent zero n dec = 0
descent (suc k) n dec = n + descent k (n - dec) dec

-- the sum of the positive terms, of which there are at most n where dec isn't 0
unfoldable pub stopping_distance : ℕ → ℕ → ℕ
stopping_distance n dec = descent n n dec

-- the least size that the next speed can have, from the size v
abbrev pub slowest : Limits → ℕ → ℕ
slowest l v = v - l.deceleration

-- the greatest
abbrev pub fastest : Limits → ℕ → ℕ
fastest l v = max (slowest l v) (min (v + l.acceleration) l.maximum)

-- the greatest n from lo to lo + k whose stopping distance is at most d, or lo if there is none
unfoldable pub greatest_above : ℕ → ℕ → ℤ → ℕ → ℕ
greatest_above lo dec d zero = lo
greatest_above lo dec d (suc k) = cond (int_le (pos (stopping_distance (lo + suc k) dec)) d) (lo + suc k) (greatest_above lo dec d k)

-- acceleration or deceleration is 0, so that each new speed is 0
abbrev pub forbids_motion : Limits → Bool
forbids_motion l = l.acceleration == 0 || l.deceleration == 0

-- the size of the next speed, from the size v with the distance d to go
unfoldable pub next_size : Limits → ℕ → ℤ → ℕ
next_size l v d = cond (forbids_motion l) 0 (greatest_above (slowest l v) l.deceleration d (fastest l v - slowest l v))

-- the way of a motion: its own, or from standstill the target's
abbrev pub heading : Speed → ℤ → Direction
heading s d = cond (s.size == 0) (way_of d) s.direction

-- the next speed of going to a target that is d microsteps off
abbrev pub toward : Limits → Speed → ℤ → Speed
toward l s d = record {
  size = next_size l s.size (along (heading s d) d);
  direction = cond (forbids_motion l) s.direction (heading s d);
}

-- the next speed of braking
abbrev pub braked : Limits → Speed → Speed
braked l s = record { size = cond (forbids_motion l) 0 (slowest l s.size); direction = s.direction }

-- The course of a move: it can always stop on the target, and each cycle brings it nearer. Assumes nothing.
use Rattle.std.proofs.Common.{◌≡◌, ℕ, zero, suc, ◌+◌, ◌-◌, ◌≤◌, pos, refl, ⊎_elim, arith}
use native.Mathlib.Nat.{zero-sub}
use Rattle.std.proofs.lemmas.Int.{by_lt_z, ints}
use Rattle.profile.specs.Course.{Driven, Move, SoundCourse, course, left}
use Rattle.profile.specs.Ramp.{descent, next_size, stopping_distance}
use Rattle.profile.specs.declared.Limits.{Limits}
use Rattle.profile.proofs.Picks.{free, next_picked}
use Rattle.profile.proofs.Sums.{first_term}

-- a move that stops in time if it brakes from now on
pub record InTime (l : Limits) (m : Move) : Type 0 where
  pub stops : stopping_distance (m.speed - l.deceleration) l.deceleration ≤ m.to_go
  pub capped : m.speed ≤ l.maximum

-- one cycle of such a move, at the new speed n
pub record Cycle (l : Limits) (m : Move) (n : ℕ) : Type 0 where
  pub never_past : n ≤ m.to_go
  pub speeds_up : n ≤ m.speed + l.acceleration
  pub slows_down : m.speed ≤ n + l.deceleration
  pub nearer : m.to_go - n ≤ m.to_go - 1
  pub in_time : InTime l (record { to_go = m.to_go - n; speed = n })

-- at the speed 1 one more cycle is enough
one_left : (dec : ℕ) → stopping_distance 1 dec ≡ 1
unfolding stopping_distance descent
one_left dec = refl

one_cycle : (l : Limits) (m : Move) → Driven l → InTime l m → Cycle l m (next_size l m.speed (pos m.to_go))
one_cycle l m a t =
    let n = next_size l m.speed (pos m.to_go) in
    let p = next_picked l m.speed (pos m.to_go) (free l a.some_acceleration a.some_deceleration) in
    let s : stopping_distance n l.deceleration ≤ m.to_go = ⊎_elim (λ same. rw same t.stops) (λ h. omega (arith, ints)) p.stops in
    let f = first_term n l.deceleration a.some_deceleration in
    record {
      never_past = omega arith;
      speeds_up = omega (arith, p.below);
      slows_down = omega (arith, p.above);
      nearer =
          by_lt_z (pos 0) (pos n) (λ h. omega (arith, ints))
          (λ h. by_lt_z (pos 0) (pos m.to_go) (λ g. omega (arith, ints, p.most 1 (omega (arith, ints, p.above)) (omega (arith, ints)) (omega (arith, ints, one_left l.deceleration)))) (λ g. omega (arith, ints)));
      in_time = record { stops = omega arith; capped = omega (arith, p.below) };
    }

pub in_time : (l : Limits) → Driven l → (distance k : ℕ) → InTime l (course l distance k)
unfolding course stopping_distance descent
in_time l a distance zero = record { stops = rw zero-sub (omega arith); capped = omega arith }
in_time l a distance (suc k) = (one_cycle l (course l distance k) a (in_time l a distance k)).in_time

-- each cycle makes at least one microstep until none is left
pub near : (l : Limits) → Driven l → (distance k : ℕ) → left l distance k ≤ distance - k
unfolding course
near l a distance zero = omega arith
near l a distance (suc k) =
    let c = one_cycle l (course l distance k) a (in_time l a distance k) in
    omega (arith, near l a distance k, c.nearer)

pub sound : (l : Limits) → Driven l → (distance k : ℕ) → SoundCourse l distance k
unfolding course
sound l a distance k =
    let t = in_time l a distance k in
    let c = one_cycle l (course l distance k) a t in
    record {
      never_past = c.never_past;
      speeds_up = c.speeds_up;
      slows_down = c.slows_down;
      capped = t.capped;
      arrives = λ h. omega (arith, near l a distance k);
      stands = λ h. omega (arith, c.never_past);
    }

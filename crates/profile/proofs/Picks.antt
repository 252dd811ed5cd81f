-- The greatest speed that stops in time: what it is, from the definition that counts down to it. Assumes nothing.
use Rattle.std.proofs.Common.{◌≡◌, ℕ, zero, suc, ◌+◌, ◌-◌, ◌<◌, ◌≤◌, Bool, true, false, cond, ◌⊎◌, ℤ, pos, ◌≤ℤ◌, ◌<ℤ◌, refl, ap, inl, inr, arith}
use lib.Signed.{le_z}
use Rattle.std.proofs.lemmas.Int.{ints, by_lt_z}
use Rattle.std.proofs.lemmas.Bool.Decides.{nat_tests}
use Rattle.profile.specs.Ramp.{along, fastest, forbids_motion, greatest_above, heading, next_size, slowest, stopping_distance, toward}
use Rattle.profile.specs.declared.Limits.{Limits}
use Rattle.profile.specs.declared.Speed.{Speed}
use Rattle.profile.proofs.Sums.{rises}

-- r is the greatest speed from lo to lo + k that stops within d, or lo
pub record Picked (lo dec : ℕ) (d : ℤ) (k r : ℕ) : Type 0 where
  pub above : lo ≤ r
  pub below : r ≤ lo + k
  pub stops : (r ≡ lo) ⊎ (pos (stopping_distance r dec) ≤ℤ d)
  pub most : (n : ℕ) → lo ≤ n → n ≤ lo + k → pos (stopping_distance n dec) ≤ℤ d → n ≤ r

one_more : (lo dec : ℕ) (d : ℤ) (k r : ℕ) → Picked lo dec d k r → (t : Bool) → le_z (pos (stopping_distance (lo + suc k) dec)) d ≡ t →
    Picked lo dec d (suc k) (cond t (lo + suc k) r)
one_more lo dec d k r p true e = record { above = omega arith; below = omega arith; stops = inr (omega (arith, ints)); most = λ n a b s. b }
one_more lo dec d k r p false e = record {
  above = p.above;
  below = omega arith;
  stops = p.stops;
  most = λ n a b s. by_lt_z (pos n) (pos (lo + suc k)) (λ h. p.most n a (omega (arith, ints)) s) (λ h. absurd (last n s (omega (arith, ints))));
}
  where
    last : (n : ℕ) → pos (stopping_distance n dec) ≤ℤ d → n ≡ lo + suc k → ⊥
    last n s same = omega (arith, ints, ap (λ (x : ℕ). stopping_distance x dec) same)

pub picked : (lo dec : ℕ) (d : ℤ) (k : ℕ) → Picked lo dec d k (greatest_above lo dec d k)
unfolding greatest_above
picked lo dec d zero = record { above = omega arith; below = omega arith; stops = inl refl; most = λ n a b s. omega arith }
picked lo dec d (suc k) = one_more lo dec d k (greatest_above lo dec d k) (picked lo dec d k) (le_z (pos (stopping_distance (lo + suc k) dec)) d) refl

-- it lies below each speed that does not stop in time
pub under : {lo dec k r : ℕ} {d : ℤ} → Picked lo dec d k r → (n : ℕ) → lo < n → d <ℤ pos (stopping_distance n dec) → r < n
under {lo} {dec} {k} {r} {d} p n h over = by_lt_z (pos r) (pos n) (λ g. omega (arith, ints)) (λ g. absurd (omega (arith, ints, p.stops, rises n r dec (omega (arith, ints)))))

pub free : (l : Limits) → 1 ≤ l.acceleration → 1 ≤ l.deceleration → forbids_motion l ≡ false
free l a b = grind (arith, nat_tests)

-- where motion isn't forbidden, the next speed is such a one
pub next_is : (l : Limits) (v : ℕ) (d : ℤ) → forbids_motion l ≡ false → next_size l v d ≡ greatest_above (slowest l v) l.deceleration d (fastest l v - slowest l v)
unfolding next_size
next_is l v d e = rw e

pub next_picked : (l : Limits) (v : ℕ) (d : ℤ) → forbids_motion l ≡ false → Picked (slowest l v) l.deceleration d (fastest l v - slowest l v) (next_size l v d)
next_picked l v d e = rw (next_is l v d e) (picked (slowest l v) l.deceleration d (fastest l v - slowest l v))

pub toward_is : (l : Limits) (s : Speed) (d : ℤ) → forbids_motion l ≡ false → toward l s d ≡ record { size = next_size l s.size (along (heading s d) d); direction = heading s d }
toward_is l s d e = rw e

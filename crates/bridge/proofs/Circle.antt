-- The levels at every count lie on the circle.
use Prim.Native.Nat.{ℕ, zero, suc, ◌+◌, ◌-◌, ◌*◌, ◌/◌, ◌%◌}
use lib.IntN.{pos, neg_ℤ}
use mathlib.Core.Path.{◌≡◌, refl, sym, subst}
use native.Mathlib.Omega.{arith}
use Rattle.bridge.specs.Wave.{OnCircle, Round, in_quarter, levels_at, quarter, square}
use Rattle.bridge.specs.declared.wave.Levels.{Levels}
use Rattle.bridge.proofs.Rules.{quarter_round}

square_neg : (n : ℕ) → square (neg_ℤ (pos n)) ≡ n * n
square_neg zero = refl
square_neg (suc n) = refl

-- the squares of sine and cosine make the same sum in every quarter
turn : (q s c : ℕ) → Round (s * s + c * c) → OnCircle (in_quarter q (pos s) (pos c))
turn zero s c r = record { least = omega (arith, r.least); most = omega (arith, r.most) }
turn (suc zero) s c r = record { least = omega (arith, r.least, square_neg s); most = omega (arith, r.most, square_neg s) }
turn (suc (suc zero)) s c r = record { least = omega (arith, r.least, square_neg s, square_neg c); most = omega (arith, r.most, square_neg s, square_neg c) }
turn (suc (suc (suc q))) s c r = record { least = omega (arith, r.least, square_neg c); most = omega (arith, r.most, square_neg c) }

pub on_circle : (count : ℕ) {l : Levels} → l ≡ levels_at count → OnCircle l
on_circle count e = subst OnCircle (sym e) (turn (count % 1024 / 256) (quarter (count % 256)) (quarter (256 - count % 256)) (quarter_round (count % 256) (omega arith)))

-- Sums modulo n: to take the remainder on the way changes nothing, and the numbers' own wrapping sums are such sums.
use Rattle.std.proofs.Common.{◌≡◌, ℕ, zero, suc, ◌+◌, ◌-◌, ◌*◌, ◌%◌, ◌^◌, ◌<◌, ◌≤◌, ℤ, pos, negsuc, ◌+ℤ◌, nat_abs, sym, refl, ap, ◌∙◌, add-zero, mod-eq_of_lt, arith, w8, w16, w32, w64, SFits, of_z}
use mir.Syntax.{Width, w128}
use mir.Val.{bits}
use native.Mathlib.Nat.{mod-add-mod}
use Rattle.std.proofs.lemmas.Int.{ints, int_rem_euclid_is}
use Rattle.std.specs.Int.{int_rem_euclid}
use Rattle.coil.specs.Modulo.{modulo}

-- z plus k times n is the natural m
abbrev Lifted : ℕ → ℤ → Type 0
Lifted n z = (k : ℕ) × ((m : ℕ) × (z +ℤ pos (k * n) ≡ pos m))

lifted : (n : ℕ) (z : ℤ) → 0 < n → Lifted n z
lifted n (pos a) h = (0, (a, omega (arith, ints)))
lifted zero (negsuc a) h = elim h [ ]
lifted (suc p) (negsuc a) h = (suc a, (suc a * p, omega (arith, ints)))

modulo_euclid : (n : ℕ) (z : ℤ) → pos (modulo n z) ≡ int_rem_euclid z (pos n)
unfolding modulo
modulo_euclid n (pos a) = refl
modulo_euclid n (negsuc a) = refl

modulo_is : (n : ℕ) (z : ℤ) (k m : ℕ) → 0 < n → z +ℤ pos (k * n) ≡ pos m → modulo n z ≡ m % n
modulo_is n z k m h e = ap nat_abs (modulo_euclid n z ∙ int_rem_euclid_is z (pos n) n k m h refl e)

pub modulo_onto : (n : ℕ) (a b : ℤ) → 0 < n → modulo n (pos (modulo n a) +ℤ b) ≡ modulo n (a +ℤ b)
modulo_onto n a b h =
    let x = lifted n a h in
    let y = lifted n b h in
    modulo_is n (pos (modulo n a) +ℤ b) y.0 (modulo n a + y.1.0) h (omega (arith, ints, y.1.1))
    ∙ ap (λ r. (r + y.1.0) % n) (modulo_is n a x.0 x.1.0 h x.1.1)
    ∙ mod-add-mod x.1.0 n y.1.0
    ∙ sym (modulo_is n (a +ℤ b) (x.0 + y.0) (x.1.0 + y.1.0) h (omega (arith, ints, x.1.1, y.1.1)))

pub modulo_below : (n : ℕ) (z : ℤ) → 0 < n → modulo n z < n
unfolding modulo
modulo_below n (pos a) h = omega arith
modulo_below n (negsuc a) h = omega arith

fits_below : (w : Width) (a : ℕ) → SFits w (negsuc a) → suc a ≤ 2 ^ bits w
fits_below w8 a f = omega (arith, f.sfits)
fits_below w16 a f = omega (arith, f.sfits)
fits_below w32 a f = omega (arith, f.sfits)
fits_below w64 a f = omega (arith, f.sfits)
fits_below w128 a f = omega (arith, f.sfits)

-- what `wrapping_add_signed` answers
pub wrapping_modulo : (w : Width) (m : ℕ) (z : ℤ) → SFits w z → (m + of_z w z) % 2 ^ bits w ≡ modulo (2 ^ bits w) (pos m +ℤ z)
unfolding modulo
wrapping_modulo w m (pos a) f = refl
wrapping_modulo w m (negsuc a) f =
    let le : suc a ≤ 2 ^ bits w = fits_below w a f in
    sym (modulo_is (2 ^ bits w) (pos m +ℤ negsuc a) 1 (m + (2 ^ bits w - suc a)) (omega arith) (omega (arith, ints)))

-- a number below n with nothing added
pub modulo_still : (n a : ℕ) (z : ℤ) → a < n → z ≡ pos 0 → modulo n (pos a +ℤ z) ≡ a
unfolding modulo
modulo_still n a z h e = ap (λ x. modulo n (pos a +ℤ x)) e ∙ ap (λ x. x % n) (add-zero a) ∙ mod-eq_of_lt h

-- Flags stay below 16, and clearing them trips no coil.
use Rattle.std.proofs.Common.{◌≡◌, ℕ, ◌%◌, ◌<◌, Bool, true, false, cond, not, ◌||◌, eqb, sym, refl, ap, ◌∙◌, mod-eq_of_lt, arith, lit<}
use Rattle.std.proofs.Math.Bool.{or-false}
use Rattle.std.proofs.lemmas.Bool.{agree_below, agree_below_at}
use lib.Bits.{bit_and, bit_or, and_le_r, and_mod, or_lt}
use Rattle.coil.specs.Meaning.{tripped, noted, cleared}

still_tripped : ℕ → Bool
still_tripped f = cond (tripped (cleared f)) (tripped f) true

all_still : agree_below still_tripped (λ _. true) 16 ≡ true
unfolding still_tripped tripped cleared
all_still = refl

pub cleared_tripped : (f : ℕ) → f < 16 → tripped (cleared f) ≡ true → tripped f ≡ true
unfolding still_tripped
cleared_tripped f h e = sym (ap (λ x. cond x (tripped f) true) e) ∙ agree_below_at still_tripped (λ _. true) 16 f all_still h

pub cleared_below : (f : ℕ) → cleared f < 16
unfolding cleared
cleared_below f = omega (arith, and_le_r f 2)

pub noted_below : (f g : ℕ) → noted f g < 16
unfolding noted
noted_below f g = or_lt 4 (bit_and f 13) (bit_and g 15) (omega (arith, and_le_r f 13)) (omega (arith, and_le_r g 15))

-- a report without overtemperature and overcurrent trips no coil
stays_untripped : ℕ → ℕ → Bool
stays_untripped f g = cond (tripped (noted f g)) (tripped f || tripped g) true

-- that holds at this number with every number below 16
untripped : ℕ → Bool
untripped f = agree_below (stays_untripped f) (λ _. true) 16

all_untripped : agree_below untripped (λ _. true) 16 ≡ true
unfolding untripped stays_untripped tripped noted
all_untripped = refl

noted_tripped : (f g : ℕ) → f < 16 → g < 16 → tripped (noted f g) ≡ true → tripped g ≡ false → tripped f ≡ true
unfolding untripped stays_untripped
noted_tripped f g a b e low =
    sym (or-false (tripped f)) ∙ sym (ap (λ t. tripped f || t) low) ∙ sym (ap (λ t. cond t (tripped f || tripped g) true) e) ∙ agree_below_at (stays_untripped f) (λ _. true) 16 g (agree_below_at untripped (λ _. true) 16 f all_untripped a) b

-- the same of flags of any size: only their low four bits count
low_bits : (f m : ℕ) → m < 16 → bit_and f m ≡ bit_and (f % 16) m
low_bits f m h = sym (mod-eq_of_lt (omega (arith, and_le_r f m))) ∙ and_mod f m 4 ∙ ap (bit_and (f % 16)) (mod-eq_of_lt h)

tripped_low : (f : ℕ) → tripped f ≡ tripped (f % 16)
unfolding tripped
tripped_low f = ap (λ n. not (eqb n 0)) (low_bits f 10 (lit< tt))

noted_low : (f g : ℕ) → noted f g ≡ noted (f % 16) g
unfolding noted
noted_low f g = ap (λ n. bit_or n (bit_and g 15)) (low_bits f 13 (lit< tt))

cleared_low : (f : ℕ) → cleared f ≡ cleared (f % 16)
unfolding cleared
cleared_low f = low_bits f 2 (lit< tt)

low : (f : ℕ) → f % 16 < 16
low f = omega arith

pub report_tripped : (f g : ℕ) → g < 16 → tripped (noted f g) ≡ true → tripped g ≡ false → tripped f ≡ true
report_tripped f g b e not_reported = tripped_low f ∙ noted_tripped (f % 16) g (low f) b (ap tripped (sym (noted_low f g)) ∙ e) not_reported

pub clear_tripped : (f : ℕ) → tripped (cleared f) ≡ true → tripped f ≡ true
clear_tripped f e = tripped_low f ∙ cleared_tripped (f % 16) (low f) (ap tripped (sym (cleared_low f)) ∙ e)

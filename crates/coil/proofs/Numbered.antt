-- The coils by their numbers: what stands for a number that a coil has, and for one that no coil has.
use Rattle.std.proofs.Common.{◌≡◌, ℕ, Bool, true, false, cond, eqb, Some, None, Ok, Err, ok_or, refl, ap, ◌∙◌, eqb-true}
use Rattle.coil.specs.Numbers.{by_number, coil_numbered, number}
use Rattle.coil.specs.declared.CoilId.{CoilId}
use Rattle.coil.specs.declared.CoilId.TheVariants.{First, Second}
use Rattle.coil.specs.declared.error.UnknownCoil.{UnknownCoil}
use Rattle.std.proofs.lemmas.Bool.{cond-false}

pub by_own_number : {X : Type 0} (i : CoilId) (f : CoilId → X) (z : X) → by_number (number i) f z ≡ f i
by_own_number First f z = refl
by_own_number Second f z = refl

pub by_same_number : {X : Type 0} (n : ℕ) (i : CoilId) (f : CoilId → X) (z : X) → eqb n (number i) ≡ true → by_number n f z ≡ f i
by_same_number n i f z e = ap (λ m. by_number m f z) (eqb-true n (number i) e) ∙ by_own_number i f z

pub by_no_number : {X : Type 0} (n : ℕ) (f : CoilId → X) (z : X) → ((i : CoilId) → eqb n (number i) ≡ false) → by_number n f z ≡ z
by_no_number n f z none = cond-false _ _ _ (none First) ∙ cond-false _ _ _ (none Second)

pub number_of : (n : ℕ) (i : CoilId) (u : UnknownCoil) → ok_or (coil_numbered n) u ≡ Ok i → n ≡ number i
number_of n i u e = by (eqb n 1) (eqb n 2) refl refl e
  where
    by : (a b : Bool) → eqb n 1 ≡ a → eqb n 2 ≡ b → ok_or (cond a (Some First) (cond b (Some Second) None)) u ≡ Ok i → n ≡ number i
    by true b p q e = let same : First ≡ i = cc in eqb-true n 1 p ∙ ap number same
    by false true p q e = let same : Second ≡ i = cc in eqb-true n 2 q ∙ ap number same
    by false false p q e = cc

pub number_of_none : (n : ℕ) (u v : UnknownCoil) → ok_or (coil_numbered n) u ≡ Err v → (i : CoilId) → eqb n (number i) ≡ false
number_of_none n u v e i = by (eqb n 1) (eqb n 2) refl refl e i
  where
    by : (a b : Bool) → eqb n 1 ≡ a → eqb n 2 ≡ b → ok_or (cond a (Some First) (cond b (Some Second) None)) u ≡ Err v → (i : CoilId) → eqb n (number i) ≡ false
    by true b p q e i = cc
    by false true p q e i = cc
    by false false p q e First = p
    by false false p q e Second = q

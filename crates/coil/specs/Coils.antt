-- One value for each of the two coils. Assumes nothing.
use Rattle.std.specs.Prelude.{◌≡◌, refl}
use Rattle.std.proofs.Common.{ap, ◌∙◌}
use Rattle.coil.specs.declared.CoilId.{CoilId}
use Rattle.coil.specs.declared.CoilId.TheVariants.{First, Second}
use Rattle.coil.specs.declared.per_coil.PerCoil.{PerCoil}

-- the value of the coil i
abbrev pub at : {T : Type 0} → PerCoil T → CoilId → T
at c First = c.first
at c Second = c.second

-- the values with another one for the coil i
abbrev pub put : {T : Type 0} → PerCoil T → CoilId → T → PerCoil T
put c First x = record c { first = x }
put c Second x = record c { second = x }

-- the values of a function at both coils
abbrev pub both : {T : Type 0} → (CoilId → T) → PerCoil T
both f = record { first = f First; second = f Second }

pub at_both : {T : Type 0} (f : CoilId → T) (i : CoilId) → at (both f) i ≡ f i
at_both f First = refl
at_both f Second = refl

pub same_both : {T : Type 0} (f g : CoilId → T) → ((i : CoilId) → f i ≡ g i) → both f ≡ both g
same_both f g same = ap (λ x. record { first = x; second = f Second }) (same First) ∙ ap (λ x. record { first = g First; second = x }) (same Second)

pub put_same : {T : Type 0} (c : PerCoil T) (i : CoilId) → put c i (at c i) ≡ c
put_same c First = refl
put_same c Second = refl

pub at_put : {T : Type 0} (c : PerCoil T) (i : CoilId) (x : T) → at (put c i x) i ≡ x
at_put c First x = refl
at_put c Second x = refl

pub at_put_other : {T : Type 0} (c : PerCoil T) (i j : CoilId) (x : T) → (i ≡ j → ⊥) → at (put c i x) j ≡ at c j
at_put_other c First First x ne = absurd (ne refl)
at_put_other c First Second x ne = refl
at_put_other c Second First x ne = refl
at_put_other c Second Second x ne = absurd (ne refl)

pub put_put : {T : Type 0} (c : PerCoil T) (i : CoilId) (x y : T) → put (put c i x) i y ≡ put c i y
put_put c First x y = refl
put_put c Second x y = refl

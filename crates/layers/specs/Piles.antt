-- What a layer means, and which calls it made, over a driver of any kind. Assumes nothing.
use Rattle.std.specs.Prelude.{◌≡◌, ◌↔◌, ℕ, ℤ, neg_ℤ}
use Rattle.coil.specs.Chains.{Did}
use Rattle.coil.specs.Meaning.{Coils}
use Rattle.layers.specs.Layers.{recounted, reversed, shifted, turned}
use Rattle.coil.specs.declared.DriverCall.{DriverCall}
use Rattle.layers.specs.declared.layer.Layer.{Layer}
use Rattle.layers.specs.declared.rules.Reversed.{Reversed}
use Rattle.layers.specs.declared.rules.Shifted.{Shifted}

-- what a layer means over a driver with this meaning
abbrev pub layer_meaning : {R D : Type 0} → (R → ℕ → ℕ) → (D → Coils) → Layer R D → Coils
layer_meaning recount meaning x = recounted (recount x.rule) (meaning x.below)

-- the rule stays, and the driver below did the call with its steps turned
abbrev pub LayerDid : {R D : Type 0} → (R → ℤ → ℤ) → Did D → Did (Layer R D)
LayerDid turn did x call y = (y.rule ≡ x.rule) × did x.below (turned (turn x.rule) call) y.below

-- both say of the same values which call led from one to the other
abbrev pub SameCalls : {D : Type 0} → Did D → Did D → Type 0
SameCalls {D} one other = (x : D) (call : DriverCall) (y : D) → one x call y ↔ other x call y

-- what reversal means over a driver with this meaning
abbrev pub reversal_meaning : {D : Type 0} → (D → Coils) → Layer Reversed D → Coils
reversal_meaning meaning x = reversed (meaning x.below)

-- the driver below did the call with the sign of its steps turned
abbrev pub ReversalDid : {D : Type 0} → Did D → Did (Layer Reversed D)
ReversalDid did x call y = did x.below (turned neg_ℤ call) y.below

-- what zero shift means over a driver with this meaning
abbrev pub shift_meaning : {D : Type 0} → (D → Coils) → Layer Shifted D → Coils
shift_meaning meaning x = shifted x.rule.microsteps (meaning x.below)

-- the shift stays, and the driver below did the same call
abbrev pub ShiftDid : {D : Type 0} → Did D → Did (Layer Shifted D)
ShiftDid did x call y = (y.rule ≡ x.rule) × did x.below call y.below

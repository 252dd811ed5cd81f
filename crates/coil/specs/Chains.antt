-- Which accepted calls led from one value of a driver to another. Assumes nothing.
use Rattle.std.specs.Prelude.{◌≡◌, Bool, true, false, List, [], ◌∷◌}
use Rattle.coil.specs.declared.CoilCall.{CoilCall}
use Rattle.coil.specs.declared.CoilId.{CoilId}
use Rattle.coil.specs.declared.DriverCall.{DriverCall}

-- what a driver says of one accepted call: it led from the first value to the second
abbrev pub Did : Type 0 → Type 1
Did D = D → DriverCall → D → Type 0

-- the call of the coil i
abbrev pub on : CoilId → CoilCall → DriverCall
on i call = record { coil = i; call = call }

-- one call: declined, it leaves the whole driver as it was
abbrev pub Tried : {D : Type 0} → Did D → Bool → D → DriverCall → D → Type 0
Tried did true d call d' = d' ≡ d
Tried did false d call d' = did d call d'

-- these calls were accepted, one after the other, and no other call was
abbrev pub Chain : {D : Type 0} → Did D → D → List DriverCall → D → Type 0
Chain did d [] d' = d' ≡ d
Chain {D} did d (call ∷ calls) d' = (e : D) × (did d call e × Chain did e calls d')

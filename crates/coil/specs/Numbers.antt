-- The numbers of the coils, and which numbers stand for points. Assumes nothing.
use Rattle.std.specs.Prelude.{ℕ, cond, ℤ, pos, negsuc, Some, None, Option, nat_le, ◌==◌}
use Rattle.coil.specs.declared.CoilId.{CoilId}
use Rattle.coil.specs.declared.CoilId.TheVariants.{First, Second}

-- the number of a coil
abbrev pub number : CoilId → ℕ
number First = 1
number Second = 2

-- what f has for the coil with this number, or z where no coil has it
abbrev pub by_number : {X : Type 0} → ℕ → (CoilId → X) → X → X
by_number n f z = cond (n == number First) (f First) (cond (n == number Second) (f Second) z)

-- the coil with this number, or absent
abbrev pub coil_numbered : ℕ → Option CoilId
coil_numbered n = by_number n Some None

-- the points that a setting's value means: 0 to 167, or absent
abbrev pub points_from : ℤ → Option ℕ
points_from (pos n) = cond (nat_le n 167) (Some n) None
points_from (negsuc n) = None

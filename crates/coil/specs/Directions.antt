-- The two ways of turning, the way of a signed number, and the level of the direction line. Assumes nothing.
use Rattle.std.specs.Prelude.{ℕ, ℤ, pos, negsuc}
use Rattle.coil.specs.declared.direction.Direction.{Direction}
use Rattle.coil.specs.declared.direction.Direction.TheVariants.{Forward, Backward}

-- the number of each direction
abbrev pub level : Direction → ℕ
level Forward = 0
level Backward = 1

-- backward for a negative number, else forward
abbrev pub way_of : ℤ → Direction
way_of (pos n) = Forward
way_of (negsuc n) = Backward

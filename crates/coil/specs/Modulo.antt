-- Whole numbers modulo n. Assumes nothing.
use Rattle.std.specs.Prelude.{ℕ, ◌-◌, ◌%◌, ℤ, pos, negsuc}

-- the remainder of z, from 0 to n - 1
unfoldable pub modulo : ℕ → ℤ → ℕ
modulo n (pos a) = a % n
modulo n (negsuc a) = n - 1 - a % n

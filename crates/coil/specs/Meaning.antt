-- What a coil is, and what each call of a driver makes of it. Assumes nothing.
use Rattle.std.specs.Prelude.{◌≡◌, ℕ, ◌+◌, ◌^◌, ◌<◌, ◌≤◌, Bool, true, cond, not, ◌&&◌, ℤ, pos, ◌+ℤ◌, Ok, Err, Result, ◌==◌, bit_and, bit_or}
use Rattle.coil.specs.Modulo.{modulo}
use Rattle.coil.specs.declared.CoilFault.{CoilFault}
use Rattle.coil.specs.declared.CoilFault.TheVariants.{Tripped}
use Rattle.coil.specs.declared.per_coil.PerCoil.{PerCoil}

-- one coil: its count in microsteps, its current in points, its flags
pub record Coil : Type 0 where
  pub count : ℕ
  pub points : ℕ
  pub flags : ℕ

-- the two coils of a driver
abbrev pub Coils : Type 0
Coils = PerCoil Coil

-- bit 1, overtemperature, or bit 3, overcurrent, stands
unfoldable pub tripped : ℕ → Bool
tripped flags = not (bit_and flags (2 + 8) == 0)

-- the sum of a count and signed steps, modulo 2 ^ 32
abbrev pub stepped : ℕ → ℤ → ℕ
stepped count steps = modulo (2 ^ 32) (pos count +ℤ steps)

-- flags after a report: stall, open load and overcurrent stand if they stood or are reported, overtemperature is as reported
unfoldable pub noted : ℕ → ℕ → ℕ
noted flags reported = bit_or (bit_and flags (1 + 4 + 8)) (bit_and reported 15)

-- flags without stall, open load and overcurrent
unfoldable pub cleared : ℕ → ℕ
cleared flags = bit_and flags 2

-- when a call on a coil with these flags is declined
abbrev pub declines_advance : ℕ → ℤ → Bool
declines_advance flags steps = tripped flags

abbrev pub declines_feed : ℕ → ℕ → Bool
declines_feed flags points = tripped flags && not (points == 0)

-- a coil after each of the four calls, declined or not
abbrev pub with_count : Coil → ℕ → Coil
with_count c n = record c { count = n }

abbrev pub advanced : Coil → ℤ → Coil
advanced c steps = with_count c (cond (declines_advance c.flags steps) c.count (stepped c.count steps))

abbrev pub fed : Coil → ℕ → Coil
fed c points = record c { points = cond (declines_feed c.flags points) c.points points }

abbrev pub reported : Coil → ℕ → Coil
reported c flags = record c { points = cond (tripped (noted c.flags flags)) 0 c.points; flags = noted c.flags flags }

abbrev pub acknowledged : Coil → Coil
acknowledged c = record c { flags = cleared c.flags }

-- the answer to a call: a decline is a fault with the flags that stand
abbrev pub answered : Bool → ℕ → Result (Unit {0}) CoilFault
answered declined flags = cond declined (Err (Tripped flags)) (Ok tt)

-- what holds of every coil of every driver
pub record Sound (c : Coil) : Type 0 where
  pub count : c.count < 2 ^ 32
  pub points : c.points ≤ 167
  pub flags : c.flags < 16
  pub dark : tripped c.flags ≡ true → c.points ≡ 0

-- a coil as a driver is made: without current and without flags
abbrev pub new_coil : ℕ → Coil
new_coil count = record { count = count; points = 0; flags = 0 }

-- the coils of a driver as it is made, with these counts
abbrev pub new_coils : ℕ → ℕ → Coils
new_coils one two = record { first = new_coil one; second = new_coil two }

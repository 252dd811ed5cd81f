-- How the one supply is shared between the two motors. Assumes nothing.
use Rattle.std.specs.Prelude.{ℕ, ◌-◌, min}
use Rattle.coil.specs.declared.CoilId.{CoilId}
use Rattle.coil.specs.declared.CoilId.TheVariants.{First, Second}

-- what the supply gives, in points
abbrev pub supply_points : ℕ
supply_points = 267

-- motor 1 is fed what it wants, motor 2 the smaller of what it wants and what is left
abbrev pub granted : CoilId → ℕ → ℕ → ℕ
granted First wanted₁ wanted₂ = wanted₁
granted Second wanted₁ wanted₂ = min wanted₂ (supply_points - wanted₁)

-- One motor's share of a module: all that is its own, and never the points that its coil is fed. Assumes nothing.
use Rattle.std.specs.Prelude.{ℕ, Bool, List, None, Option, slice_index_or}
use Rattle.std.proofs.Common.{lit≤}
use Rattle.axis.specs.Kinds.{Kind, Seen}
use Rattle.axis.specs.Levels.{Levels, chosen, is_powered, levels, no_levels}
use Rattle.coil.specs.declared.points.Points.{Points}
use Rattle.coil.specs.Coils.{at}
use Rattle.coil.specs.Meaning.{Coil, Coils}
use Rattle.coil.specs.declared.CoilId.{CoilId}
use Rattle.coil.specs.declared.CoilId.TheVariants.{First, Second}
use Rattle.module.specs.declared.inner.Inner.{Inner}
use Rattle.module.specs.declared.motor.Fault.{Fault}
use Rattle.module.specs.declared.motor.Motor.{Motor}
use Rattle.registers.specs.Tables.{Line}

-- the rules of a function model: its kind of axis and its register table
pub record Rules (C A : Type 0) : Type 0 where
  pub kind : Kind C A
  pub lines : List Line

abbrev pub rules : {C A : Type 0} → Kind C A → List Line → Rules C A
rules kind lines = record { kind = kind; lines = lines }

pub record Share (C A : Type 0) : Type 0 where
  -- the module-wide configuration
  pub config : C
  pub axis : A
  -- the current settings
  pub currents : Levels
  pub fault : Option Fault
  -- the number of the latest accepted cycle
  pub cycles : ℕ
  pub count : ℕ
  pub flags : ℕ

-- the place of a motor in the table of two
abbrev pub place : CoilId → ℕ
place First = 0
place Second = 1

no_points : Points
no_points = record { value = 0; within = lit≤ tt }

-- a motor as a module is made; what a table of two motors never lacks
pub idle : {C A : Type 0} → Kind C A → Motor A
idle k = record { axis = k.fresh; currents = record { holding = no_points; nominal = no_points; maximum = no_points }; fault = None }

abbrev pub motor_at : {C A : Type 0} → Kind C A → List (Motor A) → CoilId → Motor A
motor_at k motors i = slice_index_or motors (place i) (idle k)

abbrev pub share_of : {C A : Type 0} → C → Motor A → ℕ → Coil → Share C A
share_of config m cycles c = record { config = config; axis = m.axis; currents = levels m.currents; fault = m.fault; cycles = cycles; count = c.count; flags = c.flags }

-- the share of the motor i
abbrev pub share : {C A D : Type 0} → Kind C A → (D → Coils) → Inner A D C → CoilId → Share C A
share k meaning x i = share_of x.configuration.model (motor_at k x.motors i) x.cycles (at (meaning x.driver) i)

-- a motor's share as a module is made over a coil
abbrev pub born : {C A : Type 0} → Kind C A → Coil → Share C A
born k c = record { config = k.first_config; axis = k.fresh; currents = no_levels; fault = None; cycles = 0; count = c.count; flags = c.flags }

-- what the axis sees of its coil
abbrev pub sight : {C A : Type 0} → Share C A → Seen
sight h = record { count = h.count; flags = h.flags }

-- the points that a motor wants, and whether it is powered
abbrev pub wanted : {C A : Type 0} → Kind C A → Share C A → ℕ
wanted k h = chosen (k.current h.axis) h.currents

abbrev pub powered : {C A : Type 0} → Kind C A → Share C A → Bool
powered k h = is_powered (k.current h.axis)

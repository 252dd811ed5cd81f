-- One motor of a module: its axis, its current settings, its latest fault. Assumes nothing.
use Rattle.std.specs.Prelude.{◌≡◌, ℕ, List, map, Some, Ok, Err, Option, Result}
use Rattle.axis.specs.Kinds.{Outcome, moved}
use Rattle.axis.specs.declared.AxisFault.{AxisFault}
use Rattle.coil.specs.Chains.{Chain, Did, on}
use Rattle.coil.specs.Coils.{at, put}
use Rattle.coil.specs.Meaning.{Coils}
use Rattle.coil.specs.declared.CoilId.{CoilId}
use Rattle.module.specs.declared.motor.Fault.{Fault}
use Rattle.module.specs.declared.motor.Motor.{Motor}

-- the latest fault after a cycle: motor and cycle number are added to the axis' fault
abbrev pub latest : CoilId → ℕ → Result (Unit {0}) AxisFault → Option Fault → Option Fault
latest motor cycle (Ok u) before = before
latest motor cycle (Err cause) before = Some (record { motor = motor; cycle = cycle; cause = cause })

-- one cycle of the motor i: m and d become m' and d', and o is what its kind of axis makes of them
pub record Turned {A D : Type 0} (meaning : D → Coils) (did : Did D) (i : CoilId) (cycle : ℕ) (o : Outcome A) (m m' : Motor A) (d d' : D) (answer : List ℕ) : Type 0 where
  pub axis : m'.axis ≡ o.axis
  pub currents : m'.currents ≡ m.currents
  pub fault : m'.fault ≡ latest i cycle o.ending m.fault
  pub coils : meaning d' ≡ put (meaning d) i (moved (at (meaning d) i) o)
  pub calls : Chain did d (map (on i) o.calls) d'
  pub answered : answer ≡ o.answer

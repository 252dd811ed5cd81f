-- The law over whole runs: what went in and what came out, for every driver and every list of calls. Assumes nothing.
use Rattle.std.specs.Prelude.{◌≡◌, ℕ, ◌+◌, ◌^◌, ◌≤◌, min, true, List, [], ◌∷◌, ◌++◌, ℤ, pos, ◌+ℤ◌, Some, None, Option}
use Rattle.coil.specs.Coils.{at}
use Rattle.coil.specs.Meaning.{Coil, Coils}
use Rattle.coil.specs.Modulo.{modulo}
use Rattle.coil.specs.declared.CoilId.{CoilId}
use Rattle.history.specs.Lists.{operation}
use Rattle.history.specs.Stands.{Query, Told}
use Rattle.law.specs.Deeds.{Reply, deeds_of, ending, heard, microsteps_taken, quiet}
use Rattle.law.specs.declared.FunctionModel.{FunctionModel}
use Rattle.law.specs.declared.FunctionModel.TheVariants.{StepWords}
use Rattle.module.specs.Effects.{Deed, starts}
use Rattle.module.specs.Share.{born, rules, wanted}
use Rattle.module.specs.declared.motor.Fault.{Fault}
use Rattle.registers.specs.Tables.{Line, step_lines}
use Rattle.step_axis.specs.Taken.{step_kind}
use Rattle.step_axis.specs.Words.{first_config}

-- a whole run, from the making of a module to its end
pub record Run : Type 0 where
  pub model : FunctionModel
  -- the coils as the module was made, and at the end
  pub first : Coils
  pub last : Coils
  -- the settings in preparation and, if the module was started, the calls that followed
  pub settings : List Query
  pub calls : Option (List Query)
  -- what was told of each of them, in order
  pub told : List Told
  -- the latest fault of each motor at the end
  pub fault : CoilId → Option Fault

abbrev pub lines_of : FunctionModel → List Line
lines_of StepWords = step_lines

abbrev pub started : List Line → CoilId → Option (List Query) → List Deed
started lines i None = []
started lines i (Some qs) = starts ∷ deeds_of lines i qs

-- all that the run did to the motor i after its making, in order
abbrev pub deeds : Run → CoilId → List Deed
deeds r i = deeds_of (lines_of r.model) i r.settings ++ started (lines_of r.model) i r.calls

-- what was done to a motor
pub record Done : Type 0 where
  pub model : FunctionModel
  pub count : ℕ
  pub flags : ℕ
  pub deeds : List Deed

abbrev pub done_to : Run → CoilId → Done
done_to r i = record { model = r.model; count = (at r.first i).count; flags = (at r.first i).flags; deeds = deeds r i }

-- what a motor shows
pub record Shown : Type 0 where
  pub answers : List Reply
  pub fault : Option Fault
  pub count : ℕ
  pub flags : ℕ

abbrev pub shown_by : Run → CoilId → Shown
shown_by r i = record {
  answers = heard (lines_of r.model) i (r.settings ++ operation r.calls) r.told;
  fault = r.fault i;
  count = (at r.last i).count;
  flags = (at r.last i).flags;
}

-- what is done to one motor never shows in the other: equal deeds to a motor show equal in it
abbrev pub MotorsAreIndependent : Run → Run → Type 0
MotorsAreIndependent r s = (i : CoilId) → done_to r i ≡ done_to s i → shown_by r i ≡ shown_by s i

-- the points that the rules have a motor want, from what was done to it
abbrev pub wanted_points : FunctionModel → CoilId → Coil → List Deed → ℕ
wanted_points StepWords i c ds = wanted step_kind (ending (rules step_kind step_lines) i (born step_kind c) ds)

-- both coils together never pass 267 points, yet a coil that was not tripped since the last accepted cycle
-- has at least the smaller of 100 and what its motor wants
pub record SupplyHolds (r : Run) : Type 0 where
  pub together : r.last.first.points + r.last.second.points ≤ 267
  pub enough : (i : CoilId) → quiet true (deeds r i) ≡ true → min 100 (wanted_points r.model i (at r.first i) (deeds r i)) ≤ (at r.last i).points

-- the microsteps of the words that the motor i took
abbrev pub travel : Run → CoilId → ℤ
travel r i = microsteps_taken first_config (at r.first i).flags (deeds r i)

-- with step words each count is the first count plus the words taken
abbrev pub CountsAddUp : Run → Type 0
CountsAddUp r = r.model ≡ StepWords → (i : CoilId) → (at r.last i).count ≡ modulo (2 ^ 32) (pos (at r.first i).count +ℤ travel r i)

-- two runs of equal sum from one first count leave equal counts
abbrev pub EqualSumsLeaveEqualCounts : Run → Run → Type 0
EqualSumsLeaveEqualCounts r s = r.model ≡ StepWords → s.model ≡ StepWords → (i : CoilId) → (at r.first i).count ≡ (at s.first i).count → travel r i ≡ travel s i → (at r.last i).count ≡ (at s.last i).count

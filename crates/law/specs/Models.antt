-- What each function model means: its rules, as far as they show. Assumes nothing.
use Rattle.std.specs.Prelude.{◌≡◌, List}
use Rattle.axis.specs.Kinds.{Kind}
use Rattle.coil.specs.Coils.{at}
use Rattle.coil.specs.Meaning.{Coil}
use Rattle.coil.specs.declared.CoilId.{CoilId}
use Rattle.law.specs.Deeds.{ending, replies}
use Rattle.law.specs.Law.{CountsAddUp, Run, Shown, SupplyHolds, deeds, lines_of, shown_by, wanted_points}
use Rattle.law.specs.declared.FunctionModel.{FunctionModel}
use Rattle.law.specs.declared.FunctionModel.TheVariants.{StepWords}
use Rattle.module.specs.Effects.{Deed}
use Rattle.module.specs.Share.{Rules, born, rules, wanted}
use Rattle.registers.specs.Tables.{Line, step_lines}
use Rattle.step_axis.specs.Taken.{step_kind}

-- what the motor i over the coil c shows after what was done to it, by the rules
abbrev pub shown_of : {C A : Type 0} → Rules C A → CoilId → Coil → List Deed → Shown
shown_of k i c ds = record {
  answers = replies k i (born k.kind c) ds;
  fault = (ending k i (born k.kind c) ds).fault;
  count = (ending k i (born k.kind c) ds).count;
  flags = (ending k i (born k.kind c) ds).flags;
}

-- the same, by the rules of a function model
abbrev pub model_shown : FunctionModel → CoilId → Coil → List Deed → Shown
model_shown StepWords i c ds = shown_of (rules step_kind step_lines) i c ds

-- what each motor shows follows, by the rules of the model, from what was done to it alone
abbrev pub ShowsWhatWasDone : Run → Type 0
ShowsWhatWasDone r = (i : CoilId) → shown_by r i ≡ model_shown r.model i (at r.first i) (deeds r i)

-- the law over one whole run
pub record LawOfRun (r : Run) : Type 0 where
  pub shows : ShowsWhatWasDone r
  pub supply : SupplyHolds r
  pub counts : CountsAddUp r

-- a kind of axis with its register table runs the function model m
pub record Runs {C A : Type 0} (m : FunctionModel) (kind : Kind C A) (lines : List Line) : Type 0 where
  pub table : lines ≡ lines_of m
  pub shows : (i : CoilId) (c : Coil) (ds : List Deed) → shown_of (rules kind (lines_of m)) i c ds ≡ model_shown m i c ds
  pub wants : (i : CoilId) (c : Coil) (ds : List Deed) → wanted kind (ending (rules kind (lines_of m)) i (born kind c) ds) ≡ wanted_points m i c ds

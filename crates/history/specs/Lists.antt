-- A history as lists: what was asked, and what was told. Assumes nothing.
use Rattle.std.specs.Prelude.{◌≡◌, ℕ, true, List, [], ◌++◌, map, is_err, Some, None, Ok, Err, vec_items, vec_len, Option}
use Rattle.coil.specs.Coils.{both}
use Rattle.coil.specs.declared.CoilId.{CoilId}
use Rattle.history.specs.Stands.{Query, Told}
use Rattle.history.specs.declared.Call.{Call}
use Rattle.history.specs.declared.Call.TheVariants as calls
use Rattle.history.specs.declared.Entry.{Entry}
use Rattle.history.specs.declared.History.{History}
use Rattle.history.specs.declared.SetRegister.{SetRegister}
use Rattle.module.specs.Effects.{Answer, Asked, acknowledgement, cycle, half, report, setting}
use Rattle.registers.specs.declared.Stage.{Stage}
use Rattle.registers.specs.declared.Stage.TheVariants.{Preparation, Running}
use Rattle.std.specs.List.{AllZip}
use Rattle.std.specs.Option.{option_map, unwrap_or}

abbrev pub asked : Call → Asked
asked (calls.Setting s) = setting s.register s.value
asked (calls.Cycle orders answer) = cycle (vec_items orders) (vec_len answer)
asked (calls.Report motor flags) = report motor flags
asked (calls.Acknowledge motor) = acknowledgement motor

-- the answer buffer of a call
abbrev pub buffer : Call → List ℕ
buffer (calls.Setting s) = []
buffer (calls.Cycle orders answer) = vec_items answer
buffer (calls.Report motor flags) = []
buffer (calls.Acknowledge motor) = []

-- the motor i's half of the answer buffer, after an accepted cycle
abbrev pub half_told : CoilId → List ℕ → Answer → Option (List ℕ)
half_told i bytes (Ok u) = Some (half i bytes)
half_told i bytes (Err e) = None

abbrev pub got : CoilId → Call → Answer → Option (List ℕ)
got i (calls.Setting s) r = None
got i (calls.Cycle orders answer) r = half_told i (vec_items answer) r
got i (calls.Report motor flags) r = None
got i (calls.Acknowledge motor) r = None

-- an entry: what was asked, what was told, and the answer buffer
pub record Event : Type 0 where
  pub query : Query
  pub told : Told
  pub buffer : List ℕ

-- a kind of calls: at which stage they are made, what each asks, its answer buffer, and what the motor i gets of it
pub record CallKind (C : Type 0) : Type 0 where
  pub stage : Stage
  pub asked : C → Asked
  pub buffer : C → List ℕ
  pub got : CoilId → C → Answer → Option (List ℕ)

abbrev pub query : {C : Type 0} → CallKind C → C → Query
query k c = record { stage = k.stage; asked = k.asked c }

abbrev pub event : {C : Type 0} → CallKind C → Entry C → Event
event k e = record {
  query = query k e.call;
  told = record { number = e.ended; halves = both (λ i. k.got i e.call e.ended) };
  buffer = k.buffer e.call;
}

-- settings of registers at a stage
abbrev pub settings : Stage → CallKind SetRegister
settings stage = record { stage = stage; asked = λ s. setting s.register s.value; buffer = λ s. []; got = λ i s r. None }

-- calls of a running module
abbrev pub running_calls : CallKind Call
running_calls = record { stage = Running; asked = asked; buffer = buffer; got = got }

abbrev pub prepared : Entry SetRegister → Event
prepared e = event (settings Preparation) e

abbrev pub operated : Entry Call → Event
operated e = event running_calls e

abbrev pub queries : List Event → List Query
queries vs = map (λ v. v.query) vs

abbrev pub tolds : List Event → List Told
tolds vs = map (λ v. v.told) vs

-- the calls in preparation, and those of a running module, none where it was not started
abbrev pub preparation : History → List Event
preparation h = map prepared (vec_items h.preparation)

abbrev pub operation : {X : Type 0} → Option (List X) → List X
operation o = unwrap_or o []

abbrev pub running : History → Option (List Event)
running h = option_map (λ es. map operated (vec_items es)) h.running

abbrev pub events : History → List Event
events h = preparation h ++ operation (running h)

-- the entry v, answered, is w: what was asked stays, and so does the buffer of a refused cycle
pub record IsAnswered (v w : Event) : Type 0 where
  pub query : w.query ≡ v.query
  pub buffer : is_err w.told.number ≡ true → w.buffer ≡ v.buffer

-- the same entries, answered
abbrev pub Answered : List Event → List Event → Type 0
Answered vs ws = AllZip IsAnswered vs ws

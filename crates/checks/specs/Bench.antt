-- A module on the bench: how it stands after what a check sends, and what its answers show. Assumes nothing.
use Rattle.std.specs.Prelude.{ℕ, zero, suc, ◌+◌, ◌*◌, ◌/◌, ◌%◌, List, [], ◌∷◌, ◌++◌, replicate, pos, slice_index}
use Rattle.coil.specs.Meaning.{new_coils}
use Rattle.coil.specs.declared.CoilId.{CoilId}
use Rattle.coil.specs.declared.CoilId.TheVariants.{First, Second}
use Rattle.drivers.specs.Pulsed.{pulse_meaning}
use Rattle.drivers.specs.declared.pulse.PulseDriver.{PulseDriver}
use Rattle.history.specs.Stands.{Query, Stand, first_stand, stand, stand_after}
use Rattle.module.specs.Effects.{cycle, half, outcome, setting}
use Rattle.module.specs.Share.{Rules, rules}
use Rattle.module.specs.declared.inner.Inner.{Inner}
use Rattle.registers.specs.Tables.{step_lines}
use Rattle.registers.specs.declared.Stage.TheVariants.{Preparation, Running}
use Rattle.step_axis.specs.Taken.{step_kind}
use Rattle.step_axis.specs.declared.StepAxis.{StepAxis}
use Rattle.step_axis.specs.declared.config.StepConfig.{StepConfig}

abbrev pub step_rules : Rules StepConfig StepAxis
step_rules = rules step_kind step_lines

-- how a module of step words over a pulse driver stands
abbrev pub bench : Inner StepAxis PulseDriver StepConfig → Stand StepConfig StepAxis
bench x = stand step_kind pulse_meaning x

-- a module just made over a driver with these counts
unfoldable pub fresh : ℕ → ℕ → Stand StepConfig StepAxis
fresh one two = first_stand step_kind (new_coils one two)

-- a register set in preparation
unfoldable pub prepared : ℕ → ℕ → Stand StepConfig StepAxis → Stand StepConfig StepAxis
prepared register value s = stand_after step_rules s (record { stage = Preparation; asked = setting register (pos value) })

-- the maximum points of both motors set, and the configuration register set to the value that it has at first
unfoldable pub maximum_set : Stand StepConfig StepAxis
maximum_set = prepared 38 167 (prepared 35 167 (fresh 0 0))

unfoldable pub configured : Stand StepConfig StepAxis
configured = prepared 46 0x0800 (fresh 1000 0)

-- a cycle record with one word for each motor
abbrev pub word_record : ℕ → ℕ → List ℕ
word_record one two = one % 256 ∷ one / 256 % 256 ∷ 0 ∷ 0 ∷ 0 ∷ 0 ∷ 0 ∷ 0 ∷ two % 256 ∷ two / 256 % 256 ∷ 0 ∷ 0 ∷ 0 ∷ 0 ∷ 0 ∷ 0 ∷ []

abbrev pub word_query : ℕ → ℕ → Query
word_query one two = record { stage = Running; asked = cycle (word_record one two) 16 }

-- after one such cycle, and its answer
unfoldable pub sent : ℕ → ℕ → Stand StepConfig StepAxis → Stand StepConfig StepAxis
sent one two s = stand_after step_rules s (word_query one two)

unfoldable pub answer_to : ℕ → ℕ → Stand StepConfig StepAxis → List ℕ
answer_to one two s = (outcome step_kind s.first.own (half First (word_record one two))).answer ++ (outcome step_kind s.second.own (half Second (word_record one two))).answer

-- after the same cycle so many times, and the last answer
unfoldable pub sent_times : ℕ → ℕ → ℕ → Stand StepConfig StepAxis → Stand StepConfig StepAxis
sent_times zero one two s = s
sent_times (suc n) one two s = sent one two (sent_times n one two s)

unfoldable pub last_answer : ℕ → ℕ → ℕ → Stand StepConfig StepAxis → List ℕ
last_answer zero one two s = replicate 16 0
last_answer (suc n) one two s = answer_to one two (sent_times n one two s)

-- a motor's position in an answer, low byte first
abbrev pub position_in : CoilId → List ℕ → ℕ
position_in First answer = slice_index answer 0 + slice_index answer 1 * 256
position_in Second answer = slice_index answer 8 + slice_index answer 9 * 256

-- One cycle of step words: which words are taken, and what they make of axis, coil and answer. Assumes nothing.
use Rattle.std.specs.Prelude.{◌≡◌, ℕ, ◌/◌, ◌%◌, ◌^◌, Bool, cond, not, ◌&&◌, List, [], ◌∷◌, map, ℤ, pos, ◌+ℤ◌, ◌*ℤ◌, Ok, Err, Result}
use Rattle.axis.specs.Kinds.{Kind, Outcome, Seen}
use Rattle.axis.specs.Levels.{is_powered}
use Rattle.axis.specs.declared.AxisFault.{AxisFault}
use Rattle.axis.specs.declared.AxisFault.TheVariants as fault
use Rattle.axis.specs.declared.currents.Current.{Current}
use Rattle.axis.specs.declared.currents.Current.TheVariants.{Off}
use Rattle.coil.specs.Chains.{Chain, Did, on}
use Rattle.coil.specs.Coils.{at, put}
use Rattle.coil.specs.Meaning.{Coils, tripped, with_count}
use Rattle.coil.specs.Modulo.{modulo}
use Rattle.coil.specs.declared.CoilCall.{CoilCall}
use Rattle.coil.specs.declared.CoilCall.TheVariants.{Advance}
use Rattle.coil.specs.declared.CoilFault.TheVariants.{Tripped}
use Rattle.coil.specs.declared.CoilId.{CoilId}
use Rattle.std.specs.List.{filter, list_any}
use Rattle.step_axis.specs.Words.{scale, code_number, steps, code, counted, last_word, config_from, first_config}
use Rattle.step_axis.specs.declared.config.StepConfig.{StepConfig}
use Rattle.step_axis.specs.declared.StepAxis.{StepAxis}

-- a word is taken if its code isn't none and the coil isn't tripped
abbrev pub taken : ℕ → ℕ → Bool
taken flags w = is_powered (code w) && not (tripped flags)

-- the signed sum of the steps of the words that are taken
abbrev pub steps_taken : ℕ → List ℕ → ℤ
steps_taken flags [] = pos 0
steps_taken flags (w ∷ ws) = cond (taken flags w) (steps w) (pos 0) +ℤ steps_taken flags ws

-- the advances that they make, in microsteps
abbrev pub advances : ℕ → ℕ → List ℕ → List CoilCall
advances flags s ws = map (λ w. Advance (steps w *ℤ pos s)) (filter (taken flags) ws)

-- the coil declines one of these words
abbrev pub declined : ℕ → List ℕ → Bool
declined flags ws = list_any (λ w. is_powered (code w) && tripped flags) ws

-- how the taking ends: with the coil's fault, or well with x
abbrev pub ending_with : {X : Type 0} → X → ℕ → List ℕ → Result X AxisFault
ending_with x flags ws = cond (declined flags ws) (Err (fault.Coil (Tripped flags))) (Ok x)

abbrev pub ending : ℕ → List ℕ → Result (Unit {0}) AxisFault
ending = ending_with tt

-- the same with the signed sum of the steps that were taken
abbrev pub taking : ℕ → List ℕ → Result ℤ AxisFault
taking flags ws = ending_with (steps_taken flags ws) flags ws

-- the code in force: the last counted word's, or none after a decline
abbrev pub code_after : {X : Type 0} → Result X AxisFault → ℕ → Current
code_after (Ok x) last = code last
code_after (Err e) last = Off

-- the position after a cycle, modulo 2 ^ 16, and the count, modulo 2 ^ 32
abbrev pub position_after : ℕ → ℕ → List ℕ → ℕ
position_after position flags ws = modulo (2 ^ 16) (pos position +ℤ steps_taken flags ws)

abbrev pub count_after : ℕ → ℕ → ℕ → List ℕ → ℕ
count_after count flags s ws = modulo (2 ^ 32) (pos count +ℤ steps_taken flags ws *ℤ pos s)

-- the words ws, one after the other on the coil i: the driver becomes d'
pub record Took {D : Type 0} (meaning : D → Coils) (did : Did D) (i : CoilId) (s : ℕ) (ws : List ℕ) (d d' : D) : Type 0 where
  pub coils : meaning d' ≡ put (meaning d) i (with_count (at (meaning d) i) (count_after (at (meaning d) i).count (at (meaning d) i).flags s ws))
  pub calls : Chain did d (map (on i) (advances (at (meaning d) i).flags s ws)) d'

-- position, flags, code in force, four zero bytes
abbrev pub answer_bytes : ℕ → ℕ → Current → List ℕ
answer_bytes position flags current = position % 256 ∷ position / 256 % 256 ∷ flags ∷ code_number current ∷ 0 ∷ 0 ∷ 0 ∷ 0 ∷ []

abbrev pub axis_after : StepConfig → StepAxis → ℕ → List ℕ → StepAxis
axis_after config x flags orders = record {
  position = position_after x.position flags (counted config orders);
  current = code_after (ending flags (counted config orders)) (last_word config orders);
}

abbrev pub step_cycle : StepConfig → StepAxis → Seen → List ℕ → Outcome StepAxis
step_cycle config x s orders = record {
  axis = axis_after config x s.flags orders;
  count = count_after s.count s.flags (scale config.resolution) (counted config orders);
  flags = s.flags;
  calls = advances s.flags (scale config.resolution) (counted config orders);
  answer = answer_bytes (axis_after config x s.flags orders).position s.flags (axis_after config x s.flags orders).current;
  ending = ending s.flags (counted config orders);
}

-- all that a step axis means
abbrev pub step_kind : Kind StepConfig StepAxis
step_kind = record {
  fresh = record { position = 0; current = Off };
  config = config_from;
  first_config = first_config;
  current = λ x. x.current;
  cycle = step_cycle;
}

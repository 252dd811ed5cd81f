-- The calls of the two runs, and what the runs tell.
use Rattle.std.proofs.Common.{◌≡◌, ℕ, List, [], ◌∷◌, ◌++◌, ◌+◌, map, cond, not, count_by, zero-add, Bool, true, Some, None, vec_items, Option, Vec, sym, refl, ap, ◌∙◌, subst}
use Rattle.checks.specs.Bench.{bench, fresh, step_rules}
use Rattle.checks.specs.Runs.{Shows, asked_in, calls_in, second_answer, trip_calls}
use Rattle.coil.specs.Meaning.{new_coils, noted, tripped}
use Rattle.coil.specs.Modulo.{modulo}
use Rattle.drivers.specs.Pulsed.{Pulsed, pulse_meaning}
use Rattle.drivers.specs.declared.pulse.PulseDriver.{PulseDriver}
use Rattle.history.specs.Lists.{Answered, Event, events, operated, operation, preparation, prepared, queries, running, tolds}
use Rattle.history.specs.Ran.{Ran}
use Rattle.history.specs.Stands.{first_stand, stands, tells}
use Rattle.history.specs.declared.Call.{Call}
use Rattle.history.specs.declared.Entry.{Entry}
use Rattle.history.specs.declared.History.{History}
use Rattle.module.specs.declared.inner.Inner.{Inner}
use Rattle.refusal.specs.Numbers.{answer_number}
use Rattle.std.proofs.lemmas.List.Sums.{sum_by-cons}
use Rattle.std.specs.List.{zip}
use Rattle.std.specs.Option.{option_map, unwrap_or}
use Rattle.std.specs.declared.alloc.Global.{Global}
use Rattle.step_axis.specs.Taken.{step_kind}
use Rattle.step_axis.specs.declared.StepAxis.{StepAxis}
use Rattle.step_axis.specs.declared.config.StepConfig.{StepConfig}

-- none of the entries of two runs, side by side, are unlike where all their keys are the same
pub none_unlike : {X Y : Type 0} (alike : Y → Y → Bool) → ((y : Y) → alike y y ≡ true) → (key : X → Y) (xs ys : List X) → map key xs ≡ map key ys → count_by (λ p. not (alike (key p.0) (key p.1))) (zip xs ys) ≡ 0
none_unlike alike same key [] ys e = refl
none_unlike alike same key (x ∷ xs) [] e = refl
none_unlike alike same key (x ∷ xs) (y ∷ ys) e =
    let first : key x ≡ key y = cc in
    let rest : map key xs ≡ map key ys = cc in
    let here : alike (key x) (key y) ≡ true = ap (alike (key x)) (sym first) ∙ same (key x) in
    sum_by-cons (λ p. cond (not (alike (key p.0) (key p.1))) 1 0) (x, y) (zip xs ys) ∙ ap (λ b. cond (not b) 1 0 + count_by (λ p. not (alike (key p.0) (key p.1))) (zip xs ys)) here ∙ zero-add _ ∙ none_unlike alike same key xs ys rest

-- what each of the two runs leaves
pub without_shows : Shows 3200 (stands step_rules (fresh 0 0) (trip_calls 0))
unfolding fresh modulo noted trip_calls tripped
without_shows = record { first = refl; second = refl; flags = refl; fault = refl }

pub with_shows : Shows 1600 (stands step_rules (fresh 0 0) (trip_calls 8))
unfolding fresh modulo noted trip_calls tripped
with_shows = record { first = refl; second = refl; flags = refl; fault = refl }

none_answered : (ws : List Event) → Answered [] ws → ws ≡ []
none_answered [] a = refl
none_answered (w ∷ ws) a = absurd a

run_calls : (o : Option (Vec (Entry Call) Global)) → operation (option_map (λ es. map operated (vec_items es)) o) ≡ map operated (operation (option_map vec_items o))
run_calls None = refl
run_calls (Some v) = refl

numbers_told : (es : List (Entry Call)) → map (λ e. answer_number e.ended) es ≡ map (λ t. answer_number t.number) (tolds (map operated es))
numbers_told [] = refl
numbers_told (e ∷ es) = ap (λ ns. answer_number e.ended ∷ ns) (numbers_told es)

answers_told : (es : List (Entry Call)) → map second_answer es ≡ map (λ t. unwrap_or t.halves.second []) (tolds (map operated es))
answers_told [] = refl
answers_told (e ∷ es) = ap (λ bs. second_answer e ∷ bs) (answers_told es)

module _ (flags : ℕ) (h : History) {d : PulseDriver} {g : History} {x : Inner StepAxis PulseDriver StepConfig} (made : pulse_meaning d ≡ new_coils 0 0) (settings : vec_items h.preparation ≡ []) (calls : asked_in h ≡ trip_calls flags) (r : Ran step_rules pulse_meaning Pulsed d h g x) where
  -- how the module stands at the end
  pub run_end : bench x ≡ stands step_rules (fresh 0 0) (trip_calls flags)
  unfolding asked_in fresh
  run_end = r.after ∙ ap (λ c. stands step_rules (first_stand step_kind c) (queries (events h))) made ∙ ap (stands step_rules (fresh 0 0)) calls

  -- what it told of each call
  run_told : tolds (map operated (calls_in g)) ≡ tells step_rules (fresh 0 0) (trip_calls flags)
  unfolding asked_in fresh
  run_told =
      let P : List Event → Type 0 = λ vs. Answered vs (preparation g) in
      let none : preparation g ≡ [] = none_answered (preparation g) (subst P (ap (map prepared) settings) r.prepared) in
      ap tolds (sym (run_calls g.running)) ∙ ap (λ vs. tolds (vs ++ operation (running g))) (sym none) ∙ r.answers
      ∙ ap (λ c. tells step_rules (first_stand step_kind c) (queries (events h))) made ∙ ap (tells step_rules (fresh 0 0)) calls

  pub run_numbers : map (λ e. answer_number e.ended) (calls_in g) ≡ map (λ t. answer_number t.number) (tells step_rules (fresh 0 0) (trip_calls flags))
  run_numbers = numbers_told (calls_in g) ∙ ap (map (λ t. answer_number t.number)) run_told

  pub run_answers : map second_answer (calls_in g) ≡ map (λ t. unwrap_or t.halves.second []) (tells step_rules (fresh 0 0) (trip_calls flags))
  run_answers = answers_told (calls_in g) ∙ ap (map (λ t. unwrap_or t.halves.second [])) run_told

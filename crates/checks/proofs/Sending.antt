-- One cycle with a word for each motor, as a step from stand to stand.
use Rattle.std.proofs.Common.{◌≡◌, ℕ, true, List, ◌++◌, drop, pos, is_ok, sym, ap, ◌∙◌, subst, take-append-drop}
use Rattle.checks.specs.Bench.{answer_to, bench, fresh, prepared, sent, step_rules, word_record}
use Rattle.coil.specs.Meaning.{new_coils}
use Rattle.coil.specs.declared.CoilId.TheVariants.{First, Second}
use Rattle.drivers.specs.Pulsed.{Pulsed, pulse_meaning}
use Rattle.drivers.specs.declared.pulse.PulseDriver.{PulseDriver}
use Rattle.history.proofs.Calls.{called_stand, made_stand}
use Rattle.history.specs.Stands.{Stand, first_stand}
use Rattle.module.specs.Called.{Called, Filled, Made}
use Rattle.module.specs.Effects.{Answer, answer, cycle, half, outcome, setting}
use Rattle.module.specs.declared.inner.Inner.{Inner}
use Rattle.registers.specs.declared.Stage.TheVariants.{Preparation, Running}
use Rattle.step_axis.specs.Taken.{step_kind}
use Rattle.step_axis.specs.declared.StepAxis.{StepAxis}
use Rattle.step_axis.specs.declared.config.StepConfig.{StepConfig}

pub sent_stand : (one two : ℕ) (orders : List ℕ) (x y : Inner StepAxis PulseDriver StepConfig) (r : Answer) → orders ≡ word_record one two → Called step_rules pulse_meaning Pulsed Running (cycle orders 16) x y r → bench y ≡ sent one two (bench x)
unfolding sent
sent_stand one two orders x y r e c =
    let P : List ℕ → Type 0 = λ os. Called step_rules pulse_meaning Pulsed Running (cycle os 16) x y r in
    called_stand step_rules pulse_meaning Pulsed Running (cycle (word_record one two) 16) x y r (subst P e c)

pub sent_answer : (one two : ℕ) (orders before bytes : List ℕ) (x : Inner StepAxis PulseDriver StepConfig) (r : Answer) → orders ≡ word_record one two → is_ok r ≡ true → Filled step_rules pulse_meaning x orders before bytes r → bytes ≡ answer_to one two (bench x)
unfolding answer_to
sent_answer one two orders before bytes x r e ok f =
    sym (take-append-drop 8 bytes) ∙ ap (λ b. b ++ drop 8 bytes) (f.halves First ok) ∙ ap (λ b. (outcome step_kind (bench x).first.own (half First orders)).answer ++ b) (f.halves Second ok)
    ∙ ap (λ os. (outcome step_kind (bench x).first.own (half First os)).answer ++ (outcome step_kind (bench x).second.own (half Second os)).answer) e

pub made_bench : (one two : ℕ) (d : PulseDriver) (x : Inner StepAxis PulseDriver StepConfig) → pulse_meaning d ≡ new_coils one two → Made step_kind pulse_meaning Pulsed d x → bench x ≡ fresh one two
unfolding fresh
made_bench one two d x e m =
    made_stand step_kind pulse_meaning Pulsed d x m ∙ ap (first_stand step_kind) e

pub set_bench : (n v : ℕ) (x y : Inner StepAxis PulseDriver StepConfig) (r : Answer) → Called step_rules pulse_meaning Pulsed Preparation (setting n (pos v)) x y r → bench y ≡ prepared n v (bench x)
unfolding prepared
set_bench n v x y r c = called_stand step_rules pulse_meaning Pulsed Preparation (setting n (pos v)) x y r c

pub set_number : (n v : ℕ) (s : Stand StepConfig StepAxis) (x y : Inner StepAxis PulseDriver StepConfig) (r : Answer) → bench x ≡ s → Called step_rules pulse_meaning Pulsed Preparation (setting n (pos v)) x y r → r ≡ answer step_rules Preparation s.first.own s.second.own (setting n (pos v))
set_number n v s x y r e c = c.number ∙ ap (λ t. answer step_rules Preparation t.first.own t.second.own (setting n (pos v))) e

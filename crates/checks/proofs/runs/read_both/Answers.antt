use Rattle.std.proofs.Common.{◌≡◌, not, nat_eq, min, map, sym, refl, ap, ◌∙◌, rules, tests}
use Rattle.checks.proofs.Asking.{none_unlike}
use Rattle.checks.specs.Runs.{second_answer}
use Rattle.history.specs.declared.Call.{Call}
use Rattle.history.specs.declared.Entry.{Entry}
use Rattle.refusal.specs.Numbers.{answer_number}
use Rattle.std.proofs.lemmas.Slice.Eq.{bytes_eq-Decides}
use Rattle.std.specs.Str.{bytes_eq}
use Rattle.checks.proofs.runs.read_both.Goals as goal

pub returns : goal.returns
returns c =
    let number = λ (e : Entry Call). answer_number e.ended in
    let numbers : c.count_unlike-numbers.result ≡ 0 =
    c.count_unlike-numbers.ensures (λ x y. not (nat_eq (number x) (number y))) (λ p b f k. (search rules, search (rules, tests)))
    ∙ ap (λ n. min n 4294967295) (none_unlike nat_eq (λ n. search (rules, tests)) number _ _ (ap (map number) c.calls.ensures ∙ c.requires.numbers ∙ sym (ap (map number) c.calls-2.ensures))) in
    let answers : c.count_unlike-answers.result ≡ 0 =
    c.count_unlike-answers.ensures (λ x y. not (bytes_eq (second_answer x) (second_answer y))) (λ p b f k. (search rules, search (rules, tests)))
    ∙ ap (λ n. min n 4294967295) (none_unlike bytes_eq (λ bs. (bytes_eq-Decides bs bs).1 refl) second_answer _ _ (ap (map second_answer) c.calls-3.ensures ∙ c.requires.answers ∙ sym (ap (map second_answer) c.calls-4.ensures))) in
    cc (numbers, answers)

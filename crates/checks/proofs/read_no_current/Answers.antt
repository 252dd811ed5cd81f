use Rattle.std.proofs.Common.{◌≡◌, ap, ◌∙◌}
use Rattle.checks.proofs.Values.{given, ok_four, reading_given, reading_of}
use Rattle.checks.specs.Bench.{answer_to, bench, fresh, position_in, sent}
use Rattle.coil.specs.Meaning.{tripped}
use Rattle.coil.specs.Modulo.{modulo}
use Rattle.coil.specs.declared.CoilId.TheVariants.{First, Second}
use Rattle.checks.proofs.read_no_current.Goals as goal

pub returns : goal.returns
unfolding answer_to fresh modulo sent tripped
returns c stands =
    let after : bench c.send.new.spare.inner ≡ sent 5 5 (fresh 0 0) = c.send.ensures.after ∙ ap (sent 5 5) stands in
    let answer : c.in_ok-answer.answer ≡ answer_to 5 5 (fresh 0 0) = given c.in_ok-answer.was c.send.ensures.answer (ap (answer_to 5 5) stands) in
    ok_four
    (reading_given c.reading.ensures c.in_ok-count.was c.count.ensures (ap (λ s. s.first.own.count) after))
    (reading_of c.reading-2.ensures (c.position-first.ensures ∙ ap (position_in First) answer))
    (reading_given c.reading-3.ensures c.in_ok-count-2.was c.count-2.ensures (ap (λ s. s.second.own.count) after))
    (reading_of c.reading-4.ensures (c.position-second.ensures ∙ ap (position_in Second) answer))

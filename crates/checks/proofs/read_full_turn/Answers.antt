use Rattle.std.proofs.Common.{◌≡◌, max, take, fold, ap, ◌∙◌}
use Rattle.checks.proofs.Values.{given, ok_four, reading_given, reading_of}
use Rattle.checks.specs.Bench.{answer_to, bench, fresh, last_answer, position_in, sent, sent_times}
use Rattle.coil.specs.Meaning.{tripped}
use Rattle.coil.specs.Modulo.{modulo}
use Rattle.coil.specs.declared.CoilId.TheVariants.{Second}
use Rattle.checks.proofs.read_full_turn.Goals as goal

pub returns : goal.returns
unfolding answer_to fresh last_answer modulo sent sent_times tripped
returns c stands =
    let after : bench c.send_times.new.spare.inner ≡ sent_times 32 0 0x80C8 (fresh 0 0) = c.send_times.ensures.after ∙ ap (sent_times 32 0 0x80C8) stands in
    let answer : c.in_ok-answer.answer ≡ last_answer 32 0 0x80C8 (fresh 0 0) = given c.in_ok-answer.was c.send_times.ensures.answer (ap (last_answer 32 0 0x80C8) stands) in
    ok_four
    (reading_given c.reading.ensures c.in_ok-count.was c.count.ensures (ap (λ s. s.first.own.count) after))
    (reading_of c.reading-2.ensures (c.from-byte.ensures ∙ c.greatest.ensures ∙ ap (λ bytes. fold max 0 (take 8 bytes)) answer))
    (reading_of c.reading-3.ensures (c.position-steps.ensures ∙ ap (position_in Second) answer))
    (reading_given c.reading-4.ensures c.in_ok-count-2.was c.count-2.ensures (ap (λ s. s.second.own.count) after))

use Rattle.std.proofs.Common.{◌≡◌, ap, ◌∙◌}
use Rattle.checks.proofs.Values.{given, ok_four, reading_given, reading_of}
use Rattle.checks.specs.Bench.{answer_to, bench, configured, fresh, last_answer, position_in, prepared, sent, sent_times}
use Rattle.coil.specs.Meaning.{tripped}
use Rattle.coil.specs.Modulo.{modulo}
use Rattle.coil.specs.declared.CoilId.TheVariants.{First}
use Rattle.checks.proofs.read_there_and_back.Goals as goal

pub returns : goal.returns
unfolding answer_to configured fresh last_answer modulo prepared sent sent_times tripped
returns c stands =
    let far : bench c.send.new.spare.inner ≡ sent 0x8200 0 configured = c.send.ensures.after ∙ ap (sent 0x8200 0) stands in
    let back : bench c.send_times.new.spare.inner ≡ sent_times 8 0xA040 0 (sent 0x8200 0 configured) = c.send_times.ensures.after ∙ ap (sent_times 8 0xA040 0) far in
    let there : c.in_ok-send.field-0 ≡ answer_to 0x8200 0 configured = given c.in_ok-send.was c.send.ensures.answer (ap (answer_to 0x8200 0) stands) in
    let again : c.in_ok-send_times.field-0 ≡ last_answer 8 0xA040 0 (sent 0x8200 0 configured) = given c.in_ok-send_times.was c.send_times.ensures.answer (ap (last_answer 8 0xA040 0) far) in
    ok_four
    (reading_given c.reading.ensures c.in_ok-far.was c.count.ensures (ap (λ s. s.first.own.count) far))
    (reading_of c.reading-2.ensures (c.position-there.ensures ∙ ap (position_in First) there))
    (reading_given c.reading-3.ensures c.in_ok-count.was c.count-2.ensures (ap (λ s. s.first.own.count) back))
    (reading_of c.reading-4.ensures (c.position-back.ensures ∙ ap (position_in First) again))

use Rattle.std.proofs.Common.{◌≡◌, ap, ◌∙◌}
use Rattle.checks.proofs.Values.{given, ok_two, reading_of}
use Rattle.checks.specs.Bench.{bench, fresh, maximum_set, prepared, sent}
use Rattle.coil.specs.Meaning.{tripped}
use Rattle.coil.specs.Modulo.{modulo}
use Rattle.checks.proofs.read_maximum.Goals as goal

pub returns : goal.returns
unfolding fresh maximum_set modulo prepared sent tripped
returns c stands =
    let after : bench c.send.new.spare.inner ≡ sent 0xC000 0xC000 maximum_set = c.send.ensures.after ∙ ap (sent 0xC000 0xC000) stands in
    ok_two
    (reading_of c.reading.ensures (c.from-first.ensures ∙ given c.in_ok-points.was c.points.ensures (ap (λ s. s.first.points) after)))
    (reading_of c.reading-2.ensures (c.from-second.ensures ∙ given c.in_ok-points-2.was c.points-2.ensures (ap (λ s. s.second.points) after)))

use Rattle.std.proofs.Common.{◌≡◌}
use Rattle.checks.specs.Bench.{bench, last_answer, sent_times}
use Rattle.checks.proofs.bench.send_times.Given as goal

abbrev pub invariant-loop : goal.invariant-loop
invariant-loop l = (bench l.spare.inner ≡ sent_times l.counter l.words.0 l.words.1 (bench l.initial.spare.inner)) × (l.answer ≡ last_answer l.counter l.words.0 l.words.1 (bench l.initial.spare.inner))

use Rattle.std.proofs.Common.{sym, ◌∙◌, subst}
use Rattle.checks.proofs.Asking.{run_answers, run_end, run_numbers, with_shows, without_shows}
use Rattle.checks.specs.Bench.{fresh}
use Rattle.checks.specs.Runs.{Shows, trip_calls}
use Rattle.coil.specs.Meaning.{noted, tripped}
use Rattle.coil.specs.Modulo.{modulo}
use Rattle.checks.proofs.runs.trip.Goals as goal

pub read_runs-read-requires : goal.read_runs-read-requires
read_runs-read-requires c = record {
  without = subst (Shows 3200) (sym (run_end 0 c.in_ok-one.one c.new.ensures.meaning c.in_ok-one.ensures.settings c.in_ok-one.ensures.calls c.compare.ensures.first_run)) without_shows;
  with = subst (Shows 1600) (sym (run_end 8 c.in_ok-other.other c.new-2.ensures.meaning c.in_ok-other.ensures.settings c.in_ok-other.ensures.calls c.compare.ensures.second_run)) with_shows;
}

pub read_both-requires : goal.read_both-requires
unfolding fresh modulo noted trip_calls tripped
read_both-requires c = record {
  numbers = run_numbers 0 c.in_ok-one.one c.new.ensures.meaning c.in_ok-one.ensures.settings c.in_ok-one.ensures.calls c.compare.ensures.first_run
      ∙ sym (run_numbers 8 c.in_ok-other.other c.new-2.ensures.meaning c.in_ok-other.ensures.settings c.in_ok-other.ensures.calls c.compare.ensures.second_run);
  answers = run_answers 0 c.in_ok-one.one c.new.ensures.meaning c.in_ok-one.ensures.settings c.in_ok-one.ensures.calls c.compare.ensures.first_run
      ∙ sym (run_answers 8 c.in_ok-other.other c.new-2.ensures.meaning c.in_ok-other.ensures.settings c.in_ok-other.ensures.calls c.compare.ensures.second_run);
}

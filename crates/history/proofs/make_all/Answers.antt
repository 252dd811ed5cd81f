use Rattle.std.proofs.Common.{arith, rules}
use Rattle.history.proofs.Runs.{so_all, so_next}
use Rattle.history.proofs.make_all.Goals as goal

pub loop-entry-preserved : goal.loop-entry-preserved
loop-entry-preserved g c = so_next c.loop-entry.invariant c.entry-item.result (omega arith) c.make-entry.ensures

pub returns : goal.returns
returns g c = so_all c.loop-entry.invariant (omega arith) (search rules)

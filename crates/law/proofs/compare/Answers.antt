use Rattle.law.proofs.Proved.{equal_sums, independent}
use Rattle.law.proofs.compare.Goals as goal

pub returns-clause-independent : goal.returns-clause-independent
returns-clause-independent g c = independent c.run_as-left.ensures.law c.run_as-right.ensures.law

pub returns-clause-equal_sums : goal.returns-clause-equal_sums
returns-clause-equal_sums g c = equal_sums c.run_as-left.ensures.law c.run_as-right.ensures.law

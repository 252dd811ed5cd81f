use Rattle.std.proofs.Common.{refl}
use Rattle.checks.proofs.bench.while_running.Goals as goal

pub returns : goal.returns
returns g c = (c.start-spare.result, _, c.start-spare.ensures, record { shown = _; shows = refl; left = _; met = c.read-given.ensures; leaves = refl })

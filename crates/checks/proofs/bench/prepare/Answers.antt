use Rattle.checks.proofs.Sending.{made_bench}
use Rattle.checks.proofs.bench.prepare.Goals as goal

pub returns : goal.returns
returns c = made_bench c.args.first c.args.second c.new.result c.new-2.result.inner c.new.ensures.meaning c.new-2.ensures

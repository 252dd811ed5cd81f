use Rattle.law.proofs.Proved.{kept}
use Rattle.law.proofs.run_as.Goals as goal

pub returns-clause-law : goal.returns-clause-law
returns-clause-law g c = kept {g = c.run.new.history} g.A.ModelAxis.model (record { starts = g.met.A.Axis.starts; rests = g.met.A.Axis.rests }) g.met.A.ModelAxis.runs (g.met.D.CoilDriver.sound c.args.driver) c.run.ensures

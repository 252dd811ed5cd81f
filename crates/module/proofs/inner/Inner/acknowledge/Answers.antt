use Rattle.std.proofs.Common.{sym, rules as std_rules}
use Rattle.coil.proofs.Numbered.{number_of, number_of_none}
use Rattle.module.proofs.Calling.{acknowledge_nobody, called_acknowledge}
use Rattle.module.specs.Share.{rules}
use Rattle.module.proofs.inner.Inner.acknowledge.Goals as goal

pub returns-in_err-coil : goal.returns-in_err-coil
returns-in_err-coil g c =
    acknowledge_nobody (rules g.A.Axis.kind g.A.Model.lines) g.D.CoilDriver.meaning g.D.CoilDriver.did c.args.motor c.args.self.now c.from_residual.result (search std_rules) (number_of_none c.args.motor _ c.in_err-coil.field-0.0 (sym c.in_err-coil.ensures))

pub returns : goal.returns
returns g c =
    called_acknowledge (rules g.A.Axis.kind g.A.Model.lines) g.D.CoilDriver.meaning g.D.CoilDriver.did c.in_ok-coil.coil c.args.motor c.args.self.now c.clear.new.self (number_of c.args.motor c.in_ok-coil.coil _ (sym c.in_ok-coil.ensures)) c.clear.ensures.after c.clear.ensures.calls

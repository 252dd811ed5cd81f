use Rattle.std.proofs.Common.{◌≡◌, true, false, ltb, sym, rules as std_rules}
use Rattle.coil.proofs.Numbered.{number_of, number_of_none}
use Rattle.module.proofs.Calling.{called_report, report_flags, report_nobody}
use Rattle.module.specs.Share.{rules}
use Rattle.module.proofs.inner.Inner.report.Goals as goal

pub returns-in_err-coil : goal.returns-in_err-coil
returns-in_err-coil g c =
    report_nobody (rules g.A.Axis.kind g.A.Model.lines) g.D.CoilDriver.meaning g.D.CoilDriver.did c.args.motor c.args.flags c.args.self.now c.from_residual.result (search std_rules) (number_of_none c.args.motor _ c.in_err-coil.field-0.0 (sym c.in_err-coil.ensures))

pub returns-then-flags-ge16 : goal.returns-then-flags-ge16
returns-then-flags-ge16 g c =
    let high : ltb c.args.flags 16 ≡ false = search std_rules in
    report_flags (rules g.A.Axis.kind g.A.Model.lines) g.D.CoilDriver.meaning g.D.CoilDriver.did c.in_ok-coil.coil c.args.motor c.args.flags c.args.self.now (number_of c.args.motor c.in_ok-coil.coil _ (sym c.in_ok-coil.ensures)) high

pub returns : goal.returns
returns g c =
    let low : ltb c.args.flags 16 ≡ true = search std_rules in
    called_report (rules g.A.Axis.kind g.A.Model.lines) g.D.CoilDriver.meaning g.D.CoilDriver.did c.in_ok-coil.coil c.args.motor c.args.flags c.args.self.now c.note.new.self (number_of c.args.motor c.in_ok-coil.coil _ (sym c.in_ok-coil.ensures)) low c.note.ensures.after c.note.ensures.calls

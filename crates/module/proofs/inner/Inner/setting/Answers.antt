use Rattle.std.proofs.Common.{◌≡◌, true, false, Some, w32, rules as std_rules}
use Rattle.module.proofs.Calling.{set_closed, set_config, set_this_current}
use Rattle.module.specs.Share.{rules}
use Rattle.registers.specs.Tables.{is_open, look_up}
use Rattle.std.proofs.lemmas.Int.{to_z-of_z}
use Rattle.module.proofs.inner.Inner.setting.Goals as goal

pub returns-then-not-is_open : goal.returns-then-not-is_open
returns-then-not-is_open g c =
    let e : look_up g.A.Model.lines c.args.register ≡ Some c.in_ok-found.found = search std_rules in
    let q : is_open c.in_ok-found.found.opened c.args.stage ≡ false = search std_rules in
    set_closed (rules g.A.Axis.kind g.A.Model.lines) g.D.CoilDriver.meaning g.D.CoilDriver.did c.args.stage c.args.register c.args.value c.args.self.now c.in_ok-found.found e q

pub returns-in-Configuration : goal.returns-in-Configuration
returns-in-Configuration g c =
    let e : look_up g.A.Model.lines c.args.register ≡ Some c.in_ok-found.found = search std_rules in
    let q : is_open c.in_ok-found.found.opened c.args.stage ≡ true = search std_rules in
    set_config (rules g.A.Axis.kind g.A.Model.lines) g.D.CoilDriver.meaning g.D.CoilDriver.did c.args.stage c.args.register c.args.value c.args.self.now c.configure.new.self c.configure.result c.in_ok-found.found e c.in-Configuration.is q (search std_rules) (search std_rules)

pub returns-in-Current : goal.returns-in-Current
returns-in-Current g c =
    let e : look_up g.A.Model.lines c.args.register ≡ Some c.in_ok-found.found = search std_rules in
    let q : is_open c.in_ok-found.found.opened c.args.stage ≡ true = search std_rules in
    set_this_current (rules g.A.Axis.kind g.A.Model.lines) g.D.CoilDriver.meaning g.D.CoilDriver.did c.args.stage c.args.register c.args.value _ c.args.self.now c.set_current.new.self c.set_current.result c.in_ok-found.found c.in-Current.coil c.in-Current.which (to_z-of_z w32 c.args.value c.ranges.value) e c.in-Current.is q c.set_current.ensures

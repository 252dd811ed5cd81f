use Rattle.std.proofs.Common.{◌≡◌, ◌<◌, true, false, length, Some, None, rules}
use Rattle.coil.specs.Numbers.{points_from}
use Rattle.module.proofs.Setting.{out_of_range, set_current, still_powered}
use Rattle.module.proofs.Table.{powered_there}
use Rattle.module.specs.Share.{powered, share}
use Rattle.module.proofs.inner.Inner.set_current.Goals as goal

pub returns-in_err-points : goal.returns-in_err-points
returns-in_err-points g c =
    let e : points_from c.args.value ≡ None = search rules in
    out_of_range g.A.Axis.kind g.D.CoilDriver.meaning c.args.coil c.args.which c.args.value c.args.self.now c.from_residual.result (search rules) e

pub returns-then-is_powered : goal.returns-then-is_powered
returns-then-is_powered g c =
    let e : points_from c.args.value ≡ Some c.in_ok-points.points.value = search rules in
    let h : c.place-at.result < length c.args.self.now.motors = search rules in
    let p : powered g.A.Axis.kind (share g.A.Axis.kind g.D.CoilDriver.meaning c.args.self.now c.args.coil) ≡ true =
    powered_there g.A.Axis.kind c.args.self.now.motors c.args.coil c.place-at.result c.index-self-at.result c.is_powered.result true c.place-at.ensures.value h c.is_powered.ensures c.if-is_powered.true in
    still_powered g.A.Axis.kind g.D.CoilDriver.meaning c.args.coil c.args.which c.args.value c.in_ok-points.points.value c.args.self.now e p

pub returns : goal.returns
returns g c =
    let e : points_from c.args.value ≡ Some c.in_ok-points.points.value = search rules in
    let h : c.place-at.result < length c.args.self.now.motors = search rules in
    let p : powered g.A.Axis.kind (share g.A.Axis.kind g.D.CoilDriver.meaning c.args.self.now c.args.coil) ≡ false =
    powered_there g.A.Axis.kind c.args.self.now.motors c.args.coil c.place-at.result c.index-self-at.result c.is_powered.result false c.place-at.ensures.value h c.is_powered.ensures c.if-is_powered.false in
    set_current g.A.Axis.kind g.D.CoilDriver.meaning c.args.coil c.args.which c.args.value c.in_ok-points.points.value c.place-at.result c.args.self.now c.set.new.self _ e p
    c.place-at.ensures.value h c.set.ensures.axis c.set.ensures.currents c.set.ensures.fault

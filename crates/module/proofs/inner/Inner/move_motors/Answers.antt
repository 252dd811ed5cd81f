use Rattle.std.proofs.Common.{rules}
use Rattle.module.proofs.Turns.{halves_moved}
use Rattle.module.proofs.inner.Inner.move_motors.Goals as goal

pub returns : goal.returns
returns g c =
    halves_moved g.A.Axis.kind g.D.CoilDriver.meaning g.D.CoilDriver.did c.args.self.now c.turn.new.self c.turn-2.new.self c.args.first.now c.args.second.now c.turn.new.answer c.turn-2.new.answer g.met.A.Axis.rests
    (search rules) (search rules) c.turn.ensures c.turn-2.ensures

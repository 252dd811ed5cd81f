use Rattle.bridge.proofs.Circle.{on_circle}
use Rattle.bridge.proofs.wave.Levels.at.Goals as goal

pub returns : goal.returns
returns c = record { value = c.levels_of.ensures; circle = on_circle c.args.count c.levels_of.ensures }

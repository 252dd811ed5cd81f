use Rattle.bridge.proofs.Rules.{rules}
use Rattle.bridge.proofs.wave.quarter_wave.Goals as goal

pub returns : goal.returns
returns c = record { table = c.table.ensures; rules = rules }

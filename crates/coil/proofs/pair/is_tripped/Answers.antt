use Rattle.std.proofs.Common.{refl}
use Rattle.coil.specs.Meaning.{tripped}
use Rattle.coil.proofs.pair.is_tripped.Goals as goal

pub returns : goal.returns
unfolding tripped
returns c = refl

-- The meaning of the plain driver: its two coils, as they are kept. Assumes nothing.
use Rattle.coil.specs.Coils.{at, both}
use Rattle.coil.specs.Meaning.{Coil, Coils}
use Rattle.coil.specs.declared.pair.CoilPair.{CoilPair}
use Rattle.coil.specs.declared.state.CoilState.{CoilState}

abbrev pub coil_of : CoilState → Coil
coil_of c = record { count = c.count; points = c.points.value; flags = c.flags }

abbrev pub coils_of : CoilPair → Coils
coils_of d = both (λ i. coil_of (at d.coils i))

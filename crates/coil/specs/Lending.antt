-- One of two values, lent. Assumes nothing.
use Rattle.std.specs.Borrow.{Lends, MutBor, Fml, RattleType}
use Rattle.coil.specs.Coils.{put}
use Rattle.coil.specs.contracts.per_coil.PerCoil.{the_row}
use Rattle.coil.specs.declared.CoilId.{CoilId}
use Rattle.coil.specs.declared.per_coil.PerCoil.{PerCoil}

-- once r ends, the coil i has the last value behind r, and the other coil has its own
abbrev pub LendsPart : (T : RattleType) → MutBor (PerCoil T.Denot) → CoilId → MutBor T.Denot → Fml
LendsPart T c i r = Lends (the_row T) T c r (put c.now i)

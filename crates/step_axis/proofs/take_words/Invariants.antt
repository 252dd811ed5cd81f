use Rattle.std.proofs.Common.{take}
use Rattle.step_axis.proofs.Taking.{SoFar}
use Rattle.step_axis.specs.Words.{scale}
use Rattle.step_axis.proofs.take_words.Given as goal

abbrev pub invariant-loop-word : goal.invariant-loop-word
invariant-loop-word g l = SoFar g.D.CoilDriver.meaning g.D.CoilDriver.did l.coil (scale l.resolution) (take l.word-index l.words) l.initial.driver l.driver l.sum

use Rattle.history.proofs.Runs.{SoFar}
use Rattle.history.specs.Lists.{event}
use Rattle.module.specs.Share.{rules}
use Rattle.history.proofs.make_all.Given as goal

abbrev pub invariant-loop-entry : goal.invariant-loop-entry
invariant-loop-entry g l = SoFar (rules g.A.Axis.kind g.A.Model.lines) g.D.CoilDriver.meaning g.D.CoilDriver.did (event g.C.ModuleCall.kind) l.initial.module.inner l.module.inner l.initial.entry-items l.entry-items l.entry-index

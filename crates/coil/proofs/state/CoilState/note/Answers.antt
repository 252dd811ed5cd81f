use Rattle.std.proofs.Common.{rules}
use Rattle.coil.specs.Meaning.{noted, tripped}
use Rattle.coil.proofs.Flags.{noted_below}
use Rattle.coil.proofs.state.CoilState.note.Goals as goal
use Rattle.coil.proofs.state.CoilState.note.Goals.{then-tripped, else-tripped}

pub invariant_of-self-2 : goal.invariant_of-self-2
unfolding noted tripped
invariant_of-self-2 c =
    let low = noted_below c.args.self.now.flags c.args.flags in
    elim c.if-tripped.branch [ then-tripped w ↦ search rules | else-tripped w ↦ search rules ]

pub returns : goal.returns
unfolding noted tripped
returns c = elim c.if-tripped.branch [ then-tripped w ↦ search rules | else-tripped w ↦ search rules ]

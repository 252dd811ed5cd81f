use Rattle.std.proofs.Common.{refl}
use Rattle.coil.specs.Meaning.{cleared}
use Rattle.coil.proofs.Flags.{cleared_below, cleared_tripped}
use Rattle.coil.proofs.state.CoilState.clear.Goals as goal

pub invariant_of-self : goal.invariant_of-self
unfolding cleared
invariant_of-self c =
    let f = c.args.self.now.flags in
    let s = c.args.self.now.sound in
    record { sound = (s.0, cleared_below f, λ e. s.2 (cleared_tripped f s.1 e)) }

pub returns : goal.returns
unfolding cleared
returns c = refl

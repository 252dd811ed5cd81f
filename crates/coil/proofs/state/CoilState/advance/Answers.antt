use Rattle.std.proofs.Common.{w32, rules}
use Rattle.coil.proofs.Wraps.{wrapping_modulo}
use Rattle.coil.proofs.state.CoilState.advance.Goals as goal

pub returns : goal.returns
returns c =
    let sum = wrapping_modulo w32 c.args.self.now.count c.args.steps.value (search rules) in
    record { after = search rules; answer = search rules; declined = search rules }

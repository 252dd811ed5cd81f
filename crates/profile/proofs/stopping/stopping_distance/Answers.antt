use Rattle.std.proofs.Common.{◌≡◌, ◌+◌, ◌/◌, div-le_self, arith}
use Rattle.std.proofs.lemmas.Nat.{mul-le}
use Rattle.profile.proofs.Sums.{closed_form}
use Rattle.profile.specs.Ramp.{stopping_distance}
use Rattle.profile.proofs.stopping.stopping_distance.Goals as goal

pub overflow_mul-result-3 : goal.overflow_mul-result-3
overflow_mul-result-3 c =
    let n = c.from-speed.result in
    let dec = c.from-deceleration.result in
    omega (arith, closed_form n dec (omega arith), mul-le (n / dec + 1) n 65536 65535 (omega (arith, div-le_self n dec)) (omega arith))

pub overflow_sub-result : goal.overflow_sub-result
overflow_sub-result c = omega (arith, closed_form c.from-speed.result c.from-deceleration.result (omega arith))

pub returns : goal.returns
returns c =
    let n = c.from-speed.result in
    let dec = c.from-deceleration.result in
    let same : stopping_distance n dec ≡ stopping_distance c.args.speed c.args.deceleration = cc in
    omega (arith, closed_form n dec (omega arith))

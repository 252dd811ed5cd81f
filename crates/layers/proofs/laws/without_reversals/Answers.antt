use Rattle.std.proofs.Common.{rules}
use Rattle.layers.specs.Layers.{negated}
use Rattle.layers.specs.Counts.{negated_twice}
use Rattle.layers.specs.Recounts.{recounted_same}
use Rattle.layers.proofs.laws.without_reversals.Goals as goal

pub returns : goal.returns
returns g c =
    let driver = c.args.pile.below.below in
    let twice = recounted_same (λ n. negated (negated n)) (g.D.CoilDriver.meaning driver) (λ n. n) (λ i. negated_twice _ (g.met.D.CoilDriver.sound driver i).count) in
    record { meaning = search rules; calls = search rules; below = search rules; same = search rules }

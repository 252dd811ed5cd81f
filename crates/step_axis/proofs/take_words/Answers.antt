use Rattle.std.proofs.Common.{◌≡◌, ℕ, List, ◌+◌, ◌++◌, ◌<◌, ◌∷◌, [], length, take, get_or, w16, to_z, ◌+ℤ◌, sym, subst, arith, rules}
use Rattle.coil.specs.Coils.{at}
use Rattle.std.proofs.lemmas.Int.{ints}
use Rattle.std.proofs.lemmas.List.{length-take-le, take_more}
use Rattle.step_axis.proofs.Taking.{SoFar, so_declined, so_more, so_none, within}
use Rattle.step_axis.specs.Words.{scale}
use Rattle.step_axis.proofs.take_words.Goals as goal

pub loop-word-init : goal.loop-word-init
loop-word-init g c = so_none g.D.CoilDriver.meaning g.D.CoilDriver.did c.args.coil (scale c.args.resolution) c.args.driver.now (g.met.D.CoilDriver.sound c.args.driver.now c.args.coil).count

pub overflow_add-sum : goal.overflow_add-sum
overflow_add-sum g c =
    let steps = within (at (g.D.CoilDriver.meaning c.loop-word.driver) c.args.coil).flags _ c.in_ok-sum.field-0 c.in_ok-sum.ensures.taking in
    let few : length (take c.loop-word.word-index c.args.words.now) ≡ c.loop-word.word-index = length-take-le c.loop-word.word-index c.args.words.now (omega arith) in
    omega (arith, ints, few, c.requires, c.loop-word.invariant.low, c.loop-word.invariant.high, steps.0, steps.1)

pub returns-in_err-sum : goal.returns-in_err-sum
returns-in_err-sum g c =
    let done = take c.loop-word.word-index c.args.words.now in
    let z = so_declined g.D.CoilDriver.meaning g.D.CoilDriver.did c.args.coil (scale c.args.resolution) done c.args.words.now c.args.driver.now c.loop-word.driver c.take_word.new.driver c.loop-word.word-index _ c.in_err-sum.field-0.0 (omega arith) (g.met.D.CoilDriver.sound c.args.driver.now c.args.coil).count c.loop-word.invariant c.take_word.ensures.took c.in_err-sum.ensures.taking in
    record { took = z.0; taking = search rules }

pub loop-word-preserved : goal.loop-word-preserved
loop-word-preserved g c =
    let here : c.loop-word.word-index < length c.args.words.now = omega arith in
    let done = take c.loop-word.word-index c.args.words.now in
    let word = get_or c.args.words.now c.loop-word.word-index 0 in
    let z = so_more g.D.CoilDriver.meaning g.D.CoilDriver.did c.args.coil (scale c.args.resolution) done c.args.driver.now c.loop-word.driver c.take_word.new.driver word _ c.in_ok-sum.field-0 c.loop-word.invariant c.take_word.ensures.took c.in_ok-sum.ensures.taking in
    let more : take (c.loop-word.word-index + 1) c.args.words.now ≡ done ++ word ∷ [] = take_more c.args.words.now c.loop-word.word-index 0 here in
    let few : length (take (c.loop-word.word-index + 1) c.args.words.now) ≡ c.loop-word.word-index + 1 = length-take-le (c.loop-word.word-index + 1) c.args.words.now (omega arith) in
    let y = subst (λ (ws : List ℕ). SoFar g.D.CoilDriver.meaning g.D.CoilDriver.did c.args.coil (scale c.args.resolution) ws c.args.driver.now c.take_word.new.driver (to_z w16 c.loop-word.sum-bits +ℤ c.in_ok-sum.field-0)) (sym more) z in
    record { took = y.took; total = omega (arith, ints, few, c.requires, y.total, y.low, y.high); none = y.none; low = omega (arith, ints, few, c.requires, y.low, y.high); high = omega (arith, ints, few, c.requires, y.low, y.high) }

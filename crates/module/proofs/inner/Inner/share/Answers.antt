use Rattle.std.proofs.Common.{◌≡◌, ◌<◌, length, refl, rules}
use Rattle.coil.specs.declared.CoilId.TheVariants.{First, Second}
use Rattle.module.proofs.Feeding.{fed_both, first_fed, second_fed}
use Rattle.module.proofs.Table.{wanted_there}
use Rattle.module.specs.Share.{share, wanted}
use Rattle.module.proofs.inner.Inner.share.Goals as goal

pub returns : goal.returns
returns g c =
    let k = g.A.Axis.kind in
    let x = c.args.self.now in
    let both : 1 < length x.motors = search rules in
    let some : 0 < length x.motors = search rules in
    let a : c.wanted-first.result.value ≡ wanted k (share k g.D.CoilDriver.meaning x First) = wanted_there k x.motors First 0 c.index-self-0.result c.wanted-first.result.value refl some c.wanted-first.ensures in
    let b : c.wanted-second.result.value ≡ wanted k (share k g.D.CoilDriver.meaning x Second) = wanted_there k x.motors Second 1 c.index-self-1.result c.wanted-second.result.value refl both c.wanted-second.ensures in
    fed_both k g.D.CoilDriver.meaning g.D.CoilDriver.did x c.share-first.new.self c.feed.new.self c.feed-2.new.self c.share-first.result.0 c.share-first.result.1 c.requires
    (first_fed c.share-first.result _ _ _ _ c.share-first.ensures.value a b) (second_fed c.share-first.result _ _ _ _ c.share-first.ensures.value a b)
    c.feed.ensures.after c.feed.ensures.calls c.feed-2.ensures.after c.feed-2.ensures.calls

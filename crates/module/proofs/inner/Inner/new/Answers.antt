use Rattle.module.proofs.Feeding.{made}
use Rattle.module.proofs.inner.Inner.new.Goals as goal

pub returns : goal.returns
returns g c =
    made g.A.Axis.kind g.D.CoilDriver.meaning g.D.CoilDriver.did c.args.driver c.feed.new.self c.feed-2.new.self c.first_config.result c.new.result c.new-2.result c.new-3.result c.first_config.ensures
    c.new.ensures.axis c.new.ensures.currents c.new.ensures.fault c.new-2.ensures.axis c.new-2.ensures.currents c.new-2.ensures.fault
    c.feed.ensures.after c.feed.ensures.calls c.feed-2.ensures.after c.feed-2.ensures.calls

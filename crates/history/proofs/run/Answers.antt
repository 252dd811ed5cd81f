use Rattle.std.proofs.Common.{refl, rules}
use Rattle.history.proofs.Whole.{ran_none, ran_some}
use Rattle.std.proofs.lemmas.List.{with_items_is}
use Rattle.history.proofs.run.Goals as goal

pub returns-in-None : goal.returns-in-None
returns-in-None g c =
    ran_none c.as_mut_slice.ensures.value (with_items_is c.args.history.now.preparation c.make_all.new.entries (search rules)) c.in-None.is c.in-None.is c.new-prepared.ensures c.make_all.ensures c.close.ensures

pub returns-in-Some : goal.returns-in-Some
returns-in-Some g c =
    ran_some c.as_mut_slice.ensures.value (with_items_is c.args.history.now.preparation c.make_all.new.entries (search rules)) c.in-Some.is refl c.as_mut_slice-in-Some.ensures.value (with_items_is c.in-Some.entries c.make_all-in-Some.new.entries (search rules))
    c.new-prepared.ensures c.make_all.ensures c.start-running.ensures c.make_all-in-Some.ensures c.close-in-Some.ensures

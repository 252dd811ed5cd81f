use Rattle.std.proofs.Common.{sym, refl, rules}
use Rattle.history.proofs.Calls.{once_cycle, once_plain}
use Rattle.std.proofs.lemmas.List.{with_items_is}
use Rattle.history.proofs.CallModuleCallRunning.make.Goals as goal

pub returns-in-Cycle : goal.returns-in-Cycle
returns-in-Cycle g c =
    rw c.in-Cycle.is (once_cycle c.as_slice.ensures.value c.as_mut_slice.ensures.value (search rules) (sym (with_items_is c.in-Cycle.answer c.cycle.new.answer (search rules))) c.cycle.ensures.effect c.cycle.ensures.answer)

pub returns-in-Report : goal.returns-in-Report
returns-in-Report g c = rw c.in-Report.is (once_plain (λ i h. refl) c.report.ensures.effect)

pub returns-in-Acknowledge : goal.returns-in-Acknowledge
returns-in-Acknowledge g c = rw c.in-Acknowledge.is (once_plain (λ i h. refl) c.acknowledge.ensures.effect)

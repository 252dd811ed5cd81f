use Rattle.std.proofs.Common.{◌≡◌, ◌-◌, pos, ap, ◌∙◌, w16, arith, rules}
use Rattle.coil.proofs.Wraps.{wrapping_modulo}
use Rattle.coil.specs.Coils.{at}
use Rattle.std.specs.Result.{result_unwrap_or}
use Rattle.step_axis.proofs.Taking.{code_then, ended, sum_taken, word_there}
use Rattle.step_axis.specs.Taken.{code_after, ending, taking}
use Rattle.step_axis.specs.Words.{counted, last_word, word_count}
use Rattle.step_axis.proofs.StepAxisAxis.cycle.Goals as goal

pub returns : goal.returns
returns g c =
    let flags = (at (g.D.CoilDriver.meaning c.args.driver.now) c.args.coil).flags in
    let ws = counted c.args.config c.args.orders.now in
    let taken : c.take_words-taken.result ≡ taking flags ws = search rules in
    let sum : c.unwrap_or.result ≡ _ = c.unwrap_or.ensures ∙ ap (λ r. result_unwrap_or r (pos 0)) taken ∙ sum_taken flags ws in
    let wrapped = wrapping_modulo w16 c.args.self.now.position c.unwrap_or.result (search rules) in
    let last = word_there c.args.orders.now (word_count c.args.config.words - 1) (omega arith) in
    let current : c.code_in_force-self.result ≡ code_after (ending flags ws) (last_word c.args.config c.args.orders.now) = search (rules, code_then) in
    record { axis = search rules; coils = search rules; calls = search rules; answered = search rules; ending = ended _ flags ws c.take_words-taken.result c.map.result taken c.map.ensures.variant c.map.ensures.cases }

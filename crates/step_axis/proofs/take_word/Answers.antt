use Rattle.std.proofs.Common.{◌≡◌, true, false, rules}
use Rattle.axis.specs.Levels.{is_powered}
use Rattle.coil.specs.Coils.{at}
use Rattle.coil.specs.Meaning.{tripped}
use Rattle.step_axis.proofs.Taking.{is_declined, not_taken_off, took_declined, took_not}
use Rattle.step_axis.specs.Words.{code}
use Rattle.step_axis.proofs.take_word.Goals as goal

pub returns-in_err-advance : goal.returns-in_err-advance
returns-in_err-advance g c =
    let flags = (at (g.D.CoilDriver.meaning c.args.driver.now) c.args.coil).flags in
    let t : tripped flags ≡ true = is_declined (tripped flags) flags c.advance.result _ c.advance.ensures.answer c.in_err-advance.was in
    let p : is_powered (code c.args.word) ≡ true = search rules in
    record {
      took = took_declined g.D.CoilDriver.meaning g.D.CoilDriver.did c.args.coil _ c.args.word c.args.driver.now c.advance.new.self _ (g.met.D.CoilDriver.sound c.args.driver.now c.args.coil).count t c.advance.ensures.calls;
      taking = search rules;
    }

pub returns-then-not-is_powered : goal.returns-then-not-is_powered
returns-then-not-is_powered g c =
    let flags = (at (g.D.CoilDriver.meaning c.args.driver.now) c.args.coil).flags in
    let p : is_powered (code c.args.word) ≡ false = search rules in
    record {
      took = took_not g.D.CoilDriver.meaning g.D.CoilDriver.did c.args.coil _ c.args.word c.args.driver.now (g.met.D.CoilDriver.sound c.args.driver.now c.args.coil).count (not_taken_off flags c.args.word p);
      taking = search rules;
    }

use Rattle.std.proofs.Common.{◌≡◌, ℕ, List, ◌++◌, true, false, eqb, length, subst, sym, rules as std_rules}
use Rattle.module.proofs.Calling.{answer_length, called_cycle, filled, not_filled, record_length}
use Rattle.module.specs.Called.{Moved}
use Rattle.module.specs.Share.{rules}
use Rattle.refusal.specs.declared.Refusal.TheVariants.{AnswerLength}
use Rattle.module.proofs.inner.Inner.cycle.Goals as goal

pub returns-in_err-first-clause-effect : goal.returns-in_err-first-clause-effect
returns-in_err-first-clause-effect g c =
    let p : eqb (length c.args.orders.now) 16 ≡ false = search std_rules in
    record_length (rules g.A.Axis.kind g.A.Model.lines) g.D.CoilDriver.meaning g.D.CoilDriver.did c.args.self.now c.args.orders.now (length c.args.answer.now) c.from_residual.result (search std_rules) p

pub returns-in_default-clause-effect : goal.returns-in_default-clause-effect
returns-in_default-clause-effect g c =
    let p : eqb (length c.args.orders.now) 16 ≡ true = search std_rules in
    let q : eqb (length c.args.answer.now) 16 ≡ false = search std_rules in
    answer_length (rules g.A.Axis.kind g.A.Model.lines) g.D.CoilDriver.meaning g.D.CoilDriver.did c.args.self.now c.args.orders.now (length c.args.answer.now) p q

pub returns-in_default-as_mut_array : goal.returns-in_default-as_mut_array
returns-in_default-as_mut_array g c =
    let p : eqb (length c.args.orders.now) 16 ≡ true = search std_rules in
    let q : eqb (length c.args.answer.now) 16 ≡ false = search std_rules in
    let same : c.args.answer.now ≡ c.in-Some.first_answer.now ++ c.in-Some.rest.now = search std_rules in
    record {
      effect = answer_length (rules g.A.Axis.kind g.A.Model.lines) g.D.CoilDriver.meaning g.D.CoilDriver.did c.args.self.now c.args.orders.now (length c.args.answer.now) p q;
      answer = not_filled (rules g.A.Axis.kind g.A.Model.lines) g.D.CoilDriver.meaning c.args.self.now c.args.orders.now c.args.answer.now (c.in-Some.first_answer.now ++ c.in-Some.rest.now) AnswerLength (sym same);
    }

pub returns : goal.returns
returns g c =
    let n : length c.args.orders.now ≡ 16 = search std_rules in
    let m : length c.args.answer.now ≡ 16 = search std_rules in
    let orders : c.in_ok-first.first.now ++ c.in_ok-first.second.now ≡ c.args.orders.now = search std_rules in
    let moved = subst (λ (w : List ℕ). Moved g.A.Axis.kind g.D.CoilDriver.meaning g.D.CoilDriver.did c.args.self.now c.move_motors.new.self w (c.move_motors.new.first_answer ++ c.move_motors.new.second_answer)) orders c.move_motors.ensures in
    record {
      effect = called_cycle (rules g.A.Axis.kind g.A.Model.lines) g.D.CoilDriver.meaning g.D.CoilDriver.did c.args.self.now c.move_motors.new.self c.share.new.self c.args.orders.now (c.move_motors.new.first_answer ++ c.move_motors.new.second_answer) (length c.args.answer.now) n m moved c.share.ensures;
      answer = filled (rules g.A.Axis.kind g.A.Model.lines) g.D.CoilDriver.meaning g.D.CoilDriver.did c.args.self.now c.move_motors.new.self c.args.orders.now c.args.answer.now (c.move_motors.new.first_answer ++ c.move_motors.new.second_answer) moved;
    }

-- Settings: what each answer of the gate leaves.
use Rattle.std.proofs.Common.{◌≡◌, ℕ, ◌<◌, Bool, true, false, cond, length, get_or, set, ℤ, is_err, Some, None, Ok, Err, sym, refl, ap, ◌∙◌}
use Rattle.axis.specs.Kinds.{Kind}
use Rattle.axis.specs.Levels.{levels, with_level}
use Rattle.axis.specs.declared.currents.CurrentSetting.{CurrentSetting}
use Rattle.coil.specs.Numbers.{points_from}
use Rattle.coil.specs.Coils.{at}
use Rattle.coil.specs.Meaning.{Coils}
use Rattle.coil.specs.declared.CoilId.{CoilId}
use Rattle.coil.specs.declared.CoilId.TheVariants.{First, Second}
use Rattle.module.proofs.Table.{motor_put, motor_there}
use Rattle.module.proofs.Turns.{other_motor, same_share}
use Rattle.module.specs.Called.{Adjusted}
use Rattle.module.specs.Effects.{Answer, adjusted, adjusted_share, in_range, with_currents, with_points}
use Rattle.module.specs.Share.{Share, motor_at, place, powered, share, share_of}
use Rattle.module.specs.declared.inner.Inner.{Inner}
use Rattle.module.specs.declared.motor.Motor.{Motor}
use Rattle.refusal.specs.declared.Refusal.{Refusal}
use Rattle.refusal.specs.declared.Refusal.TheVariants.{MotorPowered, OutOfRange}
use Rattle.registers.specs.declared.Setting.TheVariants.{Current}
use Rattle.std.proofs.lemmas.Bool.{cond-false, cond-true}

pub either_way : {X : Type 0} (b : Bool) (x : X) → cond b x x ≡ x
either_way true x = refl
either_way false x = refl

-- a motor whose settings stay as they are
unchanged : {C A : Type 0} (k : Kind C A) (i j : CoilId) (which : CurrentSetting) (v : ℤ) (h : Share C A) → (i ≡ j → adjusted (Current i which) (powered k h) h.currents v ≡ h.currents) →
    h ≡ adjusted_share k (Current i which) j h v
unchanged k First First which v h e = ap (with_currents h) (sym (e refl))
unchanged k First Second which v h e = refl
unchanged k Second First which v h e = refl
unchanged k Second Second which v h e = ap (with_currents h) (sym (e refl))

pub out_of_range : {C A D : Type 0} (k : Kind C A) (meaning : D → Coils) (i : CoilId) (which : CurrentSetting) (v : ℤ) (x : Inner A D C) (r : Answer) → r ≡ Err OutOfRange → points_from v ≡ None → Adjusted k meaning i which v x x r
out_of_range k meaning i which v x r n e = record {
  number = n ∙ ap (λ o. in_range o (cond (powered k (share k meaning x i)) (Err MotorPowered) (Ok tt))) (sym e);
  motors = λ j. unchanged k i j which v (share k meaning x j) (λ _. ap (λ o. cond (powered k (share k meaning x j)) (share k meaning x j).currents (with_points (share k meaning x j).currents which o)) e ∙ either_way (powered k (share k meaning x j)) (share k meaning x j).currents);
  driver = refl;
  refused = λ _. refl;
}

pub no_refusal : {X : Type 0} → is_err {T = Unit {0}} {E = Refusal} (Ok tt) ≡ true → X
no_refusal e = cc

pub still_powered : {C A D : Type 0} (k : Kind C A) (meaning : D → Coils) (i : CoilId) (which : CurrentSetting) (v : ℤ) (n : ℕ) (x : Inner A D C) → points_from v ≡ Some n → powered k (share k meaning x i) ≡ true → Adjusted k meaning i which v x x (Err MotorPowered)
still_powered k meaning i which v n x e p = record {
  number = sym (cond-true _ _ _ p) ∙ ap (λ o. in_range o (cond (powered k (share k meaning x i)) (Err MotorPowered) (Ok tt))) (sym e);
  motors = λ j. unchanged k i j which v (share k meaning x j) (λ same. ap (λ b. cond b (share k meaning x j).currents (with_points (share k meaning x j).currents which (points_from v))) (ap (λ z. powered k (share k meaning x z)) (sym same) ∙ p));
  driver = refl;
  refused = λ _. refl;
}

-- the motor i with other settings, the other as it was
pub set_current : {C A D : Type 0} (k : Kind C A) (meaning : D → Coils) (i : CoilId) (which : CurrentSetting) (v : ℤ) (n p : ℕ) (x : Inner A D C) (m : Motor A) (d : Motor A) →
    points_from v ≡ Some n → powered k (share k meaning x i) ≡ false → p ≡ place i → p < length x.motors →
    m.axis ≡ (get_or x.motors p d).axis → levels m.currents ≡ with_level (levels (get_or x.motors p d).currents) which n → m.fault ≡ (get_or x.motors p d).fault →
    Adjusted k meaning i which v x (record x { motors = set x.motors p m }) (Ok tt)
set_current {C} {A} {D} k meaning i which v n p x m d e b pe h axis currents fault =
    let y : Inner A D C = record x { motors = set x.motors p m } in
    let there = motor_there k x.motors i p d pe h in
    let put = motor_put k x.motors i p m pe h in
    let own : share k meaning y i ≡ with_currents (share k meaning x i) (adjusted (Current i which) (powered k (share k meaning x i)) (share k meaning x i).currents v) =
    same_share (share k meaning y i) (with_currents (share k meaning x i) (adjusted (Current i which) (powered k (share k meaning x i)) (share k meaning x i).currents v))
    refl (ap (λ z. z.axis) put ∙ axis ∙ ap (λ z. z.axis) there)
    (ap (λ z. levels z.currents) put ∙ currents ∙ ap (λ z. with_level (levels z.currents) which n) there
    ∙ ap (λ o. with_points (share k meaning x i).currents which o) (sym e)
    ∙ ap (λ t. cond t (share k meaning x i).currents (with_points (share k meaning x i).currents which (points_from v))) (sym b))
    (ap (λ z. z.fault) put ∙ fault ∙ ap (λ z. z.fault) there) refl refl refl in
    let other : (j : CoilId) → (i ≡ j → ⊥) → share k meaning y j ≡ share k meaning x j =
    λ j ne. ap (λ z. share_of x.configuration.model z x.cycles (at (meaning x.driver) j)) (ap (λ q. motor_at k (set x.motors q m) j) pe ∙ other_motor k i j x.motors m ne) in
    record {
      number = sym (cond-false _ _ _ b) ∙ ap (λ o. in_range o (cond (powered k (share k meaning x i)) (Err MotorPowered) (Ok tt))) (sym e);
      motors = λ j. by i j y own other;
      driver = refl;
      refused = no_refusal;
    }
  where
    by : (i j : CoilId) (y : Inner A D C) → share k meaning y i ≡ with_currents (share k meaning x i) (adjusted (Current i which) (powered k (share k meaning x i)) (share k meaning x i).currents v) →
        ((j : CoilId) → (i ≡ j → ⊥) → share k meaning y j ≡ share k meaning x j) → share k meaning y j ≡ adjusted_share k (Current i which) j (share k meaning x j) v
    by First First y own other = own
    by First Second y own other = other Second (λ q. cc)
    by Second First y own other = other First (λ q. cc)
    by Second Second y own other = own

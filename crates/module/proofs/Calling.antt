-- The whole effect of each call, put together from what its steps do.
use Rattle.std.proofs.Common.{◌≡◌, ℕ, Bool, true, false, cond, eqb, ltb, ◌⊎◌, List, [], ◌∷◌, ◌++◌, length, ℤ, is_err, Some, None, Ok, Err, Option, unwrap_or, sym, refl, ap, ◌∙◌, subst, inl, inr}
use Rattle.axis.specs.Kinds.{Kind}
use Rattle.axis.specs.declared.currents.CurrentSetting.{CurrentSetting}
use Rattle.coil.proofs.Chained.{chain_join}
use Rattle.coil.proofs.Numbered.{by_no_number, by_own_number}
use Rattle.coil.specs.Chains.{Chain, Did, on}
use Rattle.coil.specs.Numbers.{number}
use Rattle.coil.specs.Coils.{at, at_put, at_put_other, put}
use Rattle.coil.specs.Meaning.{Coil, Coils, acknowledged, noted, reported}
use Rattle.coil.specs.declared.CoilCall.TheVariants.{Clear, Note}
use Rattle.coil.specs.declared.CoilId.{CoilId}
use Rattle.coil.specs.declared.CoilId.TheVariants.{First, Second}
use Rattle.module.proofs.Setting.{either_way, no_refusal}
use Rattle.module.proofs.Turns.{same_share}
use Rattle.module.specs.Called.{Adjusted, Called, Filled, Moved, Shared}
use Rattle.module.specs.Effects.{Answer, Asked, Deed, acknowledgement, acknowledges, addressee, after, answer, adjusted, calls, concerns, cycle, cycle_calls, cycle_deed, deed, feeds, flags_answer, in_range, half, length_answer, lives, misses, motor_deed, move_calls, moved_share, moves, note_calls, points_after, report, reports, set_deed, set_motor, set_share, sets, setting, setting_answer, value_answer, where_sized, with_config, with_currents}
use Rattle.module.specs.Share.{Rules, Share, motor_at, powered, share, share_of, wanted}
use Rattle.module.specs.declared.inner.Inner.{Inner}
use Rattle.refusal.specs.declared.Refusal.{Refusal}
use Rattle.refusal.specs.declared.Refusal.TheVariants.{AnswerLength, Closed, RecordLength, UnknownFlags, UnknownMotor}
use Rattle.registers.specs.Tables.{is_open, look_up}
use Rattle.registers.specs.declared.Register.{Register}
use Rattle.registers.specs.declared.Setting.{Setting}
use Rattle.registers.specs.declared.Setting.TheVariants.{Configuration, Current}
use Rattle.registers.specs.declared.Stage.{Stage}
use Rattle.registers.specs.declared.Stage.TheVariants.{Running}
use Rattle.std.proofs.lemmas.Bool.{cond-false, cond-true, cond_both}
use Rattle.supply.specs.Shares.{granted}

abbrev with_driver : {C A D : Type 0} → Inner A D C → D → Inner A D C
with_driver x d = record x { driver = d }

abbrev with_flags : {C A : Type 0} → Share C A → ℕ → Share C A
with_flags h f = record h { flags = f }

-- reports and acknowledgements, on the motor of a number

either : (i j : CoilId) → (i ≡ j) ⊎ (i ≡ j → ⊥)
either First First = inl refl
either First Second = inr (λ q. cc)
either Second First = inr (λ q. cc)
either Second Second = inl refl

own_deed : (i : CoilId) (d : Deed) → motor_deed i (number i) d ≡ Some d
own_deed First d = refl
own_deed Second d = refl

other_deed : (i j : CoilId) (d : Deed) → (i ≡ j → ⊥) → motor_deed j (number i) d ≡ None
other_deed First First d ne = absurd (ne refl)
other_deed First Second d ne = refl
other_deed Second First d ne = refl
other_deed Second Second d ne = absurd (ne refl)

-- a deed d to the motor i alone, that leaves it the coil c
called_motor : {C A D : Type 0} (k : Rules C A) (meaning : D → Coils) (did : Did D) (asked : Asked) (d : Deed) (i : CoilId) (x : Inner A D C) (e : D) (c : Coil) →
    deed k.lines Running i asked ≡ Some d → ((j : CoilId) → (i ≡ j → ⊥) → deed k.lines Running j asked ≡ None) →
    Ok tt ≡ answer k Running (share k.kind meaning x First) (share k.kind meaning x Second) asked →
    meaning e ≡ put (meaning x.driver) i c → share_of x.configuration.model (motor_at k.kind x.motors i) x.cycles c ≡ after k i (share k.kind meaning x i) d →
    ((w v : ℕ) → c.points ≡ points_after i (at (meaning x.driver) i) w v (Some d)) →
    Chain did x.driver (calls k (share k.kind meaning x First) (share k.kind meaning x Second) asked) e →
    Called k meaning did Running asked x (with_driver x e) (Ok tt)
called_motor {C} {A} {D} k meaning did asked d i x e c mine others num coils own points chain =
    let y : Inner A D C = with_driver x e in
    let there : at (meaning e) i ≡ c = ap (λ (z : Coils). at z i) coils ∙ at_put (meaning x.driver) i c in
    let P : CoilId → Type 0 = λ j. share k.kind meaning y j ≡ lives k j (share k.kind meaning x j) (deed k.lines Running j asked) in
    let w : ℕ = wanted k.kind (share k.kind meaning y First) in
    let v : ℕ = wanted k.kind (share k.kind meaning y Second) in
    let Q : CoilId → Type 0 = λ j. (at (meaning e) j).points ≡ points_after j (at (meaning x.driver) j) w v (deed k.lines Running j asked) in
    let still : (j : CoilId) → (i ≡ j → ⊥) → at (meaning e) j ≡ at (meaning x.driver) j = λ j ne. ap (λ (z : Coils). at z j) coils ∙ at_put_other (meaning x.driver) i j c ne in
    record {
      number = num;
      motors = λ j. elim (either i j) [
        | inl same ↦ subst P same (ap (λ z. share_of x.configuration.model (motor_at k.kind x.motors i) x.cycles z) there ∙ own ∙ ap (lives k i (share k.kind meaning x i)) (sym mine))
        | inr ne ↦ ap (λ z. share_of x.configuration.model (motor_at k.kind x.motors j) x.cycles z) (still j ne) ∙ ap (lives k j (share k.kind meaning x j)) (sym (others j ne))
      ];
      points = λ j. elim (either i j) [
        | inl same ↦ subst Q same (ap (λ z. z.points) there ∙ points w v ∙ ap (points_after i (at (meaning x.driver) i) w v) (sym mine))
        | inr ne ↦ ap (λ z. z.points) (still j ne) ∙ ap (points_after j (at (meaning x.driver) j) w v) (sym (others j ne))
      ];
      driver = chain;
      refused = no_refusal;
    }

pub called_report : {C A D : Type 0} (k : Rules C A) (meaning : D → Coils) (did : Did D) (i : CoilId) (n f : ℕ) (x : Inner A D C) (e : D) → n ≡ number i → ltb f 16 ≡ true →
    meaning e ≡ put (meaning x.driver) i (reported (at (meaning x.driver) i) f) → did x.driver (on i (Note f)) e → Called k meaning did Running (report n f) x (with_driver x e) (Ok tt)
called_report {C} {A} {D} k meaning did i n f x e is low coils c =
    let P : ℕ → Type 0 = λ m. Called k meaning did Running (report m f) x (with_driver x e) (Ok tt) in
    let h : Share C A = share k.kind meaning x i in
    let b : Coil = at (meaning x.driver) i in
    subst P (sym is) (called_motor k meaning did (report (number i) f) (reports f) i x e (reported b f)
    (own_deed i (reports f)) (λ j ne. other_deed i j (reports f) ne)
    (sym (cond-true _ _ _ low) ∙ sym (by_own_number i (λ _. flags_answer f) (Err UnknownMotor)))
    coils
    (ap (λ t. share_of h.config (motor_at k.kind x.motors i) h.cycles (record (reported b f) { flags = cond t (noted b.flags f) b.flags })) (sym low))
    (λ w v. sym (cond-true _ _ _ low))
    (subst (λ z. Chain did x.driver z e) (sym (cond-true _ _ _ low) ∙ sym (by_own_number i (λ j. note_calls j f) [])) (e, (c, refl))))

pub called_acknowledge : {C A D : Type 0} (k : Rules C A) (meaning : D → Coils) (did : Did D) (i : CoilId) (n : ℕ) (x : Inner A D C) (e : D) → n ≡ number i →
    meaning e ≡ put (meaning x.driver) i (acknowledged (at (meaning x.driver) i)) → did x.driver (on i Clear) e → Called k meaning did Running (acknowledgement n) x (with_driver x e) (Ok tt)
called_acknowledge {C} {A} {D} k meaning did i n x e is coils c =
    let P : ℕ → Type 0 = λ m. Called k meaning did Running (acknowledgement m) x (with_driver x e) (Ok tt) in
    subst P (sym is) (called_motor k meaning did (acknowledgement (number i)) acknowledges i x e (acknowledged (at (meaning x.driver) i))
    (own_deed i acknowledges) (λ j ne. other_deed i j acknowledges ne) (sym (by_own_number i (λ _. Ok tt) (Err UnknownMotor))) coils refl (λ w v. refl)
    (subst (λ z. Chain did x.driver z e) (sym (by_own_number i (λ j. on j Clear ∷ []) [])) (e, (c, refl))))

-- a call that leaves everything as it was
untouched : {C A D : Type 0} (k : Rules C A) (meaning : D → Coils) (did : Did D) (stage : Stage) (asked : Asked) (x : Inner A D C) (r : Answer) →
    r ≡ answer k stage (share k.kind meaning x First) (share k.kind meaning x Second) asked →
    ((i : CoilId) → lives k i (share k.kind meaning x i) (deed k.lines stage i asked) ≡ share k.kind meaning x i) →
    ((i : CoilId) (c : Coil) (w v : ℕ) → points_after i c w v (deed k.lines stage i asked) ≡ c.points) →
    calls k (share k.kind meaning x First) (share k.kind meaning x Second) asked ≡ [] → Called k meaning did stage asked x x r
untouched k meaning did stage asked x r num motors points none = record {
  number = num;
  motors = λ i. sym (motors i);
  points = λ i. sym (points i (at (meaning x.driver) i) (wanted k.kind (share k.kind meaning x First)) (wanted k.kind (share k.kind meaning x Second)));
  driver = subst (λ z. Chain did x.driver z x.driver) (sym none) refl;
  refused = λ _. refl;
}

-- a motor that there isn't
pub report_nobody : {C A D : Type 0} (k : Rules C A) (meaning : D → Coils) (did : Did D) (n f : ℕ) (x : Inner A D C) (r : Answer) → r ≡ Err UnknownMotor → ((i : CoilId) → eqb n (number i) ≡ false) → Called k meaning did Running (report n f) x x r
report_nobody k meaning did n f x r e none = untouched k meaning did Running (report n f) x r (e ∙ sym (by_no_number n (λ _. flags_answer f) (Err UnknownMotor) none))
    (λ i. ap (lives k i (share k.kind meaning x i)) (cond-false (eqb n (number i)) (Some (reports f)) None (none i))) (λ i c w v. ap (points_after i c w v) (cond-false (eqb n (number i)) (Some (reports f)) None (none i))) (by_no_number n (λ i. note_calls i f) [] none)

pub acknowledge_nobody : {C A D : Type 0} (k : Rules C A) (meaning : D → Coils) (did : Did D) (n : ℕ) (x : Inner A D C) (r : Answer) → r ≡ Err UnknownMotor → ((i : CoilId) → eqb n (number i) ≡ false) → Called k meaning did Running (acknowledgement n) x x r
acknowledge_nobody k meaning did n x r e none = untouched k meaning did Running (acknowledgement n) x r (e ∙ sym (by_no_number n (λ _. Ok tt) (Err UnknownMotor) none))
    (λ i. ap (lives k i (share k.kind meaning x i)) (cond-false (eqb n (number i)) (Some acknowledges) None (none i))) (λ i c w v. ap (points_after i c w v) (cond-false (eqb n (number i)) (Some acknowledges) None (none i))) (by_no_number n (λ i. on i Clear ∷ []) [] none)

-- flags that there are not
pub report_flags : {C A D : Type 0} (k : Rules C A) (meaning : D → Coils) (did : Did D) (i : CoilId) (n f : ℕ) (x : Inner A D C) → n ≡ number i → ltb f 16 ≡ false → Called k meaning did Running (report n f) x x (Err UnknownFlags)
report_flags {C} {A} {D} k meaning did i n f x is high =
    let P : ℕ → Type 0 = λ m. Called k meaning did Running (report m f) x x (Err UnknownFlags) in
    subst P (sym is) (untouched k meaning did Running (report (number i) f) x (Err UnknownFlags)
    (sym (cond-false _ _ _ high) ∙ sym (by_own_number i (λ _. flags_answer f) (Err UnknownMotor)))
    (λ j. cond_both (eqb (number i) (number j)) (Some (reports f)) None (λ o. lives k j (share k.kind meaning x j) o ≡ share k.kind meaning x j)
    (λ _. ap (λ t. with_flags (share k.kind meaning x j) (cond t (noted (share k.kind meaning x j).flags f) (share k.kind meaning x j).flags)) high) (λ _. refl))
    (λ j c w v. cond_both (eqb (number i) (number j)) (Some (reports f)) None (λ o. points_after j c w v o ≡ c.points)
    (λ _. cond-false _ _ _ high) (λ _. refl))
    (by_own_number i (λ j. note_calls j f) [] ∙ cond-false _ _ _ high))

-- cycles

sized : {X : Type 0} (n m : ℕ) (x y : X) → n ≡ 16 → m ≡ 16 → where_sized n m x y ≡ x
sized n m x y p q = ap (λ k. where_sized k m x y) p ∙ ap (λ k. where_sized 16 k x y) q

pub called_cycle : {C A D : Type 0} (k : Rules C A) (meaning : D → Coils) (did : Did D) (x y z : Inner A D C) (orders bytes : List ℕ) (room : ℕ) → length orders ≡ 16 → room ≡ 16 →
    Moved k.kind meaning did x y orders bytes → Shared k.kind meaning did y z → Called k meaning did Running (cycle orders room) x z (Ok tt)
called_cycle {C} {A} {D} k meaning did x y z orders bytes room p q m s =
    let h : Share C A = share k.kind meaning x First in
    let g : Share C A = share k.kind meaning x Second in
    let now : (i : CoilId) → share k.kind meaning z i ≡ moved_share k.kind i (share k.kind meaning x i) (half i orders) = λ i. s.motors i ∙ m.motors i in
    let w : (i : CoilId) → wanted k.kind (share k.kind meaning y i) ≡ wanted k.kind (moved_share k.kind i (share k.kind meaning x i) (half i orders)) = λ i. ap (wanted k.kind) (m.motors i) in
    record {
      number = ap (λ n. cond (eqb n 16) (Ok tt) (Err AnswerLength)) (sym q) ∙ ap (λ n. length_answer n room) (sym p);
      motors = λ i. now i ∙ ap (λ d. lives k i (share k.kind meaning x i) (Some d)) (sym (sized (length orders) room (moves (half i orders)) (misses (length orders) room) p q));
      points = λ i. s.points i
          ∙ ap (λ v. granted i v (wanted k.kind (share k.kind meaning y Second))) (ap (wanted k.kind) (sym (s.motors First)))
          ∙ ap (λ v. granted i (wanted k.kind (share k.kind meaning z First)) v) (ap (wanted k.kind) (sym (s.motors Second)))
          ∙ ap (λ d. points_after i (at (meaning x.driver) i) (wanted k.kind (share k.kind meaning z First)) (wanted k.kind (share k.kind meaning z Second)) (Some d)) (sym (sized (length orders) room (moves (half i orders)) (misses (length orders) room) p q));
      driver = chain_join did x.driver y.driver z.driver (move_calls k.kind First h orders ++ move_calls k.kind Second g orders)
          (feeds (wanted k.kind (share k.kind meaning y First)) (wanted k.kind (share k.kind meaning y Second)))
          (calls k h g (cycle orders room)) m.driver s.driver
          (ap (λ v. (move_calls k.kind First h orders ++ move_calls k.kind Second g orders) ++ feeds v (wanted k.kind (share k.kind meaning y Second))) (w First)
          ∙ ap (λ v. (move_calls k.kind First h orders ++ move_calls k.kind Second g orders) ++ feeds (wanted k.kind (moved_share k.kind First h (half First orders))) v) (w Second)
          ∙ sym (sized (length orders) room (cycle_calls k h g orders) [] p q));
      refused = no_refusal;
    }

pub filled : {C A D : Type 0} (k : Rules C A) (meaning : D → Coils) (did : Did D) (x y : Inner A D C) (orders before bytes : List ℕ) → Moved k.kind meaning did x y orders bytes → Filled k meaning x orders before bytes (Ok tt)
filled k meaning did x y orders before bytes m = record { halves = λ i _. m.halves i; untouched = no_refusal }

pub not_filled : {C A D : Type 0} (k : Rules C A) (meaning : D → Coils) (x : Inner A D C) (orders before bytes : List ℕ) (e : Refusal) → bytes ≡ before → Filled k meaning x orders before bytes (Err e)
not_filled k meaning x orders before bytes e same = record { halves = λ i h. cc; untouched = λ _. same }

-- a cycle of other lengths: each motor misses it
missed : {C A D : Type 0} (k : Rules C A) (meaning : D → Coils) (did : Did D) (x : Inner A D C) (orders : List ℕ) (room : ℕ) (e : Refusal) → Err e ≡ length_answer (length orders) room →
    ((i : CoilId) → cycle_deed i orders room ≡ misses (length orders) room) → calls k (share k.kind meaning x First) (share k.kind meaning x Second) (cycle orders room) ≡ [] → Called k meaning did Running (cycle orders room) x x (Err e)
missed k meaning did x orders room e num deeds none = untouched k meaning did Running (cycle orders room) x (Err e) num (λ i. ap (λ d. lives k i (share k.kind meaning x i) (Some d)) (deeds i)) (λ i c w v. ap (λ d. points_after i c w v (Some d)) (deeds i)) none

pub record_length : {C A D : Type 0} (k : Rules C A) (meaning : D → Coils) (did : Did D) (x : Inner A D C) (orders : List ℕ) (room : ℕ) (r : Answer) → r ≡ Err RecordLength → eqb (length orders) 16 ≡ false → Called k meaning did Running (cycle orders room) x x r
record_length k meaning did x orders room r e p = subst (Called k meaning did Running (cycle orders room) x x) (sym e) (missed k meaning did x orders room RecordLength
    (sym (cond-false _ _ _ p))
    (λ i. cond-false _ _ _ p)
    (cond-false _ _ _ p))

pub answer_length : {C A D : Type 0} (k : Rules C A) (meaning : D → Coils) (did : Did D) (x : Inner A D C) (orders : List ℕ) (room : ℕ) → eqb (length orders) 16 ≡ true → eqb room 16 ≡ false → Called k meaning did Running (cycle orders room) x x (Err AnswerLength)
answer_length k meaning did x orders room p q = missed k meaning did x orders room AnswerLength
    (sym (cond-false _ _ _ q) ∙ sym (cond-true _ _ _ p))
    (λ i. cond-true _ _ _ p ∙ cond-false _ _ _ q)
    (cond-true _ _ _ p ∙ cond-false _ _ _ q)

-- settings

set_lived : {C A : Type 0} → Kind C A → Stage → Option Register → CoilId → Share C A → ℤ → Share C A
set_lived k stage None i h v = h
set_lived k stage (Some r) i h v = cond (concerns i r.setting) (set_share k stage (Some r) h v) h

lived : {C A : Type 0} (k : Rules C A) (stage : Stage) (n : ℕ) (v : ℤ) (i : CoilId) (h : Share C A) (o : Option Register) → look_up k.lines n ≡ o →
    lives k i h (set_deed i stage (look_up k.lines n) n v) ≡ set_lived k.kind stage o i h v
unfolding set_lived
lived k stage n v i h o e = ap (λ p. lives k i h (set_deed i stage p n v)) e ∙ by o e
  where
    by : (o : Option Register) → look_up k.lines n ≡ o → lives k i h (set_deed i stage o n v) ≡ set_lived k.kind stage o i h v
    by None e = refl
    by (Some r) e = so (concerns i r.setting)
      where
        so : (t : Bool) → lives k i h (cond t (Some (sets stage n v)) None) ≡ cond t (set_share k.kind stage (Some r) h v) h
        so true = ap (λ p. set_share k.kind stage p h v) e
        so false = refl

set_points : (i : CoilId) (stage : Stage) (o : Option Register) (n : ℕ) (x : ℤ) (c : Coil) (w v : ℕ) → points_after i c w v (set_deed i stage o n x) ≡ c.points
set_points i stage None n x c w v = refl
set_points i stage (Some r) n x c w v = cond_both (concerns i r.setting) (Some (sets stage n x)) None (λ o. points_after i c w v o ≡ c.points) (λ _. refl) (λ _. refl)

-- a setting of a register that the table has as o
called_set : {C A D : Type 0} (k : Rules C A) (meaning : D → Coils) (did : Did D) (stage : Stage) (n : ℕ) (v : ℤ) (x y : Inner A D C) (r : Answer) (o : Option Register) → look_up k.lines n ≡ o →
    r ≡ setting_answer k.kind stage o (powered k.kind (addressee o (share k.kind meaning x First) (share k.kind meaning x Second))) v →
    ((i : CoilId) → share k.kind meaning y i ≡ set_lived k.kind stage o i (share k.kind meaning x i) v) → y.driver ≡ x.driver → (is_err r ≡ true → y ≡ x) →
    Called k meaning did stage (setting n v) x y r
called_set k meaning did stage n v x y r o e num motors driver refused = record {
  number = num ∙ ap (λ p. setting_answer k.kind stage p (powered k.kind (addressee p (share k.kind meaning x First) (share k.kind meaning x Second))) v) (sym e);
  motors = λ i. motors i ∙ sym (lived k stage n v i (share k.kind meaning x i) o e);
  points = λ i. ap (λ d. (at (meaning d) i).points) driver ∙ sym (set_points i stage (look_up k.lines n) n v (at (meaning x.driver) i) (wanted k.kind (share k.kind meaning y First)) (wanted k.kind (share k.kind meaning y Second)));
  driver = driver;
  refused = refused;
}

closed : {C A : Type 0} (k : Kind C A) (stage : Stage) (r : Register) (i : CoilId) (h : Share C A) (v : ℤ) → is_open r.opened stage ≡ false → h ≡ set_lived k stage (Some r) i h v
unfolding set_lived
closed k stage r i h v e = cond_both (concerns i r.setting) (set_share k stage (Some r) h v) h (λ z. h ≡ z) (λ _. still) (λ _. refl)
  where
    still : h ≡ set_share k stage (Some r) h v
    still = same_share h (set_share k stage (Some r) h v) (sym (cond-false _ _ _ e)) refl (sym (cond-false _ _ _ e)) refl refl refl refl

pub set_closed : {C A D : Type 0} (k : Rules C A) (meaning : D → Coils) (did : Did D) (stage : Stage) (n : ℕ) (v : ℤ) (x : Inner A D C) (r : Register) → look_up k.lines n ≡ Some r → is_open r.opened stage ≡ false → Called k meaning did stage (setting n v) x x (Err Closed)
set_closed k meaning did stage n v x r e c = called_set k meaning did stage n v x x (Err Closed) (Some r) e
    (sym (cond-false _ _ _ c))
    (λ i. closed k.kind stage r i (share k.kind meaning x i) v c) refl (λ _. refl)

-- the register that was found, by what it sets
found_as : (o : Option Register) (r : Register) (s : Setting) → o ≡ Some r → r.setting ≡ s → o ≡ Some (record { setting = s; opened = r.opened })
found_as o r s e q = e ∙ ap (λ z. Some (record { setting = z; opened = r.opened })) q

pub set_config : {C A D : Type 0} (k : Rules C A) (meaning : D → Coils) (did : Did D) (stage : Stage) (n : ℕ) (v : ℤ) (x y : Inner A D C) (a : Answer) (r : Register) →
    look_up k.lines n ≡ Some r → r.setting ≡ Configuration → is_open r.opened stage ≡ true →
    a ≡ in_range (k.kind.config v) (Ok tt) → y ≡ with_config x (unwrap_or (k.kind.config v) x.configuration.model) → Called k meaning did stage (setting n v) x y a
unfolding set_lived
set_config {C} {A} {D} k meaning did stage n v x y a r e is opens num after =
    let config : C = unwrap_or (k.kind.config v) x.configuration.model in
    called_set k meaning did stage n v x y a (Some (record { setting = Configuration; opened = r.opened })) (found_as (look_up k.lines n) r Configuration e is)
    (num ∙ sym (cond-true _ _ _ opens))
    (λ i. ap (λ z. share k.kind meaning z i) after ∙ same_share (share k.kind meaning (with_config x config) i) (set_share k.kind stage (Some (record { setting = Configuration; opened = r.opened })) (share k.kind meaning x i) v)
    (sym (cond-true _ _ _ opens)) refl (sym (either_way (is_open r.opened stage) (share k.kind meaning x i).currents)) refl refl refl refl)
    (ap (λ z. z.driver) after) (refused (k.kind.config v) num after)
  where
    refused : (o : Option C) → a ≡ in_range o (Ok tt) → y ≡ with_config x (unwrap_or o x.configuration.model) → is_err a ≡ true → y ≡ x
    refused None p q h = q
    refused (Some c) p q h = no_refusal (sym (ap is_err p) ∙ h)

set_motor_current : {C A D : Type 0} (k : Rules C A) (meaning : D → Coils) (did : Did D) (stage : Stage) (n : ℕ) (v : ℤ) (x y : Inner A D C) (a : Answer) (r : Register) (i : CoilId) (which : CurrentSetting) →
    look_up k.lines n ≡ Some r → r.setting ≡ Current i which → is_open r.opened stage ≡ true → Adjusted k.kind meaning i which v x y a → Called k meaning did stage (setting n v) x y a
unfolding set_lived
set_motor_current {C} {A} {D} k meaning did stage n v x y a r i which e is opens t =
    let s : Setting = Current i which in
    let o : Option Register = Some (record { setting = s; opened = r.opened }) in
    called_set k meaning did stage n v x y a o (found_as (look_up k.lines n) r s e is)
    (t.number ∙ ap (λ h. value_answer k.kind s (powered k.kind h) v) (whose i) ∙ sym (cond-true _ _ _ opens))
    (λ j. t.motors j ∙ so j (share k.kind meaning x j) (concerns j s)) t.driver t.refused
  where
    whose : (i : CoilId) → share k.kind meaning x i ≡ set_motor (Current i which) (share k.kind meaning x First) (share k.kind meaning x Second)
    whose First = refl
    whose Second = refl

    so : (j : CoilId) (h : Share C A) (b : Bool) → with_currents h (cond b (adjusted (Current i which) (powered k.kind h) h.currents v) h.currents) ≡ cond b (set_share k.kind stage (Some (record { setting = Current i which; opened = r.opened })) h v) h
    so j h true = same_share (with_currents h (adjusted (Current i which) (powered k.kind h) h.currents v)) (set_share k.kind stage (Some (record { setting = Current i which; opened = r.opened })) h v)
        (sym (either_way (is_open r.opened stage) h.config)) refl (sym (cond-true _ _ _ opens)) refl refl refl refl
    so j h false = refl

-- the same, where the value came through its bits
pub set_this_current : {C A D : Type 0} (k : Rules C A) (meaning : D → Coils) (did : Did D) (stage : Stage) (n : ℕ) (v z : ℤ) (x y : Inner A D C) (a : Answer) (r : Register) (i : CoilId) (which : CurrentSetting) → z ≡ v →
    look_up k.lines n ≡ Some r → r.setting ≡ Current i which → is_open r.opened stage ≡ true → Adjusted k.kind meaning i which z x y a → Called k meaning did stage (setting n v) x y a
set_this_current k meaning did stage n v z x y a r i which same e is opens t =
    let P : ℤ → Type 0 = λ u. Adjusted k.kind meaning i which u x y a in
    set_motor_current k meaning did stage n v x y a r i which e is opens (subst P same t)

-- Both coils are fed, and neither declines.
use Rattle.std.proofs.Common.{◌≡◌, ℕ, Bool, true, false, cond, not, ◌&&◌, eqb, [], ◌∷◌, None, sym, refl, ap, ◌∙◌, subst, arith}
use Rattle.axis.specs.Kinds.{Kind}
use Rattle.axis.specs.Levels.{chosen, levels, no_levels}
use Rattle.coil.specs.Chains.{Did, Tried, on}
use Rattle.coil.specs.Coils.{at, put}
use Rattle.coil.specs.Meaning.{Coil, Coils, declines_feed, fed, tripped}
use Rattle.coil.specs.declared.CoilCall.TheVariants.{Feed}
use Rattle.coil.specs.declared.CoilId.{CoilId}
use Rattle.coil.specs.declared.CoilId.TheVariants.{First, Second}
use Rattle.module.proofs.Turns.{same_share}
use Rattle.module.specs.Called.{Made, Rested, Shared}
use Rattle.module.specs.Share.{born, share, share_of, wanted}
use Rattle.module.specs.declared.inner.Inner.{Inner}
use Rattle.module.specs.declared.motor.Motor.{Motor}
use Rattle.supply.specs.Shares.{granted}
use Rattle.supply.specs.declared.Supply.{Supply}

pub not_declined : (b : Bool) (p : ℕ) → (b ≡ true → p ≡ 0) → b && not (eqb p 0) ≡ false
not_declined true p h = ap (λ n. not (eqb n 0)) (h refl)
not_declined false p h = refl

abbrev refed : Coil → ℕ → Coil
refed c p = record c { points = p }

accepted : {D : Type 0} (meaning : D → Coils) (did : Did D) (i : CoilId) (d e : D) (p : ℕ) → declines_feed (at (meaning d) i).flags p ≡ false →
    meaning e ≡ put (meaning d) i (fed (at (meaning d) i) p) → Tried did (declines_feed (at (meaning d) i).flags p) d (on i (Feed p)) e →
    (meaning e ≡ put (meaning d) i (refed (at (meaning d) i) p)) × did d (on i (Feed p)) e
accepted meaning did i d e p no_decline m t = (
  m ∙ ap (λ b. put (meaning d) i (refed (at (meaning d) i) (cond b (at (meaning d) i).points p))) no_decline,
  subst (λ b. Tried did b d (on i (Feed p)) e) no_decline t,
)

pub fed_both : {C A D : Type 0} (k : Kind C A) (meaning : D → Coils) (did : Did D) (x : Inner A D C) (s : Supply) (e f : D) (p q : ℕ) → ((i : CoilId) → Rested k meaning x i) →
    p ≡ granted First (wanted k (share k meaning x First)) (wanted k (share k meaning x Second)) → q ≡ granted Second (wanted k (share k meaning x First)) (wanted k (share k meaning x Second)) →
    meaning e ≡ put (meaning x.driver) First (fed (at (meaning x.driver) First) p) → Tried did (declines_feed (at (meaning x.driver) First).flags p) x.driver (on First (Feed p)) e →
    meaning f ≡ put (meaning e) Second (fed (at (meaning e) Second) q) → Tried did (declines_feed (at (meaning e) Second).flags q) e (on Second (Feed q)) f →
    Shared k meaning did x (record x { supply = s; driver = f })
fed_both {C} {A} {D} k meaning did x s e f p q rested pe qe m t n u =
    let w : ℕ = wanted k (share k meaning x First) in
    let v : ℕ = wanted k (share k meaning x Second) in
    let first = accepted meaning did First x.driver e p
    (not_declined (tripped (at (meaning x.driver) First).flags) p (λ trip. pe ∙ ap (λ c. chosen c (share k meaning x First).currents) (rested First trip))) m t in
    let two : at (meaning e) Second ≡ at (meaning x.driver) Second = ap (λ (c : Coils). at c Second) first.0 in
    let none : tripped (at (meaning e) Second).flags ≡ true → v ≡ 0 = λ trip. ap (λ c. chosen c (share k meaning x Second).currents) (rested Second (sym (ap (λ c. tripped c.flags) two) ∙ trip)) in
    let second = accepted meaning did Second e f q
    (not_declined (tripped (at (meaning e) Second).flags) q (λ trip. let z = none trip in omega (arith, qe))) n u in
    let coils : meaning f ≡ record { first = refed (meaning x.driver).first p; second = refed (meaning x.driver).second q } = second.0 ∙ ap (λ (c : Coils). put c Second (refed (at c Second) q)) first.0 in
    let y : Inner A D C = record x { supply = s; driver = f } in
    record {
      motors = λ i. elim i as (λ i. share k meaning y i ≡ share k meaning x i) [
        | First ↦ same_share (share k meaning y First) (share k meaning x First) refl refl refl refl refl (ap (λ (c : Coils). c.first.count) coils) (ap (λ (c : Coils). c.first.flags) coils)
        | Second ↦ same_share (share k meaning y Second) (share k meaning x Second) refl refl refl refl refl (ap (λ (c : Coils). c.second.count) coils) (ap (λ (c : Coils). c.second.flags) coils)
      ];
      points = λ i. elim i as (λ i. (at (meaning f) i).points ≡ granted i w v) [ First ↦ ap (λ (c : Coils). c.first.points) coils ∙ pe | Second ↦ ap (λ (c : Coils). c.second.points) coils ∙ qe ];
      driver = (e, (subst (λ z. did x.driver (on First (Feed z)) e) pe first.1, (f, (subst (λ z. did e (on Second (Feed z)) f) qe second.1, refl))));
    }

-- what both are fed, from what both want
pub first_fed : (r : ℕ × ℕ) (a b w v : ℕ) → r ≡ (granted First a b, granted Second a b) → a ≡ w → b ≡ v → r.0 ≡ granted First w v
first_fed r a b w v e x y = ap (λ z. z.0) e ∙ x

pub second_fed : (r : ℕ × ℕ) (a b w v : ℕ) → r ≡ (granted First a b, granted Second a b) → a ≡ w → b ≡ v → r.1 ≡ granted Second w v
second_fed r a b w v e x y = ap (λ z. z.1) e ∙ ap (λ z. granted Second z b) x ∙ ap (λ z. granted Second w z) y

-- a new module
new_motor : {C A : Type 0} (k : Kind C A) (config : C) (m : Motor A) (c b : Coil) → config ≡ k.first_config → m.axis ≡ k.fresh → levels m.currents ≡ no_levels → m.fault ≡ None → c.count ≡ b.count → c.flags ≡ b.flags →
    share_of config m 0 c ≡ born k b
new_motor k config m c b config_is axis currents fault count flags = same_share (share_of config m 0 c) (born k b) config_is axis currents fault refl count flags

pub made : {C A D : Type 0} (k : Kind C A) (meaning : D → Coils) (did : Did D) (d e f : D) (config : C) (a b : Motor A) (s : Supply) → config ≡ k.first_config →
    a.axis ≡ k.fresh → levels a.currents ≡ no_levels → a.fault ≡ None → b.axis ≡ k.fresh → levels b.currents ≡ no_levels → b.fault ≡ None →
    meaning e ≡ put (meaning d) First (fed (at (meaning d) First) 0) → Tried did (declines_feed (at (meaning d) First).flags 0) d (on First (Feed 0)) e →
    meaning f ≡ put (meaning e) Second (fed (at (meaning e) Second) 0) → Tried did (declines_feed (at (meaning e) Second).flags 0) e (on Second (Feed 0)) f →
    Made k meaning did d (record { configuration = record { model = config }; motors = a ∷ b ∷ []; cycles = 0; supply = s; driver = f })
made {C} {A} {D} k meaning did d e f config a b s ce aa ac af ba bc bf m t n u =
    let first = accepted meaning did First d e 0 (not_declined (tripped (at (meaning d) First).flags) 0 (λ _. refl)) m t in
    let second = accepted meaning did Second e f 0 (not_declined (tripped (at (meaning e) Second).flags) 0 (λ _. refl)) n u in
    let coils : meaning f ≡ record { first = refed (meaning d).first 0; second = refed (meaning d).second 0 } = second.0 ∙ ap (λ (c : Coils). put c Second (refed (at c Second) 0)) first.0 in
    let x : Inner A D C = record { configuration = record { model = config }; motors = a ∷ b ∷ []; cycles = 0; supply = s; driver = f } in
    record {
      motors = λ i. elim i as (λ i. share k meaning x i ≡ born k (at (meaning d) i)) [
        | First ↦ new_motor k config a (meaning f).first (meaning d).first ce aa ac af (ap (λ (c : Coils). c.first.count) coils) (ap (λ (c : Coils). c.first.flags) coils)
        | Second ↦ new_motor k config b (meaning f).second (meaning d).second ce ba bc bf (ap (λ (c : Coils). c.second.count) coils) (ap (λ (c : Coils). c.second.flags) coils)
      ];
      points = λ i. elim i as (λ i. (at (meaning f) i).points ≡ 0) [ First ↦ ap (λ (c : Coils). c.first.points) coils | Second ↦ ap (λ (c : Coils). c.second.points) coils ];
      driver = (e, (first.1, (f, (second.1, refl))));
    }

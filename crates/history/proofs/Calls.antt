-- One call of a module, as a step from stand to stand.
use Rattle.std.proofs.Common.{◌≡◌, ℕ, Bool, true, false, cond, eqb, List, [], length, ℤ, is_ok, Some, None, Ok, Err, sym, refl, ap, ◌∙◌, subst}
use Rattle.axis.specs.Kinds.{Kind}
use Rattle.coil.specs.Chains.{Did}
use Rattle.coil.specs.Coils.{at, at_both, both, same_both}
use Rattle.coil.specs.Meaning.{Coils}
use Rattle.coil.specs.declared.CoilId.{CoilId}
use Rattle.coil.specs.declared.CoilId.TheVariants.{First, Second}
use Rattle.history.specs.Lists.{half_told}
use Rattle.history.specs.Ran.{Once}
use Rattle.history.specs.Stands.{first_stand, first_standing, Query, Stand, Standing, coil, given, share_after, stand, stand_after, standing, standing_after, wanted_after}
use Rattle.module.specs.Called.{Called, Filled, Made}
use Rattle.module.specs.Effects.{Answer, Asked, answer, cycle, deed, half, length_answer, outcome, points_after, setting}
use Rattle.module.specs.Share.{Rules, Share, share, wanted}
use Rattle.module.specs.declared.inner.Inner.{Inner}
use Rattle.refusal.specs.declared.Refusal.TheVariants.{AnswerLength, RecordLength}
use Rattle.registers.specs.declared.Stage.{Stage}
use Rattle.registers.specs.declared.Stage.TheVariants.{Running}

pub same_stand : {C A : Type 0} (s t : Stand C A) → s.first.own ≡ t.first.own → s.first.points ≡ t.first.points → s.second.own ≡ t.second.own → s.second.points ≡ t.second.points → s ≡ t
same_stand {C} {A} s t a p b q =
    let make : Share C A → ℕ → Share C A → ℕ → Stand C A = λ h m g n. record { first = record { own = h; points = m }; second = record { own = g; points = n } } in
    ap (λ z. make z s.first.points s.second.own s.second.points) a
    ∙ ap (λ z. make t.first.own z s.second.own s.second.points) p
    ∙ ap (λ z. make t.first.own t.first.points z s.second.points) b
    ∙ ap (λ z. make t.first.own t.first.points t.second.own z) q

-- two modules stand the same where each motor does
same_motors : {C A : Type 0} (f g : CoilId → Standing C A) → ((i : CoilId) → (f i).own ≡ (g i).own) → ((i : CoilId) → (f i).points ≡ (g i).points) → both f ≡ both g
same_motors f g own points = same_stand (both f) (both g) (own First) (points First) (own Second) (points Second)

pub made_stand : {C A D : Type 0} (k : Kind C A) (meaning : D → Coils) (did : Did D) (d : D) (x : Inner A D C) → Made k meaning did d x → stand k meaning x ≡ first_stand k (meaning d)
made_stand k meaning did d x m = same_motors (standing k meaning x) (first_standing k (meaning d)) m.motors m.points

pub called_stand : {C A D : Type 0} (k : Rules C A) (meaning : D → Coils) (did : Did D) (stage : Stage) (a : Asked) (x y : Inner A D C) (r : Answer) → Called k meaning did stage a x y r →
    stand k.kind meaning y ≡ stand_after k (stand k.kind meaning x) (record { stage = stage; asked = a })
called_stand {C} {A} {D} k meaning did stage a x y r c =
    let s : Stand C A = stand k.kind meaning x in
    let q : Query = record { stage = stage; asked = a } in
    let here : (i : CoilId) → standing k.kind meaning x i ≡ at s i = λ i. sym (at_both (standing k.kind meaning x) i) in
    same_motors (standing k.kind meaning y) (standing_after k s q)
    (λ i. c.motors i ∙ ap (λ m. share_after k i m q) (here i))
    (λ i. c.points i
    ∙ ap (λ h. points_after i (at (meaning x.driver) i) (wanted k.kind h) (wanted k.kind (share k.kind meaning y Second)) (deed k.lines stage i a)) (c.motors First)
    ∙ ap (λ h. points_after i (at (meaning x.driver) i) (wanted_after k s First q) (wanted k.kind h) (deed k.lines stage i a)) (c.motors Second)
    ∙ ap (λ m. points_after i (coil m) (wanted_after k s First q) (wanted_after k s Second q) (deed k.lines stage i a)) (here i))

-- a cycle: each half of the answer, where it is accepted
halves_told : {C A D : Type 0} {k : Rules C A} {meaning : D → Coils} {x : Inner A D C} {orders before bytes : List ℕ} (room : ℕ) (r : Answer) (i : CoilId) → r ≡ length_answer (length orders) room → Filled k meaning x orders before bytes r →
    half_told i bytes r ≡ given k.kind i (share k.kind meaning x i) (cycle orders room)
halves_told {C} {A} {D} {k} {meaning} {x} {orders} {before} {bytes} room r i e f = by (eqb (length orders) 16) (eqb room 16) r e (f.halves i)
  where
    by : (a b : Bool) (r : Answer) → r ≡ cond a (cond b (Ok tt) (Err AnswerLength)) (Err RecordLength) → (is_ok r ≡ true → half i bytes ≡ (outcome k.kind (share k.kind meaning x i) (half i orders)).answer) →
        half_told i bytes r ≡ cond a (cond b (Some (outcome k.kind (share k.kind meaning x i) (half i orders)).answer) None) None
    by true true r e h = ap (half_told i bytes) e ∙ ap Some (h (ap is_ok e))
    by true false r e h = ap (half_told i bytes) e
    by false b r e h = ap (half_told i bytes) e

module _ {C A D : Type 0} {k : Rules C A} {meaning : D → Coils} {did : Did D} {x y : Inner A D C} {r : Answer} where
  -- a call that is no cycle
  pub once_plain : {stage : Stage} {a : Asked} → ((i : CoilId) (h : Share C A) → given k.kind i h a ≡ None) → Called k meaning did stage a x y r →
      Once k meaning did x y (record { stage = stage; asked = a }) [] (record { query = record { stage = stage; asked = a }; told = record { number = r; halves = both (λ _. None) }; buffer = [] })
  once_plain {stage} {a} none c = record {
    asked = refl;
    buffer = λ _. refl;
    after = called_stand k meaning did stage a x y r c;
    answer = ap (λ n. record { number = n; halves = both (λ _. None) }) c.number
        ∙ ap (λ z. record { number = answer k stage (share k.kind meaning x First) (share k.kind meaning x Second) a; halves = z }) (same_both (λ _. None) (λ i. given k.kind i (at (stand k.kind meaning x) i).own a) (λ i. sym (none i (at (stand k.kind meaning x) i).own)));
    driver = c.driver;
  }

  -- a setting whose value came through its bits
  pub once_setting : {stage : Stage} {n : ℕ} {v z : ℤ} → z ≡ v → Called k meaning did stage (setting n z) x y r →
      Once k meaning did x y (record { stage = stage; asked = setting n v }) [] (record { query = record { stage = stage; asked = setting n v }; told = record { number = r; halves = both (λ _. None) }; buffer = [] })
  once_setting {stage} {n} e c = once_plain (λ i h. refl) (subst (λ u. Called k meaning did stage (setting n u) x y r) e c)

  once_filled : {orders before bytes : List ℕ} {room : ℕ} → Called k meaning did Running (cycle orders room) x y r → Filled k meaning x orders before bytes r →
      Once k meaning did x y (record { stage = Running; asked = cycle orders room }) before (record { query = record { stage = Running; asked = cycle orders room }; told = record { number = r; halves = both (λ i. half_told i bytes r) }; buffer = bytes })
  once_filled {orders} {before} {bytes} {room} c f =
      let num : Answer = length_answer (length orders) room in
      record {
        asked = refl;
        buffer = f.untouched;
        after = called_stand k meaning did Running (cycle orders room) x y r c;
        answer = ap (λ n. record { number = n; halves = both (λ i. half_told i bytes r) }) c.number
            ∙ ap (λ z. record { number = num; halves = z }) (same_both (λ i. half_told i bytes r) (λ i. given k.kind i (share k.kind meaning x i) (cycle orders room)) (λ i. halves_told room r i c.number f));
        driver = c.driver;
      }

  -- a cycle through the buffers of its entry
  pub once_cycle : {o orders b before bytes final : List ℕ} {room : ℕ} → o ≡ orders → b ≡ before → length before ≡ room → bytes ≡ final → Called k meaning did Running (cycle o (length b)) x y r → Filled k meaning x o b bytes r →
      Once k meaning did x y (record { stage = Running; asked = cycle orders room }) before (record { query = record { stage = Running; asked = cycle orders room }; told = record { number = r; halves = both (λ i. half_told i final r) }; buffer = final })
  once_cycle {o} {orders} {b} {before} {bytes} oe be le fe c f =
      once_filled (subst (λ n. Called k meaning did Running (cycle orders n) x y r) (ap length be ∙ le) (subst (λ z. Called k meaning did Running (cycle z (length b)) x y r) oe c))
      (subst (λ z. Filled k meaning x orders before z r) fe (subst (λ z. Filled k meaning x orders z bytes r) be (subst (λ z. Filled k meaning x z b bytes r) oe f)))

-- Both motors move, one after the other: neither shows in the other's share.
use Rattle.std.proofs.Common.{◌≡◌, ℕ, List, ◌++◌, length, set, Option, sym, refl, ap, ◌∙◌, subst, arith, get_or-set_other}
use Rattle.axis.specs.Kinds.{Kind, Outcome, Rests, moved}
use Rattle.axis.specs.Levels.{Levels, levels}
use Rattle.coil.proofs.Chained.{chain_join}
use Rattle.coil.specs.Chains.{Did}
use Rattle.coil.specs.Coils.{at, at_put, at_put_other, put}
use Rattle.coil.specs.Meaning.{Coils, tripped}
use Rattle.coil.specs.declared.CoilId.{CoilId}
use Rattle.coil.specs.declared.CoilId.TheVariants.{First, Second}
use Rattle.module.proofs.Cuts.{kept, past}
use Rattle.module.specs.Called.{Moved, Rested, Turn}
use Rattle.module.specs.Effects.{half, move_calls, moved_share, next_cycle, outcome}
use Rattle.module.specs.Motors.{latest}
use Rattle.module.specs.Share.{Share, idle, motor_at, place, share}
use Rattle.module.specs.declared.inner.Inner.{Inner}
use Rattle.module.specs.declared.motor.Fault.{Fault}
use Rattle.module.specs.declared.motor.Motor.{Motor}

pub same_share : {C A : Type 0} (h g : Share C A) → h.config ≡ g.config → h.axis ≡ g.axis → h.currents ≡ g.currents → h.fault ≡ g.fault → h.cycles ≡ g.cycles → h.count ≡ g.count → h.flags ≡ g.flags → h ≡ g
same_share {C} {A} h g config axis currents fault cycles count flags = by config axis currents fault cycles count flags
  where
    by : {a a' : C} {b b' : A} {c c' : Levels} {d d' : Option Fault} {e e' f f' x x' : ℕ} → a ≡ a' → b ≡ b' → c ≡ c' → d ≡ d' → e ≡ e' → f ≡ f' → x ≡ x' →
        ◌≡◌ {A = Share C A} (record { config = a; axis = b; currents = c; fault = d; cycles = e; count = f; flags = x }) (record { config = a'; axis = b'; currents = c'; fault = d'; cycles = e'; count = f'; flags = x' })
    by p q r s t u v = cc

-- the share after a turn, whose cycle has its number already
abbrev turned_share : {C A : Type 0} → Kind C A → CoilId → Share C A → List ℕ → Share C A
turned_share k i h orders = record h {
  axis = (outcome k h orders).axis;
  fault = latest i h.cycles (outcome k h orders).ending h.fault;
  count = (outcome k h orders).count;
  flags = (outcome k h orders).flags;
}

pub own_share : {C A D : Type 0} (k : Kind C A) (meaning : D → Coils) (did : Did D) (i : CoilId) (x y : Inner A D C) (orders bytes : List ℕ) →
    Turn k meaning did i x y orders bytes → share k meaning y i ≡ turned_share k i (share k meaning x i) orders
own_share k meaning did i x y orders bytes t =
    let o = outcome k (share k meaning x i) orders in
    let coil : at (meaning y.driver) i ≡ moved (at (meaning x.driver) i) o = ap (λ (m : Coils). at m i) t.turned.coils ∙ at_put (meaning x.driver) i (moved (at (meaning x.driver) i) o) in
    same_share (share k meaning y i) (turned_share k i (share k meaning x i) orders)
    (ap (λ c. c.model) t.configuration) t.turned.axis (ap levels t.turned.currents) t.turned.fault t.cycles (ap (λ c. c.count) coil) (ap (λ c. c.flags) coil)

pub other_motor : {C A : Type 0} (k : Kind C A) (i j : CoilId) (ms : List (Motor A)) (m : Motor A) → (i ≡ j → ⊥) → motor_at k (set ms (place i) m) j ≡ motor_at k ms j
other_motor k First First ms m ne = absurd (ne refl)
other_motor k First Second ms m ne = get_or-set_other ms 0 1 m (idle k) (λ e. absurd (omega arith))
other_motor k Second First ms m ne = get_or-set_other ms 1 0 m (idle k) (λ e. absurd (omega arith))
other_motor k Second Second ms m ne = absurd (ne refl)

pub other_share : {C A D : Type 0} (k : Kind C A) (meaning : D → Coils) (did : Did D) (i j : CoilId) (x y : Inner A D C) (orders bytes : List ℕ) →
    Turn k meaning did i x y orders bytes → (i ≡ j → ⊥) → share k meaning y j ≡ share k meaning x j
other_share k meaning did i j x y orders bytes t ne =
    let m : motor_at k y.motors j ≡ motor_at k x.motors j = ap (λ ms. motor_at k ms j) t.motors ∙ other_motor k i j x.motors (motor_at k y.motors i) ne in
    let c : at (meaning y.driver) j ≡ at (meaning x.driver) j = ap (λ (z : Coils). at z j) t.turned.coils ∙ at_put_other (meaning x.driver) i j _ ne in
    same_share (share k meaning y j) (share k meaning x j)
    (ap (λ z. z.model) t.configuration) (ap (λ z. z.axis) m) (ap (λ z. levels z.currents) m) (ap (λ z. z.fault) m) t.cycles (ap (λ z. z.count) c) (ap (λ z. z.flags) c)

points_turn : {C A D : Type 0} (k : Kind C A) (meaning : D → Coils) (did : Did D) (i j : CoilId) (x y : Inner A D C) (orders bytes : List ℕ) →
    Turn k meaning did i x y orders bytes → (at (meaning y.driver) j).points ≡ (at (meaning x.driver) j).points
points_turn k meaning did i j x y orders bytes t = ap (λ (m : Coils). (at m j).points) t.turned.coils ∙ by (meaning x.driver) i j (outcome k (share k meaning x i) orders)
  where
    by : {A : Type 0} (c : Coils) (i j : CoilId) (o : Outcome A) → (at (put c i (moved (at c i) o)) j).points ≡ (at c j).points
    by c First First o = refl
    by c First Second o = refl
    by c Second First o = refl
    by c Second Second o = refl

-- a module whose next cycle has its number
abbrev pub numbered : {C A D : Type 0} → Inner A D C → Inner A D C
numbered x = record x { cycles = next_cycle x.cycles }

rested_share : {C A D : Type 0} (k : Kind C A) (meaning : D → Coils) (i : CoilId) (h : Share C A) (y : Inner A D C) (orders : List ℕ) → Rests k → share k meaning y i ≡ moved_share k i h orders → Rested k meaning y i
rested_share k meaning i h y orders law e t =
    ap (λ z. k.current z.axis) e ∙ law h.config h.axis (record { count = h.count; flags = h.flags }) orders (sym (ap (λ z. tripped z.flags) e) ∙ t)

both_moved : {C A D : Type 0} (k : Kind C A) (meaning : D → Coils) (did : Did D) (x y z : Inner A D C) (orders a b bytes : List ℕ) → Rests k →
    Turn k meaning did First (numbered x) y (half First orders) a → Turn k meaning did Second y z (half Second orders) b → half First bytes ≡ a → half Second bytes ≡ b →
    Moved k meaning did x z orders bytes
both_moved {C} {A} {D} k meaning did x y z orders a b bytes law t u e f =
    let apart : First ≡ Second → ⊥ = λ q. cc in
    let apart' : Second ≡ First → ⊥ = λ q. cc in
    let still : share k meaning y Second ≡ share k meaning (numbered x) Second = other_share k meaning did First Second (numbered x) y (half First orders) a t apart in
    let one : share k meaning z First ≡ moved_share k First (share k meaning x First) (half First orders) =
    other_share k meaning did Second First y z (half Second orders) b u apart' ∙ own_share k meaning did First (numbered x) y (half First orders) a t in
    let two : share k meaning z Second ≡ moved_share k Second (share k meaning x Second) (half Second orders) =
    own_share k meaning did Second y z (half Second orders) b u ∙ ap (λ h. turned_share k Second h (half Second orders)) still in
    let motors : (i : CoilId) → share k meaning z i ≡ moved_share k i (share k meaning x i) (half i orders) = λ i. elim i as (λ i. share k meaning z i ≡ moved_share k i (share k meaning x i) (half i orders)) [ First ↦ one | Second ↦ two ] in
    record {
      motors = motors;
      points = λ i. points_turn k meaning did Second i y z (half Second orders) b u ∙ points_turn k meaning did First i (numbered x) y (half First orders) a t;
      driver = chain_join did x.driver y.driver z.driver (move_calls k First (share k meaning x First) orders) (move_calls k Second (share k meaning y Second) orders)
          (move_calls k First (share k meaning x First) orders ++ move_calls k Second (share k meaning x Second) orders) t.turned.calls u.turned.calls
          (ap (λ h. move_calls k First (share k meaning x First) orders ++ move_calls k Second h orders) still);
      halves = λ i. elim i as (λ i. half i bytes ≡ (outcome k (share k meaning x i) (half i orders)).answer)
          [ First ↦ e ∙ t.turned.answered | Second ↦ f ∙ u.turned.answered ∙ ap (λ h. (outcome k h (half Second orders)).answer) still ];
      rested = λ i. rested_share k meaning i (share k meaning x i) z (half i orders) law (motors i);
    }

-- two lists of eight bytes, one after the other, are the halves of what they make
halved : (xs ys : List ℕ) → length xs ≡ 8 → (half First (xs ++ ys) ≡ xs) × (half Second (xs ++ ys) ≡ ys)
halved xs ys e = (kept 8 xs ys e, past 8 xs ys e)

-- the same, where record and answer come as halves
pub halves_moved : {C A D : Type 0} (k : Kind C A) (meaning : D → Coils) (did : Did D) (x y z : Inner A D C) (o p a b : List ℕ) → Rests k → length o ≡ 8 → length a ≡ 8 →
    Turn k meaning did First (numbered x) y o a → Turn k meaning did Second y z p b → Moved k meaning did x z (o ++ p) (a ++ b)
halves_moved k meaning did x y z o p a b law n m t u =
    let orders = halved o p n in
    let bytes = halved a b m in
    let P : List ℕ → Type 0 = λ w. Turn k meaning did First (numbered x) y w a in
    let Q : List ℕ → Type 0 = λ w. Turn k meaning did Second y z w b in
    both_moved k meaning did x y z (o ++ p) a b (a ++ b) law (subst P (sym orders.0) t) (subst Q (sym orders.1) u) bytes.0 bytes.1

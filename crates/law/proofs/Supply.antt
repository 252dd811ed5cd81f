-- The supply holds after any list of calls.
use Rattle.std.proofs.Common.{◌≡◌, ℕ, ◌+◌, ◌≤◌, min, Bool, true, false, cond, eqb, ltb, leb, List, [], ◌∷◌, length, ℤ, pos, negsuc, Some, None, Option, sym, refl, ap, ◌∙◌, subst, arith, ltb-true, leb-true}
use Rattle.axis.specs.Kinds.{Kind, Rests}
use Rattle.axis.specs.Levels.{Levels, chosen, is_powered, with_level}
use Rattle.coil.specs.Coils.{at}
use Rattle.coil.specs.Numbers.{number, points_from}
use Rattle.axis.specs.declared.currents.Current.{Current}
use Rattle.axis.specs.declared.currents.Current.TheVariants.{Off, Holding, Nominal, Maximum}
use Rattle.axis.specs.declared.currents.CurrentSetting.{CurrentSetting}
use Rattle.axis.specs.declared.currents.CurrentSetting.TheVariants as setting_of
use Rattle.coil.proofs.Flags.{clear_tripped, report_tripped}
use Rattle.coil.specs.Meaning.{Coil, noted, tripped}
use Rattle.coil.specs.declared.CoilId.{CoilId}
use Rattle.coil.specs.declared.CoilId.TheVariants.{First, Second}
use Rattle.history.specs.Stands.{Query, Stand, Standing, coil, share_after, stand_after, stands, wanted_after}
use Rattle.law.specs.Deeds.{deeds_of, quiet, quiet_after}
use Rattle.module.specs.Effects.{Asked, Deed, acknowledgement, acknowledges, adjusted, after, concerns, currents_after, cycle, deed, half, lives, misses, motor_deed, moves, points_after, report, reports, set_deed, sets, setting, starts, with_points}
use Rattle.module.specs.Share.{Rules, Share, powered, wanted}
use Rattle.registers.specs.Tables.{Line, is_open, look_up}
use Rattle.registers.specs.declared.Register.{Register}
use Rattle.registers.specs.declared.Setting.{Setting}
use Rattle.registers.specs.declared.Setting.TheVariants as place
use Rattle.registers.specs.declared.Stage.{Stage}
use Rattle.std.proofs.lemmas.Bool.{cond_both}
use Rattle.std.specs.List.{cons_option}
use Rattle.supply.specs.Shares.{granted}

-- each current setting is at most 167
pub record Sane (l : Levels) : Type 0 where
  pub holding : l.holding ≤ 167
  pub nominal : l.nominal ≤ 167
  pub maximum : l.maximum ≤ 167

chosen_le : (c : Current) (l : Levels) → Sane l → chosen c l ≤ 167
chosen_le Off l s = omega arith
chosen_le Holding l s = s.holding
chosen_le Nominal l s = s.nominal
chosen_le Maximum l s = s.maximum

sane_level : (l : Levels) (which : CurrentSetting) (n : ℕ) → n ≤ 167 → Sane l → Sane (with_level l which n)
sane_level l setting_of.Holding n h s = record { holding = h; nominal = s.nominal; maximum = s.maximum }
sane_level l setting_of.Nominal n h s = record { holding = s.holding; nominal = h; maximum = s.maximum }
sane_level l setting_of.Maximum n h s = record { holding = s.holding; nominal = s.nominal; maximum = h }

sane_points : (l : Levels) (which : CurrentSetting) (v : ℤ) → Sane l → Sane (with_points l which (points_from v))
sane_points l which (pos n) s = by (leb n 167) refl
  where
    by : (b : Bool) → leb n 167 ≡ b → Sane (with_points l which (cond b (Some n) None))
    by true e = sane_level l which n (leb-true n 167 e) s
    by false e = s
sane_points l which (negsuc n) s = s

sane_adjusted : (t : Setting) (p : Bool) (l : Levels) (v : ℤ) → Sane l → Sane (adjusted t p l v)
sane_adjusted place.Configuration p l v s = s
sane_adjusted (place.Current i which) p l v s = cond_both p l (with_points l which (points_from v)) Sane (λ _. s) (λ _. sane_points l which v s)

sane_set : (stage : Stage) (o : Option Register) (p : Bool) (l : Levels) (v : ℤ) → Sane l → Sane (currents_after stage o p l v)
sane_set stage None p l v s = s
sane_set stage (Some r) p l v s = cond_both (is_open r.opened stage) (adjusted r.setting p l v) l Sane (λ _. sane_adjusted r.setting p l v s) (λ _. s)

sane_after : {C A : Type 0} (k : Rules C A) (i : CoilId) (h : Share C A) (d : Deed) → Sane h.currents → Sane (after k i h d).currents
sane_after k i h (sets stage n v) s = sane_set stage (look_up k.lines n) (powered k.kind h) h.currents v s
sane_after k i h starts s = s
sane_after k i h (moves orders) s = s
sane_after k i h (misses n m) s = s
sane_after k i h (reports f) s = s
sane_after k i h acknowledges s = s

sane_lives : {C A : Type 0} (k : Rules C A) (i : CoilId) (h : Share C A) (o : Option Deed) → Sane h.currents → Sane (lives k i h o).currents
sane_lives k i h None s = s
sane_lives k i h (Some d) s = sane_after k i h d s

-- a setting does not alter what a motor wants
powered_kept : (stage : Stage) (o : Option Register) (l : Levels) (v : ℤ) → currents_after stage o true l v ≡ l
powered_kept stage None l v = refl
powered_kept stage (Some r) l v = cond_both (is_open r.opened stage) (adjusted r.setting true l v) l (λ z. z ≡ l) (λ _. by r.setting) (λ _. refl)
  where
    by : (t : Setting) → adjusted t true l v ≡ l
    by place.Configuration = refl
    by (place.Current i which) = refl

wants_still : (c : Current) (stage : Stage) (o : Option Register) (l : Levels) (v : ℤ) → chosen c (currents_after stage o (is_powered c) l v) ≡ chosen c l
wants_still Off stage o l v = refl
wants_still Holding stage o l v = ap (chosen Holding) (powered_kept stage o l v)
wants_still Nominal stage o l v = ap (chosen Nominal) (powered_kept stage o l v)
wants_still Maximum stage o l v = ap (chosen Maximum) (powered_kept stage o l v)

-- one motor: b says that no report tripped it since the last accepted cycle
pub record Fine {C A : Type 0} (k : Kind C A) (m : Standing C A) (b : Bool) : Type 0 where
  pub sane : Sane m.own.currents
  pub enough : b ≡ true → min 100 (wanted k m.own) ≤ m.points
  pub rests : b ≡ true → tripped m.own.flags ≡ true → wanted k m.own ≡ 0

-- what holds of every kind of axis
pub record Lawful {C A : Type 0} (k : Kind C A) : Type 0 where
  pub starts : k.current k.fresh ≡ Off
  pub rests : Rests k

fine_report : {C A : Type 0} (k : Rules C A) (i : CoilId) (m : Standing C A) (b : Bool) (f w v : ℕ) → Fine k.kind m b →
    Fine k.kind (record { own = after k i m.own (reports f); points = points_after i (coil m) w v (Some (reports f)) }) (quiet_after b (reports f))
fine_report k i m b f w v s = record {
  sane = s.sane;
  enough = enough (ltb f 16) (tripped f) (tripped (noted m.own.flags f)) refl refl refl;
  rests = rests (ltb f 16) (tripped f) refl refl;
}
  where
    want : ℕ
    want = wanted k.kind m.own

    enough : (t u x : Bool) → ltb f 16 ≡ t → tripped f ≡ u → tripped (noted m.own.flags f) ≡ x → cond t (cond u false b) b ≡ true → min 100 want ≤ cond t (cond x 0 m.points) m.points
    enough true true x te ue xe q = cc
    enough true false true te ue xe q = let none : want ≡ 0 = s.rests q (report_tripped m.own.flags f (ltb-true f 16 te) xe ue) in omega (arith, none)
    enough true false false te ue xe q = s.enough q
    enough false u x te ue xe q = s.enough q

    rests : (t u : Bool) → ltb f 16 ≡ t → tripped f ≡ u → cond t (cond u false b) b ≡ true → tripped (cond t (noted m.own.flags f) m.own.flags) ≡ true → want ≡ 0
    rests true true te ue q y = cc
    rests true false te ue q y = s.rests q (report_tripped m.own.flags f (ltb-true f 16 te) y ue)
    rests false u te ue q y = s.rests q y

fine_after : {C A : Type 0} (k : Rules C A) (i : CoilId) (m : Standing C A) (b : Bool) (d : Deed) (w v : ℕ) → Rests k.kind → Fine k.kind m b → min 100 (wanted k.kind (after k i m.own d)) ≤ granted i w v →
    Fine k.kind (record { own = after k i m.own d; points = points_after i (coil m) w v (Some d) }) (quiet_after b d)
fine_after k i m b (sets stage n x) w v law s g =
    let same : wanted k.kind (after k i m.own (sets stage n x)) ≡ wanted k.kind m.own = wants_still (k.kind.current m.own.axis) stage (look_up k.lines n) m.own.currents x in
    record {
      sane = sane_after k i m.own (sets stage n x) s.sane;
      enough = λ q. subst (λ z. min 100 z ≤ m.points) (sym same) (s.enough q);
      rests = λ q t. same ∙ s.rests q t;
    }
fine_after k i m b starts w v law s g = s
fine_after k i m b (moves orders) w v law s g = record {
  sane = s.sane;
  enough = λ _. g;
  rests = λ _ t. ap (λ c. chosen c m.own.currents) (law m.own.config m.own.axis (record { count = m.own.count; flags = m.own.flags }) orders t);
}
fine_after k i m b (misses n l) w v law s g = s
fine_after k i m b (reports f) w v law s g = fine_report k i m b f w v s
fine_after k i m b acknowledges w v law s g = record { sane = s.sane; enough = s.enough; rests = λ q t. s.rests q (clear_tripped m.own.flags t) }

abbrev calmed : Bool → Option Deed → Bool
calmed b None = b
calmed b (Some d) = quiet_after b d

fine_lives : {C A : Type 0} (k : Rules C A) (i : CoilId) (m : Standing C A) (b : Bool) (o : Option Deed) (w v : ℕ) → Rests k.kind → Fine k.kind m b → min 100 (wanted k.kind (lives k i m.own o)) ≤ granted i w v →
    Fine k.kind (record { own = lives k i m.own o; points = points_after i (coil m) w v o }) (calmed b o)
fine_lives k i m b None w v law s g = s
fine_lives k i m b (Some d) w v law s g = fine_after k i m b d w v law s g

-- the points of both coils together
less : (i : CoilId) (c : Coil) (w v : ℕ) (t : Bool) (d : Deed) → points_after i c w v (Some d) ≤ c.points → points_after i c w v (cond t (Some d) None) ≤ c.points
less i c w v t d h = cond_both t (Some d) None (λ o. points_after i c w v o ≤ c.points) (λ _. h) (λ _. omega arith)

less_set : (i : CoilId) (c : Coil) (w v : ℕ) (stage : Stage) (o : Option Register) (n : ℕ) (x : ℤ) → points_after i c w v (set_deed i stage o n x) ≤ c.points
less_set i c w v stage None n x = omega arith
less_set i c w v stage (Some r) n x = less i c w v (concerns i r.setting) (sets stage n x) (omega arith)

less_report : (i : CoilId) (c : Coil) (w v n f : ℕ) → points_after i c w v (motor_deed i n (reports f)) ≤ c.points
less_report i c w v n f = less i c w v (eqb n (number i)) (reports f)
    (cond_both (ltb f 16) (cond (tripped (noted c.flags f)) 0 c.points) c.points (λ p. p ≤ c.points) (λ _. cond_both (tripped (noted c.flags f)) 0 c.points (λ p. p ≤ c.points) (λ _. omega arith) (λ _. omega arith)) (λ _. omega arith))

less_acknowledge : (i : CoilId) (c : Coil) (w v n : ℕ) → points_after i c w v (motor_deed i n acknowledges) ≤ c.points
less_acknowledge i c w v n = less i c w v (eqb n (number i)) acknowledges (omega arith)

together_cycle : (c e : Coil) (w v : ℕ) (a b : Bool) (n room : ℕ) (x y : List ℕ) → c.points + e.points ≤ 267 → granted First w v + granted Second w v ≤ 267 →
    points_after First c w v (Some (cond a (cond b (moves x) (misses n room)) (misses n room))) + points_after Second e w v (Some (cond a (cond b (moves y) (misses n room)) (misses n room))) ≤ 267
together_cycle c e w v true true n room x y h g = g
together_cycle c e w v true false n room x y h g = h
together_cycle c e w v false b n room x y h g = h

together_after : (lines : List Line) (stage : Stage) (a : Asked) (c e : Coil) (w v : ℕ) → c.points + e.points ≤ 267 → granted First w v + granted Second w v ≤ 267 →
    points_after First c w v (deed lines stage First a) + points_after Second e w v (deed lines stage Second a) ≤ 267
together_after lines stage (setting n x) c e w v h g = omega (arith, less_set First c w v stage (look_up lines n) n x, less_set Second e w v stage (look_up lines n) n x)
together_after lines stage (cycle orders room) c e w v h g = together_cycle c e w v (eqb (length orders) 16) (eqb room 16) (length orders) room (half First orders) (half Second orders) h g
together_after lines stage (report n f) c e w v h g = omega (arith, less_report First c w v n f, less_report Second e w v n f)
together_after lines stage (acknowledgement n) c e w v h g = omega (arith, less_acknowledge First c w v n, less_acknowledge Second e w v n)

grants : (w v : ℕ) → w ≤ 167 → v ≤ 167 → (min 100 w ≤ granted First w v) × (min 100 v ≤ granted Second w v) × (granted First w v + granted Second w v ≤ 267)
grants w v x y = (omega arith, omega arith, omega arith)

-- both motors and the supply: calm says of each motor that no report tripped it since the last accepted cycle
pub record AllFine {C A : Type 0} (k : Kind C A) (s : Stand C A) (calm : CoilId → Bool) : Type 0 where
  pub each : (i : CoilId) → Fine k (at s i) (calm i)
  pub together : s.first.points + s.second.points ≤ 267

all_after : {C A : Type 0} (k : Rules C A) (s : Stand C A) (calm : CoilId → Bool) (q : Query) → Rests k.kind → AllFine k.kind s calm →
    AllFine k.kind (stand_after k s q) (λ i. calmed (calm i) (deed k.lines q.stage i q.asked))
all_after {C} {A} k s calm q law f =
    let o : CoilId → Option Deed = λ i. deed k.lines q.stage i q.asked in
    let want : (i : CoilId) → wanted_after k s i q ≤ 167 = λ i. chosen_le (k.kind.current (share_after k i (at s i) q).axis) (share_after k i (at s i) q).currents (sane_lives k i (at s i).own (o i) (f.each i).sane) in
    let z = grants (wanted_after k s First q) (wanted_after k s Second q) (want First) (want Second) in
    record {
      each = λ i. elim i as (λ i. Fine k.kind (at (stand_after k s q) i) (calmed (calm i) (o i))) [
        | First ↦ fine_lives k First s.first (calm First) (o First) (wanted_after k s First q) (wanted_after k s Second q) law (f.each First) z.0
        | Second ↦ fine_lives k Second s.second (calm Second) (o Second) (wanted_after k s First q) (wanted_after k s Second q) law (f.each Second) z.1
      ];
      together = together_after k.lines q.stage q.asked (coil s.first) (coil s.second) (wanted_after k s First q) (wanted_after k s Second q) f.together z.2;
    }

quiet_more : (b : Bool) (o : Option Deed) (ds : List Deed) → quiet (calmed b o) ds ≡ quiet b (cons_option o ds)
quiet_more b None ds = refl
quiet_more b (Some d) ds = refl

-- after any list of calls
pub all_fine : {C A : Type 0} (k : Rules C A) (s : Stand C A) (calm : CoilId → Bool) (qs : List Query) → Rests k.kind → AllFine k.kind s calm → AllFine k.kind (stands k s qs) (λ i. quiet (calm i) (deeds_of k.lines i qs))
all_fine k s calm [] law f = f
all_fine {C} {A} k s calm (q ∷ qs) law f =
    let o : CoilId → Option Deed = λ i. deed k.lines q.stage i q.asked in
    let t : Stand C A = stands k (stand_after k s q) qs in
    let more : AllFine k.kind t (λ i. quiet (calmed (calm i) (o i)) (deeds_of k.lines i qs)) = all_fine k (stand_after k s q) (λ i. calmed (calm i) (o i)) qs law (all_after k s calm q law f) in
    record {
      each = λ i. subst (Fine k.kind (at t i)) (quiet_more (calm i) (o i) (deeds_of k.lines i qs)) (more.each i);
      together = more.together;
    }

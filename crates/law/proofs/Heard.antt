-- What one motor hears and how it stands follows from what was done to it alone.
use Rattle.std.proofs.Common.{◌≡◌, ℕ, Bool, true, false, cond, eqb, List, [], ◌∷◌, ◌++◌, length, ℤ, Some, None, Ok, Err, Option, sym, refl, ap, ◌∙◌}
use Rattle.coil.proofs.Numbered.{by_same_number}
use Rattle.coil.specs.Coils.{at, at_both}
use Rattle.coil.specs.Numbers.{number}
use Rattle.coil.specs.declared.CoilId.{CoilId}
use Rattle.coil.specs.declared.CoilId.TheVariants.{First, Second}
use Rattle.history.specs.Stands.{Query, Stand, given, stand_after, standing_after, stands, tells, told}
use Rattle.law.specs.Deeds.{Reply, deeds_of, ending, heard, heard_one, replies, reply, reply_to}
use Rattle.module.specs.Effects.{Answer, Asked, Deed, acknowledgement, acknowledges, addressee, after, answer, concerns, cycle, cycle_deed, deed, flags_answer, half, length_answer, lives, misses, motor_answer, motor_deed, moves, outcome, report, reports, set_deed, set_motor, sets, setting, setting_answer, starts, value_answer}
use Rattle.module.specs.Share.{Rules, Share, powered}
use Rattle.refusal.specs.declared.Refusal.TheVariants.{AnswerLength, Closed, RecordLength, UnknownMotor}
use Rattle.registers.specs.Tables.{is_open, look_up}
use Rattle.registers.specs.declared.Register.{Register}
use Rattle.registers.specs.declared.Setting.{Setting}
use Rattle.registers.specs.declared.Setting.TheVariants.{Configuration, Current}
use Rattle.registers.specs.declared.Stage.{Stage}
use Rattle.std.specs.List.{cons_option}

own_after : {C A : Type 0} (k : Rules C A) (i : CoilId) (s : Stand C A) (q : Query) → (at (stand_after k s q) i).own ≡ lives k i (at s i).own (deed k.lines q.stage i q.asked)
own_after k i s q = ap (λ m. m.own) (at_both (standing_after k s q) i)

ending_more : {C A : Type 0} (k : Rules C A) (i : CoilId) (h : Share C A) (o : Option Deed) (ds : List Deed) → ending k i (lives k i h o) ds ≡ ending k i h (cons_option o ds)
ending_more k i h None ds = refl
ending_more k i h (Some d) ds = refl

-- the motor i stands as its own deeds make it
pub own_stands : {C A : Type 0} (k : Rules C A) (i : CoilId) (s : Stand C A) (qs : List Query) → (at (stands k s qs) i).own ≡ ending k i (at s i).own (deeds_of k.lines i qs)
own_stands k i s [] = refl
own_stands k i s (q ∷ qs) =
    own_stands k i (stand_after k s q) qs
    ∙ ap (λ h. ending k i h (deeds_of k.lines i qs)) (own_after k i s q)
    ∙ ending_more k i (at s i).own (deed k.lines q.stage i q.asked) (deeds_of k.lines i qs)

-- what is told of a call to the motor that it concerns
abbrev once : {C A : Type 0} → Rules C A → Share C A → Option Deed → List Reply → List Reply
once k h None rs = rs
once k h (Some d) rs = reply k h d rs

replies_more : {C A : Type 0} (k : Rules C A) (i : CoilId) (h : Share C A) (o : Option Deed) (ds : List Deed) → once k h o (replies k i (lives k i h o) ds) ≡ replies k i h (cons_option o ds)
replies_more k i h None ds = refl
replies_more k i h (Some d) ds = refl

heard_setting : {C A : Type 0} (k : Rules C A) (i : CoilId) (s : Stand C A) (stage : Stage) (n : ℕ) (v : ℤ) (rs : List Reply) (o : Option Register) → look_up k.lines n ≡ o →
    heard_one (set_deed i stage o n v) (record { number = setting_answer k.kind stage o (powered k.kind (addressee o s.first.own s.second.own)) v; bytes = None }) rs ≡ once k (at s i).own (set_deed i stage o n v) rs
heard_setting k i s stage n v rs None e = refl
heard_setting {C} {A} k i s stage n v rs (Some r) e = by i r.setting (ap (λ p. setting_answer k.kind stage p (powered k.kind (at s i).own) v) e)
  where
    by : (i : CoilId) (t : Setting) → setting_answer k.kind stage (look_up k.lines n) (powered k.kind (at s i).own) v ≡ cond (is_open r.opened stage) (value_answer k.kind t (powered k.kind (at s i).own) v) (Err Closed) →
        heard_one (cond (concerns i t) (Some (sets stage n v)) None) (record { number = cond (is_open r.opened stage) (value_answer k.kind t (powered k.kind (set_motor t s.first.own s.second.own)) v) (Err Closed); bytes = None }) rs
        ≡ once k (at s i).own (cond (concerns i t) (Some (sets stage n v)) None) rs
    by i Configuration q = ap (λ z. record { number = z; bytes = None } ∷ rs) (sym q)
    by First (Current First which) q = ap (λ z. record { number = z; bytes = None } ∷ rs) (sym q)
    by First (Current Second which) q = refl
    by Second (Current First which) q = refl
    by Second (Current Second which) q = ap (λ z. record { number = z; bytes = None } ∷ rs) (sym q)

heard_cycle : {C A : Type 0} (k : Rules C A) (i : CoilId) (h : Share C A) (orders : List ℕ) (room : ℕ) (rs : List Reply) →
    record { number = length_answer (length orders) room; bytes = given k.kind i h (cycle orders room) } ∷ rs ≡ reply k h (cycle_deed i orders room) rs
heard_cycle k i h orders room rs = by (eqb (length orders) 16) (eqb room 16) refl
  where
    by : (a b : Bool) → length_answer (length orders) room ≡ cond a (cond b (Ok tt) (Err AnswerLength)) (Err RecordLength) →
        record { number = cond a (cond b (Ok tt) (Err AnswerLength)) (Err RecordLength); bytes = cond a (cond b (Some (outcome k.kind h (half i orders)).answer) None) None } ∷ rs
        ≡ reply k h (cond a (cond b (moves (half i orders)) (misses (length orders) room)) (misses (length orders) room)) rs
    by true true e = refl
    by true false e = ap (λ n. record { number = n; bytes = None } ∷ rs) (sym e)
    by false b e = ap (λ n. record { number = n; bytes = None } ∷ rs) (sym e)

-- a call of the motor with a number
heard_motor : {C A : Type 0} (k : Rules C A) (i : CoilId) (h : Share C A) (n : ℕ) (d : Deed) (r : Answer) (rs : List Reply) → record { number = r; bytes = None } ∷ rs ≡ reply k h d rs →
    heard_one (motor_deed i n d) (record { number = motor_answer n r; bytes = None }) rs ≡ once k h (motor_deed i n d) rs
heard_motor k i h n d r rs e = by (eqb n (number i)) refl
  where
    by : (t : Bool) → eqb n (number i) ≡ t → heard_one (cond t (Some d) None) (record { number = motor_answer n r; bytes = None }) rs ≡ once k h (cond t (Some d) None) rs
    by true p = ap (λ z. record { number = z; bytes = None } ∷ rs) (by_same_number n i (λ _. r) (Err UnknownMotor) p) ∙ e
    by false p = refl

told_to : {C A : Type 0} (k : Rules C A) (i : CoilId) (s : Stand C A) (q : Query) → reply_to i (told k s q) ≡ record { number = answer k q.stage s.first.own s.second.own q.asked; bytes = given k.kind i (at s i).own q.asked }
told_to k i s q = ap (λ b. record { number = answer k q.stage s.first.own s.second.own q.asked; bytes = b }) (at_both (λ j. given k.kind j (at s j).own q.asked) i)

heard_call : {C A : Type 0} (k : Rules C A) (i : CoilId) (s : Stand C A) (stage : Stage) (a : Asked) (rs : List Reply) →
    heard_one (deed k.lines stage i a) (record { number = answer k stage s.first.own s.second.own a; bytes = given k.kind i (at s i).own a }) rs ≡ once k (at s i).own (deed k.lines stage i a) rs
heard_call k i s stage (setting n v) rs = heard_setting k i s stage n v rs (look_up k.lines n) refl
heard_call k i s stage (cycle orders room) rs = heard_cycle k i (at s i).own orders room rs
heard_call k i s stage (report n f) rs = heard_motor k i (at s i).own n (reports f) (flags_answer f) rs refl
heard_call k i s stage (acknowledgement n) rs = heard_motor k i (at s i).own n acknowledges (Ok tt) rs refl

-- the motor i hears what its own deeds make it answer
pub heard_tells : {C A : Type 0} (k : Rules C A) (i : CoilId) (s : Stand C A) (qs : List Query) → heard k.lines i qs (tells k s qs) ≡ replies k i (at s i).own (deeds_of k.lines i qs)
heard_tells k i s [] = refl
heard_tells {C} {A} k i s (q ∷ qs) =
    let o : Option Deed = deed k.lines q.stage i q.asked in
    let h : Share C A = (at s i).own in
    ap (λ rs. heard_one o (reply_to i (told k s q)) rs) (heard_tells k i (stand_after k s q) qs ∙ ap (λ g. replies k i g (deeds_of k.lines i qs)) (own_after k i s q))
    ∙ ap (λ r. heard_one o r (replies k i (lives k i h o) (deeds_of k.lines i qs))) (told_to k i s q)
    ∙ heard_call k i s q.stage q.asked (replies k i (lives k i h o) (deeds_of k.lines i qs))
    ∙ replies_more k i h o (deeds_of k.lines i qs)

-- the start in between has no reply
pub replies_start : {C A : Type 0} (k : Rules C A) (i : CoilId) (h : Share C A) (xs ys : List Deed) → replies k i h (xs ++ starts ∷ ys) ≡ replies k i h (xs ++ ys)
replies_start k i h [] ys = refl
replies_start k i h (a ∷ xs) ys = ap (reply k h a) (replies_start k i (after k i h a) xs ys)

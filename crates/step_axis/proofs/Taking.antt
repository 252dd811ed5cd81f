-- The words of a cycle, taken one after the other.
use Rattle.std.proofs.Common.{◌≡◌, ℕ, zero, suc, ◌+◌, ◌*◌, ◌^◌, ◌<◌, Bool, true, false, cond, not, ◌&&◌, ◌||◌, eqb, List, [], ◌∷◌, ◌++◌, map, length, get_or, ℤ, pos, ◌+ℤ◌, ◌*ℤ◌, neg_ℤ, ◌≤ℤ◌, Ok, Err, Result, sym, refl, ap, ◌∙◌, subst, arith, lit<}
use Rattle.std.proofs.Math.Bool.{or-false}
use Rattle.std.proofs.lemmas.Bool.{and_right, or_left, or_right}
use Rattle.std.proofs.lemmas.List.Elements.{filter-append}
use Rattle.std.proofs.lemmas.List.Folds.{list_any-append}
use Rattle.std.proofs.lemmas.List.{length-append, map-append}
use Rattle.std.specs.List.{filter}
use Rattle.std.proofs.lemmas.Int.{ints}
use Rattle.std.specs.Result.{MatchResult, is_ok, result_unwrap_or}
use Rattle.axis.specs.Levels.{is_powered}
use Rattle.axis.specs.declared.AxisFault.{AxisFault}
use Rattle.axis.specs.declared.AxisFault.TheVariants as fault
use Rattle.coil.proofs.Chained.{chain_join}
use Rattle.coil.proofs.Wraps.{modulo_onto, modulo_still}
use Rattle.coil.specs.Chains.{Chain, Did, Tried, on}
use Rattle.coil.specs.Coils.{at, at_put, put, put_put, put_same}
use Rattle.coil.specs.Meaning.{Coil, Coils, answered, tripped, with_count}
use Rattle.coil.specs.Modulo.{modulo}
use Rattle.coil.specs.declared.CoilCall.TheVariants.{Advance}
use Rattle.coil.specs.declared.CoilFault.{CoilFault}
use Rattle.coil.specs.declared.CoilFault.TheVariants.{Tripped}
use Rattle.coil.specs.declared.CoilId.{CoilId}
use Rattle.coil.specs.declared.DriverCall.{DriverCall}
use Rattle.step_axis.specs.Taken.{Took, advances, count_after, declined, code_after, ending, steps_taken, taken, taking}
use Rattle.step_axis.specs.Words.{code, field, steps, word, words}

add_none : (z : ℤ) → z +ℤ pos 0 ≡ z
add_none z = omega (arith, ints)

times : (z : ℤ) (s : ℕ) → z ≡ pos 0 → z *ℤ pos s ≡ pos 0
times z s e = ap (λ x. x *ℤ pos s) e ∙ none s
  where
    none : (s : ℕ) → pos 0 *ℤ pos s ≡ pos 0
    none s = omega (arith, ints)

pub is_declined : (b : Bool) (f : ℕ) (r : Result (Unit {0}) CoilFault) (e : CoilFault) → r ≡ answered b f → r ≡ Err e → b ≡ true
is_declined true f r e a h = refl
is_declined false f r e a h = cc

pub not_taken_off : (f w : ℕ) → is_powered (code w) ≡ false → taken f w ≡ false
not_taken_off f w p = ap (λ b. b && not (tripped f)) p

pub not_taken_tripped : (f w : ℕ) → tripped f ≡ true → taken f w ≡ false
not_taken_tripped f w t = and_right (is_powered (code w)) (not (tripped f)) (ap not t)

-- words of which none is taken leave the driver as it is
pub took_nothing : {D : Type 0} (meaning : D → Coils) (did : Did D) (i : CoilId) (s : ℕ) (ws : List ℕ) (d : D) →
    (at (meaning d) i).count < 2 ^ 32 → steps_taken (at (meaning d) i).flags ws ≡ pos 0 → advances (at (meaning d) i).flags s ws ≡ [] → Took meaning did i s ws d d
took_nothing meaning did i s ws d n sum none = record {
  coils = sym (put_same (meaning d) i) ∙ ap (λ c. put (meaning d) i (with_count (at (meaning d) i) c)) (sym (modulo_still (2 ^ 32) (at (meaning d) i).count (steps_taken (at (meaning d) i).flags ws *ℤ pos s) n (times (steps_taken (at (meaning d) i).flags ws) s sum)));
  calls = subst (λ cs. Chain did d (map (on i) cs) d) (sym none) refl;
}

pub took_not : {D : Type 0} (meaning : D → Coils) (did : Did D) (i : CoilId) (s w : ℕ) (d : D) →
    (at (meaning d) i).count < 2 ^ 32 → taken (at (meaning d) i).flags w ≡ false → Took meaning did i s (w ∷ []) d d
took_not meaning did i s w d n e =
    took_nothing meaning did i s (w ∷ []) d n (ap (λ t. cond t (steps w) (pos 0) +ℤ pos 0) e) (ap (λ t. map (λ v. Advance (steps v *ℤ pos s)) (cond t (w ∷ []) [])) e)

-- a word that the coil declines
pub took_declined : {D : Type 0} (meaning : D → Coils) (did : Did D) (i : CoilId) (s w : ℕ) (d d' : D) (call : DriverCall) →
    (at (meaning d) i).count < 2 ^ 32 → tripped (at (meaning d) i).flags ≡ true → Tried did (tripped (at (meaning d) i).flags) d call d' → Took meaning did i s (w ∷ []) d d'
took_declined {D} meaning did i s w d d' call n t c =
    let same : d' ≡ d = subst (λ b. Tried did b d call d') t c in
    let P : D → Type 0 = λ e. Took meaning did i s (w ∷ []) d e in
    subst P (sym same) (took_not meaning did i s w d n (not_taken_tripped (at (meaning d) i).flags w t))

-- sums, calls and declines over two lists of words
steps_append : (f : ℕ) (ws vs : List ℕ) → steps_taken f (ws ++ vs) ≡ steps_taken f ws +ℤ steps_taken f vs
steps_append f [] vs = omega (arith, ints)
steps_append f (w ∷ ws) vs = omega (arith, ints, steps_append f ws vs)

advances_append : (f s : ℕ) (ws vs : List ℕ) → advances f s (ws ++ vs) ≡ advances f s ws ++ advances f s vs
advances_append f s ws vs = ap (map (λ w. Advance (steps w *ℤ pos s))) (filter-append (taken f) ws vs) ∙ map-append (λ w. Advance (steps w *ℤ pos s)) (filter (taken f) ws) (filter (taken f) vs)

declined_append : (f : ℕ) (ws vs : List ℕ) → declined f (ws ++ vs) ≡ declined f ws || declined f vs
declined_append f ws vs = list_any-append (λ w. is_powered (code w) && tripped f) ws vs

-- a tripped coil takes no word
pub none_tripped : (f : ℕ) (ws : List ℕ) → tripped f ≡ true → steps_taken f ws ≡ pos 0
none_tripped f [] t = refl
none_tripped f (w ∷ ws) t = ap (λ b. cond b (steps w) (pos 0) +ℤ steps_taken f ws) (not_taken_tripped f w t) ∙ ap (λ z. pos 0 +ℤ z) (none_tripped f ws t)

pub no_calls_tripped : (f s : ℕ) (ws : List ℕ) → tripped f ≡ true → advances f s ws ≡ []
no_calls_tripped f s [] t = refl
no_calls_tripped f s (w ∷ ws) t = ap (λ b. map (λ v. Advance (steps v *ℤ pos s)) (cond b (w ∷ filter (taken f) ws) (filter (taken f) ws))) (not_taken_tripped f w t) ∙ no_calls_tripped f s ws t

once_more : (z : ℤ) (s : ℕ) → z *ℤ pos (suc s) ≡ z *ℤ pos s +ℤ z
once_more z s = omega (arith, ints)

none_times : (z : ℤ) → z *ℤ pos 0 ≡ pos 0
none_times z = omega (arith, ints)

scaled_sum : (a b : ℤ) (s : ℕ) → (a +ℤ b) *ℤ pos s ≡ a *ℤ pos s +ℤ b *ℤ pos s
scaled_sum a b zero = omega (arith, ints, none_times a, none_times b, none_times (a +ℤ b))
scaled_sum a b (suc s) = once_more (a +ℤ b) s ∙ rearranged ((a +ℤ b) *ℤ pos s) (a *ℤ pos s) (b *ℤ pos s) a b (scaled_sum a b s) ∙ ap (λ x. x +ℤ (b *ℤ pos s +ℤ b)) (sym (once_more a s)) ∙ ap (λ x. a *ℤ pos (suc s) +ℤ x) (sym (once_more b s))
  where
    rearranged : (x y z a b : ℤ) → x ≡ y +ℤ z → x +ℤ (a +ℤ b) ≡ (y +ℤ a) +ℤ (z +ℤ b)
    rearranged x y z a b e = omega (arith, ints)

-- words taken after words taken
pub took_append : {D : Type 0} (meaning : D → Coils) (did : Did D) (i : CoilId) (s : ℕ) (ws vs : List ℕ) (d e g : D) →
    Took meaning did i s ws d e → Took meaning did i s vs e g → Took meaning did i s (ws ++ vs) d g
took_append meaning did i s ws vs d e g p q =
    let c : Coil = at (meaning d) i in
    let n : ℕ = count_after c.count c.flags s ws in
    let mid : at (meaning e) i ≡ with_count c n = ap (λ (m : Coils). at m i) p.coils ∙ at_put (meaning d) i (with_count c n) in
    let same : (at (meaning e) i).flags ≡ c.flags = ap (λ x. x.flags) mid in
    let total : pos c.count +ℤ steps_taken c.flags ws *ℤ pos s +ℤ steps_taken c.flags vs *ℤ pos s ≡ pos c.count +ℤ steps_taken c.flags (ws ++ vs) *ℤ pos s =
    omega (arith, ints, scaled_sum (steps_taken c.flags ws) (steps_taken c.flags vs) s, ap (λ z. z *ℤ pos s) (steps_append c.flags ws vs)) in
    let counts : count_after n c.flags s vs ≡ count_after c.count c.flags s (ws ++ vs) =
    modulo_onto (2 ^ 32) (pos c.count +ℤ steps_taken c.flags ws *ℤ pos s) (steps_taken c.flags vs *ℤ pos s) (lit< tt) ∙ ap (modulo (2 ^ 32)) total in
    record {
      coils = q.coils
          ∙ ap (λ x. put (meaning e) i (with_count x (count_after x.count x.flags s vs))) mid
          ∙ ap (λ (m : Coils). put m i (with_count c (count_after n c.flags s vs))) p.coils
          ∙ put_put (meaning d) i (with_count c n) (with_count c (count_after n c.flags s vs))
          ∙ ap (λ x. put (meaning d) i (with_count c x)) counts;
      calls = chain_join did d e g (map (on i) (advances c.flags s ws)) (map (on i) (advances (at (meaning e) i).flags s vs)) (map (on i) (advances c.flags s (ws ++ vs))) p.calls q.calls
          (ap (λ f. map (on i) (advances c.flags s ws) ++ map (on i) (advances f s vs)) same ∙ sym (map-append (on i) (advances c.flags s ws) (advances c.flags s vs)) ∙ ap (map (on i)) (sym (advances_append c.flags s ws vs)));
    }

-- the words ws have been taken, and none was declined
pub record SoFar {D : Type 0} (meaning : D → Coils) (did : Did D) (i : CoilId) (s : ℕ) (ws : List ℕ) (d d' : D) (sum : ℤ) : Type 0 where
  pub took : Took meaning did i s ws d d'
  pub total : sum ≡ steps_taken (at (meaning d) i).flags ws
  pub none : declined (at (meaning d) i).flags ws ≡ false
  pub low : neg_ℤ (pos (8191 * length ws)) ≤ℤ sum
  pub high : sum ≤ℤ pos (8191 * length ws)

pub so_none : {D : Type 0} (meaning : D → Coils) (did : Did D) (i : CoilId) (s : ℕ) (d : D) → (at (meaning d) i).count < 2 ^ 32 → SoFar meaning did i s [] d d (pos 0)
so_none meaning did i s d n = record { took = took_nothing meaning did i s [] d n refl refl; total = refl; none = refl; low = omega (arith, ints); high = omega (arith, ints) }

took_flags : {D : Type 0} (meaning : D → Coils) (did : Did D) (i : CoilId) (s : ℕ) (ws : List ℕ) (d e : D) → Took meaning did i s ws d e → (at (meaning e) i).flags ≡ (at (meaning d) i).flags
took_flags meaning did i s ws d e p =
    let c : Coil = at (meaning d) i in
    ap (λ (m : Coils). (at m i).flags) p.coils ∙ ap (λ x. x.flags) (at_put (meaning d) i (with_count c (count_after c.count c.flags s ws)))

-- what the end of a taking says
ended_well : (f : ℕ) (ws : List ℕ) (z : ℤ) → Ok z ≡ taking f ws → (declined f ws ≡ false) × (z ≡ steps_taken f ws)
ended_well f ws z r = by (declined f ws) (steps_taken f ws) r
  where
    by : (b : Bool) (x : ℤ) → Ok z ≡ cond b (Err (fault.Coil (Tripped f))) (Ok x) → (b ≡ false) × (z ≡ x)
    by true x e = cc
    by false x e = (refl, cc)

ended_ill : (f : ℕ) (ws : List ℕ) (t : AxisFault) → Err t ≡ taking f ws → (declined f ws ≡ true) × (t ≡ fault.Coil (Tripped f))
ended_ill f ws t r = by (declined f ws) (steps_taken f ws) r
  where
    by : (b : Bool) (x : ℤ) → Err t ≡ cond b (Err (fault.Coil (Tripped f))) (Ok x) → (b ≡ true) × (t ≡ fault.Coil (Tripped f))
    by true x e = (refl, cc)
    by false x e = cc

only_tripped : (f : ℕ) (ws : List ℕ) → declined f ws ≡ true → tripped f ≡ true
only_tripped f [] e = cc
only_tripped f (w ∷ ws) e = by (is_powered (code w)) (tripped f) (declined f ws) e (only_tripped f ws)
  where
    by : (a b c : Bool) → a && b || c ≡ true → (c ≡ true → b ≡ true) → b ≡ true
    by true true c h rest = refl
    by true false c h rest = rest h
    by false b c h rest = rest h

-- a decline among the words declines them all
declined_there : (f : ℕ) (ws : List ℕ) (n : ℕ) → n < length ws → declined f (get_or ws n 0 ∷ []) ≡ true → declined f ws ≡ true
declined_there f [] n h e = absurd (omega arith)
declined_there f (w ∷ ws) zero h e = or_left _ _ (sym (or-false (is_powered (code w) && tripped f)) ∙ e)
declined_there f (w ∷ ws) (suc n) h e = or_right _ _ (declined_there f ws n (omega arith) e)

-- of a tripped coil the sum of what was taken is 0, so that it may stand for the sum after a decline
pub sum_taken : (f : ℕ) (ws : List ℕ) → result_unwrap_or (taking f ws) (pos 0) ≡ steps_taken f ws
sum_taken f ws = by (declined f ws) (λ t. none_tripped f ws (only_tripped f ws t))
  where
    by : (b : Bool) → (b ≡ true → steps_taken f ws ≡ pos 0) → result_unwrap_or (cond b (Err (fault.Coil (Tripped f))) (Ok (steps_taken f ws))) (pos 0) ≡ steps_taken f ws
    by true none = sym (none refl)
    by false none = refl

-- the code in force hangs on how the taking ended, and not on the sum
pub code_then : (f : ℕ) (ws : List ℕ) (last : ℕ) → code_after (taking f ws) last ≡ code_after (ending f ws) last
code_then f ws last = by (declined f ws)
  where
    by : (b : Bool) → code_after (cond b (Err (fault.Coil (Tripped f))) (Ok (steps_taken f ws))) last ≡ code_after {X = Unit {0}} (cond b (Err (fault.Coil (Tripped f))) (Ok tt)) last
    by true = refl
    by false = refl

-- the taking without its sum
pub ended : (P : ℤ → Type 0) (f : ℕ) (ws : List ℕ) (r : Result ℤ AxisFault) (e : Result (Unit {0}) AxisFault) → r ≡ taking f ws → is_ok e ≡ is_ok r → MatchResult r P (λ t. e ≡ Err t) → e ≡ ending f ws
ended P f ws r e is same cases = by (declined f ws) e (same ∙ ap is_ok is) (subst (λ x. MatchResult x P (λ t. e ≡ Err t)) is cases)
  where
    by : (b : Bool) (e : Result (Unit {0}) AxisFault) → is_ok e ≡ is_ok (cond b (Err (fault.Coil (Tripped f))) (Ok (steps_taken f ws))) → MatchResult (cond b (Err (fault.Coil (Tripped f))) (Ok (steps_taken f ws))) P (λ t. e ≡ Err t) → e ≡ cond b (Err (fault.Coil (Tripped f))) (Ok tt)
    by true e same cases = cases
    by false (Ok u) same cases = refl
    by false (Err t) same cases = cc

pub word_there : (b : List ℕ) (n : ℕ) → n < 4 → get_or (words b) n 0 ≡ word b n
word_there b zero h = refl
word_there b (suc zero) h = refl
word_there b (suc (suc zero)) h = refl
word_there b (suc (suc (suc zero))) h = refl
word_there b (suc (suc (suc (suc n)))) h = absurd (omega arith)

pub within : (f w : ℕ) (z : ℤ) → Ok z ≡ taking f (w ∷ []) → (neg_ℤ (pos 8191) ≤ℤ z) × (z ≤ℤ pos 8191)
within f w z r = by (taken f w) (eqb (field w 13 1) 1) ((ended_well f (w ∷ []) z r).1 ∙ add_none (cond (taken f w) (steps w) (pos 0)))
  where
    by : (t n : Bool) → z ≡ cond t (cond n (neg_ℤ (pos (field w 0 13))) (pos (field w 0 13))) (pos 0) → (neg_ℤ (pos 8191) ≤ℤ z) × (z ≤ℤ pos 8191)
    by true true e = (omega (arith, ints, e), omega (arith, ints, e))
    by true false e = (omega (arith, ints, e), omega (arith, ints, e))
    by false n e = (omega (arith, ints, e), omega (arith, ints, e))

-- one word more
pub so_more : {D : Type 0} (meaning : D → Coils) (did : Did D) (i : CoilId) (s : ℕ) (ws : List ℕ) (d e g : D) (w : ℕ) (sum z : ℤ) →
    SoFar meaning did i s ws d e sum → Took meaning did i s (w ∷ []) e g → Ok z ≡ taking (at (meaning e) i).flags (w ∷ []) →
    SoFar meaning did i s (ws ++ w ∷ []) d g (sum +ℤ z)
so_more meaning did i s ws d e g w sum z p q r =
    let bounds = within (at (meaning e) i).flags w z r in
    let f : ℕ = (at (meaning d) i).flags in
    let ok = ended_well f (w ∷ []) z (r ∙ ap (λ x. taking x (w ∷ [])) (took_flags meaning did i s ws d e p.took)) in
    let longer : length (ws ++ w ∷ []) ≡ length ws + 1 = length-append ws (w ∷ []) in
    record {
      took = took_append meaning did i s ws (w ∷ []) d e g p.took q;
      total = ap (λ x. x +ℤ z) p.total ∙ ap (λ x. steps_taken f ws +ℤ x) ok.1 ∙ sym (steps_append f ws (w ∷ []));
      none = declined_append f ws (w ∷ []) ∙ ap (λ x. x || declined f (w ∷ [])) p.none ∙ ok.0;
      low = omega (arith, ints, p.low, bounds.0, longer);
      high = omega (arith, ints, p.high, bounds.1, longer);
    }

-- a word that is declined: the coil is tripped, so that nothing was taken at all
pub so_declined : {D : Type 0} (meaning : D → Coils) (did : Did D) (i : CoilId) (s : ℕ) (ws all : List ℕ) (d e g : D) (n : ℕ) (sum : ℤ) (t : AxisFault) →
    n < length all → (at (meaning d) i).count < 2 ^ 32 → SoFar meaning did i s ws d e sum → Took meaning did i s (get_or all n 0 ∷ []) e g → Err t ≡ taking (at (meaning e) i).flags (get_or all n 0 ∷ []) →
    Took meaning did i s all d g × (Err t ≡ taking (at (meaning d) i).flags all)
so_declined {D} meaning did i s ws all d e g n sum t h c p q r =
    let f : ℕ = (at (meaning d) i).flags in
    let w : ℕ = get_or all n 0 in
    let same : (at (meaning e) i).flags ≡ f = took_flags meaning did i s ws d e p.took in
    let err = ended_ill f (w ∷ []) t (r ∙ ap (λ x. taking x (w ∷ [])) same) in
    let trip : tripped f ≡ true = only_tripped f (w ∷ []) err.0 in
    let first : e ≡ d = subst (λ cs. Chain did d (map (on i) cs) e) (no_calls_tripped f s ws trip) p.took.calls in
    let second : g ≡ e = subst (λ cs. Chain did e (map (on i) cs) g) (ap (λ x. advances x s (w ∷ [])) same ∙ no_calls_tripped f s (w ∷ []) trip) q.calls in
    let P : D → Type 0 = λ x. Took meaning did i s all d x in (
      subst P (sym (second ∙ first)) (took_nothing meaning did i s all d c (none_tripped f all trip) (no_calls_tripped f s all trip)),
      ap Err err.1 ∙ ap (λ x. cond x (Err (fault.Coil (Tripped f))) (Ok (steps_taken f all))) (sym (declined_there f all n h err.0)),
    )

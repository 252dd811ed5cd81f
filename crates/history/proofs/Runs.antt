-- A list of calls in the midst of its run.
use Rattle.std.proofs.Common.{◌≡◌, ℕ, ◌+◌, ◌<◌, ◌≤◌, List, [], ◌∷◌, ◌++◌, map, length, get_or, take, drop, set, sym, refl, ap, ◌∙◌, subst, append_assoc, arith, length-drop}
use Rattle.coil.proofs.Chained.{chain_append}
use Rattle.coil.specs.Chains.{Chain, Did}
use Rattle.coil.specs.Meaning.{Coils}
use Rattle.history.specs.Lists.{Answered, Event, IsAnswered, queries, tolds}
use Rattle.history.specs.Ran.{Once, Passed}
use Rattle.history.specs.Stands.{Query, Stand, drives, stand, stands, tells, told}
use Rattle.module.specs.Effects.{calls}
use Rattle.module.specs.Share.{Rules}
use Rattle.module.specs.declared.inner.Inner.{Inner}
use Rattle.std.proofs.lemmas.List.Elements.{AllZip-push}
use Rattle.std.proofs.lemmas.List.{append-nil, drop_all, drop_more, drop-set-lt, map_push, take_all, take_more, take_more_set}

-- n of the entries are done, and f is the event of an entry: es₀ and es are the entries as they were and as they are, x₀ and x the module
pub record SoFar {C A D E : Type 0} (k : Rules C A) (meaning : D → Coils) (did : Did D) (f : E → Event) (x₀ x : Inner A D C) (es₀ es : List E) (n : ℕ) : Type 0 where
  pub rest : drop n es ≡ drop n es₀
  pub answered : Answered (map f (take n es₀)) (map f (take n es))
  pub after : stands k (stand k.kind meaning x) (queries (map f (drop n es₀))) ≡ stands k (stand k.kind meaning x₀) (queries (map f es₀))
  pub answers : tolds (map f (take n es)) ++ tells k (stand k.kind meaning x) (queries (map f (drop n es₀))) ≡ tells k (stand k.kind meaning x₀) (queries (map f es₀))
  pub driver : (z : D) → Chain did x.driver (drives k (stand k.kind meaning x) (queries (map f (drop n es₀)))) z → Chain did x₀.driver (drives k (stand k.kind meaning x₀) (queries (map f es₀))) z

module _ {C A D E : Type 0} {k : Rules C A} {meaning : D → Coils} {did : Did D} {f : E → Event} {x₀ x : Inner A D C} {es₀ es : List E} {n : ℕ} (s : SoFar k meaning did f x₀ x es₀ es n) where
  -- one call more
  pub so_next : {y : Inner A D C} (d : E) {e : E} → n < length es → Once k meaning did x y (f (get_or es n d)).query (f (get_or es n d)).buffer (f e) → SoFar k meaning did f x₀ y es₀ (set es n e) (n + 1)
  so_next {y} d {e} lt o =
      let lt₀ : n < length es₀ = omega (arith, length-drop n es, length-drop n es₀, ap length s.rest) in
      let u : E = get_or es n d in
      let u₀ : E = get_or es₀ n d in
      let R : List E = drop (n + 1) es₀ in
      let left : drop n es ≡ u ∷ drop (n + 1) es = drop_more es n d lt in
      let left₀ : drop n es₀ ≡ u₀ ∷ R = drop_more es₀ n d lt₀ in
      let heads : u ∷ drop (n + 1) es ≡ u₀ ∷ R = sym left ∙ s.rest ∙ left₀ in
      let same : u ≡ u₀ = cc in
      let others : drop (n + 1) es ≡ R = cc in
      let asked : List Query = queries (map f R) in
      let q : Query = (f u).query in
      let ahead : q ∷ asked ≡ queries (map f (drop n es₀)) = ap (λ a. (f a).query ∷ asked) same ∙ ap (λ us. queries (map f us)) (sym left₀) in
      let now : Stand C A = stand k.kind meaning x in
      let begun : map f (take (n + 1) es₀) ≡ map f (take n es₀) ++ f u₀ ∷ [] = ap (map f) (take_more es₀ n d lt₀) ∙ map_push f (take n es₀) u₀ in
      let done : map f (take (n + 1) (set es n e)) ≡ map f (take n es) ++ f e ∷ [] = ap (map f) (take_more_set es n e lt) ∙ map_push f (take n es) e in
      let answer : IsAnswered (f u₀) (f e) = record { query = o.asked ∙ ap (λ a. (f a).query) same; buffer = λ b. o.buffer b ∙ ap (λ a. (f a).buffer) same } in
      let P : List Event → Type 0 = λ vs. Answered vs (map f (take (n + 1) (set es n e))) in
      let Q : List Event → Type 0 = λ vs. Answered (map f (take n es₀) ++ f u₀ ∷ []) vs in
      record {
        rest = drop-set-lt (n + 1) es n e (omega arith) ∙ others;
        answered = subst P (sym begun) (subst Q (sym done) (AllZip-push IsAnswered (map f (take n es₀)) (map f (take n es)) (f u₀) (f e) s.answered answer));
        after = ap (λ t. stands k t asked) o.after ∙ ap (stands k now) ahead ∙ s.after;
        answers = ap (λ vs. tolds vs ++ tells k (stand k.kind meaning y) asked) done
            ∙ ap (λ ts. ts ++ tells k (stand k.kind meaning y) asked) (map_push (λ v. v.told) (map f (take n es)) (f e))
            ∙ append_assoc (tolds (map f (take n es))) ((f e).told ∷ []) (tells k (stand k.kind meaning y) asked)
            ∙ ap (λ ts. tolds (map f (take n es)) ++ ts) (ap (λ t. t ∷ tells k (stand k.kind meaning y) asked) o.answer ∙ ap (λ t. told k now q ∷ tells k t asked) o.after ∙ ap (tells k now) ahead)
            ∙ s.answers;
        driver = λ z p. s.driver z (subst (λ ds. Chain did x.driver ds z)
            (ap (λ t. calls k now.first.own now.second.own q.asked ++ drives k t asked) o.after ∙ ap (drives k now) ahead)
            (chain_append did x.driver y.driver z (calls k now.first.own now.second.own q.asked) (drives k (stand k.kind meaning y) asked) o.driver p));
      }

  pub so_all : length es ≤ n → length es₀ ≡ length es → Passed k meaning did x₀ x (map f es₀) (map f es)
  so_all le same =
      let all : take n es ≡ es = take_all n es le in
      let all₀ : take n es₀ ≡ es₀ = take_all n es₀ (omega arith) in
      let none : drop n es₀ ≡ [] = drop_all n es₀ (omega arith) in
      let now : Stand C A = stand k.kind meaning x in
      record {
        answered = subst (λ us. Answered (map f es₀) (map f us)) all (subst (λ us. Answered (map f us) (map f (take n es))) all₀ s.answered);
        after = ap (λ us. stands k now (queries (map f us))) (sym none) ∙ s.after;
        answers = sym (append-nil (tolds (map f es))) ∙ ap (λ us. tolds (map f us) ++ []) (sym all) ∙ ap (λ us. tolds (map f (take n es)) ++ tells k now (queries (map f us))) (sym none) ∙ s.answers;
        driver = s.driver x.driver (subst (λ us. Chain did x.driver (drives k now (queries (map f us))) x.driver) (sym none) refl);
      }

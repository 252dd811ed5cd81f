-- A whole history: preparation, then, if the module was started, the calls that follow.
use Rattle.std.proofs.Common.{◌≡◌, List, [], ◌∷◌, ◌++◌, map, Some, None, vec_items, Option, Vec, sym, refl, ap, ◌∙◌, subst, append_assoc}
use Rattle.coil.proofs.Chained.{chain_append}
use Rattle.coil.specs.Chains.{Chain, Did}
use Rattle.coil.specs.Meaning.{Coils}
use Rattle.history.proofs.Calls.{made_stand}
use Rattle.history.specs.Lists.{Answered, Event, events, operated, operation, preparation, prepared, queries, running, tolds}
use Rattle.history.specs.Ran.{BothStarted, Passed, Ran}
use Rattle.history.specs.Stands.{Query, Stand, drives, first_stand, stand, stand_after, stands, tells, told}
use Rattle.history.specs.declared.Call.{Call}
use Rattle.history.specs.declared.Entry.{Entry}
use Rattle.history.specs.declared.History.{History}
use Rattle.history.specs.declared.SetRegister.{SetRegister}
use Rattle.module.specs.Called.{Made}
use Rattle.module.specs.Effects.{calls, first_calls}
use Rattle.module.specs.Share.{Rules}
use Rattle.module.specs.declared.inner.Inner.{Inner}
use Rattle.std.proofs.lemmas.List.Sums.{fold-append}
use Rattle.std.proofs.lemmas.List.{map-append}
use Rattle.std.specs.Option.{option_map}
use Rattle.std.specs.declared.alloc.Global.{Global}

tells_append : {C A : Type 0} (k : Rules C A) (s : Stand C A) (ps qs : List Query) → tells k s (ps ++ qs) ≡ tells k s ps ++ tells k (stands k s ps) qs
tells_append k s [] qs = refl
tells_append k s (p ∷ ps) qs = ap (λ ts. told k s p ∷ ts) (tells_append k (stand_after k s p) ps qs)

drives_append : {C A : Type 0} (k : Rules C A) (s : Stand C A) (ps qs : List Query) → drives k s (ps ++ qs) ≡ drives k s ps ++ drives k (stands k s ps) qs
drives_append k s [] qs = refl
drives_append k s (p ∷ ps) qs = ap (λ ds. calls k s.first.own s.second.own p.asked ++ ds) (drives_append k (stand_after k s p) ps qs) ∙ sym (append_assoc (calls k s.first.own s.second.own p.asked) (drives k (stand_after k s p) ps) (drives k (stands k (stand_after k s p) ps) qs))

passed_none : {C A D : Type 0} (k : Rules C A) (meaning : D → Coils) (did : Did D) (x : Inner A D C) → Passed k meaning did x x [] []
passed_none k meaning did x = record { answered = tt; after = refl; answers = refl; driver = refl }

abbrev of_running : Option (Vec (Entry Call) Global) → Option (List Event)
of_running o = option_map (λ es. map operated (vec_items es)) o

module _ {C A D : Type 0} {k : Rules C A} {meaning : D → Coils} {did : Did D} {d : D} {h g : History} where
  ran : {vs ws us ts : List Event} {x y z : Inner A D C} →
      preparation h ≡ vs → preparation g ≡ ws → operation (running h) ≡ us → operation (running g) ≡ ts → BothStarted (running h) (running g) →
      Made k.kind meaning did d x → Passed k meaning did x y vs ws → Passed k meaning did y z us ts → Ran k meaning did d h g z
  ran {vs} {ws} {us} {ts} {x} {y} {z} he ge ho go both m p q =
      let first : stand k.kind meaning x ≡ first_stand k.kind (meaning d) = made_stand k.kind meaning did d x m in
      let s : Stand C A = first_stand k.kind (meaning d) in
      let all : queries (events h) ≡ queries vs ++ queries us = ap (λ a. queries (a ++ operation (running h))) he ∙ ap (λ b. queries (vs ++ b)) ho ∙ map-append (λ v. v.query) vs us in
      let mid : stand k.kind meaning y ≡ stands k s (queries vs) = p.after ∙ ap (λ t. stands k t (queries vs)) first in
      let P : List Event → Type 0 = λ a. Answered a (preparation g) in
      let Q : List Event → Type 0 = λ a. Answered vs a in
      record {
        prepared = subst P (sym he) (subst Q (sym ge) p.answered);
        started = both;
        answers = ap (λ a. tolds (a ++ operation (running g))) ge ∙ ap (λ b. tolds (ws ++ b)) go ∙ map-append (λ v. v.told) ws ts
            ∙ ap (λ a. a ++ tolds ts) (p.answers ∙ ap (λ t. tells k t (queries vs)) first)
            ∙ ap (λ b. tells k s (queries vs) ++ b) (q.answers ∙ ap (λ t. tells k t (queries us)) mid)
            ∙ sym (tells_append k s (queries vs) (queries us)) ∙ ap (tells k s) (sym all);
        after = q.after ∙ ap (λ t. stands k t (queries us)) mid ∙ sym (fold-append (stand_after k) s (queries vs) (queries us)) ∙ ap (stands k s) (sym all);
        driver = chain_append did d x.driver z.driver first_calls (drives k s (queries (events h))) m.driver
            (subst (λ ds. Chain did x.driver ds z.driver)
            (ap (λ t. drives k t (queries vs) ++ drives k (stand k.kind meaning y) (queries us)) first ∙ ap (λ t. drives k s (queries vs) ++ drives k t (queries us)) mid ∙ sym (drives_append k s (queries vs) (queries us)) ∙ ap (drives k s) (sym all))
            (chain_append did x.driver y.driver z.driver (drives k (stand k.kind meaning x) (queries vs)) (drives k (stand k.kind meaning y) (queries us)) p.driver q.driver));
      }

  -- a module that is never started
  pub ran_none : {es es' : List (Entry SetRegister)} {x y z : Inner A D C} →
      es ≡ vec_items h.preparation → vec_items g.preparation ≡ es' → h.running ≡ None → g.running ≡ None →
      Made k.kind meaning did d x → Passed k meaning did x y (map prepared es) (map prepared es') → z ≡ y → Ran k meaning did d h g z
  ran_none {es} {es'} {x} {y} {z} he ge hr gr m p same =
      let P : Inner A D C → Type 0 = λ u. Ran k meaning did d h g u in
      let Q : Option (Vec (Entry Call) Global) → Type 0 = λ o. BothStarted (of_running o) (running g) in
      let R : Option (Vec (Entry Call) Global) → Type 0 = λ o. BothStarted None (of_running o) in
      subst P (sym same) (ran (ap (map prepared) (sym he)) (ap (map prepared) ge)
      (ap (λ o. operation (of_running o)) hr) (ap (λ o. operation (of_running o)) gr) (subst Q (sym hr) (subst R (sym gr) tt)) m p (passed_none k meaning did y))

  -- a module that is started
  pub ran_some : {es es' : List (Entry SetRegister)} {v w : Vec (Entry Call) Global} {fs fs' : List (Entry Call)} {x y y' z z' : Inner A D C} →
      es ≡ vec_items h.preparation → vec_items g.preparation ≡ es' → h.running ≡ Some v → g.running ≡ Some w → fs ≡ vec_items v → vec_items w ≡ fs' →
      Made k.kind meaning did d x → Passed k meaning did x y (map prepared es) (map prepared es') → y' ≡ y → Passed k meaning did y' z (map operated fs) (map operated fs') → z' ≡ z → Ran k meaning did d h g z'
  ran_some {es} {es'} {v} {w} {fs} {fs'} {x} {y} {y'} {z} {z'} he ge hr gr fe fe' m p same q end =
      let P : Inner A D C → Type 0 = λ u. Ran k meaning did d h g u in
      let Q : Inner A D C → Type 0 = λ u. Passed k meaning did u z (map operated fs) (map operated fs') in
      let us : map operated (vec_items v) ≡ map operated fs = ap (map operated) (sym fe) in
      let ts : map operated (vec_items w) ≡ map operated fs' = ap (map operated) fe' in
      let R : Option (Vec (Entry Call) Global) → Type 0 = λ o. BothStarted (of_running o) (running g) in
      let S : Option (Vec (Entry Call) Global) → Type 0 = λ o. BothStarted (Some (map operated (vec_items v))) (of_running o) in
      let T : List Event → Type 0 = λ a. Answered a (map operated (vec_items w)) in
      let U : List Event → Type 0 = λ a. Answered (map operated fs) a in
      subst P (sym end) (ran (ap (map prepared) (sym he)) (ap (map prepared) ge)
      (ap (λ o. operation (of_running o)) hr ∙ us) (ap (λ o. operation (of_running o)) gr ∙ ts) (subst R (sym hr) (subst S (sym gr) (subst T (sym us) (subst U (sym ts) q.answered)))) m p (subst Q same q))

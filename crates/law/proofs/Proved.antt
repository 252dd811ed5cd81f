-- The law, from what running a history promises.
use Rattle.std.proofs.Common.{◌≡◌, ◌^◌, ◌≤◌, min, true, List, ◌∷◌, ◌++◌, pos, ◌+ℤ◌, Some, None, Option, sym, refl, ap, ◌∙◌, subst, arith}
use Rattle.axis.specs.Kinds.{Kind}
use Rattle.axis.specs.Levels.{chosen, no_levels}
use Rattle.coil.specs.Chains.{Did}
use Rattle.coil.specs.Coils.{at, at_both}
use Rattle.coil.specs.Meaning.{Coil, Coils, Sound}
use Rattle.coil.specs.Modulo.{modulo}
use Rattle.coil.specs.declared.CoilId.{CoilId}
use Rattle.history.specs.Lists.{Event, events, operation, preparation, queries, running}
use Rattle.history.specs.Ran.{Ran}
use Rattle.history.specs.Stands.{Query, Stand, first_stand, first_standing, stand, standing, stands, tells}
use Rattle.history.specs.declared.History.{History}
use Rattle.law.proofs.Counts.{counts}
use Rattle.law.proofs.Heard.{heard_tells, own_stands, replies_start}
use Rattle.law.proofs.Supply.{AllFine, Fine, Lawful, all_fine}
use Rattle.law.specs.Deeds.{deeds_of, ending, heard, quiet, quiet_after, replies}
use Rattle.law.specs.Law.{EqualSumsLeaveEqualCounts, MotorsAreIndependent, Run, deeds, lines_of, started, travel}
use Rattle.law.specs.Models.{LawOfRun, Runs, ShowsWhatWasDone, model_shown}
use Rattle.law.specs.Whole.{whole}
use Rattle.law.specs.declared.FunctionModel.{FunctionModel}
use Rattle.law.specs.declared.FunctionModel.TheVariants.{StepWords}
use Rattle.module.specs.Effects.{Deed, after, deed, starts}
use Rattle.module.specs.Share.{Rules, Share, born, rules, share, wanted}
use Rattle.module.specs.declared.inner.Inner.{Inner}
use Rattle.registers.specs.Tables.{Line}
use Rattle.std.proofs.lemmas.List.Elements.{filter_map-append}
use Rattle.std.proofs.lemmas.List.Sums.{fold-append}
use Rattle.std.proofs.lemmas.List.{map-append}
use Rattle.std.specs.List.{fold}
use Rattle.std.specs.Option.{option_map}
use Rattle.step_axis.specs.Taken.{step_kind}

-- the start in between: the same list of deeds without it
begun : {B : Type 0} (f : B → Deed → B) (b : B) → ((z : B) → f z starts ≡ z) → (lines : List Line) (i : CoilId) (xs : List Deed) (o : Option (List Query)) → fold f b (xs ++ started lines i o) ≡ fold f b (xs ++ deeds_of lines i (operation o))
begun f b still lines i xs None = refl
begun f b still lines i xs (Some qs) =
    let ys : List Deed = deeds_of lines i qs in
    fold-append f b xs (starts ∷ ys) ∙ ap (λ z. fold f z ys) (still (fold f b xs)) ∙ sym (fold-append f b xs ys)

replies_begun : {C A : Type 0} (k : Rules C A) (i : CoilId) (h : Share C A) (xs : List Deed) (o : Option (List Query)) → replies k i h (xs ++ started k.lines i o) ≡ replies k i h (xs ++ deeds_of k.lines i (operation o))
replies_begun k i h xs None = refl
replies_begun k i h xs (Some qs) = replies_start k i h xs (deeds_of k.lines i qs)

called_queries : (o : Option (List Event)) → queries (operation o) ≡ operation (option_map queries o)
called_queries None = refl
called_queries (Some vs) = refl

first_fine : {C A : Type 0} (kind : Kind C A) → Lawful kind → (c : Coils) → AllFine kind (first_stand kind c) (λ _. true)
first_fine kind law c = record { each = λ i. subst (λ m. Fine kind m true) (sym (at_both (first_standing kind c) i)) (fine i); together = omega arith }
  where
    none : (i : CoilId) → wanted kind (born kind (at c i)) ≡ 0
    none i = ap (λ z. chosen z no_levels) law.starts

    fine : (i : CoilId) → Fine kind (first_standing kind c i) true
    fine i = record { sane = record { holding = omega arith; nominal = omega arith; maximum = omega arith }; enough = λ _. omega (arith, none i); rests = λ _ _. none i }

-- a run by a kind of axis of the function model m keeps the law
pub kept : {C A D : Type 0} {kind : Kind C A} {lines : List Line} {meaning : D → Coils} {did : Did D} {d : D} {h g : History} {x : Inner A D C} (m : FunctionModel) → Lawful kind → Runs m kind lines →
    ((i : CoilId) → Sound (at (meaning d) i)) → Ran (rules kind lines) meaning did d h g x → LawOfRun (whole m kind meaning d h g x)
kept {C} {A} {D} {kind} {lines} {meaning} {did} {d} {h} {g} {x} m law runs sound ran =
    let table : List Line = lines_of m in
    let k : Rules C A = rules kind table in
    let done : Ran k meaning did d h g x = subst (λ l. Ran (rules kind l) meaning did d h g x) runs.table ran in
    let r : Run = whole m kind meaning d h g x in
    let qs : List Query = r.settings ++ operation r.calls in
    let s : Stand C A = first_stand kind (meaning d) in
    let all : queries (events h) ≡ qs = map-append (λ v. v.query) (preparation h) (operation (running h)) ∙ ap (λ z. r.settings ++ z) (called_queries (running h)) in
    let last : stand kind meaning x ≡ stands k s qs = done.after ∙ ap (stands k s) all in
    let parts : (i : CoilId) → deeds_of table i qs ≡ deeds_of table i r.settings ++ deeds_of table i (operation r.calls) = λ i. filter_map-append (λ q. deed table q.stage i q.asked) r.settings (operation r.calls) in
    let own : (i : CoilId) → (at (stands k s qs) i).own ≡ ending k i (born kind (at (meaning d) i)) (deeds r i) =
    λ i. own_stands k i s qs ∙ ap (λ z. ending k i z.own (deeds_of table i qs)) (at_both (first_standing kind (meaning d)) i) ∙ ap (ending k i (born kind (at (meaning d) i))) (parts i)
    ∙ sym (begun (after k i) (born kind (at (meaning d) i)) (λ z. refl) table i (deeds_of table i r.settings) r.calls) in
    let mine : (i : CoilId) → share kind meaning x i ≡ ending k i (born kind (at (meaning d) i)) (deeds r i) =
    λ i. sym (ap (λ m. m.own) (at_both (standing kind meaning x) i)) ∙ ap (λ (t : Stand C A). (at t i).own) last ∙ own i in
    let fine : AllFine kind (stand kind meaning x) (λ i. quiet true (deeds_of table i qs)) =
    subst (λ t. AllFine kind t (λ i. quiet true (deeds_of table i qs))) (sym last) (all_fine k s (λ _. true) qs law.rests (first_fine kind law (meaning d))) in
    let calm : (i : CoilId) → quiet true (deeds_of table i qs) ≡ quiet true (deeds r i) =
    λ i. ap (quiet true) (parts i) ∙ sym (begun quiet_after true (λ z. refl) table i (deeds_of table i r.settings) r.calls) in
    let told : (i : CoilId) → heard table i qs r.told ≡ replies k i (born kind (at (meaning d) i)) (deeds r i) =
    λ i. ap (heard table i qs) (done.answers ∙ ap (tells k s) all) ∙ heard_tells k i s qs ∙ ap (λ z. replies k i z.own (deeds_of table i qs)) (at_both (first_standing kind (meaning d)) i)
    ∙ ap (replies k i (born kind (at (meaning d) i))) (parts i) ∙ sym (replies_begun k i (born kind (at (meaning d) i)) (deeds_of table i r.settings) r.calls) in
    let shows : ShowsWhatWasDone r = λ i. cc (told i, ap (λ z. z.fault) (mine i), ap (λ z. z.count) (mine i), ap (λ z. z.flags) (mine i), runs.shows i (at (meaning d) i) (deeds r i)) in
    record {
      shows = shows;
      supply = record {
        together = fine.together;
        enough = λ i q. subst (λ w. min 100 w ≤ (at r.last i).points) (ap (wanted kind) (mine i) ∙ runs.wants i (at (meaning d) i) (deeds r i)) (subst (λ m. min 100 (wanted kind m.own) ≤ m.points) (at_both (standing kind meaning x) i) ((fine.each i).enough (calm i ∙ q)));
      };
      counts = λ is i.
          ap (λ z. z.count) (shows i)
          ∙ ap (λ n. (model_shown n i (at r.first i) (deeds r i)).count) is
          ∙ counts i (born step_kind (at r.first i)) (deeds r i) (sound i).count;
    }

-- what a model shows follows from what was done
shown_done : (m : FunctionModel) (i : CoilId) (b c : Coil) (ds : List Deed) → b.count ≡ c.count → b.flags ≡ c.flags → model_shown m i b ds ≡ model_shown m i c ds
shown_done m i b c ds n f =
    ap (λ z. model_shown m i (record { count = z; points = b.points; flags = b.flags }) ds) n
    ∙ ap (λ z. model_shown m i (record { count = c.count; points = b.points; flags = z }) ds) f
    ∙ points m
  where
    points : (m : FunctionModel) → model_shown m i (record { count = c.count; points = b.points; flags = c.flags }) ds ≡ model_shown m i c ds
    points StepWords = refl

-- motors are independent
pub independent : {r s : Run} → LawOfRun r → LawOfRun s → MotorsAreIndependent r s
independent {r} {s} p q i same =
    let model : r.model ≡ s.model = ap (λ z. z.model) same in
    let done : deeds r i ≡ deeds s i = ap (λ z. z.deeds) same in
    p.shows i
    ∙ ap (λ m. model_shown m i (at r.first i) (deeds r i)) model
    ∙ ap (model_shown s.model i (at r.first i)) done
    ∙ shown_done s.model i (at r.first i) (at s.first i) (deeds s i) (ap (λ z. z.count) same) (ap (λ z. z.flags) same)
    ∙ sym (q.shows i)

-- equal sums leave equal counts
pub equal_sums : {r s : Run} → LawOfRun r → LawOfRun s → EqualSumsLeaveEqualCounts r s
equal_sums {r} {s} p q is is' i first sums = p.counts is i ∙ ap (λ n. modulo (2 ^ 32) (pos n +ℤ travel r i)) first ∙ ap (λ z. modulo (2 ^ 32) (pos (at s.first i).count +ℤ z)) sums ∙ sym (q.counts is' i)

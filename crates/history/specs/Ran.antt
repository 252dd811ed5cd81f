-- What running calls does: one call, a list of calls, a whole history. Assumes nothing.
use Rattle.std.specs.Prelude.{◌≡◌, ℕ, true, List, ◌++◌, is_err, Some, None, Option}
use Rattle.coil.specs.Chains.{Chain, Did}
use Rattle.coil.specs.Meaning.{Coils}
use Rattle.history.specs.Lists.{Answered, Event, events, preparation, queries, running, tolds}
use Rattle.history.specs.Stands.{Query, Stand, drives, first_stand, stand, stand_after, stands, tells, told}
use Rattle.history.specs.declared.History.{History}
use Rattle.module.specs.Effects.{calls, first_calls}
use Rattle.module.specs.Share.{Rules}
use Rattle.module.specs.declared.inner.Inner.{Inner}

-- one call: x becomes y, the entry becomes w, and its buffer was bytes
pub record Once {C A D : Type 0} (k : Rules C A) (meaning : D → Coils) (did : Did D) (x y : Inner A D C) (q : Query) (bytes : List ℕ) (w : Event) : Type 0 where
  pub asked : w.query ≡ q
  pub buffer : is_err w.told.number ≡ true → w.buffer ≡ bytes
  pub after : stand k.kind meaning y ≡ stand_after k (stand k.kind meaning x) q
  pub answer : w.told ≡ told k (stand k.kind meaning x) q
  pub driver : Chain did x.driver (calls k (stand k.kind meaning x).first.own (stand k.kind meaning x).second.own q.asked) y.driver

-- a list of calls, in order
pub record Passed {C A D : Type 0} (k : Rules C A) (meaning : D → Coils) (did : Did D) (x y : Inner A D C) (vs ws : List Event) : Type 0 where
  pub answered : Answered vs ws
  pub after : stand k.kind meaning y ≡ stands k (stand k.kind meaning x) (queries vs)
  pub answers : tolds ws ≡ tells k (stand k.kind meaning x) (queries vs)
  pub driver : Chain did x.driver (drives k (stand k.kind meaning x) (queries vs)) y.driver

-- a module is started in the one history exactly if it is in the other
abbrev pub BothStarted : Option (List Event) → Option (List Event) → Type 0
BothStarted None None = Unit {0}
BothStarted None (Some ws) = ⊥
BothStarted (Some vs) None = ⊥
BothStarted (Some vs) (Some ws) = Answered vs ws

-- how a module over the driver d stands at the end of a history
abbrev pub end_stand : {C A D : Type 0} → Rules C A → (D → Coils) → D → History → Stand C A
end_stand k meaning d h = stands k (first_stand k.kind (meaning d)) (queries (events h))

-- a whole history over the driver d, from the making of the module to its end: h becomes g, and x is the module then
pub record Ran {C A D : Type 0} (k : Rules C A) (meaning : D → Coils) (did : Did D) (d : D) (h g : History) (x : Inner A D C) : Type 0 where
  -- each entry has its answer: what was asked stays, and so does the buffer of a refused cycle
  pub prepared : Answered (preparation h) (preparation g)
  pub started : BothStarted (running h) (running g)
  pub answers : tolds (events g) ≡ tells k (first_stand k.kind (meaning d)) (queries (events h))
  -- what both motors show at the end: latest fault, wanted points, count, flags and points
  pub after : stand k.kind meaning x ≡ end_stand k meaning d h
  -- the driver calls, in order, and no other
  pub driver : Chain did d (first_calls ++ drives k (first_stand k.kind (meaning d)) (queries (events h))) x.driver

-- What a kind of axis is, and what one cycle of it is. Assumes nothing.
use Rattle.std.specs.Prelude.{◌≡◌, ℕ, true, List, map, ℤ, Option, Result}
use Rattle.axis.specs.declared.currents.Current.{Current}
use Rattle.axis.specs.declared.currents.Current.TheVariants.{Off}
use Rattle.axis.specs.declared.AxisFault.{AxisFault}
use Rattle.coil.specs.Chains.{Chain, Did, on}
use Rattle.coil.specs.Coils.{at, put}
use Rattle.coil.specs.Meaning.{Coil, Coils, tripped}
use Rattle.coil.specs.declared.CoilCall.{CoilCall}
use Rattle.coil.specs.declared.CoilId.{CoilId}

-- what an axis sees of its coil: never the points, so that no current flows back into a motion
pub record Seen : Type 0 where
  pub count : ℕ
  pub flags : ℕ

abbrev pub seen : Coil → Seen
seen c = record { count = c.count; flags = c.flags }

-- what one cycle makes of an axis: the axis, its coil's count and flags, the coil calls that were accepted, in order,
-- the eight bytes of answer, and how it ended
pub record Outcome (A : Type 0) : Type 0 where
  pub axis : A
  pub count : ℕ
  pub flags : ℕ
  pub calls : List CoilCall
  pub answer : List ℕ
  pub ending : Result (Unit {0}) AxisFault

-- all that a kind of axis means; C is the module-wide configuration
pub record Kind (C A : Type 0) : Type 0 where
  -- how an axis begins
  pub fresh : A
  -- the configuration that a value of its register means, or absent where it is out of range
  pub config : ℤ → Option C
  -- the configuration at first
  pub first_config : C
  -- the current that an axis chooses
  pub current : A → Current
  -- one cycle, over eight bytes of orders
  pub cycle : C → A → Seen → List ℕ → Outcome A

-- after a cycle an axis on a tripped coil chooses no current
abbrev pub Rests : {C A : Type 0} → Kind C A → Type 0
Rests {C} {A} k = (config : C) (x : A) (s : Seen) (orders : List ℕ) → tripped (k.cycle config x s orders).flags ≡ true → k.current (k.cycle config x s orders).axis ≡ Off

-- the coil after a cycle
abbrev pub moved : {A : Type 0} → Coil → Outcome A → Coil
moved c o = record c { count = o.count; flags = o.flags }

-- one cycle of an axis on the coil i: a and d become a' and d', and o is what the kind makes of them
pub record Cycled {A D : Type 0} (meaning : D → Coils) (did : Did D) (i : CoilId) (o : Outcome A) (a' : A) (d d' : D) (answer : List ℕ) (ended : Result (Unit {0}) AxisFault) : Type 0 where
  pub axis : a' ≡ o.axis
  pub coils : meaning d' ≡ put (meaning d) i (moved (at (meaning d) i) o)
  pub calls : Chain did d (map (on i) o.calls) d'
  pub answered : answer ≡ o.answer
  pub ending : ended ≡ o.ending

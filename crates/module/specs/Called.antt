-- The whole effect of a call: what then stands in module and driver, and what came back. Assumes nothing.
use Rattle.std.specs.Prelude.{◌≡◌, ℕ, true, List, ◌++◌, ℤ, is_ok, is_err, slice_set}
use Rattle.coil.specs.Chains.{Chain, Did}
use Rattle.coil.specs.Coils.{at}
use Rattle.coil.specs.Meaning.{Coils, tripped}
use Rattle.coil.specs.declared.CoilId.{CoilId}
use Rattle.coil.specs.declared.CoilId.TheVariants.{First, Second}
use Rattle.axis.specs.Kinds.{Kind, seen}
use Rattle.axis.specs.declared.currents.Current.TheVariants.{Off}
use Rattle.axis.specs.declared.currents.CurrentSetting.{CurrentSetting}
use Rattle.module.specs.Effects.{Answer, Asked, adjusted_share, answer, calls, deed, feeds, first_calls, half, lives, move_calls, moved_share, outcome, points_after, value_answer}
use Rattle.module.specs.Motors.{Turned}
use Rattle.module.specs.Share.{Rules, born, motor_at, place, powered, share, wanted}
use Rattle.module.specs.declared.inner.Inner.{Inner}
use Rattle.registers.specs.declared.Setting.TheVariants.{Current}
use Rattle.registers.specs.declared.Stage.{Stage}
use Rattle.supply.specs.Shares.{granted}

-- a module as it is made over the driver d: every motor as it begins, and both coils fed 0 points
pub record Made {C A D : Type 0} (k : Kind C A) (meaning : D → Coils) (did : Did D) (d : D) (x : Inner A D C) : Type 0 where
  pub motors : (i : CoilId) → share k meaning x i ≡ born k (at (meaning d) i)
  pub points : (i : CoilId) → (at (meaning x.driver) i).points ≡ 0
  pub driver : Chain did d first_calls x.driver

-- after a cycle's moves a motor on a tripped coil chooses no current
abbrev pub Rested : {C A D : Type 0} → Kind C A → (D → Coils) → Inner A D C → CoilId → Type 0
Rested k meaning x i = tripped (share k meaning x i).flags ≡ true → k.current (share k meaning x i).axis ≡ Off

-- one motor's part of a cycle that has its number: x becomes y, and the other motor stays as it is
pub record Turn {C A D : Type 0} (k : Kind C A) (meaning : D → Coils) (did : Did D) (i : CoilId) (x y : Inner A D C) (orders bytes : List ℕ) : Type 0 where
  pub turned : Turned meaning did i x.cycles (k.cycle x.configuration.model (motor_at k x.motors i).axis (seen (at (meaning x.driver) i)) orders) (motor_at k x.motors i) (motor_at k y.motors i) x.driver y.driver bytes
  pub motors : y.motors ≡ slice_set x.motors (place i) (motor_at k y.motors i)
  pub configuration : y.configuration ≡ x.configuration
  pub cycles : y.cycles ≡ x.cycles

-- both motors have moved, but their coils are not fed yet
pub record Moved {C A D : Type 0} (k : Kind C A) (meaning : D → Coils) (did : Did D) (x y : Inner A D C) (orders bytes : List ℕ) : Type 0 where
  pub motors : (i : CoilId) → share k meaning y i ≡ moved_share k i (share k meaning x i) (half i orders)
  pub points : (i : CoilId) → (at (meaning y.driver) i).points ≡ (at (meaning x.driver) i).points
  pub driver : Chain did x.driver (move_calls k First (share k meaning x First) orders ++ move_calls k Second (share k meaning x Second) orders) y.driver
  pub halves : (i : CoilId) → half i bytes ≡ (outcome k (share k meaning x i) (half i orders)).answer
  pub rested : (i : CoilId) → Rested k meaning y i

-- both coils are fed what the supply grants
pub record Shared {C A D : Type 0} (k : Kind C A) (meaning : D → Coils) (did : Did D) (x y : Inner A D C) : Type 0 where
  pub motors : (i : CoilId) → share k meaning y i ≡ share k meaning x i
  pub points : (i : CoilId) → (at (meaning y.driver) i).points ≡ granted i (wanted k (share k meaning x First)) (wanted k (share k meaning x Second))
  pub driver : Chain did x.driver (feeds (wanted k (share k meaning x First)) (wanted k (share k meaning x Second))) y.driver

-- a setting of one of the current settings of the motor i: x becomes y, and r comes back
pub record Adjusted {C A D : Type 0} (k : Kind C A) (meaning : D → Coils) (i : CoilId) (which : CurrentSetting) (v : ℤ) (x y : Inner A D C) (r : Answer) : Type 0 where
  pub number : r ≡ value_answer k (Current i which) (powered k (share k meaning x i)) v
  pub motors : (j : CoilId) → share k meaning y j ≡ adjusted_share k (Current i which) j (share k meaning x j) v
  pub driver : y.driver ≡ x.driver
  pub refused : is_err r ≡ true → y ≡ x

-- a call at a stage: the module x becomes y, and r comes back
pub record Called {C A D : Type 0} (k : Rules C A) (meaning : D → Coils) (did : Did D) (stage : Stage) (asked : Asked) (x y : Inner A D C) (r : Answer) : Type 0 where
  -- the number
  pub number : r ≡ answer k stage (share k.kind meaning x First) (share k.kind meaning x Second) asked
  -- each motor's share, by what the call does to that motor
  pub motors : (i : CoilId) → share k.kind meaning y i ≡ lives k i (share k.kind meaning x i) (deed k.lines stage i asked)
  -- each coil's points
  pub points : (i : CoilId) → (at (meaning y.driver) i).points ≡ points_after i (at (meaning x.driver) i) (wanted k.kind (share k.kind meaning y First)) (wanted k.kind (share k.kind meaning y Second)) (deed k.lines stage i asked)
  -- the driver calls, in order, and no other
  pub driver : Chain did x.driver (calls k (share k.kind meaning x First) (share k.kind meaning x Second) asked) y.driver
  -- a refusal leaves the whole module as it was
  pub refused : is_err r ≡ true → y ≡ x

-- the answer buffer after a cycle: each motor's half as its axis answers, or as it was where the cycle is refused
pub record Filled {C A D : Type 0} (k : Rules C A) (meaning : D → Coils) (x : Inner A D C) (orders before bytes : List ℕ) (r : Answer) : Type 0 where
  pub halves : (i : CoilId) → is_ok r ≡ true → half i bytes ≡ (outcome k.kind (share k.kind meaning x i) (half i orders)).answer
  pub untouched : is_err r ≡ true → bytes ≡ before

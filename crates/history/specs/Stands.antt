-- How a module stands after any list of calls, and what it tells of each. Assumes nothing.
use Rattle.std.specs.Prelude.{ℕ, List, [], ◌∷◌, ◌++◌, length, Some, None, Option}
use Rattle.axis.specs.Kinds.{Kind}
use Rattle.coil.specs.Coils.{at, both}
use Rattle.coil.specs.Meaning.{Coil, Coils}
use Rattle.coil.specs.declared.CoilId.{CoilId}
use Rattle.coil.specs.declared.CoilId.TheVariants.{First, Second}
use Rattle.coil.specs.declared.DriverCall.{DriverCall}
use Rattle.coil.specs.declared.per_coil.PerCoil.{PerCoil}
use Rattle.module.specs.Effects.{Answer, Asked, acknowledgement, answer, calls, cycle, deed, half, lives, outcome, points_after, report, setting, where_sized}
use Rattle.module.specs.Share.{Rules, Share, born, share, wanted}
use Rattle.module.specs.declared.inner.Inner.{Inner}
use Rattle.registers.specs.declared.Stage.{Stage}
use Rattle.std.specs.List.{fold}

-- one motor: its share of the module, and the points of its coil
pub record Standing (C A : Type 0) : Type 0 where
  pub own : Share C A
  pub points : ℕ

-- both motors
abbrev pub Stand : Type 0 → Type 0 → Type 0
Stand C A = PerCoil (Standing C A)

abbrev pub coil : {C A : Type 0} → Standing C A → Coil
coil m = record { count = m.own.count; points = m.points; flags = m.own.flags }

-- a module as it is made over a driver: the motor i, and both motors
abbrev pub first_standing : {C A : Type 0} → Kind C A → Coils → CoilId → Standing C A
first_standing k c i = record { own = born k (at c i); points = 0 }

abbrev pub first_stand : {C A : Type 0} → Kind C A → Coils → Stand C A
first_stand k c = both (first_standing k c)

-- what is asked, and at which stage
pub record Query : Type 0 where
  pub stage : Stage
  pub asked : Asked

-- the share of the motor i after a call, and what the motor wants then
abbrev pub share_after : {C A : Type 0} → Rules C A → CoilId → Standing C A → Query → Share C A
share_after k i m q = lives k i m.own (deed k.lines q.stage i q.asked)

abbrev pub wanted_after : {C A : Type 0} → Rules C A → Stand C A → CoilId → Query → ℕ
wanted_after k s i q = wanted k.kind (share_after k i (at s i) q)

abbrev pub standing_after : {C A : Type 0} → Rules C A → Stand C A → Query → CoilId → Standing C A
standing_after k s q i = record {
  own = share_after k i (at s i) q;
  points = points_after i (coil (at s i)) (wanted_after k s First q) (wanted_after k s Second q) (deed k.lines q.stage i q.asked);
}

abbrev pub stand_after : {C A : Type 0} → Rules C A → Stand C A → Query → Stand C A
stand_after k s q = both (standing_after k s q)

abbrev pub stands : {C A : Type 0} → Rules C A → Stand C A → List Query → Stand C A
stands k s qs = fold (stand_after k) s qs

-- what a call tells: its number, and after an accepted cycle each motor's half of the answer
pub record Told : Type 0 where
  pub number : Answer
  pub halves : PerCoil (Option (List ℕ))

abbrev pub given : {C A : Type 0} → Kind C A → CoilId → Share C A → Asked → Option (List ℕ)
given k i h (setting n v) = None
given k i h (cycle orders room) = where_sized (length orders) room (Some (outcome k h (half i orders)).answer) None
given k i h (report n f) = None
given k i h (acknowledgement n) = None

abbrev pub told : {C A : Type 0} → Rules C A → Stand C A → Query → Told
told k s q = record {
  number = answer k q.stage s.first.own s.second.own q.asked;
  halves = both (λ i. given k.kind i (at s i).own q.asked);
}

abbrev pub tells : {C A : Type 0} → Rules C A → Stand C A → List Query → List Told
tells k s [] = []
tells k s (q ∷ qs) = told k s q ∷ tells k (stand_after k s q) qs

-- the driver calls of a list of calls
abbrev pub drives : {C A : Type 0} → Rules C A → Stand C A → List Query → List DriverCall
drives k s [] = []
drives k s (q ∷ qs) = calls k s.first.own s.second.own q.asked ++ drives k (stand_after k s q) qs

-- how a module stands: the motor i, and both motors
abbrev pub standing : {C A D : Type 0} → Kind C A → (D → Coils) → Inner A D C → CoilId → Standing C A
standing k meaning x i = record { own = share k meaning x i; points = (at (meaning x.driver) i).points }

abbrev pub stand : {C A D : Type 0} → Kind C A → (D → Coils) → Inner A D C → Stand C A
stand k meaning x = both (standing k meaning x)

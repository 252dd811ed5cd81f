-- What a history does to one motor, and what is read off that alone. Assumes nothing.
use Rattle.std.specs.Prelude.{ℕ, Bool, true, false, cond, List, [], ◌∷◌, ℤ, pos, ◌+ℤ◌, ◌*ℤ◌, Some, None, Ok, Option, nat_lt}
use Rattle.coil.specs.Coils.{at}
use Rattle.coil.specs.Meaning.{cleared, noted, tripped}
use Rattle.coil.specs.declared.CoilId.{CoilId}
use Rattle.history.specs.Stands.{Query, Told}
use Rattle.module.specs.Effects.{Answer, Deed, acknowledges, after, config_after, deed, flags_answer, length_answer, misses, moves, outcome, reports, sets, setting_answer, starts}
use Rattle.module.specs.Share.{Rules, Share, powered}
use Rattle.registers.specs.Tables.{Line, look_up, step_lines}
use Rattle.std.specs.List.{filter_map, fold}
use Rattle.step_axis.specs.Taken.{steps_taken, step_kind}
use Rattle.step_axis.specs.Words.{counted, scale}
use Rattle.step_axis.specs.declared.config.StepConfig.{StepConfig}

-- what a list of calls does to the motor i
abbrev pub deeds_of : List Line → CoilId → List Query → List Deed
deeds_of lines i qs = filter_map (λ q. deed lines q.stage i q.asked) qs

-- one motor's answer to a call: the number, and its half of an accepted cycle's answer
pub record Reply : Type 0 where
  pub number : Answer
  pub bytes : Option (List ℕ)

abbrev pub reply_to : CoilId → Told → Reply
reply_to i t = record { number = t.number; bytes = at t.halves i }

abbrev pub heard_one : Option Deed → Reply → List Reply → List Reply
heard_one None r rs = rs
heard_one (Some d) r rs = r ∷ rs

-- the answers of the motor i: those to the calls that do something to it
abbrev pub heard : List Line → CoilId → List Query → List Told → List Reply
heard lines i [] ts = []
heard lines i (q ∷ qs) [] = []
heard lines i (q ∷ qs) (t ∷ ts) = heard_one (deed lines q.stage i q.asked) (reply_to i t) (heard lines i qs ts)

-- no report since the last accepted cycle had overtemperature or overcurrent
abbrev pub quiet_after : Bool → Deed → Bool
quiet_after b (sets stage n v) = b
quiet_after b starts = b
quiet_after b (moves orders) = true
quiet_after b (misses n m) = b
quiet_after b (reports f) = cond (nat_lt f 16) (cond (tripped f) false b) b
quiet_after b acknowledges = b

abbrev pub quiet : Bool → List Deed → Bool
quiet b ds = fold quiet_after b ds

-- the motor i after a list of deeds, by the rules
abbrev pub ending : {C A : Type 0} → Rules C A → CoilId → Share C A → List Deed → Share C A
ending k i h ds = fold (after k i) h ds

-- the reply of a motor to what is done to it, by the rules
abbrev pub reply : {C A : Type 0} → Rules C A → Share C A → Deed → List Reply → List Reply
reply k h (sets stage n v) rs = record { number = setting_answer k.kind stage (look_up k.lines n) (powered k.kind h) v; bytes = None } ∷ rs
reply k h starts rs = rs
reply k h (moves orders) rs = record { number = Ok tt; bytes = Some (outcome k.kind h orders).answer } ∷ rs
reply k h (misses n m) rs = record { number = length_answer n m; bytes = None } ∷ rs
reply k h (reports f) rs = record { number = flags_answer f; bytes = None } ∷ rs
reply k h acknowledges rs = record { number = Ok tt; bytes = None } ∷ rs

abbrev pub replies : {C A : Type 0} → Rules C A → CoilId → Share C A → List Deed → List Reply
replies k i h [] = []
replies k i h (d ∷ ds) = reply k h d (replies k i (after k i h d) ds)

-- the microsteps of all words taken: flags and configuration are those at the start of the list,
-- and reports, acknowledgements and settings of the configuration that are accepted change them
abbrev pub microsteps_taken : StepConfig → ℕ → List Deed → ℤ
microsteps_taken config flags [] = pos 0
microsteps_taken config flags (sets stage n v ∷ ds) = microsteps_taken (config_after step_kind stage (look_up step_lines n) config v) flags ds
microsteps_taken config flags (starts ∷ ds) = microsteps_taken config flags ds
microsteps_taken config flags (moves orders ∷ ds) = steps_taken flags (counted config orders) *ℤ pos (scale config.resolution) +ℤ microsteps_taken config flags ds
microsteps_taken config flags (misses n m ∷ ds) = microsteps_taken config flags ds
microsteps_taken config flags (reports f ∷ ds) = microsteps_taken config (cond (nat_lt f 16) (noted flags f) flags) ds
microsteps_taken config flags (acknowledges ∷ ds) = microsteps_taken config (cleared flags) ds

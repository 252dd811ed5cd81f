-- What each call of a module does to each motor, what it answers, and which driver calls it makes. Assumes nothing.
use Rattle.std.specs.Prelude.{ℕ, ◌+◌, ◌%◌, ◌^◌, Bool, true, cond, List, [], ◌∷◌, ◌++◌, map, length, take, drop, ℤ, Some, None, Ok, Err, Option, Result, ◌==◌, nat_lt}
use Rattle.axis.specs.Kinds.{Kind, Outcome}
use Rattle.axis.specs.Levels.{Levels, with_level}
use Rattle.axis.specs.declared.currents.CurrentSetting.{CurrentSetting}
use Rattle.coil.specs.Numbers.{by_number, number, points_from}
use Rattle.coil.specs.Chains.{on}
use Rattle.coil.specs.Meaning.{Coil, cleared, noted, tripped}
use Rattle.coil.specs.declared.CoilCall.TheVariants.{Feed, Note, Clear}
use Rattle.coil.specs.declared.CoilId.{CoilId}
use Rattle.coil.specs.declared.CoilId.TheVariants.{First, Second}
use Rattle.coil.specs.declared.DriverCall.{DriverCall}
use Rattle.module.specs.Motors.{latest}
use Rattle.module.specs.Share.{Rules, Share, powered, sight, wanted}
use Rattle.module.specs.declared.inner.Inner.{Inner}
use Rattle.refusal.specs.declared.Refusal.{Refusal}
use Rattle.refusal.specs.declared.Refusal.TheVariants.{UnknownRegister, Closed, OutOfRange, MotorPowered, RecordLength, AnswerLength, UnknownMotor, UnknownFlags}
use Rattle.registers.specs.Tables.{Line, is_open, look_up}
use Rattle.registers.specs.declared.Register.{Register}
use Rattle.registers.specs.declared.Setting.{Setting}
use Rattle.registers.specs.declared.Setting.TheVariants.{Configuration, Current}
use Rattle.registers.specs.declared.Stage.{Stage}
use Rattle.std.specs.Option.{unwrap_or}
use Rattle.supply.specs.Shares.{granted}

-- a module with another configuration
abbrev pub with_config : {C A D : Type 0} → Inner A D C → C → Inner A D C
with_config x config = record x { configuration = record { model = config } }

-- what can be asked of a module
pub data Asked : Type 0 where
  -- a register and a value
  setting : ℕ → ℤ → Asked
  -- a cycle record and the length of the answer buffer
  cycle : List ℕ → ℕ → Asked
  -- a motor and reported flags
  report : ℕ → ℕ → Asked
  -- a motor
  acknowledgement : ℕ → Asked

-- what can be done to one motor
pub data Deed : Type 0 where
  -- a setting of a register that concerns the motor, at a stage
  sets : Stage → ℕ → ℤ → Deed
  starts : Deed
  -- an accepted cycle, with the motor's eight bytes
  moves : List ℕ → Deed
  -- a refused cycle, with the lengths of record and answer buffer
  misses : ℕ → ℕ → Deed
  reports : ℕ → Deed
  acknowledges : Deed

abbrev pub Answer : Type 0
Answer = Result (Unit {0}) Refusal

-- the gate's questions, in order

abbrev pub in_range : {X : Type 0} → Option X → Answer → Answer
in_range None next = Err OutOfRange
in_range (Some x) next = next

abbrev pub value_answer : {C A : Type 0} → Kind C A → Setting → Bool → ℤ → Answer
value_answer k Configuration is_powered v = in_range (k.config v) (Ok tt)
value_answer k (Current i which) is_powered v = in_range (points_from v) (cond is_powered (Err MotorPowered) (Ok tt))

abbrev pub setting_answer : {C A : Type 0} → Kind C A → Stage → Option Register → Bool → ℤ → Answer
setting_answer k stage None is_powered v = Err UnknownRegister
setting_answer k stage (Some r) is_powered v = cond (is_open r.opened stage) (value_answer k r.setting is_powered v) (Err Closed)

abbrev pub length_answer : ℕ → ℕ → Answer
length_answer record_length answer_length = cond (record_length == 16) (cond (answer_length == 16) (Ok tt) (Err AnswerLength)) (Err RecordLength)

-- what the motor with this number gives, or the refusal of a number that no motor has
abbrev pub of_motor : {X : Type 0} → ℕ → (CoilId → X) → Result X Refusal
of_motor n f = by_number n (λ i. Ok (f i)) (Err UnknownMotor)

abbrev pub motor_answer : ℕ → Answer → Answer
motor_answer n next = by_number n (λ _. next) (Err UnknownMotor)

abbrev pub flags_answer : ℕ → Answer
flags_answer flags = cond (nat_lt flags 16) (Ok tt) (Err UnknownFlags)

-- the configuration and the current settings after a setting, taken or refused

abbrev pub configured : {C A : Type 0} → Kind C A → Setting → C → ℤ → C
configured k Configuration config v = unwrap_or (k.config v) config
configured k (Current i which) config v = config

abbrev pub config_after : {C A : Type 0} → Kind C A → Stage → Option Register → C → ℤ → C
config_after k stage None config v = config
config_after k stage (Some r) config v = cond (is_open r.opened stage) (configured k r.setting config v) config

abbrev pub with_points : Levels → CurrentSetting → Option ℕ → Levels
with_points currents which None = currents
with_points currents which (Some points) = with_level currents which points

abbrev pub adjusted : Setting → Bool → Levels → ℤ → Levels
adjusted Configuration is_powered currents v = currents
adjusted (Current i which) is_powered currents v = cond is_powered currents (with_points currents which (points_from v))

abbrev pub currents_after : Stage → Option Register → Bool → Levels → ℤ → Levels
currents_after stage None is_powered currents v = currents
currents_after stage (Some r) is_powered currents v = cond (is_open r.opened stage) (adjusted r.setting is_powered currents v) currents

-- a motor after a setting that concerns it
abbrev pub set_share : {C A : Type 0} → Kind C A → Stage → Option Register → Share C A → ℤ → Share C A
set_share k stage found h v = record h {
  config = config_after k stage found h.config v;
  currents = currents_after stage found (powered k h) h.currents v;
}

-- what the kind of axis makes of a motor's eight bytes
abbrev pub outcome : {C A : Type 0} → Kind C A → Share C A → List ℕ → Outcome A
outcome k h orders = k.cycle h.config h.axis (sight h) orders

-- accepted cycles are numbered from 1, modulo 2 ^ 32
abbrev pub next_cycle : ℕ → ℕ
next_cycle n = (n + 1) % 2 ^ 32

-- a motor with other current settings
abbrev pub with_currents : {C A : Type 0} → Share C A → Levels → Share C A
with_currents h currents = record h { currents = currents }

-- the motor i after an accepted cycle
abbrev pub moved_share : {C A : Type 0} → Kind C A → CoilId → Share C A → List ℕ → Share C A
moved_share k i h orders = record h {
  axis = (outcome k h orders).axis;
  fault = latest i (next_cycle h.cycles) (outcome k h orders).ending h.fault;
  cycles = next_cycle h.cycles;
  count = (outcome k h orders).count;
  flags = (outcome k h orders).flags;
}

-- the motor i after a deed: from its share and the deed alone
abbrev pub after : {C A : Type 0} → Rules C A → CoilId → Share C A → Deed → Share C A
after k i h (sets stage n v) = set_share k.kind stage (look_up k.lines n) h v
after k i h starts = h
after k i h (moves orders) = moved_share k.kind i h orders
after k i h (misses n m) = h
after k i h (reports f) = record h { flags = cond (nat_lt f 16) (noted h.flags f) h.flags }
after k i h acknowledges = record h { flags = cleared h.flags }

-- the motor i after a call that may not concern it
abbrev pub lives : {C A : Type 0} → Rules C A → CoilId → Share C A → Option Deed → Share C A
lives k i h None = h
lives k i h (Some d) = after k i h d

-- what a call does to the motor i, or absent where it does nothing to it

abbrev pub concerns : CoilId → Setting → Bool
concerns i Configuration = true
concerns i (Current j which) = number i == number j

-- the motor i after a setting of a current, taken or refused
abbrev pub adjusted_share : {C A : Type 0} → Kind C A → Setting → CoilId → Share C A → ℤ → Share C A
adjusted_share k s i h v = with_currents h (cond (concerns i s) (adjusted s (powered k h) h.currents v) h.currents)

abbrev pub set_deed : CoilId → Stage → Option Register → ℕ → ℤ → Option Deed
set_deed i stage None n v = None
set_deed i stage (Some r) n v = cond (concerns i r.setting) (Some (sets stage n v)) None

-- bytes 0 to 7 are motor 1's, bytes 8 to 15 motor 2's
abbrev pub half : CoilId → List ℕ → List ℕ
half First bytes = take 8 bytes
half Second bytes = drop 8 bytes

-- x for a cycle whose record and answer buffer have 16 bytes each, else y
abbrev pub where_sized : {X : Type 0} → ℕ → ℕ → X → X → X
where_sized record_length answer_length x y = cond (record_length == 16) (cond (answer_length == 16) x y) y

abbrev pub cycle_deed : CoilId → List ℕ → ℕ → Deed
cycle_deed i orders room = where_sized (length orders) room (moves (half i orders)) (misses (length orders) room)

abbrev pub motor_deed : CoilId → ℕ → Deed → Option Deed
motor_deed i n d = cond (n == number i) (Some d) None

abbrev pub deed : List Line → Stage → CoilId → Asked → Option Deed
deed lines stage i (setting n v) = set_deed i stage (look_up lines n) n v
deed lines stage i (cycle orders room) = Some (cycle_deed i orders room)
deed lines stage i (report n f) = motor_deed i n (reports f)
deed lines stage i (acknowledgement n) = motor_deed i n acknowledges

-- the number that a call answers; h and g are the shares of motor 1 and motor 2

abbrev pub set_motor : {C A : Type 0} → Setting → Share C A → Share C A → Share C A
set_motor Configuration h g = h
set_motor (Current First which) h g = h
set_motor (Current Second which) h g = g

abbrev pub addressee : {C A : Type 0} → Option Register → Share C A → Share C A → Share C A
addressee None h g = h
addressee (Some r) h g = set_motor r.setting h g

abbrev pub answer : {C A : Type 0} → Rules C A → Stage → Share C A → Share C A → Asked → Answer
answer k stage h g (setting n v) = setting_answer k.kind stage (look_up k.lines n) (powered k.kind (addressee (look_up k.lines n) h g)) v
answer k stage h g (cycle orders room) = length_answer (length orders) room
answer k stage h g (report n f) = motor_answer n (flags_answer f)
answer k stage h g (acknowledgement n) = motor_answer n (Ok tt)

-- the points of the motor i after a deed: c is its coil before, w and v are what both motors want then
abbrev pub points_after : CoilId → Coil → ℕ → ℕ → Option Deed → ℕ
points_after i c w v None = c.points
points_after i c w v (Some (sets stage n x)) = c.points
points_after i c w v (Some starts) = c.points
points_after i c w v (Some (moves orders)) = granted i w v
points_after i c w v (Some (misses n m)) = c.points
points_after i c w v (Some (reports f)) = cond (nat_lt f 16) (cond (tripped (noted c.flags f)) 0 c.points) c.points
points_after i c w v (Some acknowledges) = c.points

-- the driver calls that a call makes: in a cycle all of motor 1's, all of motor 2's, then both feeds

abbrev pub feeds : ℕ → ℕ → List DriverCall
feeds w v = on First (Feed (granted First w v)) ∷ on Second (Feed (granted Second w v)) ∷ []

abbrev pub move_calls : {C A : Type 0} → Kind C A → CoilId → Share C A → List ℕ → List DriverCall
move_calls k i h orders = map (on i) (outcome k h (half i orders)).calls

abbrev pub cycle_calls : {C A : Type 0} → Rules C A → Share C A → Share C A → List ℕ → List DriverCall
cycle_calls k h g orders =
    (move_calls k.kind First h orders ++ move_calls k.kind Second g orders)
    ++ feeds (wanted k.kind (after k First h (moves (half First orders)))) (wanted k.kind (after k Second g (moves (half Second orders))))

abbrev pub note_calls : CoilId → ℕ → List DriverCall
note_calls i f = cond (nat_lt f 16) (on i (Note f) ∷ []) []

abbrev pub calls : {C A : Type 0} → Rules C A → Share C A → Share C A → Asked → List DriverCall
calls k h g (setting n v) = []
calls k h g (cycle orders room) = where_sized (length orders) room (cycle_calls k h g orders) []
calls k h g (report n f) = by_number n (λ i. note_calls i f) []
calls k h g (acknowledgement n) = by_number n (λ i. on i Clear ∷ []) []

-- making a module feeds 0 to both coils
abbrev pub first_calls : List DriverCall
first_calls = feeds 0 0

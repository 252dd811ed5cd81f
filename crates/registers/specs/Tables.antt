-- The register tables of the function models. Assumes nothing.
use Rattle.std.specs.Prelude.{ℕ, Bool, true, false, cond, List, [], ◌∷◌, Some, None, Option, ◌==◌}
use Rattle.axis.specs.declared.currents.CurrentSetting.{CurrentSetting}
use Rattle.axis.specs.declared.currents.CurrentSetting.TheVariants.{Holding, Nominal, Maximum}
use Rattle.coil.specs.declared.CoilId.{CoilId}
use Rattle.coil.specs.declared.CoilId.TheVariants.{First, Second}
use Rattle.registers.specs.declared.Open.{Open}
use Rattle.registers.specs.declared.Open.TheVariants as open_in
use Rattle.registers.specs.declared.Register.{Register}
use Rattle.registers.specs.declared.Setting.TheVariants.{Configuration, Current}
use Rattle.registers.specs.declared.Stage.{Stage}
use Rattle.registers.specs.declared.Stage.TheVariants.{Preparation, Running}

-- a register that is open in preparation only is closed in a running module
abbrev pub is_open : Open → Stage → Bool
is_open open_in.Preparation Preparation = true
is_open open_in.Preparation Running = false
is_open open_in.BothStages stage = true

-- a line of a table: the register's number, and what it is
pub record Line : Type 0 where
  pub number : ℕ
  pub register : Register

-- one of a motor's three current settings, open at both stages
abbrev pub current : ℕ → CoilId → CurrentSetting → Line
current n motor which = record { number = n; register = record { setting = Current motor which; opened = open_in.BothStages } }

-- the module-wide configuration, open in preparation only
abbrev pub configuration : ℕ → Line
configuration n = record { number = n; register = record { setting = Configuration; opened = open_in.Preparation } }

-- the register of a number, or absent
abbrev pub look_up : List Line → ℕ → Option Register
look_up [] n = None
look_up (l ∷ ls) n = cond (n == l.number) (Some l.register) (look_up ls n)

-- function model 0, step words
abbrev pub step_lines : List Line
step_lines =
    current 33 First Holding
    ∷ current 34 First Nominal
    ∷ current 35 First Maximum
    ∷ current 36 Second Holding
    ∷ current 37 Second Nominal
    ∷ current 38 Second Maximum
    ∷ configuration 46
    ∷ []

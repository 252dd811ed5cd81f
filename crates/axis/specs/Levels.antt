-- The three current settings of a motor, and which of them it wants. Assumes nothing.
use Rattle.std.specs.Prelude.{ℕ, Bool, true, false}
use Rattle.axis.specs.declared.currents.Current.{Current}
use Rattle.axis.specs.declared.currents.Current.TheVariants.{Off, Holding, Nominal, Maximum}
use Rattle.axis.specs.declared.currents.CurrentSetting.{CurrentSetting}
use Rattle.axis.specs.declared.currents.CurrentSetting.TheVariants as setting
use Rattle.axis.specs.declared.currents.Currents.{Currents}

-- the settings, in points
pub record Levels : Type 0 where
  pub holding : ℕ
  pub nominal : ℕ
  pub maximum : ℕ

abbrev pub no_levels : Levels
no_levels = record { holding = 0; nominal = 0; maximum = 0 }

abbrev pub levels : Currents → Levels
levels c = record { holding = c.holding.value; nominal = c.nominal.value; maximum = c.maximum.value }

-- the settings with another value of one of them
abbrev pub with_level : Levels → CurrentSetting → ℕ → Levels
with_level l setting.Holding n = record { holding = n; nominal = l.nominal; maximum = l.maximum }
with_level l setting.Nominal n = record { holding = l.holding; nominal = n; maximum = l.maximum }
with_level l setting.Maximum n = record { holding = l.holding; nominal = l.nominal; maximum = n }

-- the points of a chosen current
abbrev pub chosen : Current → Levels → ℕ
chosen Off l = 0
chosen Holding l = l.holding
chosen Nominal l = l.nominal
chosen Maximum l = l.maximum

-- a motor is powered while it chooses a current
abbrev pub is_powered : Current → Bool
is_powered Off = false
is_powered Holding = true
is_powered Nominal = true
is_powered Maximum = true

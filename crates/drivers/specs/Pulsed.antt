-- What the pulse driver tells beside its meaning: the pulses of each coil's latest accepted advance. Assumes nothing.
use Rattle.std.specs.Prelude.{◌≡◌, ℤ, unsigned_abs}
use Rattle.coil.specs.Chains.{Did}
use Rattle.coil.specs.Coils.{put}
use Rattle.coil.specs.Kept.{coils_of}
use Rattle.coil.specs.Meaning.{Coils}
use Rattle.coil.specs.declared.CoilCall.{CoilCall}
use Rattle.coil.specs.declared.CoilCall.TheVariants.{Advance, Feed, Note, Clear}
use Rattle.coil.specs.declared.CoilId.{CoilId}
use Rattle.coil.specs.Directions.{way_of}
use Rattle.coil.specs.declared.direction.Direction.TheVariants.{Forward}
use Rattle.coil.specs.declared.per_coil.PerCoil.{PerCoil}
use Rattle.drivers.specs.declared.pulse.PulseDriver.{PulseDriver}
use Rattle.drivers.specs.declared.pulse.Pulses.{Pulses}

-- before the first advance
abbrev pub no_pulses : Pulses
no_pulses = record { direction = Forward; number = 0 }

abbrev pub pulses_for : ℤ → Pulses
pulses_for steps = record { direction = way_of steps; number = unsigned_abs steps }

-- the pulses of both coils after an accepted call: only an advance makes new ones, and those of its coil alone
abbrev pub pulses_after : PerCoil Pulses → CoilId → CoilCall → PerCoil Pulses
pulses_after p i (Advance steps) = put p i (pulses_for steps)
pulses_after p i (Feed points) = p
pulses_after p i (Note flags) = p
pulses_after p i Clear = p

abbrev pub pulse_meaning : PulseDriver → Coils
pulse_meaning d = coils_of d.coils

-- an accepted call leaves these pulses
abbrev pub Pulsed : Did PulseDriver
Pulsed d call e = e.pulses ≡ pulses_after d.pulses call.coil call.call

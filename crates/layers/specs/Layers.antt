-- What reversal and zero shift make of the coils below them, and of the calls that they pass on. Assumes nothing.
use Rattle.std.specs.Prelude.{ℕ, ◌+◌, ◌-◌, ◌%◌, ◌^◌, ℤ}
use Rattle.coil.specs.Chains.{on}
use Rattle.coil.specs.Coils.{at, both}
use Rattle.coil.specs.Meaning.{Coils, with_count}
use Rattle.coil.specs.declared.CoilCall.{CoilCall}
use Rattle.coil.specs.declared.CoilCall.TheVariants.{Advance, Feed, Note, Clear}
use Rattle.coil.specs.declared.DriverCall.{DriverCall}

-- both counts by one rule, while points and flags pass through
abbrev pub recounted : (ℕ → ℕ) → Coils → Coils
recounted rule c = both (λ i. with_count (at c i) (rule (at c i).count))

-- a count negated, modulo 2 ^ 32; a count is below 2 ^ 32, so the difference is not cut at 0
abbrev pub negated : ℕ → ℕ
negated count = (2 ^ 32 - count) % 2 ^ 32

-- a count plus the shift, modulo 2 ^ 32
abbrev pub raised : ℕ → ℕ → ℕ
raised shift count = (count + shift) % 2 ^ 32

-- what reversal makes of the coils below
abbrev pub reversed : Coils → Coils
reversed = recounted negated

-- what zero shift makes of the coils below
abbrev pub shifted : ℕ → Coils → Coils
shifted shift = recounted (raised shift)

-- the call that a layer makes below: an advance by the steps that it makes of the steps, any other call as it is
abbrev pub turned_call : (ℤ → ℤ) → CoilCall → CoilCall
turned_call turn (Advance steps) = Advance (turn steps)
turned_call turn (Feed points) = Feed points
turned_call turn (Note flags) = Note flags
turned_call turn Clear = Clear

-- the same of a call with its coil
abbrev pub turned : (ℤ → ℤ) → DriverCall → DriverCall
turned turn c = on c.coil (turned_call turn c.call)

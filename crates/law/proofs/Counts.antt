-- With step words a count is the first count plus the words taken.
use Rattle.std.proofs.Common.{◌≡◌, ◌^◌, ◌<◌, List, [], ◌∷◌, ℤ, pos, ◌+ℤ◌, ◌*ℤ◌, sym, refl, ap, ◌∙◌, arith, lit<}
use Rattle.coil.proofs.Wraps.{modulo_below, modulo_onto, modulo_still}
use Rattle.coil.specs.Modulo.{modulo}
use Rattle.coil.specs.declared.CoilId.{CoilId}
use Rattle.law.specs.Deeds.{ending, microsteps_taken}
use Rattle.module.specs.Effects.{Deed, acknowledges, after, misses, moves, reports, sets, starts}
use Rattle.module.specs.Share.{Share, rules}
use Rattle.registers.specs.Tables.{step_lines}
use Rattle.std.proofs.lemmas.Int.{ints}
use Rattle.step_axis.specs.Taken.{step_kind, steps_taken}
use Rattle.step_axis.specs.Words.{counted, scale}
use Rattle.step_axis.specs.declared.StepAxis.{StepAxis}
use Rattle.step_axis.specs.declared.config.StepConfig.{StepConfig}

onward : (a b c : ℤ) → a +ℤ b +ℤ c ≡ a +ℤ (b +ℤ c)
onward a b c = omega (arith, ints)

pub counts : (i : CoilId) (h : Share StepConfig StepAxis) (ds : List Deed) → h.count < 2 ^ 32 →
    (ending (rules step_kind step_lines) i h ds).count ≡ modulo (2 ^ 32) (pos h.count +ℤ microsteps_taken h.config h.flags ds)
counts i h [] b = sym (modulo_still (2 ^ 32) h.count (pos 0) b refl)
counts i h (sets stage n v ∷ ds) b = counts i (after (rules step_kind step_lines) i h (sets stage n v)) ds b
counts i h (starts ∷ ds) b = counts i h ds b
counts i h (moves orders ∷ ds) b =
    let z : ℤ = steps_taken h.flags (counted h.config orders) *ℤ pos (scale h.config.resolution) in
    let rest : ℤ = microsteps_taken h.config h.flags ds in
    counts i (after (rules step_kind step_lines) i h (moves orders)) ds (modulo_below (2 ^ 32) (pos h.count +ℤ z) (lit< tt))
    ∙ modulo_onto (2 ^ 32) (pos h.count +ℤ z) rest (lit< tt)
    ∙ ap (modulo (2 ^ 32)) (onward (pos h.count) z rest)
counts i h (misses n m ∷ ds) b = counts i h ds b
counts i h (reports f ∷ ds) b = counts i (after (rules step_kind step_lines) i h (reports f)) ds b
counts i h (acknowledges ∷ ds) b = counts i (after (rules step_kind step_lines) i h acknowledges) ds b

-- One motor of the table of two, read and written at its place.
use Rattle.std.proofs.Common.{◌≡◌, ℕ, ◌<◌, Bool, List, length, get_or, set, sym, ap, ◌∙◌, get_or-set_same}
use Rattle.axis.specs.Kinds.{Kind}
use Rattle.axis.specs.Levels.{chosen, is_powered, levels}
use Rattle.coil.specs.declared.CoilId.{CoilId}
use Rattle.module.specs.Share.{idle, motor_at, place}
use Rattle.module.specs.declared.motor.Motor.{Motor}
use Rattle.std.proofs.lemmas.List.{get_or_default}

-- the motor that stood at a place
pub motor_there : {C A : Type 0} (k : Kind C A) (ms : List (Motor A)) (i : CoilId) (p : ℕ) (d : Motor A) → p ≡ place i → p < length ms → get_or ms p d ≡ motor_at k ms i
motor_there k ms i p d e h = get_or_default ms p d (idle k) h ∙ ap (λ q. get_or ms q (idle k)) e

-- the motor that is put there
pub motor_put : {C A : Type 0} (k : Kind C A) (ms : List (Motor A)) (i : CoilId) (p : ℕ) (m : Motor A) → p ≡ place i → p < length ms → motor_at k (set ms p m) i ≡ m
motor_put k ms i p m e h = ap (λ q. get_or (set ms p m) q (idle k)) (sym e) ∙ get_or-set_same ms p m (idle k) h

pub wanted_there : {C A : Type 0} (k : Kind C A) (ms : List (Motor A)) (i : CoilId) (p : ℕ) (d : Motor A) (r : ℕ) → p ≡ place i → p < length ms →
    r ≡ chosen (k.current (get_or ms p d).axis) (levels (get_or ms p d).currents) → r ≡ chosen (k.current (motor_at k ms i).axis) (levels (motor_at k ms i).currents)
wanted_there k ms i p d r e h q = q ∙ ap (λ m. chosen (k.current m.axis) (levels m.currents)) (motor_there k ms i p d e h)

pub powered_there : {C A : Type 0} (k : Kind C A) (ms : List (Motor A)) (i : CoilId) (p : ℕ) (d : Motor A) (r b : Bool) → p ≡ place i → p < length ms →
    r ≡ is_powered (k.current (get_or ms p d).axis) → r ≡ b → is_powered (k.current (motor_at k ms i).axis) ≡ b
powered_there k ms i p d r b e h q is = ap (λ m. is_powered (k.current m.axis)) (sym (motor_there k ms i p d e h)) ∙ sym q ∙ is

-- The course of a move that nothing disturbs, from standstill to a target. Assumes nothing.
use Rattle.std.specs.Prelude.{◌≡◌, ℕ, zero, suc, ◌+◌, ◌-◌, ◌≤◌, ℤ, pos, ◌+ℤ◌, ◌-ℤ◌}
use Rattle.profile.specs.Ramp.{along, next_size, signed, toward}
use Rattle.coil.specs.declared.direction.Direction.{Direction}
use Rattle.profile.specs.declared.Limits.{Limits}
use Rattle.profile.specs.declared.Speed.{Speed}

-- a move under way: the microsteps still to go, and the size of the speed
pub record Move : Type 0 where
  pub to_go : ℕ
  pub speed : ℕ

-- one cycle of a move
abbrev pub onward : Limits → Move → Move
onward l m = record { to_go = m.to_go - next_size l m.speed (pos m.to_go); speed = next_size l m.speed (pos m.to_go) }

-- the move over a distance, after so many cycles
unfoldable pub course : Limits → ℕ → ℕ → Move
course l distance zero = record { to_go = distance; speed = 0 }
course l distance (suc k) = onward l (course l distance k)

-- the distance still to go after so many cycles
abbrev pub left : Limits → ℕ → ℕ → ℕ
left l distance k = (course l distance k).to_go

-- the size of the speed after so many cycles
abbrev pub speed_at : Limits → ℕ → ℕ → ℕ
speed_at l distance k = (course l distance k).speed

-- settings with which a motor can be driven
pub record Driven (l : Limits) : Type 0 where
  pub some_speed : 1 ≤ l.maximum
  pub some_acceleration : 1 ≤ l.acceleration
  pub some_deceleration : 1 ≤ l.deceleration

-- the course over a distance, after k cycles
pub record SoundCourse (l : Limits) (distance k : ℕ) : Type 0 where
  -- the next cycle does not pass the target
  pub never_past : speed_at l distance (suc k) ≤ left l distance k
  -- from cycle to cycle it gets faster and slower by no more than the settings
  pub speeds_up : speed_at l distance (suc k) ≤ speed_at l distance k + l.acceleration
  pub slows_down : speed_at l distance k ≤ speed_at l distance (suc k) + l.deceleration
  pub capped : speed_at l distance k ≤ l.maximum
  -- the target is reached within as many cycles as there are microsteps
  pub arrives : distance ≤ k → left l distance k ≡ 0
  -- on the target the motor stands
  pub stands : left l distance k ≡ 0 → speed_at l distance (suc k) ≡ 0

-- a motor on its way
pub record Travel : Type 0 where
  pub position : ℤ
  pub speed : Speed

-- one cycle toward a target
abbrev pub travelled : Limits → ℤ → Travel → Travel
travelled l target t = record {
  position = t.position +ℤ signed (toward l t.speed (target -ℤ t.position));
  speed = toward l t.speed (target -ℤ t.position);
}

-- so many cycles toward it
unfoldable pub travel : Limits → ℤ → Travel → ℕ → Travel
travel l target t zero = t
travel l target t (suc k) = travelled l target (travel l target t k)

-- going to a target that is a distance off in a direction: after k cycles the motor has come that way what the course has made
pub record Follows (l : Limits) (way : Direction) (distance : ℕ) (from t : Travel) (k : ℕ) : Type 0 where
  pub size : t.speed.size ≡ speed_at l distance k
  pub place : t.position ≡ from.position +ℤ along way (pos (distance - left l distance k))

-- maximum 10, acceleration and deceleration 2
abbrev pub tens : Limits
tens = record { maximum = 10; acceleration = 2; deceleration = 2 }

-- over 12 microsteps it moves 2, 4, 4, 2 and 0; at speed 6 with 3 to go it slows to 4
pub record Figures : Type 0 where
  pub move_1 : speed_at tens 12 1 ≡ 2
  pub move_2 : speed_at tens 12 2 ≡ 4
  pub move_3 : speed_at tens 12 3 ≡ 4
  pub move_4 : speed_at tens 12 4 ≡ 2
  pub move_5 : speed_at tens 12 5 ≡ 0
  pub there : left tens 12 4 ≡ 0
  pub late : next_size tens 6 (pos 3) ≡ 4

pub record CourseStands : Type 0 where
  pub sound : (l : Limits) → Driven l → (distance k : ℕ) → SoundCourse l distance k
  -- from standstill, either way
  pub followed : (l : Limits) → Driven l → (way : Direction) (distance : ℕ) (from : Travel) → from.speed.size ≡ 0 → (k : ℕ) →
      Follows l way distance from (travel l (from.position +ℤ along way (pos distance)) from k) k
  pub figures : Figures

-- What the rule for the next speed says, in the words of its subject. Assumes nothing.
use Rattle.std.specs.Prelude.{◌≡◌, ℕ, ◌+◌, ◌-◌, ◌≤◌, ◌⊎◌, ℤ, pos, ◌≤ℤ◌}
use Rattle.profile.specs.Ramp.{fastest, next_size, slowest, stopping_distance}
use Rattle.profile.specs.declared.Limits.{Limits}

-- from the size v the next speed can be n, and from n the motor stops within d
pub record Lawful (l : Limits) (v : ℕ) (d : ℤ) (n : ℕ) : Type 0 where
  pub above : slowest l v ≤ n
  pub below : n ≤ fastest l v
  pub within : pos (stopping_distance n l.deceleration) ≤ℤ d

-- r is the greatest such speed
pub record Greatest (l : Limits) (v : ℕ) (d : ℤ) (r : ℕ) : Type 0 where
  pub lawful : Lawful l v d r
  pub most : (n : ℕ) → Lawful l v d n → n ≤ r

-- there is none, and r is the slowest
pub record Without (l : Limits) (v : ℕ) (d : ℤ) (r : ℕ) : Type 0 where
  pub none : (n : ℕ) → Lawful l v d n → ⊥
  pub least : r ≡ slowest l v

abbrev pub Chosen : Limits → ℕ → ℤ → ℕ → Type 0
Chosen l v d r = Greatest l v d r ⊎ Without l v d r

-- for every speed, setting and distance
pub record RuleStands : Type 0 where
  -- the stopping distance is its first term and the rest
  pub first_term : (n dec : ℕ) → 1 ≤ dec → stopping_distance n dec ≡ n + stopping_distance (n - dec) dec
  -- a greater speed does not stop sooner
  pub rises : (m n dec : ℕ) → m ≤ n → stopping_distance m dec ≤ stopping_distance n dec
  -- the next speed is the greatest lawful one, or the slowest
  pub chosen : (l : Limits) (v : ℕ) (d : ℤ) → 1 ≤ l.acceleration → 1 ≤ l.deceleration → Chosen l v d (next_size l v d)
  -- no other number is
  pub only : (l : Limits) (v : ℕ) (d : ℤ) (r : ℕ) → 1 ≤ l.acceleration → 1 ≤ l.deceleration → Chosen l v d r → r ≡ next_size l v d
  -- without acceleration or deceleration the next speed is 0
  pub no_acceleration : (l : Limits) (v : ℕ) (d : ℤ) → l.acceleration ≡ 0 → next_size l v d ≡ 0
  pub no_deceleration : (l : Limits) (v : ℕ) (d : ℤ) → l.deceleration ≡ 0 → next_size l v d ≡ 0

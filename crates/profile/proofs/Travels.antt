-- A motor that goes to its target follows the course, either way. Assumes nothing.
use Rattle.std.proofs.Common.{◌≡◌, ℕ, zero, suc, ◌-◌, ◌≤◌, false, ◌⊎◌, ℤ, pos, ◌+ℤ◌, ◌-ℤ◌, refl, ◌∙◌, inl, inr, ⊎_elim, arith}
use Rattle.std.proofs.lemmas.Int.{ints}
use Rattle.std.proofs.lemmas.Bool.Decides.{nat_tests}
use Rattle.profile.specs.Course.{Driven, Follows, Move, Travel, course, left, onward, travel, travelled}
use Rattle.profile.specs.Ramp.{along, forbids_motion, heading, next_size, signed, toward}
use Rattle.coil.specs.declared.direction.Direction.{Direction}
use Rattle.coil.specs.declared.direction.Direction.TheVariants.{Forward, Backward}
use Rattle.profile.specs.declared.Limits.{Limits}
use Rattle.profile.specs.declared.Speed.{Speed}
use Rattle.profile.proofs.Courses.{near, sound}
use Rattle.profile.proofs.Picks.{free, toward_is}

-- a motor goes as a move says, the distance left being along a way
pub record Goes (way : Direction) (target : ℤ) (t : Travel) (m : Move) : Type 0 where
  pub size : t.speed.size ≡ m.speed
  pub ahead : target -ℤ t.position ≡ along way (pos m.to_go)
  pub turned : (m.speed ≡ 0) ⊎ (t.speed.direction ≡ way)

-- it goes on that way, unless it is there
same_way : (s : Speed) (way : Direction) (x : ℕ) → (s.size ≡ 0) ⊎ (s.direction ≡ way) → (x ≡ 0) ⊎ (heading s (along way (pos x)) ≡ way)
same_way s way zero h = inl refl
same_way s Forward (suc x) h = inr (grind (arith, nat_tests))
same_way s Backward (suc x) h = inr (grind (arith, nat_tests))

-- a distance along its own way is itself
ahead_by : (other way : Direction) (x : ℕ) → (x ≡ 0) ⊎ (other ≡ way) → along other (along way (pos x)) ≡ pos x
ahead_by Forward Forward x q = refl
ahead_by Backward Backward x q = omega (arith, ints)
ahead_by Forward Backward x q = grind (arith, ints)
ahead_by Backward Forward x q = grind (arith, ints)

-- what is left after n of x microsteps, made that way unless there are none
made_of : (way other : Direction) (x n : ℕ) → n ≤ x → (x ≡ 0) ⊎ (other ≡ way) → along way (pos x) -ℤ along other (pos n) ≡ along way (pos (x - n))
made_of Forward Forward x n h q = omega (arith, ints)
made_of Backward Backward x n h q = omega (arith, ints)
made_of Forward Backward x n h q = grind (arith, ints)
made_of Backward Forward x n h q = grind (arith, ints)

-- the next speed on a way with x microsteps to go: its size, what it leaves, and its way
record Next (way : Direction) (x n : ℕ) (s : Speed) : Type 0 where
  size : s.size ≡ n
  leaves : along way (pos x) -ℤ signed s ≡ along way (pos (x - n))
  turned : (n ≡ 0) ⊎ (s.direction ≡ way)

next : (l : Limits) (s : Speed) (way : Direction) (v x : ℕ) → forbids_motion l ≡ false → s.size ≡ v → (v ≡ 0) ⊎ (s.direction ≡ way) → next_size l v (pos x) ≤ x →
    Next way x (next_size l v (pos x)) (toward l s (along way (pos x)))
next l s way v x e is turned h =
    let d = along way (pos x) in
    let q = same_way s way x (⊎_elim (λ z. inl (is ∙ z)) inr turned) in
    let near : along (heading s d) d ≡ pos x = ahead_by (heading s d) way x q in
    let now : toward l s d ≡ record { size = next_size l v (pos x); direction = heading s d } = let t = toward_is l s d e in cc in
    rw now (record {
      size = refl;
      leaves = made_of way (heading s d) x (next_size l v (pos x)) h q;
      turned = ⊎_elim (λ z. inl (omega arith)) inr q;
    })

goes : (l : Limits) → Driven l → (way : Direction) (distance : ℕ) (from : Travel) → from.speed.size ≡ 0 → (k : ℕ) →
    Goes way (from.position +ℤ along way (pos distance)) (travel l (from.position +ℤ along way (pos distance)) from k) (course l distance k)
unfolding travel course
goes l a way distance from still zero = record { size = still; ahead = omega (arith, ints); turned = inl refl }
goes l a way distance from still (suc k) =
    goes_on (from.position +ℤ along way (pos distance)) (travel l (from.position +ℤ along way (pos distance)) from k) (course l distance k)
    (sound l a distance k).never_past (goes l a way distance from still k)
  where
    goes_on : (target : ℤ) (t : Travel) (m : Move) → next_size l m.speed (pos m.to_go) ≤ m.to_go → Goes way target t m → Goes way target (travelled l target t) (onward l m)
    goes_on target t m h g =
        let n = next l t.speed way m.speed m.to_go (free l a.some_acceleration a.some_deceleration) g.size g.turned h in
        rw g.ahead (record { size = n.size; ahead = omega (arith, ints, n.leaves, g.ahead); turned = n.turned })

pub followed : (l : Limits) → Driven l → (way : Direction) (distance : ℕ) (from : Travel) → from.speed.size ≡ 0 → (k : ℕ) →
    Follows l way distance from (travel l (from.position +ℤ along way (pos distance)) from k) k
followed l a way distance from still k =
    let g = goes l a way distance from still k in
    record {
      size = g.size;
      place = omega (arith, ints, g.ahead, made_of way way distance (left l distance k) (omega (arith, near l a distance k)) (inr refl));
    }

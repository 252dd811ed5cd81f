-- The next speed is the one that the rule says. Assumes nothing.
use Rattle.std.proofs.Common.{◌≡◌, ℕ, false, ℤ, pos, inl, inr, ⊎_elim, arith}
use Rattle.std.proofs.lemmas.Int.{ints, by_lt_z}
use Rattle.profile.specs.Laws.{Chosen}
use Rattle.profile.specs.Ramp.{forbids_motion, next_size, slowest, stopping_distance}
use Rattle.profile.specs.declared.Limits.{Limits}
use Rattle.profile.proofs.Picks.{next_picked}
use Rattle.profile.proofs.Sums.{rises}

pub chosen : (l : Limits) (v : ℕ) (d : ℤ) → forbids_motion l ≡ false → Chosen l v d (next_size l v d)
chosen l v d e =
    let p = next_picked l v d e in
    by_lt_z d (pos (stopping_distance (slowest l v) l.deceleration))
    (λ over. inr (record {
      none = λ n t. omega (arith, ints, t.within, rises (slowest l v) n l.deceleration t.above);
      least = omega (arith, ints, p.stops, rises (slowest l v) (next_size l v d) l.deceleration p.above);
    }))
    (λ stops. inl (record {
      lawful = record { above = p.above; below = omega (arith, p.below); within = ⊎_elim (λ same. rw same stops) (λ s. s) p.stops };
      most = λ n t. p.most n t.above (omega (arith, t.below)) t.within;
    }))

pub only : (l : Limits) (v : ℕ) (d : ℤ) (r : ℕ) → forbids_motion l ≡ false → Chosen l v d r → r ≡ next_size l v d
only l v d r e c = one (chosen l v d e) c
  where
    one : Chosen l v d (next_size l v d) → Chosen l v d r → r ≡ next_size l v d
    one (inl a) (inl b) = omega (arith, a.most r b.lawful, b.most (next_size l v d) a.lawful)
    one (inl a) (inr b) = absurd (b.none (next_size l v d) a.lawful)
    one (inr a) (inl b) = absurd (a.none r b.lawful)
    one (inr a) (inr b) = omega arith

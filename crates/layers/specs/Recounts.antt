-- Both counts by one rule: what holds of the rule at every count holds of the coils.
use Rattle.std.specs.Prelude.{◌≡◌, ℕ, ◌^◌, ◌<◌, Bool, true, false, cond, ℤ, refl}
use Rattle.std.proofs.Common.{sym, ap, subst, ◌∙◌}
use Rattle.coil.specs.Coils.{at, put, at_both, same_both}
use Rattle.coil.specs.Meaning.{Coil, Coils, Sound, advanced, stepped, tripped, with_count}
use Rattle.coil.specs.declared.CoilId.{CoilId}
use Rattle.coil.specs.declared.CoilId.TheVariants.{First, Second}
use Rattle.layers.specs.Layers.{recounted}

with_sound : {c : Coil} {n : ℕ} → Sound c → n < 2 ^ 32 → Sound (with_count c n)
with_sound s h = record { count = h; points = s.points; flags = s.flags; dark = s.dark }

-- a count below advances by some steps as the count above does by others, tripped or not
advances : (rule : ℕ → ℕ) (below above : ℤ) (n : ℕ) → rule (stepped n below) ≡ stepped (rule n) above → (t : Bool) → rule (cond t n (stepped n below)) ≡ cond t (rule n) (stepped (rule n) above)
advances rule below above n e true = refl
advances rule below above n e false = e

module _ (rule : ℕ → ℕ) (c : Coils) where
  pub recounted_sound : ((n : ℕ) → rule n < 2 ^ 32) → ((i : CoilId) → Sound (at c i)) → (i : CoilId) → Sound (at (recounted rule c) i)
  recounted_sound below sound i = subst Sound (sym (at_both (λ j. with_count (at c j) (rule (at c j).count)) i)) (with_sound (sound i) (below (at c i).count))

  -- an advance below, from c to d, is an advance above
  pub recounted_advanced : (below above : ℤ) (i : CoilId) → rule (stepped (at c i).count below) ≡ stepped (rule (at c i).count) above → (d : Coils) → d ≡ put c i (advanced (at c i) below) → recounted rule d ≡ put (recounted rule c) i (advanced (at (recounted rule c) i) above)
  recounted_advanced below above First e d is = ap (recounted rule) is ∙ ap (λ n. record { first = with_count c.first n; second = (recounted rule c).second }) (advances rule below above c.first.count e (tripped c.first.flags))
  recounted_advanced below above Second e d is = ap (recounted rule) is ∙ ap (λ n. record { first = (recounted rule c).first; second = with_count c.second n }) (advances rule below above c.second.count e (tripped c.second.flags))

  pub recounted_same : (other : ℕ → ℕ) → ((i : CoilId) → rule (at c i).count ≡ other (at c i).count) → recounted rule c ≡ recounted other c
  recounted_same other e = same_both (λ i. with_count (at c i) (rule (at c i).count)) (λ i. with_count (at c i) (other (at c i).count)) (λ i. ap (with_count (at c i)) (e i))

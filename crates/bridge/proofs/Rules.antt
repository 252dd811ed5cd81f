-- The rules of the table: one test of each entry, computed over the whole table.
use Prim.Native.Nat.{ℕ, ◌+◌, ◌-◌, ◌*◌, ◌<◌, ◌≤◌, min}
use lib.Dec.{leb}
use mathlib.Core.Bool.{Bool, true, ◌&&◌}
use mathlib.Core.Path.{◌≡◌, refl}
use native.Mathlib.Omega.{arith}
use Rattle.bridge.specs.Wave.{QuarterWaveStands, Round, quarter}
use Rattle.std.proofs.lemmas.Bool.{agree_below, agree_below_at, and_parts, leb-true}

abbrev squares : ℕ → ℕ
squares k = quarter k * quarter k + quarter (256 - k) * quarter (256 - k)

abbrev least : ℕ → Bool
least k = leb 100000000 (squares k + 14200)

abbrev most : ℕ → Bool
most k = leb (squares k) (100000000 + 14200)

abbrev rises : ℕ → Bool
rises k = leb (quarter k) (quarter (min (k + 1) 256))

abbrev bounded : ℕ → Bool
bounded k = leb (quarter k) 10000

abbrev passing : ℕ → Bool
passing k = (bounded k && rises k) && (least k && most k)

all_pass : agree_below passing (λ _. true) 257 ≡ true
unfolding quarter
all_pass = refl

module _ (k : ℕ) (h : k ≤ 256) where
  passes : ((bounded k ≡ true) × (rises k ≡ true)) × ((least k ≡ true) × (most k ≡ true))
  passes =
      let both = and_parts (bounded k && rises k) (least k && most k) (agree_below_at passing (λ _. true) 257 k all_pass (omega arith)) in
      (and_parts (bounded k) (rises k) both.0, and_parts (least k) (most k) both.1)

  pub quarter_bound : quarter k ≤ 10000
  quarter_bound = leb-true (quarter k) 10000 passes.0.0

  pub next_rises : quarter k ≤ quarter (min (k + 1) 256)
  next_rises = leb-true (quarter k) (quarter (min (k + 1) 256)) passes.0.1

  pub quarter_round : Round (squares k)
  quarter_round = record {
    least = leb-true 100000000 (squares k + 14200) passes.1.0;
    most = leb-true (squares k) (100000000 + 14200) passes.1.1;
  }

never_falls : (k : ℕ) → k < 256 → quarter k ≤ quarter (k + 1)
never_falls k h = let e : min (k + 1) 256 ≡ k + 1 = omega arith in rw e at (next_rises k (omega arith))

pub rules : QuarterWaveStands
unfolding quarter
rules = record { number = refl; begins = refl; ends = refl; never_falls = never_falls; round = quarter_round }

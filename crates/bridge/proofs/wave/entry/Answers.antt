use lib.ListN.{get_or}
use mathlib.Core.Path.{ap, subst, sym}
use Prim.Native.Nat.{ℕ, ◌≤◌}
use Rattle.bridge.specs.Wave.{quarter}
use Rattle.bridge.proofs.Rules.{quarter_bound}
use Rattle.bridge.proofs.wave.entry.Goals as goal

pub returns : goal.returns
unfolding quarter
returns c =
    let is = ap (λ t. get_or t c.args.k 0) c.table.ensures in
    record { value = is; bound = subst (λ (n : ℕ). n ≤ 10000) (sym is) (quarter_bound c.args.k c.requires) }

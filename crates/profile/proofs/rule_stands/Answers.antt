use Rattle.std.proofs.Common.{arith}
use Rattle.std.proofs.lemmas.Bool.Decides.{nat_tests}
use Rattle.profile.proofs.Sums.{first_term, rises}
use Rattle.profile.proofs.Picks.{free}
use Rattle.profile.proofs.Rules.{chosen, only}
use Rattle.profile.specs.Ramp.{next_size}
use Rattle.profile.proofs.rule_stands.Goals as goal

pub returns : goal.returns
unfolding next_size
returns c = record {
  first_term = first_term;
  rises = rises;
  chosen = λ l v d a b. chosen l v d (free l a b);
  only = λ l v d r a b. only l v d r (free l a b);
  no_acceleration = λ l v d e. grind (arith, nat_tests);
  no_deceleration = λ l v d e. grind (arith, nat_tests);
}

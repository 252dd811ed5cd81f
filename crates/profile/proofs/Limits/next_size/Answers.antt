use Rattle.std.proofs.Common.{◌≡◌, pos, sym, arith, w64, to_z, of_z, ◌∙◌, rules}
use Rattle.std.proofs.lemmas.Int.{ints, to_z-of_z}
use Rattle.profile.proofs.Picks.{next_is, next_picked}
use Rattle.profile.specs.Ramp.{next_size}
use Rattle.profile.proofs.Limits.next_size.Goals as goal

pub returns-then-forbids_motion : goal.returns-then-forbids_motion
unfolding next_size
returns-then-forbids_motion c = search rules

pub returns-in_default : goal.returns-in_default
returns-in_default c =
    let same : to_z w64 (of_z w64 c.args.distance) ≡ c.args.distance = to_z-of_z w64 c.args.distance c.ranges.distance in
    let past = c.in_default.ensures in
    grind (arith, ints, same, past, (next_picked c.args.self c.args.size c.args.distance (sym c.if-forbids_motion.ensures)).stops)

pub returns : goal.returns
returns c =
    let e = next_is c.args.self c.args.size c.args.distance (sym c.if-forbids_motion.ensures) in
    let same : to_z w64 (of_z w64 c.args.distance) ≡ c.args.distance = to_z-of_z w64 c.args.distance c.ranges.distance in
    let room : pos c.in-Ok.room ≡ c.args.distance = grind (arith, ints, same, c.in-Ok.ensures) in
    c.greatest.ensures ∙ search rules

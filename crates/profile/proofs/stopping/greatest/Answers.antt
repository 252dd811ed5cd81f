use Rattle.std.proofs.Common.{◌-◌, ◌/◌, pos, arith}
use Rattle.std.proofs.lemmas.Int.{ints}
use Rattle.profile.proofs.Picks.{picked, under}
use Rattle.profile.proofs.stopping.greatest.Goals as goal

pub loop-low-init : goal.loop-low-init
loop-low-init c =
    let p = picked c.args.slowest c.args.deceleration (pos c.args.room) (c.args.fastest - c.args.slowest) in
    (omega arith, omega arith, p.above, omega (arith, p.below))

pub loop-low-preserved-then-from-room : goal.loop-low-preserved-then-from-room
loop-low-preserved-then-from-room c =
    let p = picked c.args.slowest c.args.deceleration (pos c.args.room) (c.args.fastest - c.args.slowest) in
    let middle = c.loop-low.high - (c.loop-low.high - c.loop-low.low) / 2 in
    (omega arith, omega arith, p.most middle (omega arith) (omega arith) (omega (arith, ints)), omega arith)

pub loop-low-preserved : goal.loop-low-preserved
loop-low-preserved c =
    let p = picked c.args.slowest c.args.deceleration (pos c.args.room) (c.args.fastest - c.args.slowest) in
    let middle = c.loop-low.high - (c.loop-low.high - c.loop-low.low) / 2 in
    (omega arith, omega arith, omega arith, omega (arith, under p middle (omega arith) (omega (arith, ints))))

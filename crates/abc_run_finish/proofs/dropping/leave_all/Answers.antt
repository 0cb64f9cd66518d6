use Rattle.std.proofs.Common.{◌<◌, length, refl, arith}
use Rattle.abc_run_finish.proofs.Dropped.{all_left, fewer, left_on}
use Rattle.abc_run_finish.proofs.dropping.leave_all.Goals as goal

pub loop-k-init : goal.loop-k-init
loop-k-init c = record { left = record { many = λ so. so; frames = refl; values = refl }; many = omega arith }

pub leave-requires : goal.leave-requires
leave-requires c =
    let many = c.loop-k.invariant.many in
    omega (arith, many, c.loop-k-test.true, c.depth-k-end.ensures)

pub loop-k-preserved : goal.loop-k-preserved
loop-k-preserved c =
    let many = c.loop-k.invariant.many in
    let live : 0 < length c.loop-k.frames.living = omega (arith, many, c.loop-k-test.true, c.depth-k-end.ensures) in
    let less = fewer c.loop-k.frames c.leave.new.self live c.leave.ensures in
    record { left = left_on c.args.frames.now c.loop-k.frames c.leave.new.self live c.leave.ensures c.loop-k.invariant.left; many = omega (arith, many, less) }

pub returns : goal.returns
returns c =
    let many = c.loop-k.invariant.many in
    λ so. all_left c.args.frames.now c.loop-k.frames (omega (arith, many, c.loop-k-test.false, c.depth-k-end.ensures)) c.loop-k.invariant.left so

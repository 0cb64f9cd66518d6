use Rattle.std.proofs.Common.{◌-◌, length, drop, length-take, length-drop, arith}
use Rattle.abc_base.proofs.Writing.{appends_more}
use Rattle.abc_base.proofs.sink.write_all.Goals as goal

pub loop-done-preserved : goal.loop-done-preserved
loop-done-preserved g c = record {
  within = omega (arith, length-take (length c.args.piece.now - c.loop-done.done) (drop c.loop-done.done c.args.piece.now), length-drop c.loop-done.done c.args.piece.now, c.in_ok-count.ensures.bound);
  bytes = appends_more _ _ _ c.args.piece.now c.loop-done.done c.in_ok-count.count c.loop-done.invariant.bytes c.in_ok-count.ensures.bytes;
  later = omega (arith, c.in_ok-count.ensures.cause.later);
}

use Rattle.std.proofs.Common.{◌-◌, length, drop, length-take, length-drop, arith}
use Rattle.abc_base.proofs.Writing.{appends_more}
use Rattle.abc_log_blocks.proofs.block_sink.put.Goals as goal

pub loop-done-preserved : goal.loop-done-preserved
loop-done-preserved g c = record {
  within = omega (arith, length-take (length c.args.bytes.now - c.loop-done.done) (drop c.loop-done.done c.args.bytes.now), length-drop c.loop-done.done c.args.bytes.now, c.in-Ok.ensures.bound);
  bytes = appends_more _ _ _ c.args.bytes.now c.loop-done.done c.in-Ok.count c.loop-done.invariant.bytes c.in-Ok.ensures.bytes;
  later = omega (arith, c.in-Ok.ensures.cause.later);
}

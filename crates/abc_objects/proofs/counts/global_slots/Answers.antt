use Rattle.std.proofs.Common.{arith}
use Rattle.abc_objects.proofs.Steps.{counts_more}
use Rattle.abc_objects.proofs.counts.global_slots.Goals as goal

pub loop-script-preserved : goal.loop-script-preserved
loop-script-preserved c = (omega (arith, c.loop-script.invariant.0, c.slots_of_global.ensures, counts_more c.args.l.now c.loop-script.script), omega (arith, c.loop-script.invariant.1), omega arith)

use Rattle.abc_asm.proofs.Beneath.{joined_step}
use Rattle.abc_asm.proofs.entries.joined.Goals as goal

pub loop-entry-preserved : goal.loop-entry-preserved
loop-entry-preserved c =
    rw (c.in_ok-push-2.ensures.ok, c.in_ok-push.ensures.ok)
    (joined_step c.args.entries.now c.as_slice-entry-items.result.now c.loop-entry.items c.loop-entry.entry-index _ c.as_slice-entry-items.ensures c.loop-entry.invariant c.loop-entry-test.true)

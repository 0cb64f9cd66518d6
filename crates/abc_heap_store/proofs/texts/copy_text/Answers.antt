use Rattle.abc_heap_store.proofs.Bytes.{byte_copied}
use Rattle.abc_heap_store.proofs.texts.copy_text.Goals as goal

pub loop-k-preserved : goal.loop-k-preserved
loop-k-preserved c = byte_copied c.args.fixed.now c.args.made.now c.loop-k.made c.push.new.self c.args.pool.now c.args.s c.loop-k.k c.byte_at-byte.result c.requires.text c.loop-k-test.true c.loop-k.invariant c.byte_at-byte.ensures c.push.ensures

use Rattle.std.proofs.Common.{◌∙◌, ◌+◌, drop, sym, ap}
use Rattle.abc_heap_store.specs.Buckets.{hash_on}
use Rattle.abc_heap_store.proofs.Lasts.{hash_next, hash_done}
use Rattle.abc_heap_store.proofs.buckets.hashed.Goals as goal

pub loop-byte-preserved : goal.loop-byte-preserved
loop-byte-preserved c = (c.mixed-hash.ensures.small, ap (λ h. hash_on h (drop (c.loop-byte.byte-index + 1) c.args.text.now)) c.mixed-hash.ensures.hash ∙ (hash_next c.loop-byte.hash c.loop-byte.byte-index _ c.args.text.now c.loop-byte-test.true ∙ c.loop-byte.invariant.1))

pub returns : goal.returns
returns c = sym (hash_done c.loop-byte.hash c.loop-byte.byte-index c.args.text.now c.loop-byte-test.false) ∙ c.loop-byte.invariant.1

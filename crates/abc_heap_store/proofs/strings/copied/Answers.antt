use Rattle.std.proofs.Common.{◌∙◌}
use Rattle.abc_heap_store.proofs.Pieces.{copied_on}
use Rattle.abc_heap_store.proofs.strings.copied.Goals as goal

pub loop-text-preserved : goal.loop-text-preserved
loop-text-preserved c = copied_on c.args.texts.now c.loop-text.ends.items c.loop-text.bytes _ _ _ _ _ c.loop-text.text-index c.loop-text.invariant c.in_ok-extend_from_slice.ensures.ok c.in_ok-end.ensures c.in_ok-push.ensures.items (c.as_slice.ensures ∙ c.text-item.is) c.loop-text-test.true

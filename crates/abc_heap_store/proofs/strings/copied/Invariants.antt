use Rattle.std.proofs.Common.{◌≡◌, length, take}
use Rattle.abc_heap_store.specs.Strings.{texts_from, AreTextEnds}
use Rattle.abc_heap_store.proofs.strings.copied.Given as goal

abbrev pub invariant-loop-text : goal.invariant-loop-text
invariant-loop-text l = AreTextEnds 0 l.ends.items (length l.bytes) × (texts_from 0 l.ends.items l.bytes ≡ take l.text-index l.texts)

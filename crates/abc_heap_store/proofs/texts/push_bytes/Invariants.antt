use Rattle.std.proofs.Common.{◌≡◌, ◌++◌, take}
use Rattle.abc_heap_store.proofs.texts.push_bytes.Given as goal

abbrev pub invariant-loop-byte : goal.invariant-loop-byte
invariant-loop-byte l = l.made ≡ record { items = l.initial.made.items ++ take l.byte-index l.bytes; limit = l.initial.made.limit }

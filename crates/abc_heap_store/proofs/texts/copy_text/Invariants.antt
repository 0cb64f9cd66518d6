use Rattle.std.proofs.Common.{◌≡◌, ◌++◌, take}
use Rattle.abc_heap_store.specs.Texts.{text_in}
use Rattle.abc_heap_store.proofs.texts.copy_text.Given as goal

abbrev pub invariant-loop-k : goal.invariant-loop-k
invariant-loop-k l = l.made ≡ record { items = l.initial.made.items ++ take l.k (text_in l.fixed l.initial.made.items l.pool l.s); limit = l.initial.made.limit }

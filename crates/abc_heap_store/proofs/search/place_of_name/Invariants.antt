use Rattle.std.proofs.Common.{length}
use Rattle.abc_heap_store.specs.Texts.{text_in}
use Rattle.abc_heap_store.proofs.Searches.{IsSearched}
use Rattle.abc_heap_store.proofs.search.place_of_name.Given as goal

abbrev pub invariant-loop-left : goal.invariant-loop-left
invariant-loop-left l = IsSearched l.cells.items (length l.buckets.lasts.items) l.o (text_in l.fixed l.made l.strings) l.text l.left

abbrev pub decreases-loop-left : goal.decreases-loop-left
decreases-loop-left l = l.left

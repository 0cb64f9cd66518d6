use Rattle.std.proofs.Common.{◌≡◌, ℕ, List, Option, Some, None, get_or}
use Rattle.abc_heap_store.specs.Buckets.{AreBuckets}
use Rattle.abc_heap_store.proofs.Lasts.{IsAbove}
use Rattle.abc_heap_store.proofs.buckets.Buckets.above.Given as goal

abbrev pub invariant-loop-before : goal.invariant-loop-before
invariant-loop-before l = (ks : List (Option ℕ)) → AreBuckets ks l.self.lasts.items l.self.befores.items → get_or ks l.place None ≡ Some l.bucket → IsAbove ks l.self.befores.items l.bucket l.place l.above l.before

abbrev pub decreases-loop-before : goal.decreases-loop-before
decreases-loop-before l = l.above

use Rattle.std.proofs.Common.{◌≡◌, ℕ, ◌+◌, ◌-◌, ◌≤◌, get_or, length}
use Rattle.abc_heap_store.proofs.buckets.Buckets.reach.Given as goal

abbrev pub invariant-loop-self : goal.invariant-loop-self
invariant-loop-self l = ((p : ℕ) → get_or l.self.befores.items p 0 ≡ get_or l.initial.self.befores.items p 0) × (length l.initial.self.befores.items ≤ length l.self.befores.items) × (l.self.lasts.items ≡ l.initial.self.lasts.items) × (l.self.befores.limit ≡ l.initial.self.befores.limit)

abbrev pub decreases-loop-self : goal.decreases-loop-self
decreases-loop-self l = l.place + 1 - length l.self.befores.items

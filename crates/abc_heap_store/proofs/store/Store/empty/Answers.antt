use Rattle.std.proofs.Common.{arith, ◌+◌, ◌/◌}
use Rattle.abc_heap_store.proofs.Stands.{empty_stored}
use Rattle.abc_heap_store.proofs.store.Store.empty.Goals as goal

pub invariant_of-result : goal.invariant_of-result
invariant_of-result c = empty_stored c.in_ok-new.field-0 c.in_ok-new-2.field-0 c.in_ok-new-3.field-0 _ c.in_ok-new-4.field-0 c.in_ok-copy.field-0 c.in_ok-empty.field-0 c.args.limits (c.args.limits.cells / 4 + 1) c.in_ok-new.ensures c.in_ok-new-2.ensures c.in_ok-new-3.ensures c.in_ok-new-4.ensures (omega arith) (omega arith) c.in_ok-empty.ensures.0 c.in_ok-empty.ensures.1

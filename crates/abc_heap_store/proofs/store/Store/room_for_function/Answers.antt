use Rattle.std.proofs.Common.{◌+◌, length, ap, arith}
use Rattle.abc_heap_store.specs.Heap.{Heap}
use Rattle.abc_heap_store.proofs.Steps.{room_for_sum}
use Rattle.abc_heap_store.proofs.store.Store.room_for_function.Goals as goal

pub returns : goal.returns
returns c =
    room_for_sum c.room.result c.args.self.now 1 c.saturating_add.result (c.args.slots + length c.args.scopes.now) 18446744073709551615 (omega (arith, c.saturating_add.ensures, c.from.ensures)) (omega (arith, ap (λ (h : Heap). h.limits.cells) c.self.view_is)) c.room.ensures

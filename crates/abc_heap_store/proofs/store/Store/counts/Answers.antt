use Rattle.std.proofs.Common.{◌∙◌, sym, arith, ◌≡◌, length, ◌+◌}
use Rattle.abc_heap_store.specs.Heap.{all_cells}
use Rattle.abc_heap_store.specs.View.{objects}
use Rattle.abc_heap_store.proofs.Flat.{length_objects}
use Rattle.abc_heap_store.proofs.Ledger.{ledger}
use Rattle.abc_heap_store.proofs.Calls.{ledger_is}
use Rattle.abc_heap_store.proofs.store.Store.counts.Goals as goal

pub returns : goal.returns
returns c =
    let cells = c.self.inside.cells.items in
    let heads = c.self.inside.heads.items in
    let used : c.len-2.result + c.len-3.result ≡ all_cells (objects cells 0 heads) + length c.self.inside.scopes.items = omega (arith, c.len-2.ensures, c.len-3.ensures, ledger cells heads c.self.invariant.heads) in
    ledger_is _ c.args.self.now _ _ _ c.self.view_is (c.len.ensures.len ∙ sym (length_objects cells 0 heads)) used c.len-4.ensures.len

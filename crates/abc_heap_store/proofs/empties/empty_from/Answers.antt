use Rattle.std.proofs.Common.{◌∙◌, sym, subst}
use Rattle.abc_heap_store.specs.Gaps.{AreEmpty}
use Rattle.abc_heap_store.specs.Heap.{properties_of}
use Rattle.abc_heap_store.specs.View.{objects}
use Rattle.abc_heap_store.proofs.Flat.{properties_past}
use Rattle.abc_heap_store.proofs.Gaps.{empty_here, filled_here, empty_within}
use Rattle.abc_heap_store.proofs.empties.empty_from.Goals as goal

pub returns : goal.returns
returns c =
    let cells = c.args.cells.now.items in
    let heads = c.args.heads.now.items in
    let ps = properties_of (objects cells 0 heads) c.args.o in
    let b = properties_past cells 0 c.args.o c.args.k heads c.requires.property in
    let empty : AreEmpty ps c.args.k c.known_empty.result = subst (AreEmpty ps c.args.k) (sym c.known_empty.ensures) (empty_here cells heads _ c.args.o c.args.k _ c.requires.gaps b c.property_place-place.ensures c.cell_at.ensures) in
    record {
      empty = empty;
      filled = λ e. filled_here cells heads _ c.args.o c.args.k _ c.requires.heads c.requires.gaps b c.property_place-place.ensures c.cell_at.ensures (sym c.known_empty.ensures ∙ e);
      within = empty_within ps c.args.k c.known_empty.result c.requires.property empty;
    }

use Rattle.std.proofs.Common.{◌∙◌, sym}
use Rattle.abc_heap_store.specs.Heap.{object_at}
use Rattle.abc_lookup.proofs.Things.{an_array, no_array}
use Rattle.abc_lookup.proofs.query.Query.find_element.Goals as goal

pub returns-then-not-is_array : goal.returns-then-not-is_array
returns-then-not-is_array c =
    let q = c.args.self.now in
    sym (no_array q.l.now q.a.now q.name q.skip c.args.o.0 (object_at q.a.now.objects c.args.o.0) (sym c.is_array.ensures ∙ c.if-not-is_array.true))

pub returns : goal.returns
returns c =
    let q = c.args.self.now in
    c.find_in_array.ensures
    ∙ sym (an_array q.l.now q.a.now q.name q.skip c.args.o.0 (object_at q.a.now.objects c.args.o.0) (sym c.is_array.ensures ∙ c.if-not-is_array.false))

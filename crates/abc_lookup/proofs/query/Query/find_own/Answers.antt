use Rattle.abc_heap_store.specs.Heap.{object_at}
use Rattle.abc_objects.specs.Candidates.{element_candidates, property_candidates}
use Rattle.abc_objects.proofs.Joins.{ends, goes_on}
use Rattle.std.proofs.Common.{sym}
use Rattle.abc_lookup.proofs.query.Query.find_own.Goals as goal

pub returns-then-is_hit : goal.returns-then-is_hit
returns-then-is_hit c =
    let q = c.args.self.now in
    let ob = object_at q.a.now.objects c.args.o.0 in
    ends q.l.now q.a.now q.name q.skip (element_candidates c.args.o.0 ob) (property_candidates c.args.o.0 ob) _ c.find_element-element.ensures (sym c.if-is_hit.ensures)

pub returns : goal.returns
returns c =
    let q = c.args.self.now in
    let ob = object_at q.a.now.objects c.args.o.0 in
    goes_on q.l.now q.a.now q.name q.skip (element_candidates c.args.o.0 ob) (property_candidates c.args.o.0 ob) _ _ _ c.find_element-element.ensures c.find_property.ensures c.or.ensures

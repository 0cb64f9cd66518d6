use Rattle.std.proofs.Common.{◌∙◌, ℕ, sym, ap}
use Rattle.abc_heap_store.specs.Heap.{object_at}
use Rattle.abc_objects.specs.Candidates.{answer_of_search, property_candidates}
use Rattle.abc_objects.specs.Objects.{host_object_number}
use Rattle.abc_lookup.proofs.Things.{not_public_all, public_all}
use Rattle.abc_lookup.proofs.query.Query.find_in_host.Goals as goal

pub returns-then-not-self : goal.returns-then-not-self
returns-then-not-self c =
    let q = c.args.self.now in
    let o = host_object_number q.a.now in
    sym (not_public_all q.l.now q.a.now q.name q.skip (property_candidates o (object_at q.a.now.objects o)) (q.held ∙ c.if-not-self.true))

pub returns : goal.returns
returns c =
    let q = c.args.self.now in
    let o = host_object_number q.a.now in
    c.find_property.ensures
    ∙ ap (λ (n : ℕ). answer_of_search q.l.now q.a.now q.name q.skip (property_candidates n (object_at q.a.now.objects n))) c.host_object.ensures.number
    ∙ sym (public_all q.l.now q.a.now q.name q.skip (property_candidates o (object_at q.a.now.objects o)) (q.held ∙ c.if-not-self.false))

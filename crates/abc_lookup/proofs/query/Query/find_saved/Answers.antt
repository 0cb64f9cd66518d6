use Rattle.std.proofs.Common.{◌≡◌, ◌∙◌, Some, cond, sym, ap, length}
use Rattle.std.specs.List.{find}
use Rattle.abc_base_graphs.proofs.Walks.{step_in}
use Rattle.abc_heap_store.specs.declared.records.ScopeNode.{ScopeNode}
use Rattle.abc_objects.specs.Scopes.{InScope, has, no_node, node_at, parent_at, saved_places, scope_number}
use Rattle.abc_lookup.proofs.Along.{less_left}
use Rattle.abc_lookup.proofs.Places.{first_here, first_later, saved_end, saved_next}
use Rattle.abc_lookup.proofs.Stands.{node_is, parents_fall}
use Rattle.abc_lookup.proofs.query.Query.find_saved.Goals as goal

pub returns-then-scope_has-clause-first : goal.returns-then-scope_has-clause-first
returns-then-scope_has-clause-first c =
    let q = c.args.self.now in
    let p = has q.l.now q.a.now q.name in
    let n = c.scope-node.result in
    first_here (p (InScope n.entry)) (InScope n.entry) (find p (saved_places q.a.now n.parent)) (sym c.scope_has.ensures ∙ c.if-scope_has.true)
    ∙ ap (λ (m : ScopeNode). cond (p (InScope m.entry)) (Some (InScope m.entry)) (find p (saved_places q.a.now m.parent))) (sym (node_is q.a.now.scopes c.in-Some.s.0 n no_node c.scope-node.ensures))
    ∙ sym (saved_next p q.a.now c.in-Some.s (parents_fall q.l.now q.a.now c.requires.over))
    ∙ ap (λ o. find p (saved_places q.a.now o)) (sym c.in-Some.is)
    ∙ c.loop-at.invariant.same

pub loop-at-preserved : goal.loop-at-preserved
loop-at-preserved c =
    let q = c.args.self.now in
    let p = has q.l.now q.a.now q.name in
    let n = c.scope-node.result in
    let at : node_at q.a.now c.in-Some.s.0 ≡ n = node_is q.a.now.scopes c.in-Some.s.0 n no_node c.scope-node.ensures in
    record {
      inside = step_in (parent_at q.a.now) (parents_fall q.l.now q.a.now c.requires.over) c.in-Some.s.0 (length q.a.now.scopes) (scope_number c.loop-at.at) (ap scope_number c.in-Some.is) c.loop-at.invariant.inside (scope_number n.parent) (ap (λ (m : ScopeNode). scope_number m.parent) (sym at));
      same =
          first_later (p (InScope n.entry)) (InScope n.entry) (find p (saved_places q.a.now n.parent)) (sym c.scope_has.ensures ∙ c.if-scope_has.false)
          ∙ ap (λ (m : ScopeNode). cond (p (InScope m.entry)) (Some (InScope m.entry)) (find p (saved_places q.a.now m.parent))) (sym at)
          ∙ sym (saved_next p q.a.now c.in-Some.s (parents_fall q.l.now q.a.now c.requires.over))
          ∙ ap (λ o. find p (saved_places q.a.now o)) (sym c.in-Some.is)
          ∙ c.loop-at.invariant.same;
    }

pub loop-at-smaller : goal.loop-at-smaller
loop-at-smaller c =
    let q = c.args.self.now in
    let n = c.scope-node.result in
    less_left (parent_at q.a.now) (parents_fall q.l.now q.a.now c.requires.over) c.in-Some.s.0 (scope_number c.loop-at.at) (scope_number n.parent) (ap scope_number c.in-Some.is) (ap (λ (m : ScopeNode). scope_number m.parent) (sym (node_is q.a.now.scopes c.in-Some.s.0 n no_node c.scope-node.ensures)))

pub returns-clause-first : goal.returns-clause-first
returns-clause-first c =
    let q = c.args.self.now in
    let p = has q.l.now q.a.now q.name in
    sym (saved_end p q.a.now)
    ∙ ap (λ o. find p (saved_places q.a.now o)) (sym c.in_default.is)
    ∙ c.loop-at.invariant.same

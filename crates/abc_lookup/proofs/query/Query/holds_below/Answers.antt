use Rattle.std.proofs.Common.{◌≡◌, ◌∙◌, sym, ap, ◌||◌, length}
use Rattle.std.specs.List.{list_any}
use Rattle.abc_base_graphs.specs.Ways.{before, way}
use Rattle.abc_base_graphs.proofs.Walks.{step_in}
use Rattle.abc_link_names.specs.Linked.{base_layout}
use Rattle.abc_objects.specs.Spaces.{holds_protected}
use Rattle.abc_lookup.specs.Steps.{layout_number}
use Rattle.abc_lookup.proofs.Along.{bases_fall, before_end, before_here, before_more, less_left, number_back, walk_in}
use Rattle.abc_lookup.proofs.query.Query.holds_below.Goals as goal

pub holds_protected-requires : goal.holds_protected-requires
holds_protected-requires c = walk_in c.loop-at.at c.in-Some.x (length c.args.self.now.l.now.parts) c.in-Some.is c.loop-at.invariant.inside

pub base-at-requires : goal.base-at-requires
base-at-requires c = walk_in c.loop-at.at c.in-Some.x (length c.args.self.now.l.now.parts) c.in-Some.is c.loop-at.invariant.inside

pub returns-then-x-from : goal.returns-then-x-from
returns-then-x-from c =
    let q = c.args.self.now in
    sym (before_here (holds_protected q.l.now q.name.spaces) (base_layout q.l.now) (bases_fall q.l.now c.linked_law.ensures) c.args.from.0 c.in-Some.x.0 c.if-x-from.true)
    ∙ ap (λ o. list_any (holds_protected q.l.now q.name.spaces) (before c.args.from.0 (way (base_layout q.l.now) (layout_number o)))) (sym c.in-Some.is)
    ∙ c.loop-at.invariant.same

pub returns-then-holds_protected : goal.returns-then-holds_protected
returns-then-holds_protected c =
    let q = c.args.self.now in
    ap (λ b. b || list_any (holds_protected q.l.now q.name.spaces) (before c.args.from.0 (way (base_layout q.l.now) (base_layout q.l.now c.in-Some.x.0)))) c.if-holds_protected.ensures
    ∙ sym (before_more (holds_protected q.l.now q.name.spaces) (base_layout q.l.now) (bases_fall q.l.now c.linked_law.ensures) c.args.from.0 c.in-Some.x.0 c.if-x-from.false)
    ∙ ap (λ o. list_any (holds_protected q.l.now q.name.spaces) (before c.args.from.0 (way (base_layout q.l.now) (layout_number o)))) (sym c.in-Some.is)
    ∙ c.loop-at.invariant.same

pub loop-at-preserved : goal.loop-at-preserved
loop-at-preserved c =
    let q = c.args.self.now in
    let up : layout_number c.base-at.result ≡ base_layout q.l.now c.in-Some.x.0 = ap layout_number c.base-at.ensures ∙ number_back (base_layout q.l.now c.in-Some.x.0) in
    record {
      inside = step_in (base_layout q.l.now) (bases_fall q.l.now c.linked_law.ensures) c.in-Some.x.0 (length q.l.now.parts) (layout_number c.loop-at.at) (ap layout_number c.in-Some.is) c.loop-at.invariant.inside (layout_number c.base-at.result) up;
      same =
          ap (λ o. list_any (holds_protected q.l.now q.name.spaces) (before c.args.from.0 (way (base_layout q.l.now) o))) up
          ∙ ap (λ b. b || list_any (holds_protected q.l.now q.name.spaces) (before c.args.from.0 (way (base_layout q.l.now) (base_layout q.l.now c.in-Some.x.0)))) c.if-holds_protected.ensures
          ∙ sym (before_more (holds_protected q.l.now q.name.spaces) (base_layout q.l.now) (bases_fall q.l.now c.linked_law.ensures) c.args.from.0 c.in-Some.x.0 c.if-x-from.false)
          ∙ ap (λ o. list_any (holds_protected q.l.now q.name.spaces) (before c.args.from.0 (way (base_layout q.l.now) (layout_number o)))) (sym c.in-Some.is)
          ∙ c.loop-at.invariant.same;
    }

pub loop-at-smaller : goal.loop-at-smaller
loop-at-smaller c =
    let q = c.args.self.now in
    less_left (base_layout q.l.now) (bases_fall q.l.now c.linked_law.ensures) c.in-Some.x.0 (layout_number c.loop-at.at) (layout_number c.base-at.result) (ap layout_number c.in-Some.is) (ap layout_number c.base-at.ensures ∙ number_back (base_layout q.l.now c.in-Some.x.0))

pub returns : goal.returns
returns c =
    let q = c.args.self.now in
    sym (before_end (holds_protected q.l.now q.name.spaces) (base_layout q.l.now) c.args.from.0)
    ∙ ap (λ o. list_any (holds_protected q.l.now q.name.spaces) (before c.args.from.0 (way (base_layout q.l.now) (layout_number o)))) (sym c.in_default.is)
    ∙ c.loop-at.invariant.same

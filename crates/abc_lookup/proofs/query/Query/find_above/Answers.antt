use Rattle.std.proofs.Common.{◌≡◌, ◌∙◌, sym, ap, length}
use Rattle.abc_base_graphs.specs.Ways.{way}
use Rattle.abc_base_graphs.proofs.Walks.{step_in}
use Rattle.abc_link_names.specs.Linked.{base_layout}
use Rattle.abc_objects.specs.Results.{or_next}
use Rattle.abc_objects.proofs.Joins.{hit_first, or_missing}
use Rattle.abc_lookup.specs.Steps.{along, layout_number}
use Rattle.abc_lookup.proofs.Along.{along_end, along_next, bases_fall, less_left, number_back, walk_in}
use Rattle.abc_lookup.proofs.query.Query.find_above.Goals as goal

pub holds_up_to-held-requires : goal.holds_up_to-held-requires
holds_up_to-held-requires c = walk_in c.loop-at.at c.in-Some.x (length c.args.self.now.l.now.parts) c.in-Some.is c.loop-at.invariant.inside

pub find_in_layout-requires : goal.find_in_layout-requires
find_in_layout-requires c = walk_in c.loop-at.at c.in-Some.x (length c.args.self.now.l.now.parts) c.in-Some.is c.loop-at.invariant.inside

pub base-at-requires : goal.base-at-requires
base-at-requires c = walk_in c.loop-at.at c.in-Some.x (length c.args.self.now.l.now.parts) c.in-Some.is c.loop-at.invariant.inside

pub loop-at-preserved : goal.loop-at-preserved
loop-at-preserved c =
    let q = c.args.self.now in
    let up : layout_number c.base-at.result ≡ base_layout q.l.now c.in-Some.x.0 = ap layout_number c.base-at.ensures ∙ number_back (base_layout q.l.now c.in-Some.x.0) in
    record {
      inside = step_in (base_layout q.l.now) (bases_fall q.l.now c.linked_law.ensures) c.in-Some.x.0 (length q.l.now.parts) (layout_number c.loop-at.at) (ap layout_number c.in-Some.is) c.loop-at.invariant.inside (layout_number c.base-at.result) up;
      same =
          ap (λ o. or_next c.or-so_far.result (along q.l.now q.text.now q.name q.skip c.holds_up_to-held.result (way (base_layout q.l.now) o))) up
          ∙ along_next q.l.now q.text.now q.name q.skip c.loop-at.held c.holds_up_to-held.result c.in-Some.x.0 (layout_number c.loop-at.at) c.loop-at.so_far c.find_in_layout.result c.or-so_far.result _ c.linked_law.ensures (ap layout_number c.in-Some.is) c.loop-at.invariant.same c.holds_up_to-held.ensures c.find_in_layout.ensures c.or-so_far.ensures;
    }

pub loop-at-smaller : goal.loop-at-smaller
loop-at-smaller c =
    let q = c.args.self.now in
    less_left (base_layout q.l.now) (bases_fall q.l.now c.linked_law.ensures) c.in-Some.x.0 (layout_number c.loop-at.at) (layout_number c.base-at.result) (ap layout_number c.in-Some.is) (ap layout_number c.base-at.ensures ∙ number_back (base_layout q.l.now c.in-Some.x.0))

pub returns-then-is_hit : goal.returns-then-is_hit
returns-then-is_hit c =
    let q = c.args.self.now in
    sym (hit_first _ _ (sym c.if-is_hit.ensures))
    ∙ along_next q.l.now q.text.now q.name q.skip c.loop-at.held c.holds_up_to-held.result c.in-Some.x.0 (layout_number c.loop-at.at) c.loop-at.so_far c.find_in_layout.result c.or-so_far.result _ c.linked_law.ensures (ap layout_number c.in-Some.is) c.loop-at.invariant.same c.holds_up_to-held.ensures c.find_in_layout.ensures c.or-so_far.ensures

pub returns-in_default : goal.returns-in_default
returns-in_default c =
    let q = c.args.self.now in
    sym (or_missing c.loop-at.so_far)
    ∙ ap (or_next c.loop-at.so_far) (sym (along_end q.l.now q.text.now q.name q.skip c.loop-at.held))
    ∙ ap (λ o. or_next c.loop-at.so_far (along q.l.now q.text.now q.name q.skip c.loop-at.held (way (base_layout q.l.now) (layout_number o)))) (sym c.in_default.is)
    ∙ c.loop-at.invariant.same

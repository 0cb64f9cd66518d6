use Rattle.std.proofs.Common.{◌≡◌, ◌∙◌, Some, ap, length, refl, sym}
use Rattle.abc_base_graphs.proofs.Walks.{step_in}
use Rattle.abc_base_graphs.specs.Ways.{way}
use Rattle.abc_link_names.specs.Linked.{base_layout}
use Rattle.abc_objects.specs.Results.{or_next}
use Rattle.abc_objects.proofs.Joins.{hit_first}
use Rattle.abc_lookup.specs.Steps.{along, layout_number}
use Rattle.abc_lookup.proofs.Along.{along_first, bases_fall, number_back}
use Rattle.abc_lookup.proofs.query.Query.find_from.Goals as goal

pub find_above-requires : goal.find_above-requires
find_above-requires c =
    let q = c.args.self.now in
    let up : layout_number c.base-above.result ≡ base_layout q.l.now c.args.from.0 = ap layout_number c.base-above.ensures ∙ number_back (base_layout q.l.now c.args.from.0) in
    step_in (base_layout q.l.now) (bases_fall q.l.now c.linked_law.ensures) c.args.from.0 (length q.l.now.parts) (Some c.args.from.0) refl c.requires (layout_number c.base-above.result) up

pub returns-then-is_hit : goal.returns-then-is_hit
returns-then-is_hit c =
    let q = c.args.self.now in
    sym (hit_first _ _ (sym c.if-is_hit.ensures))
    ∙ along_first q.l.now q.text.now q.name q.skip c.args.below c.holds_up_to-held.result c.args.from.0 c.find_in_layout-first.result c.linked_law.ensures c.holds_up_to-held.ensures c.find_in_layout-first.ensures

pub returns : goal.returns
returns c =
    let q = c.args.self.now in
    let up : layout_number c.base-above.result ≡ base_layout q.l.now c.args.from.0 = ap layout_number c.base-above.ensures ∙ number_back (base_layout q.l.now c.args.from.0) in
    c.find_above.ensures
    ∙ ap (λ o. or_next c.find_in_layout-first.result (along q.l.now q.text.now q.name q.skip c.holds_up_to-held.result (way (base_layout q.l.now) o))) up
    ∙ along_first q.l.now q.text.now q.name q.skip c.args.below c.holds_up_to-held.result c.args.from.0 c.find_in_layout-first.result c.linked_law.ensures c.holds_up_to-held.ensures c.find_in_layout-first.ensures

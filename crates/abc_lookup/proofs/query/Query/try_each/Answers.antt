use Rattle.std.proofs.Common.{◌∙◌, sym, ap, List, ℕ}
use Rattle.std.specs.List.{flat_map}
use Rattle.std.proofs.lemmas.List.{drop_all}
use Rattle.abc_objects.specs.Results.{or_next}
use Rattle.abc_objects.proofs.Joins.{hit_first, or_missing}
use Rattle.abc_lookup.specs.Slots.{own_at}
use Rattle.abc_lookup.specs.Steps.{gives_found}
use Rattle.abc_lookup.proofs.TextFirst.{place_next}
use Rattle.abc_lookup.proofs.query.Query.try_each.Goals as goal

pub loop-place-preserved : goal.loop-place-preserved
loop-place-preserved c =
    let q = c.args.self.now in
    place_next q.l.now q.name q.skip c.args.x.0 c.args.held (own_at q.l.now c.args.x.0) c.args.places.now c.loop-place.place-index c.loop-place.so_far c.try_place.result c.or-so_far.result _ c.loop-place-test.true c.loop-place.invariant c.try_place.ensures c.or-so_far.ensures

pub returns-then-is_hit : goal.returns-then-is_hit
returns-then-is_hit c =
    let q = c.args.self.now in
    sym (hit_first _ _ (sym c.if-is_hit.ensures))
    ∙ place_next q.l.now q.name q.skip c.args.x.0 c.args.held (own_at q.l.now c.args.x.0) c.args.places.now c.loop-place.place-index c.loop-place.so_far c.try_place.result c.or-so_far.result _ c.loop-place-test.true c.loop-place.invariant c.try_place.ensures c.or-so_far.ensures

pub returns-after-loop-place : goal.returns-after-loop-place
returns-after-loop-place c =
    let q = c.args.self.now in
    sym (or_missing c.loop-place.so_far)
    ∙ ap (λ (ps : List ℕ). or_next c.loop-place.so_far (gives_found q.l.now q.name q.skip c.args.x.0 c.args.held (flat_map (own_at q.l.now c.args.x.0) ps))) (sym (drop_all c.loop-place.place-index c.args.places.now c.loop-place-test.false))
    ∙ c.loop-place.invariant

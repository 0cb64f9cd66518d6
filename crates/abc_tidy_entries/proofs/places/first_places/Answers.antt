use Rattle.std.proofs.Common.{◌≤◌, length, arith}
use Rattle.abc_tidy_entries.proofs.Placing.{placed_all, places_next, places_none}
use Rattle.abc_tidy_entries.proofs.places.first_places.Goals as goal

pub loop-i-init : goal.loop-i-init
loop-i-init g c = places_none g.K.PartialEq.eq c.args.marks.now c.args.begin c.args.values.now c.as_slice-kept.result.now c.new-places.result c.new-places.ensures

pub loop-i-preserved : goal.loop-i-preserved
loop-i-preserved g c =
    places_next g.K.PartialEq.eq c.args.marks.now c.args.begin c.args.values.now c.as_slice-kept.result.now c.loop-i.places c.push.new.self c.loop-i.i c.index-values-i.result c.has_mark-is_marked.result c.place_of-place.result
    c.loop-i.invariant c.loop-i-test.true c.index-values-i.is c.has_mark-is_marked.ensures c.place_of-place.ensures c.in_ok-push.ensures.ok

pub returns : goal.returns
returns g c =
    let low : length c.args.values.now ≤ c.loop-i.i = omega (arith, c.loop-i-test.false) in
    let high : c.loop-i.i ≤ length c.args.values.now = omega (arith, c.loop-i.auto.i-end) in
    placed_all g.K.PartialEq.eq c.args.marks.now c.args.begin c.args.values.now c.in_ok-chosen.chosen c.as_slice-kept.result.now c.loop-i.places c.loop-i.i c.in_ok-chosen.ensures.holds c.as_slice-kept.ensures c.loop-i.invariant low high

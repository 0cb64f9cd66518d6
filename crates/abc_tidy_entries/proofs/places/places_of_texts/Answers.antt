use Rattle.std.proofs.Common.{◌≡◌, ◌<◌, bytes_eq, length, subst, arith}
use Rattle.abc_base_graphs.specs.Texts.{texts_of}
use Rattle.abc_tidy_entries.specs.Heads.{HasHeadPlaces}
use Rattle.abc_tidy_entries.proofs.Placing.{places_next, places_none, read_at}
use Rattle.abc_tidy_entries.proofs.places.places_of_texts.Goals as goal

pub loop-i-init : goal.loop-i-init
loop-i-init c = places_none bytes_eq c.args.marks.now c.args.begin c.args.strings.now (texts_of c.args.chosen.now) c.new-places.result c.new-places.ensures

pub loop-i-preserved : goal.loop-i-preserved
loop-i-preserved c =
    let lt : c.loop-i.i < length c.args.strings.now = subst (λ n. c.loop-i.i < n) c.len-i-end.ensures c.loop-i-test.true in
    places_next bytes_eq c.args.marks.now c.args.begin c.args.strings.now (texts_of c.args.chosen.now) c.loop-i.places c.push.new.self c.loop-i.i c.as_slice.result.now c.has_mark-is_marked.result c.place_of_text-place.result
    c.loop-i.invariant lt (read_at c.args.strings.now c.loop-i.i c.get.result.now c.as_slice.result.now c.as_slice.ensures c.get.ensures) c.has_mark-is_marked.ensures c.place_of_text-place.ensures c.in_ok-push.ensures.ok

pub returns : goal.returns
returns c =
    let same : c.loop-i.i ≡ length c.args.strings.now = omega (arith, c.loop-i-test.false, c.loop-i.auto.i-end, c.len-i-end.ensures) in
    subst (λ n. HasHeadPlaces bytes_eq c.args.marks.now c.args.begin c.args.strings.now (texts_of c.args.chosen.now) n c.loop-i.places) same c.loop-i.invariant

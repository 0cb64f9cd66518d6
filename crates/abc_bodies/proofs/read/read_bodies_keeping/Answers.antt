use Rattle.std.proofs.Common.{Ok, Err, arith}
use Rattle.abc_file_types.specs.Part.{image}
use Rattle.abc_file_types.proofs.Exact.{image-exact}
use Rattle.abc_file_types.specs.Bodies.{bodies}
use Rattle.abc_file_types.proofs.BodiesExact.{bodies-exact}
use Rattle.abc_varint.specs.declared.error.ReadError.TheVariants as errors
use Rattle.abc_varint.proofs.Answering.{answers}
use Rattle.abc_varint.proofs.Loop.{other_err}
use Rattle.abc_bodies.specs.Reading.{keeping}
use Rattle.abc_bodies.proofs.Collecting.{with_bodies, fills_ok, fills_err}
use Rattle.abc_bodies.proofs.read.read_bodies_keeping.Goals as goal

pub returns-in-Ok-clause-value : goal.returns-in-Ok-clause-value
returns-in-Ok-clause-value g c =
    let e = c.in-Ok.ensures.value in (
      fills_ok c.args.abc.now c.sizes_of-sizes.result c.sizes_of-sizes.ensures c.args.w.now (g.S.Source.left c.args.source.now) c.read_all.new.w (g.S.Source.left c.read_all.new.source) g.K.Keeping.of_places (c.in-Ok.found, c.in-Ok.places) e.0,
      λ err k. absurd (let h = (e.1 err k).0 in cc),
      e.2,
      λ k h. absurd cc,
      tt,
    )

pub returns-in-Ok-clause-answers : goal.returns-in-Ok-clause-answers
returns-in-Ok-clause-answers g c =
    let abc = c.args.abc.now in
    let w = c.args.w.now in
    let s = g.S.Source.left c.args.source.now in
    let w2 = c.read_all.new.w in
    let s2 = g.S.Source.left c.read_all.new.source in
    let of_places = g.K.Keeping.of_places in
    (answers (image (keeping of_places) (bodies abc)) (image-exact (keeping of_places) (bodies abc) (bodies-exact abc)) w w2 s s2 (Ok (with_bodies abc (c.in-Ok.found, c.in-Ok.places))) (omega (arith, c.place.ensures.is, c.place.ensures.bound))
    (fills_ok abc c.sizes_of-sizes.result c.sizes_of-sizes.ensures w s w2 s2 g.K.Keeping.of_places (c.in-Ok.found, c.in-Ok.places) c.in-Ok.ensures.value.0))

pub returns-in-Err-clause-value : goal.returns-in-Err-clause-value
returns-in-Err-clause-value g c =
    let e = c.in-Err.ensures.value in (
      fills_err c.args.abc.now c.sizes_of-sizes.result c.sizes_of-sizes.ensures c.args.w.now (g.S.Source.left c.args.source.now) c.read_all.new.w (g.S.Source.left c.read_all.new.source) g.K.Keeping.of_places c.in-Err.e e.0,
      λ err k. let h = e.1 err k in (other_err c.in-Err.e err h.0, h.1, h.2),
      e.2,
      λ k h. e.3 k (other_err c.in-Err.e errors.ReadFault h),
      e.4,
    )

pub returns-in-Err-clause-answers : goal.returns-in-Err-clause-answers
returns-in-Err-clause-answers g c =
    let abc = c.args.abc.now in
    let w = c.args.w.now in
    let s = g.S.Source.left c.args.source.now in
    let w2 = c.read_all.new.w in
    let s2 = g.S.Source.left c.read_all.new.source in
    let of_places = g.K.Keeping.of_places in
    answers (image (keeping of_places) (bodies abc)) (image-exact (keeping of_places) (bodies abc) (bodies-exact abc)) w w2 s s2 (Err c.in-Err.e) (omega (arith, c.place.ensures.is, c.place.ensures.bound))
    (fills_err abc c.sizes_of-sizes.result c.sizes_of-sizes.ensures w s w2 s2 g.K.Keeping.of_places c.in-Err.e c.in-Err.ensures.value.0)

use Rattle.std.proofs.Common.{arith}
use Rattle.abc_file_types.specs.Bodies.{bodies}
use Rattle.abc_file_types.proofs.BodiesExact.{bodies-exact}
use Rattle.abc_varint.proofs.Answering.{answers}
use Rattle.abc_traits.proofs.Filling.{reads_alike}
use Rattle.abc_bodies.specs.Reading.{with_places}
use Rattle.abc_bodies.proofs.Alike.{kept-alike, places_kept}
use Rattle.abc_bodies.proofs.read.read_bodies.Goals as goal

pub returns-clause-value : goal.returns-clause-value
returns-clause-value g c =
    let e = c.read_bodies_keeping.ensures.value in
    (reads_alike _ _ (kept-alike (bodies c.args.abc.now)) c.args.w.now (g.S.Source.left c.args.source.now) c.read_bodies_keeping.new.w (g.S.Source.left c.read_bodies_keeping.new.source) (with_places c.read_bodies_keeping.result c.read_bodies_keeping.new.abc) e.0, e.1, e.2, e.3, e.4)

pub returns-clause-places : goal.returns-clause-places
returns-clause-places g c = places_kept c.read_bodies_keeping.result c.read_bodies_keeping.new.abc.bodies c.read_bodies_keeping.ensures.places

pub returns-clause-answers : goal.returns-clause-answers
returns-clause-answers g c =
    answers (bodies c.args.abc.now) (bodies-exact c.args.abc.now) c.args.w.now c.read_bodies_keeping.new.w (g.S.Source.left c.args.source.now) (g.S.Source.left c.read_bodies_keeping.new.source)
    (with_places c.read_bodies_keeping.result c.read_bodies_keeping.new.abc) (omega (arith, c.place-place.ensures.is, c.place-place.ensures.bound)) (returns-clause-value g c).0

use Rattle.abc_traits.proofs.Filling.{reads_alike}
use Rattle.abc_bodies.specs.Reading.{body_with_starts}
use Rattle.abc_bodies.proofs.Alike.{free_body-alike}
use Rattle.abc_bodies.proofs.body.read_body.Goals as goal

pub returns-clause-defined : goal.returns-clause-defined
returns-clause-defined g c = λ taken count flagged.
    let e = c.read_free_body.ensures.value in
    (reads_alike _ _ (free_body-alike c.args.sizes.now c.args.flags.now taken count flagged) c.args.w.now (g.S.Source.left c.args.source.now) c.read_free_body.new.w (g.S.Source.left c.read_free_body.new.source) (body_with_starts c.read_free_body.result c.read_free_body.new.reading.starts) e.0, e.1, e.2, e.3, e.4)

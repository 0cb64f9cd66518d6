use Rattle.abc_file.proofs.Ending.{answers_placed, places_kept}
use Rattle.abc_file.proofs.reading.read.Goals as goal

pub returns-clause-answers : goal.returns-clause-answers
returns-clause-answers g c = answers_placed (g.S.Source.left c.args.source.now) c.read_keeping.result c.read_keeping.ensures.answers

pub returns-clause-places : goal.returns-clause-places
returns-clause-places g c = places_kept c.read_keeping.result c.read_keeping.ensures.places

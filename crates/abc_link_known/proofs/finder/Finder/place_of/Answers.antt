use Rattle.std.proofs.Common.{◌∙◌, sym}
use Rattle.abc_link_known.proofs.Firsts.{place_nowhere, place_there}
use Rattle.abc_link_known.proofs.finder.Finder.place_of.Goals as goal

pub returns-in-Some : goal.returns-in-Some
returns-in-Some c =
    c.at.ensures
    ∙ place_there c.args.self.now.names.abc.now c.args.self.now.names.tables.now.numbers c.args.slate.now c.args.classes.now c.args.space c.in-Some.spot c.requires.firsts c.requires.places (sym c.in-Some.is ∙ c.spot_of_space.ensures)

pub returns-in-None : goal.returns-in-None
returns-in-None c = place_nowhere c.args.self.now.names.abc.now c.args.self.now.names.tables.now.numbers c.args.classes.now c.args.space (sym c.in-None.is ∙ c.spot_of_space.ensures)

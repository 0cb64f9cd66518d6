use Rattle.std.proofs.Common.{◌∙◌, sym}
use Rattle.abc_link_known.specs.Spots.{key_of_space}
use Rattle.abc_link_known.proofs.Spotted.{spot_there}
use Rattle.abc_link_known.proofs.spots.Spots.of_space.Goals as goal

pub returns-in-Some : goal.returns-in-Some
returns-in-Some c = spot_there c.args.names.now.abc.now c.args.names.now.tables.now.numbers c.args.self.now c.args.space c.in-Some.spot c.requires (sym c.fetch.ensures ∙ c.in-Some.is)

pub returns-in-None : goal.returns-in-None
returns-in-None c = c.spot_of_key.ensures ∙ c.requires.found (key_of_space c.args.names.now.abc.now c.args.names.now.tables.now.numbers c.args.space)

use Rattle.std.proofs.Common.{◌∙◌, sym}
use Rattle.abc_link_known.proofs.Spotted.{class_missing, class_there}
use Rattle.abc_link_known.proofs.spots.Spots.of_class.Goals as goal

pub returns-in-Some : goal.returns-in-Some
returns-in-Some c = class_there c.args.names.now.abc.now c.args.names.now.tables.now.numbers c.args.self.now c.args.class c.in-Some.spot c.requires (sym c.fetch.ensures ∙ c.in-Some.is)

pub returns-in-None : goal.returns-in-None
returns-in-None c = class_missing c.args.names.now.abc.now c.args.names.now.tables.now.numbers c.args.self.now c.args.class c.requires (sym c.fetch.ensures ∙ c.in-None.is)

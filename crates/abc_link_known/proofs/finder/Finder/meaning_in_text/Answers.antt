use Rattle.abc_link_known.proofs.Telling.{resolved}
use Rattle.abc_link_known.proofs.finder.Finder.meaning_in_text.Goals as goal

pub returns-in-One : goal.returns-in-One
returns-in-One c = resolved c.args.self.now.names.abc.now c.args.name c.args.plain c.meaning_of_one.result c.requires.plain c.meaning_of_one.ensures

pub returns-in-Set : goal.returns-in-Set
returns-in-Set c = resolved c.args.self.now.names.abc.now c.args.name c.args.plain c.meaning_of_set.result c.requires.plain c.meaning_of_set.ensures

use Rattle.abc_text_reader.proofs.Seen.{is_absent, is_before}
use Rattle.abc_text_reader.proofs.noting.stands_before.Goals as goal

pub returns-in-Some : goal.returns-in-Some
returns-in-Some c = is_before c.args.name c.args.names.now.entries c.in-Some.found c.args.place c.in-Some.ensures.index

pub returns-in-None : goal.returns-in-None
returns-in-None c = is_absent c.args.name c.args.names.now.entries c.args.place c.in-None.ensures.index

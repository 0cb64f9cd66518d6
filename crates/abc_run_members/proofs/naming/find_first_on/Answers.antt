use Rattle.abc_run_members.proofs.Searched.{first_there}
use Rattle.abc_run_members.proofs.naming.find_first_on.Goals as goal

pub returns-clause-there : goal.returns-clause-there
returns-clause-there c =
    first_there c.args.linked.now c.args.s.now.arena c.args.o c.args.name.now c.find_first.result c.answer_is_the_first.ensures c.found_is_there.ensures c.requires.over c.find_first.ensures

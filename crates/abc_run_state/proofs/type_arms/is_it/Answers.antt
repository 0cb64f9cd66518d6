use Rattle.abc_run_state.proofs.Tested.{type_tested}
use Rattle.abc_run_state.proofs.type_arms.is_it.Goals as goal

pub returns : goal.returns
returns c = type_tested c.args.linked.now c.args.s.now.arena c.args.ty c.args.v c.is_of.result c.requires.over.linked c.is_of.ensures

use Rattle.abc_meaning.proofs.Coercing.{computes_coercion}
use Rattle.abc_run_state.proofs.parts.coerce_in.Goals as goal

pub returns-clause-left : goal.returns-clause-left
returns-clause-left c = computes_coercion c.args.linked.now c.args.a.now c.coerce.new.a c.args.ty c.args.v c.coerce.result c.requires.over.linked c.coerce.ensures.left

use Rattle.abc_run_state.proofs.StaysSo.{boolean_kept}
use Rattle.abc_run_state.proofs.of_type.is_of_boolean.Goals as goal

pub returns-in-Bool : goal.returns-in-Bool
returns-in-Bool c = λ e. boolean_kept c.args.v _ c.in-Bool.is

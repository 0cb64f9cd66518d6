use Rattle.abc_run_state.proofs.StaysSo.{number_kept}
use Rattle.abc_run_state.proofs.of_type.is_of_number.Goals as goal

pub returns-in-Num : goal.returns-in-Num
returns-in-Num c = λ e. number_kept c.args.v _ c.in-Num.is

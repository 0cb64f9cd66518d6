use Rattle.abc_run_state.proofs.StaysSo.{text_kept}
use Rattle.abc_run_state.proofs.of_type.is_of_text.Goals as goal

pub returns-in-Text : goal.returns-in-Text
returns-in-Text c = λ e. text_kept c.args.v _ c.in-Text.is

use Rattle.abc_run_names.proofs.Forms.{late_form}
use Rattle.abc_run_names.proofs.runtime_names.late_text.Goals as goal

pub returns-in-Some : goal.returns-in-Some
returns-in-Some g c = late_form c.spaces_in.result c.in-Some.form _ c.spaces_in.ensures (c.in-Some.ensures g.out)

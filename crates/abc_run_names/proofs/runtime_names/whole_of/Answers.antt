use Rattle.std.proofs.Common.{ap}
use Rattle.abc_run_names.specs.Form.{name_form_of}
use Rattle.abc_run_names.proofs.runtime_names.whole_of.Goals as goal

pub returns-in-Whole : goal.returns-in-Whole
returns-in-Whole c = ap name_form_of c.in-Whole.is

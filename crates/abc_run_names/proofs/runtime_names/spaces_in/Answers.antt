use Rattle.std.proofs.Common.{ap}
use Rattle.abc_run_names.specs.Form.{name_form_of}
use Rattle.abc_run_names.proofs.runtime_names.spaces_in.Goals as goal

pub returns-in-NoText : goal.returns-in-NoText
returns-in-NoText c = ap name_form_of c.in-NoText.is

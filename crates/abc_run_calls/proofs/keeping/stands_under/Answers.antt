use Rattle.std.proofs.Common.{◌∙◌, sym}
use Rattle.abc_run_calls.proofs.keeping.stands_under.Goals as goal

pub returns-in-Obj : goal.returns-in-Obj
returns-in-Obj c = λ e. sym c.operand.ensures.is ∙ c.is_object.ensures e ∙ sym c.in-Obj.is

use Rattle.std.proofs.Common.{◌∙◌, eqb-true}
use Rattle.abc_run_calls.proofs.Stayed.{same_object}
use Rattle.abc_run_calls.proofs.keeping.is_object.Goals as goal

pub returns-in-Obj : goal.returns-in-Obj
returns-in-Obj c = λ e. c.in-Obj.is ∙ same_object c.in-Obj.x c.args.o (eqb-true c.in-Obj.x.0 c.args.o.0 e)

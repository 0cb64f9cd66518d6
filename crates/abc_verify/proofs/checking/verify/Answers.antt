use Rattle.abc_verify.proofs.Methods.{all_typed}
use Rattle.abc_verify.proofs.checking.verify.Goals as goal

pub returns-in-Ok : goal.returns-in-Ok
returns-in-Ok c = (c.of.ensures, c.in-Ok.ensures, all_typed _ c.linked_law.ensures c.in-Ok.ensures)

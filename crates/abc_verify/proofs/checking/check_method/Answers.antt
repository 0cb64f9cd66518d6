use Rattle.std.proofs.Common.{sym}
use Rattle.abc_verify.proofs.Methods.{not_typed}
use Rattle.abc_verify.proofs.checking.check_method.Goals as goal

pub check_numbered-requires : goal.check_numbered-requires
check_numbered-requires c = record { linked = c.requires.linked; inside = c.requires.inside; before = c.requires.before; of_method = sym c.in-Some.ensures }

pub returns-in-None : goal.returns-in-None
returns-in-None c = not_typed c.args.linked.now c.args.method (sym c.in-None.ensures)

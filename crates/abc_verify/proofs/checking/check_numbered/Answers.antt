use Rattle.abc_link_names.proofs.MethodBodies.{body_inside}
use Rattle.abc_verify.proofs.Methods.{is_typed, refused}
use Rattle.abc_verify.proofs.checking.check_numbered.Goals as goal

pub check_body-requires : goal.check_body-requires
check_body-requires c = record { linked = c.requires.linked; inside = body_inside c.args.linked.now.file c.args.method c.args.body c.requires.of_method }

pub returns-in-Ok : goal.returns-in-Ok
returns-in-Ok c = is_typed c.args.linked.now c.args.method c.args.body c.requires.of_method c.in-Ok.ensures

pub returns-in-Err : goal.returns-in-Err
returns-in-Err c = refused c.args.linked.now c.args.method c.args.body c.in-Err.refusal _ c.requires.linked c.requires.inside c.requires.before c.requires.of_method c.in-Err.ensures c.refusal_of.ensures

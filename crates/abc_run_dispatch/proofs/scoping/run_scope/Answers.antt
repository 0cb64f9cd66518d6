use Rattle.abc_run_dispatch.proofs.Dispatched.{here_at}
use Rattle.abc_run_values.proofs.Doing.{can_at}
use Rattle.abc_file_types.specs.declared.code.Instr.TheVariants.{Plain}
use Rattle.abc_run_dispatch.proofs.scoping.run_scope.Goals as goal

pub make_activation-requires : goal.make_activation-requires
make_activation-requires g c = can_at c.args.linked.now g.out c.args.s.now Plain c.args.op 87 c.in-87.is c.requires.0

pub returns-in-87 : goal.returns-in-87
returns-in-87 g c = here_at c.args.linked.now g.out c.args.s.now Plain c.args.op 87 _ _ c.in-87.is c.make_activation.ensures

pub push_global-requires : goal.push_global-requires
push_global-requires g c = can_at c.args.linked.now g.out c.args.s.now Plain c.args.op 100 c.in-100.is c.requires.0

pub returns-in-100 : goal.returns-in-100
returns-in-100 g c = here_at c.args.linked.now g.out c.args.s.now Plain c.args.op 100 _ _ c.in-100.is c.push_global.ensures

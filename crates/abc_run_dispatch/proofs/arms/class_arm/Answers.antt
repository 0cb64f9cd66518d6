use Rattle.abc_run_dispatch.proofs.Dispatched.{dispatches_run}
use Rattle.abc_file_types.specs.declared.code.Instr.TheVariants.{One}
use Rattle.abc_file_types.specs.declared.op.TheConstants.{NEWCLASS}
use Rattle.abc_run_dispatch.proofs.arms.class_arm.Goals as goal

pub returns : goal.returns
returns g c = dispatches_run c.args.linked.now g.out c.args.s.now (One NEWCLASS c.args.n) c.run_class.new.s _ _ c.goes.ensures.goes c.run_class.result c.run_class.ensures c.goes.ensures.left

use Rattle.abc_run_dispatch.proofs.Dispatched.{dispatches_run}
use Rattle.abc_file_types.specs.declared.code.Instr.TheVariants.{One}
use Rattle.abc_file_types.specs.declared.op.TheConstants.{CONSTRUCT}
use Rattle.abc_run_dispatch.proofs.arms.construct_arm.Goals as goal

pub returns : goal.returns
returns g c = dispatches_run c.args.linked.now g.out c.args.s.now (One CONSTRUCT c.args.n) c.run_construct.new.s _ _ c.goes.ensures.goes c.run_construct.result c.run_construct.ensures c.goes.ensures.left

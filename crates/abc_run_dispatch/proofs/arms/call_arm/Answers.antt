use Rattle.abc_run_dispatch.proofs.Dispatched.{dispatches_left}
use Rattle.abc_file_types.specs.declared.code.Instr.TheVariants.{One}
use Rattle.abc_file_types.specs.declared.op.TheConstants.{CALL}
use Rattle.abc_run_dispatch.proofs.arms.call_arm.Goals as goal

pub returns : goal.returns
returns g c = dispatches_left c.args.linked.now g.out c.args.s.now (One CALL c.args.n) c.run_call_value.new.s _ _ c.leaves.ensures.goes c.run_call_value.result c.run_call_value.ensures.leaves c.run_call_value.ensures.finishes c.leaves.ensures.left

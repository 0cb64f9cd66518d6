use Rattle.abc_run_dispatch.proofs.Dispatched.{dispatches_left}
use Rattle.abc_file_types.specs.declared.code.Instr.TheVariants.{Two}
use Rattle.abc_run_dispatch.proofs.arms.super_call_arm.Goals as goal

pub returns : goal.returns
returns g c = dispatches_left c.args.linked.now g.out c.args.s.now (Two c.args.op c.args.n c.args.count) c.run_super_call.new.s _ _ c.leaves.ensures.goes c.run_super_call.result c.run_super_call.ensures.leaves c.run_super_call.ensures.finishes c.leaves.ensures.left

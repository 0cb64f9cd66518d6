use Rattle.abc_run_dispatch.proofs.Dispatched.{dispatches_run}
use Rattle.abc_file_types.specs.declared.code.Instr.TheVariants.{Two}
use Rattle.abc_file_types.specs.declared.op.TheConstants.{HASNEXT2}
use Rattle.abc_run_dispatch.proofs.arms.next_arm.Goals as goal

pub returns : goal.returns
returns g c = dispatches_run c.args.linked.now g.out c.args.s.now (Two HASNEXT2 c.args.n c.args.count) c.run_next.new.s _ _ c.goes.ensures.goes c.run_next.result c.run_next.ensures c.goes.ensures.left

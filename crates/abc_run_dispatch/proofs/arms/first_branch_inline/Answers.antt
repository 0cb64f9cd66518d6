use Rattle.abc_run_dispatch.proofs.Dispatched.{dispatches_run}
use Rattle.abc_file_types.specs.declared.code.Instr.TheVariants.{Branch}
use Rattle.abc_run_dispatch.proofs.arms.first_branch_inline.Goals as goal

pub returns : goal.returns
returns g c = dispatches_run c.args.linked.now g.out c.args.s.now (Branch c.args.op c.args.target) c.run_first_branch.new.s _ _ c.goes.ensures.goes c.run_first_branch.result c.run_first_branch.ensures c.goes.ensures.left

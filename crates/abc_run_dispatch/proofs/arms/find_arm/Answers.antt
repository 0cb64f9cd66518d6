use Rattle.abc_run_dispatch.proofs.Dispatched.{dispatches_run}
use Rattle.abc_file_types.specs.declared.code.Instr.TheVariants.{One}
use Rattle.abc_run_dispatch.proofs.arms.find_arm.Goals as goal

pub returns : goal.returns
returns g c = dispatches_run c.args.linked.now g.out c.args.s.now (One c.args.op c.args.n) c.run_find.new.s _ _ c.goes.ensures.goes c.run_find.result c.run_find.ensures c.goes.ensures.left

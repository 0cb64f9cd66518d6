use Rattle.abc_run_dispatch.proofs.Dispatched.{dispatches_run}
use Rattle.abc_file_types.specs.declared.code.Instr.TheVariants.{One}
use Rattle.abc_run_dispatch.proofs.arms.typed_arm.Goals as goal

pub returns : goal.returns
returns g c = dispatches_run c.args.linked.now g.out c.args.s.now (One c.args.op c.args.n) c.run_typed.new.s _ _ c.goes.ensures.goes c.run_typed.result c.run_typed.ensures c.goes.ensures.left

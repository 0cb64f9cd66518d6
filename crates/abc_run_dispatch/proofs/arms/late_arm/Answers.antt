use Rattle.abc_run_dispatch.proofs.Dispatched.{dispatches_run}
use Rattle.abc_file_types.specs.declared.code.Instr.TheVariants.{Plain}
use Rattle.abc_run_dispatch.proofs.arms.late_arm.Goals as goal

pub returns : goal.returns
returns g c = dispatches_run c.args.linked.now g.out c.args.s.now (Plain c.args.op) c.run_late.new.s _ _ c.goes.ensures.goes c.run_late.result c.run_late.ensures c.goes.ensures.left

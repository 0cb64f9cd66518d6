use Rattle.abc_run_dispatch.proofs.Dispatched.{dispatches_run}
use Rattle.abc_file_types.specs.declared.code.Instr.TheVariants.{Plain}
use Rattle.abc_run_dispatch.proofs.arms.double_inline.Goals as goal

pub returns : goal.returns
returns g c = dispatches_run c.args.linked.now g.out c.args.s.now (Plain c.args.op) c.run_double.new.s _ _ c.goes.ensures.goes c.run_double.result c.run_double.ensures c.goes.ensures.left

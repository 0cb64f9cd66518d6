use Rattle.abc_run_dispatch.proofs.StepTaken.{two_there}
use Rattle.abc_run_dispatch.proofs.arms.double_fast.Goals as goal

pub numbers_on_top-requires : goal.numbers_on_top-requires
numbers_on_top-requires g c = two_there c.args.linked.now g.out c.args.s.now c.args.op c.requires.0.run c.requires.1

use Rattle.std.proofs.Common.{refl}
use Rattle.abc_run_dispatch.proofs.Grouped.{part_in}
use Rattle.abc_run_dispatch.specs.StepGroups.{last_order_ops}
use Rattle.abc_run_dispatch.proofs.StepTaken.{last_two_there}
use Rattle.abc_run_values.specs.Groups.{last_branch_ops}
use Rattle.abc_file_types.specs.Opcodes.{is_in}
use Rattle.abc_run_dispatch.proofs.arms.last_branch_fast.Goals as goal

pub numbers_on_top-requires : goal.numbers_on_top-requires
numbers_on_top-requires g c = last_two_there c.args.linked.now g.out c.args.s.now c.args.op c.args.target c.requires.0.run c.requires.1

pub last_branch_inline-requires : goal.last_branch_inline-requires
last_branch_inline-requires g c = (c.requires.0, part_in (λ n. is_in n last_branch_ops) last_order_ops c.args.op refl c.requires.1)

pub last_branch_arm-requires : goal.last_branch_arm-requires
last_branch_arm-requires g c = (c.requires.0, part_in (λ n. is_in n last_branch_ops) last_order_ops c.args.op refl c.requires.1)

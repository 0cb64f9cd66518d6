use Rattle.std.proofs.Common.{refl}
use Rattle.abc_run_dispatch.proofs.Grouped.{part_in}
use Rattle.abc_run_dispatch.specs.StepGroups.{to_number_ops}
use Rattle.abc_run_dispatch.proofs.StepTaken.{one_there}
use Rattle.abc_run_values.specs.Groups.{convert_ops}
use Rattle.abc_file_types.specs.Opcodes.{is_in}
use Rattle.abc_run_dispatch.proofs.arms.convert_fast.Goals as goal

pub number_on_top-requires : goal.number_on_top-requires
number_on_top-requires g c = one_there c.args.linked.now g.out c.args.s.now c.args.op c.requires.0.run c.requires.1

pub convert_inline-requires : goal.convert_inline-requires
convert_inline-requires g c = (c.requires.0, part_in (λ n. is_in n convert_ops) to_number_ops c.args.op refl c.requires.1)

pub convert_arm-requires : goal.convert_arm-requires
convert_arm-requires g c = (c.requires.0, part_in (λ n. is_in n convert_ops) to_number_ops c.args.op refl c.requires.1)

use Rattle.std.proofs.Common.{◌∙◌}
use Rattle.abc_asm.proofs.Heads.{instance_says}
use Rattle.abc_asm.proofs.classes.InstancesHeaded.head.Goals as goal

pub returns : goal.returns
returns c =
    c.with_fault.ensures
    ∙ instance_says c.args.reader.now c.args._taken.now c.requires.once _ c.as_slice-tokens.ensures.value c.instance_line-head.result c.flags_of.result c.are_counted-fine.result c.requires.word c.instance_line-head.ensures c.flags_of.ensures.of_instance c.are_counted-fine.ensures

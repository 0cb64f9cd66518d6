use Rattle.std.proofs.Common.{◌∙◌}
use Rattle.abc_asm.proofs.Heads.{method_says}
use Rattle.abc_asm.proofs.methods.MethodsHeaded.head.Goals as goal

pub returns : goal.returns
returns c =
    c.with_fault.ensures
    ∙ method_says c.args.reader.now c.args._taken.now c.requires.once _ c.as_slice-tokens.ensures.value c.method_line-head.result c.flags_of.result c.are_counted-fine.result c.requires.word c.method_line-head.ensures c.flags_of.ensures.of_method c.are_counted-fine.ensures

use Rattle.std.proofs.Common.{◌∙◌}
use Rattle.abc_asm.proofs.Heads.{trait_says}
use Rattle.abc_asm.proofs.traits.TraitsHeaded.head.Goals as goal

pub returns : goal.returns
returns c =
    c.with_fault.ensures
    ∙ trait_says c.args.reader.now c.args._taken.now c.requires.once _ c.as_slice-tokens.ensures.value c.trait_line-head.result c.attrs_of.result c.are_counted-fine.result c.requires.word c.trait_line-head.ensures c.attrs_of.ensures c.are_counted-fine.ensures

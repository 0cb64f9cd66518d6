use Rattle.std.proofs.Common.{◌∙◌}
use Rattle.abc_asm.proofs.Heads.{class_says}
use Rattle.abc_asm.proofs.classes.ClassesHeaded.head.Goals as goal

pub returns : goal.returns
returns c =
    c.with_fault.ensures
    ∙ class_says c.args.reader.now c.args._taken.now c.requires.once _ c.as_slice.ensures.value c.method_index_line-cinit.result c.classes_taken.result c.requires.word c.method_index_line-cinit.ensures c.classes_taken.ensures

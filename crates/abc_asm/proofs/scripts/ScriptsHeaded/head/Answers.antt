use Rattle.abc_asm.proofs.Heads.{script_says}
use Rattle.abc_asm.proofs.scripts.ScriptsHeaded.head.Goals as goal

pub returns : goal.returns
returns c = script_says c.args.reader.now c.args._taken.now c.requires.once _ c.as_slice.ensures.value c.method_index_line.result c.requires.word c.method_index_line.ensures

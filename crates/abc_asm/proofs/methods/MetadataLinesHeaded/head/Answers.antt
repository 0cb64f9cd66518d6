use Rattle.abc_asm.proofs.Heads.{metadata_says}
use Rattle.abc_asm.proofs.methods.MetadataLinesHeaded.head.Goals as goal

pub returns : goal.returns
returns c = metadata_says c.args.reader.now c.args._taken.now c.requires.once _ c.as_slice.ensures.value c.string_index_line.result c.requires.word c.string_index_line.ensures

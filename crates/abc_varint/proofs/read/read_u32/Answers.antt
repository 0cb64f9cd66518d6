use Rattle.abc_file_types.proofs.Numbers.{u32-exact}
use Rattle.abc_varint.proofs.Answering.{answers}
use Rattle.abc_varint.proofs.read.read_u32.Goals as goal

pub returns-clause-answers : goal.returns-clause-answers
returns-clause-answers g c = answers _ u32-exact _ _ _ _ _ c.next_u32.ensures.room c.next_u32.ensures.value.0.0

use Rattle.abc_file_types.proofs.Numbers.{u8-exact}
use Rattle.abc_varint.proofs.Answering.{answers}
use Rattle.abc_varint.proofs.read.read_u8.Goals as goal

pub returns-clause-answers : goal.returns-clause-answers
returns-clause-answers g c = answers _ u8-exact _ _ _ _ _ c.next_u8.ensures.room c.next_u8.ensures.value

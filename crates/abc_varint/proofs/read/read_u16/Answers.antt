use Rattle.abc_file_types.proofs.Numbers.{u16-exact}
use Rattle.abc_varint.proofs.Answering.{answers}
use Rattle.abc_varint.proofs.read.read_u16.Goals as goal

pub returns-clause-answers : goal.returns-clause-answers
returns-clause-answers g c = answers _ u16-exact _ _ _ _ _ c.next_u16.ensures.room c.next_u16.ensures.value.0.0

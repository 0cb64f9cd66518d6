use Rattle.abc_file_types.proofs.Numbers.{u30-exact}
use Rattle.abc_varint.proofs.Answering.{answers}
use Rattle.abc_varint.proofs.read.read_u30.Goals as goal

pub returns-clause-answers : goal.returns-clause-answers
returns-clause-answers g c = answers _ u30-exact _ _ _ _ _ c.next_u30.ensures.room c.next_u30.ensures.value.0.0

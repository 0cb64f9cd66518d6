use Rattle.abc_file_types.proofs.Numbers.{s24-exact}
use Rattle.abc_varint.proofs.Answering.{answers}
use Rattle.abc_varint.proofs.read.read_s24.Goals as goal

pub returns-clause-answers : goal.returns-clause-answers
returns-clause-answers g c = answers _ s24-exact _ _ _ _ _ c.next_s24.ensures.room c.next_s24.ensures.value.0.0

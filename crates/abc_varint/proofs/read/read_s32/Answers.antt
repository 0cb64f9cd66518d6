use Rattle.abc_file_types.proofs.Numbers.{s32-exact}
use Rattle.abc_varint.proofs.Answering.{answers}
use Rattle.abc_varint.proofs.read.read_s32.Goals as goal

pub returns-clause-answers : goal.returns-clause-answers
returns-clause-answers g c = answers _ s32-exact _ _ _ _ _ c.next_s32.ensures.room c.next_s32.ensures.value.0.0

use Rattle.abc_file_types.proofs.Numbers.{index_below-exact}
use Rattle.abc_varint.proofs.Answering.{answers}
use Rattle.abc_varint.proofs.read.read_index_below.Goals as goal

pub returns-clause-answers : goal.returns-clause-answers
returns-clause-answers g c = answers _ (index_below-exact c.args.n) _ _ _ _ _ c.next_index_below.ensures.room c.next_index_below.ensures.value.0

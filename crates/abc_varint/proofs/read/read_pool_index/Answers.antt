use Rattle.abc_file_types.proofs.Numbers.{pool_index-exact}
use Rattle.abc_varint.proofs.Answering.{answers}
use Rattle.abc_varint.proofs.read.read_pool_index.Goals as goal

pub returns-clause-answers : goal.returns-clause-answers
returns-clause-answers g c = answers _ (pool_index-exact c.args.n) _ _ _ _ _ c.next_pool_index.ensures.room c.next_pool_index.ensures.value.0

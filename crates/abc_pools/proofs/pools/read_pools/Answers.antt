use Rattle.std.proofs.Common.{arith}
use Rattle.abc_file_types.proofs.Exactness.{pools-exact}
use Rattle.abc_varint.proofs.Answering.{answers}
use Rattle.abc_pools.proofs.pools.read_pools.Goals as goal

pub returns-clause-answers : goal.returns-clause-answers
returns-clause-answers g c = answers _ pools-exact c.args.w.now _ _ _ _ (omega arith) c.next_pools.ensures.0

use Rattle.abc_file_types.proofs.Exactness.{multiname-exact}
use Rattle.abc_varint.proofs.Answering.{answers}
use Rattle.abc_pools.proofs.multinames.read_multiname.Goals as goal

pub returns-clause-answers : goal.returns-clause-answers
returns-clause-answers g c = answers _ (multiname-exact c.args.strings c.args.spaces c.args.sets c.args.names) _ _ _ _ _ c.next_multiname.ensures.room c.next_multiname.ensures.value.0

use Rattle.abc_cli_answers.proofs.Started.{byte_count_is}
use Rattle.abc_cli_answers.proofs.measures.byte_count.Goals as goal

pub returns : goal.returns
returns c = byte_count_is c.args.abc.now c.canon_len.result c.requires (c.canonical_length.ensures c.args.abc.now) c.canon_len.ensures

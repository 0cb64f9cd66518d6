use Rattle.abc_tables.proofs.CanonicalLength.{file-len}
use Rattle.abc_tables.proofs.laws.canonical_length.Goals as goal

pub returns : goal.returns
returns c = file-len

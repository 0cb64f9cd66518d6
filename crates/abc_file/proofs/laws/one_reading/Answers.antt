use Rattle.abc_file_types.proofs.Whole.{decided}
use Rattle.abc_file.proofs.laws.one_reading.Goals as goal

pub returns : goal.returns
returns c = decided

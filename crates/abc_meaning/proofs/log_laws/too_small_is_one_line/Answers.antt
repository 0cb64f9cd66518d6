use Rattle.abc_meaning.proofs.Counted.{one_line}
use Rattle.abc_meaning.proofs.log_laws.too_small_is_one_line.Goals as goal

pub returns : goal.returns
returns c = one_line

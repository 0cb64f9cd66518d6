-- A tidied file stays as it is.
use Rattle.abc_tidy.proofs.Kept.{answered}
use Rattle.abc_tidy.proofs.tidy_laws.tidied_once.Goals as goal

pub returns : goal.returns
returns c = answered

-- A file has one tidied file, or one first broken rule.
use Rattle.abc_tidy.proofs.Deciding.{has_one}
use Rattle.abc_tidy.proofs.tidy_laws.tidying_has_one_answer.Goals as goal

pub returns : goal.returns
returns c = has_one

use Rattle.std.specs.Result.{MatchResult}
use Rattle.std.proofs.Common.{subst}
use Rattle.abc_tidy_entries.specs.Rules.{IsTidied, IsTidyError}
use Rattle.abc_tidy.proofs.tidying.tidy.Goals as goal

pub returns : goal.returns
returns c = subst (λ v. MatchResult c.tidy_owned.result (IsTidied v) (IsTidyError v)) c.in_ok-copy.ensures c.tidy_owned.ensures

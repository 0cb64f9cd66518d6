use Rattle.abc_tidy.proofs.Tidied.{spelled_or_not}
use Rattle.abc_tidy.proofs.tidying.tidy_owned.Goals as goal

pub returns-in-Ok : goal.returns-in-Ok
returns-in-Ok c = spelled_or_not c.args.abc c.follow.result c.in-Ok.plan.pools c.in-Ok.plan.numbers c.spelled.result c.in-Ok.ensures c.follow.ensures c.spelled.ensures

use Rattle.abc_tidy_entries.proofs.Operands.{holds_all}
use Rattle.abc_tidy_entries.proofs.checks.body_holds.Goals as goal

pub returns : goal.returns
returns c = holds_all c.args.abc.now c.args.body.now.code c.as_slice.result.now c.all_hold.result c.as_slice.ensures c.all_hold.ensures

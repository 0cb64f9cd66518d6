use Rattle.abc_lookup.proofs.OwnFirst.{global_table, instance_table}
use Rattle.abc_lookup.proofs.at_once.has_table.Goals as goal

pub returns-in-Global : goal.returns-in-Global
returns-in-Global c = λ e. global_table c.args.part _ c.in-Global.is

pub returns-in-Instance : goal.returns-in-Instance
returns-in-Instance c = λ e. instance_table c.args.part _ c.in-Instance.is

use Rattle.abc_link_known.proofs.Telling.{none_told}
use Rattle.abc_link_known.proofs.known.known_of.Goals as goal

pub returns-then-not-may_cost_much : goal.returns-then-not-may_cost_much
returns-then-not-may_cost_much c = none_told c.args.names.now.abc.now c.new.result c.new.ensures

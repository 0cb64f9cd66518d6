use Rattle.std.proofs.Common.{◌∙◌}
use Rattle.abc_run_state.specs.Outer.{setting_in, world}
use Rattle.abc_run_members.proofs.Written.{own_refused, own_written}
use Rattle.abc_run_members.proofs.writing.write_own.Goals as goal

pub returns-then-may_take-clause-part : goal.returns-then-may_take-clause-part
returns-then-may_take-clause-part c = λ out. own_written (setting_in c.args.linked.now out) c.args.o c.args.text c.args.v (world c.args.s.now out) c.may_take.result (c.may_take.ensures out) c.if-may_take.true ∙ c.put_property.ensures.part out

pub returns-else-may_take-clause-part : goal.returns-else-may_take-clause-part
returns-else-may_take-clause-part c = λ out. own_refused (setting_in c.args.linked.now out) c.args.o c.args.text c.args.v (world c.args.s.now out) c.may_take.result (c.may_take.ensures out) c.if-may_take.false

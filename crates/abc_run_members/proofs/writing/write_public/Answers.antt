use Rattle.std.proofs.Common.{◌∙◌}
use Rattle.abc_run_state.specs.Outer.{setting_in, world}
use Rattle.abc_run_members.proofs.Cases.{public_kept, public_refused}
use Rattle.abc_run_members.proofs.writing.write_public.Goals as goal

pub returns-then-holds_public-clause-part : goal.returns-then-holds_public-clause-part
returns-then-holds_public-clause-part c = λ out. public_kept (setting_in c.args.linked.now out) c.args.o c.args.name.now c.args.v (world c.args.s.now out) c.holds_public.result c.holds_public.ensures c.if-holds_public.true ∙ c.write_property.ensures.part out

pub returns-else-holds_public-clause-part : goal.returns-else-holds_public-clause-part
returns-else-holds_public-clause-part c = λ out. public_refused (setting_in c.args.linked.now out) c.args.o c.args.name.now c.args.v (world c.args.s.now out) c.holds_public.result c.holds_public.ensures c.if-holds_public.false

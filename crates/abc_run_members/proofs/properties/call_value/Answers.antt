use Rattle.std.proofs.Common.{rules}
use Rattle.abc_run_members.proofs.properties.call_value.Goals as goal

pub call-requires : goal.call-requires
call-requires g c = (search rules, (search rules, (search rules, (c.operand-callee.ensures.there c.args.linked.now c.args.s.now.arena c.requires.0.set.frame.stack))))

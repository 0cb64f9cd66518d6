use Rattle.std.proofs.Common.{arith, rules}
use Rattle.abc_run_members.proofs.properties.construct.Goals as goal

pub overflow_add-count : goal.overflow_add-count
overflow_add-count g c = omega (arith, c.requires.1.1)

pub make-requires : goal.make-requires
make-requires g c = (search rules, (search rules, (search rules, (c.operand-of.ensures.there c.args.linked.now c.args.s.now.arena c.requires.0.set.frame.stack))))

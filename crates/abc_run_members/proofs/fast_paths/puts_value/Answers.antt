use Rattle.std.proofs.Common.{arith}
use Rattle.abc_run_members.proofs.fast_paths.puts_value.Goals as goal

pub operand-x-requires : goal.operand-x-requires
operand-x-requires g c = omega (arith, c.requires.1.0.operands)

pub puts-requires : goal.puts-requires
puts-requires g c = (c.requires.0, (c.requires.1.0, (c.requires.1.1.0, (c.requires.1.1.1, (c.operand-x.ensures.there c.args.linked.now c.args.s.now.arena c.requires.0.frame.stack, c.operand-x.ensures.is)))))

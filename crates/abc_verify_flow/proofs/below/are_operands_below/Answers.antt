use Rattle.std.proofs.Common.{arith}
use Rattle.abc_link_names.specs.Kinds.{IsAtMost}
use Rattle.abc_link_names.specs.declared.types.Kind.TheVariants.{Any}
use Rattle.abc_verify_flow.proofs.Lists.{each_next, read_more, taken_more}
use Rattle.abc_verify_flow.proofs.below.are_operands_below.Goals as goal

pub loop-depth-preserved : goal.loop-depth-preserved
loop-depth-preserved g c =
    each_next (IsAtMost (g.F.Flow.file c.args.flow.now)) c.args.stack.now c.args.others.now c.loop-depth.depth c.get_or-operand.result c.value_at.result.now
    (taken_more c.args.stack.now c.loop-depth.depth Any c.get_or-operand.result (omega arith) c.get_or-operand.ensures)
    (read_more c.args.others.now c.loop-depth.depth c.value_at.result.now c.value_at.ensures)
    c.loop-depth.invariant
    (c.is_below.ensures c.if-not-is_below.false)

use Rattle.std.proofs.Common.{◌≡◌, ◌<◌, ◌≤◌, length, refl, arith}
use Rattle.abc_link_names.specs.Kinds.{IsAtMost}
use Rattle.abc_link_names.specs.declared.types.Kind.TheVariants.{Any}
use Rattle.abc_verify_states.proofs.Pairs.{clash, pairs_all, pairs_at, pairs_next, pairs_start}
use Rattle.abc_verify_states.proofs.below.is_stack_at_most.Goals as goal

pub loop-depth-init : goal.loop-depth-init
loop-depth-init g c = pairs_start (IsAtMost (g.T.Tree.file c.args.tree.now)) c.args.a.now c.args.b.now

pub loop-depth-preserved : goal.loop-depth-preserved
loop-depth-preserved g c = pairs_next (IsAtMost (g.T.Tree.file c.args.tree.now)) c.args.a.now c.args.b.now c.loop-depth.depth Any (omega arith) c.requires c.loop-depth.invariant (c.is_operand_at_most.ensures.0 c.if-not-is_operand_at_most.false)

pub returns-then-not-is_operand_at_most : goal.returns-then-not-is_operand_at_most
returns-then-not-is_operand_at_most g c = (λ no. absurd cc, λ pairs. absurd (clash c.is_operand_at_most.result (c.is_operand_at_most.ensures.1 (pairs_at (IsAtMost (g.T.Tree.file c.args.tree.now)) c.args.a.now c.args.b.now c.loop-depth.depth Any (omega arith) pairs)) c.if-not-is_operand_at_most.true))

pub returns : goal.returns
returns g c = (λ yes. pairs_all (IsAtMost (g.T.Tree.file c.args.tree.now)) c.args.a.now c.args.b.now c.loop-depth.depth (omega arith) c.requires c.loop-depth.invariant, λ pairs. refl)

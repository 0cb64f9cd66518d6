use Rattle.std.proofs.Common.{◌≡◌, ◌<◌, ◌≤◌, length, refl, arith}
use Rattle.abc_link_names.specs.Kinds.{IsAtMost}
use Rattle.abc_link_names.specs.declared.types.Kind.TheVariants.{Any}
use Rattle.abc_verify_states.proofs.Pairs.{clash, pairs_all, pairs_at, pairs_next, pairs_start}
use Rattle.abc_verify_states.proofs.below.are_locals_at_most.Goals as goal

pub loop-place-init : goal.loop-place-init
loop-place-init g c = pairs_start (IsAtMost (g.T.Tree.file c.args.tree.now)) c.args.a.now c.args.b.now

pub loop-place-preserved : goal.loop-place-preserved
loop-place-preserved g c = pairs_next (IsAtMost (g.T.Tree.file c.args.tree.now)) c.args.a.now c.args.b.now c.loop-place.place Any (omega arith) c.requires c.loop-place.invariant (c.is_local_at_most.ensures.0 c.if-not-is_local_at_most.false)

pub returns-then-not-is_local_at_most : goal.returns-then-not-is_local_at_most
returns-then-not-is_local_at_most g c = (λ no. absurd cc, λ pairs. absurd (clash c.is_local_at_most.result (c.is_local_at_most.ensures.1 (pairs_at (IsAtMost (g.T.Tree.file c.args.tree.now)) c.args.a.now c.args.b.now c.loop-place.place Any (omega arith) pairs)) c.if-not-is_local_at_most.true))

pub returns : goal.returns
returns g c = (λ yes. pairs_all (IsAtMost (g.T.Tree.file c.args.tree.now)) c.args.a.now c.args.b.now c.loop-place.place (omega arith) c.requires c.loop-place.invariant, λ pairs. refl)

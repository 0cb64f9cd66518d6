use Rattle.std.proofs.Common.{◌≡◌, ◌<◌, ◌≤◌, length, refl, arith}
use Rattle.abc_verify_typing.specs.Typing.{ScopeLe}
use Rattle.abc_verify_states.specs.Triples.{no_scope}
use Rattle.abc_verify_states.proofs.Pairs.{clash, pairs_all, pairs_at, pairs_next, pairs_start}
use Rattle.abc_verify_states.proofs.below.are_scopes_at_most.Goals as goal

pub loop-place-init : goal.loop-place-init
loop-place-init g c = pairs_start (ScopeLe (g.T.Tree.file c.args.tree.now)) c.args.a.now c.args.b.now

pub loop-place-preserved : goal.loop-place-preserved
loop-place-preserved g c = pairs_next (ScopeLe (g.T.Tree.file c.args.tree.now)) c.args.a.now c.args.b.now c.loop-place.place no_scope (omega arith) c.requires c.loop-place.invariant (c.is_scope_at_most_at.ensures.0 c.if-not-is_scope_at_most_at.false)

pub returns-then-not-is_scope_at_most_at : goal.returns-then-not-is_scope_at_most_at
returns-then-not-is_scope_at_most_at g c = (λ no. absurd cc, λ pairs. absurd (clash c.is_scope_at_most_at.result (c.is_scope_at_most_at.ensures.1 (pairs_at (ScopeLe (g.T.Tree.file c.args.tree.now)) c.args.a.now c.args.b.now c.loop-place.place no_scope (omega arith) pairs)) c.if-not-is_scope_at_most_at.true))

pub returns : goal.returns
returns g c = (λ yes. pairs_all (ScopeLe (g.T.Tree.file c.args.tree.now)) c.args.a.now c.args.b.now c.loop-place.place (omega arith) c.requires c.loop-place.invariant, λ pairs. refl)

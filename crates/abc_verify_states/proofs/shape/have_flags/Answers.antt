use Rattle.std.proofs.Common.{◌≡◌, ◌<◌, ◌≤◌, length, refl, arith}
use Rattle.abc_verify_typing.specs.Typing.{HasOneFlag}
use Rattle.abc_verify_states.specs.Triples.{no_scope}
use Rattle.abc_verify_states.proofs.Pairs.{clash, pairs_all, pairs_at, pairs_next, pairs_start}
use Rattle.abc_verify_states.proofs.shape.have_flags.Goals as goal

pub loop-place-init : goal.loop-place-init
loop-place-init c = pairs_start HasOneFlag c.args.a.now c.args.b.now

pub loop-place-preserved : goal.loop-place-preserved
loop-place-preserved c = pairs_next HasOneFlag c.args.a.now c.args.b.now c.loop-place.place no_scope (omega arith) c.requires c.loop-place.invariant (c.has_same_flag.ensures.0 c.if-not-has_same_flag.false)

pub returns-then-not-has_same_flag : goal.returns-then-not-has_same_flag
returns-then-not-has_same_flag c = (λ no. absurd cc, λ pairs. absurd (clash c.has_same_flag.result (c.has_same_flag.ensures.1 (pairs_at HasOneFlag c.args.a.now c.args.b.now c.loop-place.place no_scope (omega arith) pairs)) c.if-not-has_same_flag.true))

pub returns : goal.returns
returns c = (λ yes. pairs_all HasOneFlag c.args.a.now c.args.b.now c.loop-place.place (omega arith) c.requires c.loop-place.invariant, λ pairs. refl)

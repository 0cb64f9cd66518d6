use Rattle.std.proofs.Common.{◌≡◌, ◌<◌, ◌≤◌, length, arith}
use Rattle.abc_verify_typing.specs.Routines.{or_any, type_at}
use Rattle.abc_verify_states.proofs.Finds.{pushed_all, pushed_next, pushed_none}
use Rattle.abc_verify_states.proofs.filled.push_types.Goals as goal

pub loop-name-init : goal.loop-name-init
loop-name-init c = pushed_none (λ t. or_any (type_at c.args.linked.now t)) c.args.names.now c.args.filled.now

pub loop-name-preserved : goal.loop-name-preserved
loop-name-preserved c = pushed_next (λ t. or_any (type_at c.args.linked.now t)) c.args.names.now c.args.filled.now c.loop-name.name-index 0 c.type_or_any-kind.result c.loop-name.filled _ (omega arith) c.type_or_any-kind.ensures c.loop-name.invariant c.in_ok-push.ensures.ok

pub returns : goal.returns
returns c = pushed_all (λ t. or_any (type_at c.args.linked.now t)) c.args.names.now c.args.filled.now c.loop-name.name-index c.loop-name.filled (omega arith) c.loop-name.invariant

use Rattle.std.proofs.Common.{◌≡◌, ◌<◌, ◌≤◌, length, refl, arith}
use Rattle.abc_verify_states.proofs.Starts.{catches_all, catches_next}
use Rattle.abc_verify_states.proofs.catches.push_catches.Goals as goal

pub loop-number-init : goal.loop-number-init
loop-number-init c = refl

pub loop-number-preserved : goal.loop-number-preserved
loop-number-preserved c = catches_next c.args.linked.now c.args.body c.args.handlers.now c.loop-number.number c.get.result.now c.catch_of-caught.result c.loop-number.list _ _ (omega arith) c.get.ensures c.loop-number.invariant c.catch_of-caught.ensures c.in_ok-push.ensures.ok

pub returns : goal.returns
returns c = catches_all c.args.linked.now c.args.body c.args.handlers.now c.loop-number.number c.loop-number.list _ (omega arith) c.loop-number.invariant

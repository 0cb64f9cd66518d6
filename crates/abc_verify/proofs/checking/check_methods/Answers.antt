use Rattle.std.proofs.Common.{arith}
use Rattle.abc_verify.proofs.Methods.{more_typed, none_typed, whole}
use Rattle.abc_verify.proofs.checking.check_methods.Goals as goal

pub check_method-requires : goal.check_method-requires
check_method-requires c = record { linked = c.requires.linked; inside = omega (arith, c.requires.all); before = c.loop-method.invariant }

pub loop-method-init : goal.loop-method-init
loop-method-init c = none_typed c.args.linked.now

pub loop-method-preserved : goal.loop-method-preserved
loop-method-preserved c = more_typed c.args.linked.now c.loop-method.method c.loop-method.invariant c.in_ok-check_method.ensures

pub returns : goal.returns
returns c = whole c.args.linked.now c.loop-method.method (omega (arith, c.requires.all)) c.loop-method.invariant

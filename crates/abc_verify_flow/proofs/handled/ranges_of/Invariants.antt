use Rattle.std.proofs.Common.{◌≡◌, map, take}
use Rattle.abc_verify_flow.specs.Telling.{range_of}
use Rattle.abc_verify_flow.proofs.handled.ranges_of.Given as goal

abbrev pub invariant-loop-handler : goal.invariant-loop-handler
invariant-loop-handler l = l.ranges ≡ map range_of (take l.handler-index l.handlers)

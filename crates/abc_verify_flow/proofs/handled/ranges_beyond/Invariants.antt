use Rattle.std.proofs.Common.{◌≡◌, map, take}
use Rattle.std.specs.Prelude.{filter}
use Rattle.abc_verify_flow.specs.Telling.{leads_beyond, range_of}
use Rattle.abc_verify_flow.proofs.handled.ranges_beyond.Given as goal

abbrev pub invariant-loop-handler : goal.invariant-loop-handler
invariant-loop-handler l = l.ranges ≡ map range_of (filter (leads_beyond l.end) (take l.handler-index l.handlers))

use Rattle.std.proofs.Common.{◌≡◌, drop}
use Rattle.abc_log.specs.Starts.{started_from}
use Rattle.abc_log.proofs.seen.started_since.Given as goal

abbrev pub invariant-loop-script : goal.invariant-loop-script
invariant-loop-script l = started_from 0 l.before l.now ≡ started_from l.script (drop l.script l.before) (drop l.script l.now)

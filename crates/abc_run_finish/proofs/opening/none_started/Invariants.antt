use Rattle.std.proofs.Common.{◌≡◌, replicate, false}
use Rattle.abc_run_finish.proofs.opening.none_started.Given as goal

abbrev pub invariant-loop-i : goal.invariant-loop-i
invariant-loop-i l = l.started ≡ replicate l._i false

use Rattle.abc_run_finish.proofs.Dropped.{AreLeft}
use Rattle.std.proofs.Common.{◌≡◌, ◌+◌, length}
use Rattle.abc_run_finish.proofs.dropping.leave_all.Given as goal

abbrev pub invariant-loop-k : goal.invariant-loop-k
invariant-loop-k l = record { left : AreLeft l.fn.frames l.frames; many : length l.frames.living + l.k ≡ length l.fn.frames.living }

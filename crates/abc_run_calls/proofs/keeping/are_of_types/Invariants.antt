use Rattle.abc_frames.specs.Frame.{newest}
use Rattle.abc_run_calls.proofs.Stayed.{Suffices}
use Rattle.abc_run_calls.proofs.keeping.are_of_types.Given as goal

abbrev pub invariant-loop-k : goal.invariant-loop-k
invariant-loop-k l = Suffices l.linked l.method l.count (newest l.frames) l.k

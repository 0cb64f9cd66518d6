use Rattle.std.proofs.Common.{◌-◌, ◌≤◌, length, take}
use Rattle.std.specs.Io.KnownBytes.{Appends}
use Rattle.abc_base.proofs.sink.write_all.Given as goal

abbrev pub invariant-loop-done : goal.invariant-loop-done
invariant-loop-done g l = record {
  within : l.done ≤ length l.piece;
  bytes : Appends (g.K.Sink.written l.initial.out) (g.K.Sink.written l.out) (take l.done l.piece);
  later : g.K.Sink.faults l.initial.out ≤ g.K.Sink.faults l.out;
}

abbrev pub decreases-loop-done : goal.decreases-loop-done
decreases-loop-done g l = length l.piece - l.done

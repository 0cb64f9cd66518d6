use Rattle.std.proofs.Common.{◌≡◌, ◌≤◌, take}
use Rattle.std.specs.List.{flat_map}
use Rattle.std.specs.Prelude.{IsSome}
use Rattle.std.specs.Io.KnownBytes.{append_known}
use Rattle.abc_log.specs.Lines.{next_number}
use Rattle.abc_log.proofs.heads.write_numbers.Given as goal

abbrev pub invariant-loop-number : goal.invariant-loop-number
invariant-loop-number g l = record {
  written : IsSome (g.K.Sink.written l.initial.log) → g.K.Sink.written l.log ≡ append_known (g.K.Sink.written l.initial.log) (flat_map next_number (take l.number-index l.numbers));
  later : g.K.Sink.faults l.initial.log ≤ g.K.Sink.faults l.log;
}

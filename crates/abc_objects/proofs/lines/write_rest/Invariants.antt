use Rattle.std.proofs.Common.{◌≡◌, ◌≤◌, take}
use Rattle.std.specs.List.{flat_map}
use Rattle.std.specs.Prelude.{IsSome}
use Rattle.std.specs.Io.KnownBytes.{append_known}
use Rattle.abc_objects.specs.Lines.{behind}
use Rattle.abc_objects.proofs.lines.write_rest.Given as goal

abbrev pub invariant-loop-text : goal.invariant-loop-text
invariant-loop-text g l = record {
  written : IsSome (g.K.Sink.written l.initial.out) → g.K.Sink.written l.out ≡ append_known (g.K.Sink.written l.initial.out) (flat_map (behind l.linked.file.strings l.arena) (take l.text-index l.texts));
  later : g.K.Sink.faults l.initial.out ≤ g.K.Sink.faults l.out;
}

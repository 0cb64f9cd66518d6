use Rattle.std.proofs.Common.{◌≡◌, ◌≤◌, take}
use Rattle.std.specs.List.{flat_map}
use Rattle.std.specs.Prelude.{IsSome}
use Rattle.std.specs.Io.KnownBytes.{append_known}
use Rattle.abc_base.specs.Escapes.{escape_of}
use Rattle.abc_base.proofs.escape.write_escaped.Given as goal

abbrev pub invariant-loop-byte : goal.invariant-loop-byte
invariant-loop-byte g l = record {
  written : IsSome (g.K.Sink.written l.initial.out) → g.K.Sink.written l.out ≡ append_known (g.K.Sink.written l.initial.out) (flat_map escape_of (take l.byte-index l.bytes));
  later : g.K.Sink.faults l.initial.out ≤ g.K.Sink.faults l.out;
}

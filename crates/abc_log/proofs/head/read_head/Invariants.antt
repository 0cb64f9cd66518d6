use Rattle.std.proofs.Common.{◌≡◌, ◌<◌, ◌≤◌, ◌^◌}
use Rattle.std.specs.Io.KnownBytes.{Consumes}
use Rattle.abc_log.specs.Lines.{hex_digits}
use Rattle.abc_log.proofs.head.read_head.Given as goal

abbrev pub invariant-loop-place : goal.invariant-loop-place
invariant-loop-place g l = record {
  taken : Consumes (g.S.Source.left l.initial.source) (g.S.Source.left l.source) (hex_digits l.place l.length);
  small : l.length < 16 ^ l.place;
  later : g.S.Source.faults l.initial.source ≤ g.S.Source.faults l.source;
  same : g.S.Source.name l.source ≡ g.S.Source.name l.initial.source;
}

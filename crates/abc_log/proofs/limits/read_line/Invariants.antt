use Rattle.std.proofs.Common.{◌≡◌, ◌≤◌, true, take}
use Rattle.std.specs.Io.KnownBytes.{Consumes}
use Rattle.std.specs.List.{list_all}
use Rattle.abc_log.specs.Limits.{is_no_feed}
use Rattle.abc_log.proofs.limits.read_line.Given as goal

abbrev pub invariant-loop-at : goal.invariant-loop-at
invariant-loop-at g l = record {
  taken : Consumes (g.S.Source.left l.initial.source) (g.S.Source.left l.source) (take l.at l.line);
  one : list_all is_no_feed (take l.at l.line) ≡ true;
  later : g.S.Source.faults l.initial.source ≤ g.S.Source.faults l.source;
  same : g.S.Source.name l.source ≡ g.S.Source.name l.initial.source;
}

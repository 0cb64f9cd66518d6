use Rattle.std.proofs.Common.{ℕ, ◌+◌, ◌≤◌, List, length}
use Rattle.abc_instr.specs.declared.raw.RawInstr.{RawInstr as Raw}
use Rattle.abc_instr.specs.Scanning.{IsScan}
use Rattle.abc_instr.proofs.Until.{Until}
use Rattle.abc_instr.proofs.scan.scan_until.Given as goal

abbrev pub invariant-loop : goal.invariant-loop
invariant-loop g l = (xs : List (Raw × ℕ)) × record {
  scan : IsScan xs l.scan;
  so_far : Until l.byte_count xs l.initial.w (g.S.Source.left l.initial.source) l.w (g.S.Source.left l.source);
  few : l.initial.w.place + length l.scan.code.items ≤ l.w.place;
  count : l.initial.w.place + l.counter ≤ l.w.place;
  later : g.S.Source.faults l.initial.source ≤ g.S.Source.faults l.source;
}

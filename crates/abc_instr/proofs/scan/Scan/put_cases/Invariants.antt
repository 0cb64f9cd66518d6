use Rattle.std.proofs.Common.{◌≡◌, ◌++◌, ◌+◌, ◌*◌, drop, length}
use Rattle.std.specs.List.{flat_map}
use Rattle.abc_file_types.specs.Canonical.{s24_bytes}
use Rattle.abc_instr.specs.Scanning.{case_holes}
use Rattle.abc_instr.proofs.scan.Scan.put_cases.Given as goal

abbrev pub invariant-loop-i : goal.invariant-loop-i
invariant-loop-i l = record {
  code : l.self.code.items ++ flat_map s24_bytes (drop l.i l.cases) ≡ l.initial.self.code.items ++ flat_map s24_bytes l.cases;
  holes : l.self.holes.items ++ case_holes l.next (length l.self.code.items) l.base l.moved (drop l.i l.cases)
      ≡ l.initial.self.holes.items ++ case_holes l.next (length l.initial.self.code.items) l.base l.moved l.cases;
  room : length l.self.code.items + 3 * length (drop l.i l.cases) ≡ length l.initial.self.code.items + 3 * length l.cases;
  marks : l.self.marks ≡ l.initial.self.marks;
}

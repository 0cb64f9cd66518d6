use Rattle.std.proofs.Common.{◌≡◌, ◌≤◌, ◌-◌, ◌*◌, length}
use Rattle.std.specs.Prelude.{All}
use Rattle.abc_file_types.specs.Canonical.{FitsS24}
use Rattle.abc_file_types.specs.Numbers.{s24}
use Rattle.abc_varint.specs.View.{GoesOver}
use Rattle.abc_varint.proofs.Loop.{Going}
use Rattle.abc_instr.proofs.raw.read_offsets.Given as goal

abbrev pub invariant-loop : goal.invariant-loop
invariant-loop g l = record {
  going : Going s24 l.count (l.count - l.counter) l.offsets l.initial.w (g.S.Source.left l.initial.source) l.w (g.S.Source.left l.source);
  later : g.S.Source.faults l.initial.source ≤ g.S.Source.faults l.source;
  count : length l.offsets ≡ l.counter;
  fits : All FitsS24 l.offsets;
  passes : l.initial.w.place ≤ l.initial.w.end → GoesOver (3 * l.counter) l.initial.w l.w;
}

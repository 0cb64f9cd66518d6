use Rattle.std.proofs.Common.{◌≡◌, ◌++◌, drop, length, take}
use Rattle.abc_instr.specs.Pieces.{with_gaps}
use Rattle.abc_instr.proofs.pieces.put_filled.Given as goal

abbrev pub invariant-loop-gap : goal.invariant-loop-gap
invariant-loop-gap l = record {
  sum : l.out.items ++ with_gaps l.starts l.code l.plain l.from (drop l.gap-index l.gaps) ≡ l.initial.out.items ++ with_gaps l.starts l.code l.plain 0 l.gaps;
  front : take (length l.initial.out.items) l.out.items ≡ l.initial.out.items;
}

use Rattle.std.proofs.Common.{◌≡◌, ℕ, ◌+◌, ◌-◌, length}
use Rattle.abc_instr.specs.Marks.{mark_at}
use Rattle.abc_instr.proofs.marks.push_blank.Given as goal

abbrev pub invariant-loop-table : goal.invariant-loop-table
invariant-loop-table l = (p : ℕ) → mark_at l.table.items p ≡ mark_at l.initial.table.items p

abbrev pub decreases-loop-table : goal.decreases-loop-table
decreases-loop-table l = l.place + 1 - length l.table.items

use Rattle.std.proofs.Common.{◌≡◌, ◌++◌, take}
use Rattle.abc_tidy_entries.specs.Entries.{space_heads}
use Rattle.abc_tidy_entries.proofs.heads.add_spaces.Given as goal

abbrev pub invariant-loop-i : goal.invariant-loop-i
invariant-loop-i l = l.heads ≡ l.initial.heads ++ space_heads 0 (take l.i l.spaces)

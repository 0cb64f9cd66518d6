use Rattle.std.proofs.Common.{◌≡◌, ◌++◌, map, take}
use Rattle.abc_tidy_entries.specs.Entries.{value_head}
use Rattle.abc_tidy_entries.proofs.heads.add_values.Given as goal

abbrev pub invariant-loop-place : goal.invariant-loop-place
invariant-loop-place l = l.heads ≡ l.initial.heads ++ map (value_head l.kind) (take l.place-index l.place-items)

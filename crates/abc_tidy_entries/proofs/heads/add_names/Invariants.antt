use Rattle.std.proofs.Common.{◌≡◌, ◌++◌, map, take}
use Rattle.abc_tidy_entries.specs.Entries.{name_head}
use Rattle.abc_tidy_entries.proofs.heads.add_names.Given as goal

abbrev pub invariant-loop-name : goal.invariant-loop-name
invariant-loop-name l = l.heads ≡ l.initial.heads ++ map name_head (take l.name-index l.name-items)

use Rattle.std.proofs.Common.{◌≡◌, ◌++◌, map, take}
use Rattle.abc_tidy_entries.specs.Entries.{sets_kind, value_head}
use Rattle.abc_tidy_entries.proofs.heads.add_sets.Given as goal

abbrev pub invariant-loop-set : goal.invariant-loop-set
invariant-loop-set l = l.heads ≡ l.initial.heads ++ map (λ s. value_head sets_kind 0) (take l._set-index l._set-items)

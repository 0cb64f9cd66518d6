use Rattle.std.proofs.Common.{◌≡◌, take}
use Rattle.abc_link.specs.SetKeys.{keys_from}
use Rattle.abc_link.proofs.sets.keys_of_sets.Given as goal

abbrev pub invariant-loop-i : goal.invariant-loop-i
invariant-loop-i l = l.keys.items ≡ keys_from l.names.abc.now l.names.tables.now.numbers 1 (take l.i l.names.abc.now.sets)

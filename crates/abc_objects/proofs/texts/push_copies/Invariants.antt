use Rattle.std.proofs.Common.{◌≡◌, ◌++◌, take}
use Rattle.abc_objects.proofs.texts.push_copies.Given as goal

abbrev pub invariant-loop-name : goal.invariant-loop-name
invariant-loop-name v = v.names ≡ v.initial.names ++ take v.name-index v.more

use Rattle.std.proofs.Common.{◌≡◌, ◌++◌, take}
use Rattle.std.specs.List.{concat}
use Rattle.abc_objects.specs.Fixed.{fixed_bytes}
use Rattle.abc_objects.proofs.texts.part_zero.Given as goal

abbrev pub invariant-loop-name : goal.invariant-loop-name
invariant-loop-name v = v.bytes ≡ fixed_bytes ++ concat (take v.name-index v.names)

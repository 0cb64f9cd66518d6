use Rattle.std.proofs.Common.{◌≡◌, map, take}
use Rattle.abc_link_names.specs.Places.{part_key}
use Rattle.abc_link_layouts.proofs.key.keys_of.Given as goal

abbrev pub invariant-loop-part : goal.invariant-loop-part
invariant-loop-part l = l.keys.items ≡ map part_key (take l.part-index l.parts)

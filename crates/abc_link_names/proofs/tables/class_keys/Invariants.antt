use Rattle.std.proofs.Common.{◌≡◌, map, take}
use Rattle.abc_link_names.specs.Meaning.{class_name_of}
use Rattle.abc_link_names.specs.Numbers.{key_of_name}
use Rattle.abc_link_names.proofs.tables.class_keys.Given as goal

abbrev pub invariant-loop-instance : goal.invariant-loop-instance
invariant-loop-instance l = l.keys.items ≡ map (λ i. key_of_name l.numbers (class_name_of l.abc i)) (take l.instance-index l.instance-items)

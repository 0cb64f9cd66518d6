use Rattle.std.proofs.Common.{◌≡◌, map, take}
use Rattle.abc_link_names.specs.Meaning.{class_name_of}
use Rattle.abc_link_known.specs.Spots.{key_of_class}
use Rattle.abc_link_known.proofs.spots.keys_of_classes.Given as goal

abbrev pub invariant-loop-instance : goal.invariant-loop-instance
invariant-loop-instance l = l.keys.items ≡ map (λ i. key_of_class l.names.abc.now l.names.tables.now.numbers (class_name_of l.names.abc.now i)) (take l.instance-index l.instance-items)

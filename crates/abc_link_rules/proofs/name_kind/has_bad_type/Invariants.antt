use Rattle.std.proofs.Common.{◌≡◌, false, not, take}
use Rattle.std.specs.List.{list_any}
use Rattle.abc_link_names.specs.ItemTypes.{is_type_name}
use Rattle.abc_link_rules.proofs.name_kind.has_bad_type.Given as goal

abbrev pub invariant-loop-name : goal.invariant-loop-name
invariant-loop-name l = list_any (λ n. not (is_type_name l.abc n)) (take l.name-index l.names) ≡ false

use Rattle.std.proofs.Common.{◌≡◌, false, not, take}
use Rattle.std.specs.List.{list_any}
use Rattle.abc_link_names.specs.ItemTypes.{is_definite}
use Rattle.abc_link_rules.proofs.name_kind.has_bad_trait.Given as goal

abbrev pub invariant-loop-info : goal.invariant-loop-info
invariant-loop-info l = list_any (λ t. not (is_definite l.abc t.name)) (take l.info-index l.table) ≡ false

use Rattle.std.proofs.Common.{◌≡◌, false, take}
use Rattle.std.specs.List.{list_any}
use Rattle.abc_link_names.specs.ItemTypes.{has_bad_variable}
use Rattle.abc_link_rules.proofs.name_kind.has_bad_handler.Given as goal

abbrev pub invariant-loop-handler : goal.invariant-loop-handler
invariant-loop-handler l = list_any (has_bad_variable l.abc) (take l.handler-index l.handler-items) ≡ false

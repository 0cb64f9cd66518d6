use Rattle.std.proofs.Common.{◌≡◌, false, take}
use Rattle.std.specs.List.{list_any}
use Rattle.abc_link_names.specs.ItemTypes.{slot_type_fails}
use Rattle.abc_link_names.proofs.type_tests.any_slot_type.Given as goal

abbrev pub invariant-loop-info : goal.invariant-loop-info
invariant-loop-info g l = list_any (λ t. slot_type_fails (g.T.TypeTest.fails l.test) t.body) (take l.info-index l.table) ≡ false

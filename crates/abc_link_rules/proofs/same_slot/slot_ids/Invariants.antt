use Rattle.std.proofs.Common.{◌≡◌, map, take}
use Rattle.abc_link_names.specs.ItemTypes.{slot_id}
use Rattle.abc_link_rules.proofs.same_slot.slot_ids.Given as goal

abbrev pub invariant-loop-info : goal.invariant-loop-info
invariant-loop-info l = l.ids.items ≡ map (λ t. slot_id t.body) (take l.info-index l.table)

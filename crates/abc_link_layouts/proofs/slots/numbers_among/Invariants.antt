use Rattle.std.proofs.Common.{◌≡◌, take}
use Rattle.std.specs.List.{flat_map}
use Rattle.abc_link_names.specs.Slots.{slot_numbers_in}
use Rattle.abc_link_layouts.proofs.slots.numbers_among.Given as goal

abbrev pub invariant-loop-info : goal.invariant-loop-info
invariant-loop-info l = l.list ≡ flat_map (λ i. slot_numbers_in i.body) (take l.info-index l.table)

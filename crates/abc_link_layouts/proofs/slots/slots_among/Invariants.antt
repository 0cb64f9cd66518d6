use Rattle.std.proofs.Common.{◌≡◌, take}
use Rattle.std.specs.List.{flat_map}
use Rattle.abc_link_names.specs.Slots.{slots_in}
use Rattle.abc_link_layouts.specs.Files.{linked_file}
use Rattle.abc_link_layouts.proofs.slots.slots_among.Given as goal

abbrev pub invariant-loop-info : goal.invariant-loop-info
invariant-loop-info l = l.list ≡ flat_map (λ i. slots_in (linked_file l.meanings.abc.now l.layouts) i.body) (take l.info-index l.table)

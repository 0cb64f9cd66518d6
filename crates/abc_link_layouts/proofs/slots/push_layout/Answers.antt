use Rattle.std.proofs.Common.{ap, length, sym, ◌∙◌}
use Rattle.abc_link_names.specs.Linked.{LinkedFile}
use Rattle.abc_link_names.specs.Slots.{own_numbers, own_slots}
use Rattle.abc_link_layouts.specs.Files.{linked_file}
use Rattle.abc_link_layouts.proofs.Slotted.{base_known, own_paired, slots_next}
use Rattle.abc_link_layouts.proofs.slots.push_layout.Goals as goal

pub add-requires-clause-base : goal.add-requires-clause-base
add-requires-clause-base c = base_known (linked_file c.args.meanings.now.abc.now c.args.layouts.now) _ c.args.x _ c.requires.layouts.numbering c.requires.before c.base_number-base.ensures

pub add-requires-clause-paired : goal.add-requires-clause-paired
add-requires-clause-paired c =
    ap length (c.as_slice.ensures ∙ c.in_ok-own.ensures) ∙ own_paired (linked_file c.args.meanings.now.abc.now c.args.layouts.now) c.part_of-part.result ∙ sym (ap length (c.as_slice-2.ensures ∙ c.in_ok-numbers.ensures))

pub returns : goal.returns
returns c =
    let l : LinkedFile = linked_file c.args.meanings.now.abc.now c.args.layouts.now in
    slots_next l _ _ c.args.x _ _ _ c.requires.layouts.numbering c.requires.before c.base_number-base.ensures
    (c.as_slice.ensures ∙ c.in_ok-own.ensures ∙ ap (own_slots l) c.part_of-part.ensures)
    (c.as_slice-2.ensures ∙ c.in_ok-numbers.ensures ∙ ap (own_numbers l) c.part_of-part.ensures)
    c.in_ok-add.ensures.ok

use Rattle.abc_link_layouts.specs.Files.{linked_file}
use Rattle.abc_link_layouts.specs.Tables.{HasSlots}
use Rattle.abc_link_layouts.proofs.slots.slots_of.Given as goal

abbrev pub invariant-loop-x : goal.invariant-loop-x
invariant-loop-x l = HasSlots (linked_file l.meanings.abc.now l.layouts) l.heirs l.x

use Rattle.std.proofs.Common.{◌<◌, ap, sym, subst, arith, length}
use Rattle.abc_link_names.specs.declared.part.LayoutId.{LayoutId}
use Rattle.abc_link_names.specs.declared.part.Part.TheVariants as parts
use Rattle.abc_objects.proofs.Made.{part_found}
use Rattle.abc_objects.proofs.counts.slots_of_global.Goals as goal

pub slots-requires : goal.slots-requires
slots-requires c =
    let l = c.args.l.now in
    subst (λ (x : LayoutId). x.0 < length l.parts) (sym c.layout_of.ensures) (part_found l c.linked_law.ensures (parts.Global c.args.script) c.requires.script).0

pub overflow_cast-result : goal.overflow_cast-result
overflow_cast-result c =
    let l = c.args.l.now in
    let there : c.layout_of.result.0 < length l.parts = subst (λ (x : LayoutId). x.0 < length l.parts) (sym c.layout_of.ensures) (part_found l c.linked_law.ensures (parts.Global c.args.script) c.requires.script).0 in
    omega (arith, (c.requires.starts c.layout_of.result.0 there).few, ap length c.slots.ensures)

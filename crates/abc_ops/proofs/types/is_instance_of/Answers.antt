use Rattle.std.proofs.Common.{◌<◌, ◌∙◌, ℕ, ◌↔◌, IsTrue, length, ap, subst, sym}
use Rattle.abc_heap_values.specs.declared.values.Value.{Value}
use Rattle.abc_link_names.specs.Numbering.{part_at}
use Rattle.abc_link_names.specs.Parts.{HasLayout}
use Rattle.abc_link_names.specs.declared.part.Part.{Part}
use Rattle.abc_objects.proofs.Started.{part_has}
use Rattle.abc_objects.specs.Values.{Exists}
use Rattle.abc_ops.specs.Types.{IsInstanceOf, NamesInterface}
use Rattle.abc_ops.proofs.Parts.{layout_there}
use Rattle.abc_ops.proofs.types.is_instance_of.Goals as goal

pub layout-requires : goal.layout-requires
layout-requires c = subst (Exists c.args.l.now c.args.a.now) c.in-Obj.is c.requires.value

pub part_of-requires : goal.part_of-requires
part_of-requires c =
    let l = c.args.l.now in
    let there = subst (Exists l c.args.a.now) c.in-Obj.is c.requires.value in
    subst (λ (n : ℕ). n < length l.parts) (sym c.layout.ensures) (layout_there l c.args.a.now c.in-Obj.o.0 c.requires.over there)

pub names_interface-requires : goal.names_interface-requires
names_interface-requires c =
    let l = c.args.l.now in
    subst (HasLayout l.file) (sym c.part_of.ensures) (part_has l c.layout.result.0 c.requires.over.linked)

pub returns-in-Obj : goal.returns-in-Obj
returns-in-Obj c =
    let l = c.args.l.now in
    let part = c.part_of.ensures ∙ ap (part_at l.parts) c.layout.ensures in
    subst (λ (v : Value). IsTrue c.names_interface.result ↔ IsInstanceOf l c.args.a.now c.args.interface v) (sym c.in-Obj.is)
    (subst (λ (p : Part). IsTrue c.names_interface.result ↔ NamesInterface l c.args.interface p) part c.names_interface.ensures)

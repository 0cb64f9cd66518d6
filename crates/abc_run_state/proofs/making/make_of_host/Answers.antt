use Rattle.std.proofs.Common.{◌∙◌, ◌≢◌, ◌<◌, ap, length, subst, sym}
use Rattle.abc_objects.specs.Stands.{array_layout, host_layout}
use Rattle.abc_link_names.specs.declared.part.LayoutId.{LayoutId}
use Rattle.abc_link_names.specs.declared.part.Part.TheVariants as parts
use Rattle.abc_run_state.specs.Outer.{setting_in, world}
use Rattle.abc_meaning.specs.Objects.{new_object}
use Rattle.abc_run_state.proofs.Made.{no_array, other_class, part_is}
use Rattle.abc_run_state.proofs.making.make_of_host.Goals as goal

pub make_object-requires-clause-layout : goal.make_object-requires-clause-layout
make_object-requires-clause-layout c =
    let l = c.args.linked.now in
    subst (λ (x : LayoutId). x.0 < length l.parts) (sym c.layout_of.ensures) (part_is l c.requires.over.linked (parts.Host c.args.class) tt)

pub make_object-requires-clause-no_array : goal.make_object-requires-clause-no_array
make_object-requires-clause-no_array c =
    let l = c.args.linked.now in
    subst (λ (x : LayoutId). x.0 ≢ array_layout l) (sym c.layout_of.ensures) (no_array l c.requires.over.linked (parts.Host c.args.class) tt (other_class c.args.class c.requires.no_array))

pub returns-clause-part : goal.returns-clause-part
returns-clause-part c = λ out.
    let p = setting_in c.args.linked.now out in
    let w = world c.args.s.now out in
    ap (λ d. new_object p (host_layout p.linked c.args.class) d c.args.what w) (sym c.prototype_for-delegate.ensures.is)
    ∙ ap (λ (x : LayoutId). new_object p x.0 c.prototype_for-delegate.result c.args.what w) (sym c.layout_of.ensures)
    ∙ c.make_object.ensures.part out

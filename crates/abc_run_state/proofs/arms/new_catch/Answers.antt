use Rattle.abc_link_names.specs.declared.part.LayoutId.{LayoutId}
use Rattle.abc_link_names.specs.declared.part.Part.TheVariants as parts
use Rattle.abc_objects.specs.Stands.{array_layout}
use Rattle.std.proofs.Common.{◌≢◌, ◌<◌, length, subst, sym}
use Rattle.abc_run_state.proofs.Made.{no_array, part_is}
use Rattle.abc_run_state.proofs.arms.new_catch.Goals as goal

pub new_scope_object-requires-clause-layout : goal.new_scope_object-requires-clause-layout
new_scope_object-requires-clause-layout c =
    let l = c.args.linked.now in
    subst (λ (x : LayoutId). x.0 < length l.parts) (sym c.layout_of.ensures) (part_is l c.requires.set.over.linked (parts.Catch c.args.body c.args.handler) c.requires.layout)

pub new_scope_object-requires-clause-no_array : goal.new_scope_object-requires-clause-no_array
new_scope_object-requires-clause-no_array c =
    let l = c.args.linked.now in
    subst (λ (x : LayoutId). x.0 ≢ array_layout l) (sym c.layout_of.ensures) (no_array l c.requires.set.over.linked (parts.Catch c.args.body c.args.handler) c.requires.layout (λ q. cc))

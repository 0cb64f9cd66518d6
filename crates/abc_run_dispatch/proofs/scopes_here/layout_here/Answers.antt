use Rattle.std.proofs.Common.{◌∙◌, ap, subst, sym}
use Rattle.std.specs.Prelude.{Some}
use Rattle.abc_objects.proofs.Made.{part_found}
use Rattle.abc_link_names.specs.Linked.{IsLayout}
use Rattle.abc_link_names.specs.Owners.{owner_of}
use Rattle.abc_link_names.specs.declared.part.LayoutId.{LayoutId}
use Rattle.abc_link_names.specs.declared.part.Part.TheVariants as parts
use Rattle.abc_frames.specs.Frame.{newest}
use Rattle.abc_run_dispatch.proofs.Homes.{home_layout}
use Rattle.abc_run_dispatch.proofs.scopes_here.layout_here.Goals as goal

pub returns-clause-is : goal.returns-clause-is
returns-clause-is c =
    let l = c.args.linked.now in
    home_layout l (owner_of l.file (newest c.args.s.now.frames).method) c.class_here-class.result c.requires.home c.class_here-class.ensures.is ∙ ap (λ (x : LayoutId). Some x) (sym c.layout_of.ensures)

pub returns-clause-layout : goal.returns-clause-layout
returns-clause-layout c =
    let l = c.args.linked.now in
    subst (λ (x : LayoutId). IsLayout l x) (sym c.layout_of.ensures) (part_found l c.linked_law.ensures (parts.Instance c.class_here-class.result) c.class_here-class.ensures.inside).0

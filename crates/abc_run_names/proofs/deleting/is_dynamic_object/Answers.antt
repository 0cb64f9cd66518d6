use Rattle.std.proofs.Common.{◌∙◌, ℕ, ◌<◌, ap, length, subst, sym}
use Rattle.abc_link_names.specs.Numbering.{part_at}
use Rattle.abc_run_state.proofs.Things.{layout_there}
use Rattle.abc_run_state.specs.Outer.{setting_in, world}
use Rattle.abc_meaning.specs.Setting.{is_dynamic_part}
use Rattle.abc_run_names.proofs.Removed.{dynamic_is}
use Rattle.abc_run_names.proofs.deleting.is_dynamic_object.Goals as goal

pub part_of-requires : goal.part_of-requires
part_of-requires c =
    let l = c.args.linked.now in
    subst (λ (n : ℕ). n < length l.parts) (sym c.layout.ensures) (layout_there l c.args.s.now.arena c.args.o.0 c.requires.over c.requires.object)

pub returns : goal.returns
returns c = λ out.
    let p = setting_in c.args.linked.now out in
    dynamic_is p c.args.o (world c.args.s.now out) c.is_dynamic_part.result c.requires.object
    (c.is_dynamic_part.ensures out ∙ ap (is_dynamic_part p) (c.part_of.ensures ∙ ap (part_at p.linked.parts) c.layout.ensures))

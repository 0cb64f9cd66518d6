use Rattle.std.proofs.Common.{◌+◌, ◌∙◌, ◌≤◌, arith, length, subst, sym}
use Rattle.std.specs.declared.option.Option.{Option}
use Rattle.abc_run_names.specs.Named.{name_parts_count}
use Rattle.abc_objects.specs.Values.{Exists}
use Rattle.abc_frames.specs.Frame.{newest}
use Rattle.abc_meaning.specs.Setting.{NameForm}
use Rattle.abc_run_members.proofs.elements.sets_text.Goals as goal

pub operand-v-requires : goal.operand-v-requires
operand-v-requires g c = let three = subst (λ (r : Option NameForm). name_parts_count r + 2 ≤ length (newest c.args.s.now.frames).stack) c.requires.1.1 c.requires.1.0.operands in omega (arith, three)

pub sets_numbered-requires : goal.sets_numbered-requires
sets_numbered-requires g c =
    let l = c.args.linked.now in
    let h = c.args.s.now.arena in
    (c.requires.0, (c.requires.1.0, (c.requires.1.1, ((sym c.operand-v.ensures.is ∙ c.in-Obj.is), (subst (Exists l h) c.in-Obj.is (c.operand-v.ensures.there l h c.requires.0.frame.stack))))))

-- Nothing is marked at first; then what the code and the handlers name.
use Rattle.std.proofs.Common.{◌++◌, [], List, ap, subst, ◌∙◌}
use Rattle.std.specs.List.{flat_map}
use Rattle.abc_file_types.specs.declared.code.Handler.{Handler}
use Rattle.abc_file_types.specs.declared.code.Instr.{Instr}
use Rattle.abc_disasm.specs.Marks.{AreTargetMarks}
use Rattle.abc_disasm.specs.Texts.{handler_targets, instr_targets}
use Rattle.abc_disasm.proofs.Marking.{cleared}
use Rattle.abc_disasm.proofs.marks.mark_body.Goals as goal

pub returns-clause-marked : goal.returns-clause-marked
returns-clause-marked c =
    let none = cleared _ _ _ _ c.clear.ensures.items c.in_ok-resize.ensures.items in
    let code = c.mark_code.ensures.marked [] none in
    let all = c.mark_handlers.ensures.marked (flat_map instr_targets c.as_slice.result.now) code in
    subst (AreTargetMarks c.mark_handlers.new.marks.items)
    (ap (λ (l : List Instr). flat_map instr_targets l ++ flat_map handler_targets c.as_slice-2.result.now) c.as_slice.ensures
    ∙ ap (λ (l : List Handler). flat_map instr_targets c.args.body.now.code ++ flat_map handler_targets l) c.as_slice-2.ensures) all

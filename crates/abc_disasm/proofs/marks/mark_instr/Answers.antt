-- The default, and then the cases.
use Rattle.std.proofs.Common.{◌++◌, ◌∷◌, [], List, ℕ, ap, subst, sym, ◌∙◌, append_assoc}
use Rattle.abc_file_types.specs.declared.code.Instr.{Instr}
use Rattle.abc_disasm.specs.Marks.{AreTargetMarks}
use Rattle.abc_disasm.specs.Texts.{instr_targets}
use Rattle.abc_disasm.proofs.marks.mark_instr.Goals as goal

pub returns-in-Switch-clause-marked : goal.returns-in-Switch-clause-marked
returns-in-Switch-clause-marked c = λ named are.
    let d = c.in-Switch.default in
    subst (AreTargetMarks c.mark_all.new.marks.items)
    (ap (λ (l : List ℕ). (named ++ d ∷ []) ++ l) c.as_slice.ensures ∙ append_assoc named (d ∷ []) c.in-Switch.cases ∙ ap (λ (i : Instr). named ++ instr_targets i) (sym c.in-Switch.is))
    (c.mark_all.ensures.marked (named ++ d ∷ []) (c.mark-in-Switch.ensures.marked named are))

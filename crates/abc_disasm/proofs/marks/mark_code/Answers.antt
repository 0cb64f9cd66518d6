-- One instruction more, and all.
use Rattle.std.proofs.Common.{◌++◌, List, ap, subst, take, ◌∙◌}
use Rattle.std.specs.List.{flat_map}
use Rattle.abc_file_types.specs.declared.code.Instr.{Instr}
use Rattle.abc_disasm.specs.Marks.{AreTargetMarks}
use Rattle.abc_disasm.specs.Texts.{instr_targets}
use Rattle.abc_disasm.proofs.Marking.{more_by, whole}
use Rattle.abc_disasm.proofs.marks.mark_code.Goals as goal

pub loop-instr-preserved : goal.loop-instr-preserved
loop-instr-preserved c = record {
  len = c.mark_instr.ensures.len ∙ c.loop-instr.invariant.len;
  marked = λ named are.
      let i = c.loop-instr.instr-index in
      let front = named ++ flat_map instr_targets (take i c.args.code.now) in
      let d = c.instr-item.result in
      subst (AreTargetMarks c.mark_instr.new.marks.items) (ap (λ (x : Instr). front ++ instr_targets x) c.instr-item.is ∙ more_by instr_targets named c.args.code.now i d c.loop-instr-test.true)
      (c.mark_instr.ensures.marked front (c.loop-instr.invariant.marked named are));
}

pub returns-clause-marked : goal.returns-clause-marked
returns-clause-marked c = λ named are.
    subst (AreTargetMarks c.loop-instr.marks.items) (ap (λ (l : List Instr). named ++ flat_map instr_targets l) (whole c.args.code.now c.loop-instr.instr-index c.loop-instr-test.false)) (c.loop-instr.invariant.marked named are)

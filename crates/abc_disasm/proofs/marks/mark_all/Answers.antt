-- One target more, and all.
use Rattle.std.proofs.Common.{◌++◌, List, ℕ, ap, subst, take, ◌∙◌}
use Rattle.abc_disasm.specs.Marks.{AreTargetMarks}
use Rattle.abc_disasm.proofs.Marking.{more_all, whole}
use Rattle.abc_disasm.proofs.marks.mark_all.Goals as goal

pub loop-target-preserved : goal.loop-target-preserved
loop-target-preserved c = record {
  len = c.mark.ensures.len ∙ c.loop-target.invariant.len;
  marked = λ named are.
      let i = c.loop-target.target-index in
      subst (AreTargetMarks c.mark.new.marks.items) (more_all named c.args.targets.now i c.loop-target-test.true) (c.mark.ensures.marked (named ++ take i c.args.targets.now) (c.loop-target.invariant.marked named are));
}

pub returns-clause-marked : goal.returns-clause-marked
returns-clause-marked c = λ named are.
    subst (AreTargetMarks c.loop-target.marks.items) (ap (λ (l : List ℕ). named ++ l) (whole c.args.targets.now c.loop-target.target-index c.loop-target-test.false)) (c.loop-target.invariant.marked named are)

-- One handler more, and all.
use Rattle.std.proofs.Common.{◌++◌, List, ap, subst, take, ◌∙◌}
use Rattle.std.specs.List.{flat_map}
use Rattle.abc_file_types.specs.declared.code.Handler.{Handler}
use Rattle.abc_disasm.specs.Marks.{AreTargetMarks}
use Rattle.abc_disasm.specs.Texts.{handler_targets}
use Rattle.abc_disasm.proofs.Marking.{more_by, whole}
use Rattle.abc_disasm.proofs.marks.mark_handlers.Goals as goal

pub loop-handler-preserved : goal.loop-handler-preserved
loop-handler-preserved c = record {
  len = c.mark_handler.ensures.len ∙ c.loop-handler.invariant.len;
  marked = λ named are.
      let i = c.loop-handler.handler-index in
      let front = named ++ flat_map handler_targets (take i c.args.handlers.now) in
      subst (AreTargetMarks c.mark_handler.new.marks.items) (more_by handler_targets named c.args.handlers.now i _ c.loop-handler-test.true)
      (c.mark_handler.ensures.marked front (c.loop-handler.invariant.marked named are));
}

pub returns-clause-marked : goal.returns-clause-marked
returns-clause-marked c = λ named are.
    subst (AreTargetMarks c.loop-handler.marks.items) (ap (λ (l : List Handler). named ++ flat_map handler_targets l) (whole c.args.handlers.now c.loop-handler.handler-index c.loop-handler-test.false)) (c.loop-handler.invariant.marked named are)

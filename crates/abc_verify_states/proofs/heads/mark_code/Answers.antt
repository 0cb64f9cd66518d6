use Rattle.std.proofs.Common.{arith, subst}
use Rattle.abc_verify_typing.specs.Instructions.{targets}
use Rattle.abc_verify_states.specs.Marking.{Marks}
use Rattle.abc_verify_states.proofs.Marked.{code_next}
use Rattle.abc_verify_states.proofs.heads.mark_code.Goals as goal

pub loop-instr-preserved : goal.loop-instr-preserved
loop-instr-preserved c =
    let here = subst (λ i. Marks (targets i) c.loop-instr.marks c.mark_instr.new.marks) c.instr-item.is c.mark_instr.ensures in
    code_next c.args.code.now c.loop-instr.instr-index c.instr-item.result _ _ _ (omega arith) c.loop-instr.invariant here

use Rattle.std.proofs.Common.{sym, ap, ◌∙◌}
use Rattle.abc_asm.specs.Whole.{out_of_order}
use Rattle.abc_asm.proofs.Known.{formed, formless}
use Rattle.abc_asm.proofs.assembling.reason_out_of_order.Goals as goal

pub returns-in-Some : goal.returns-in-Some
returns-in-Some c = sym (ap out_of_order c.in-Instruction.is ∙ formed c.in-Instruction.op _ (sym c.opcode.ensures ∙ c.in-Some.is))

pub returns-in-None : goal.returns-in-None
returns-in-None c = sym (ap out_of_order c.in-Instruction.is ∙ formless c.in-Instruction.op (sym c.opcode.ensures ∙ c.in-None.is))

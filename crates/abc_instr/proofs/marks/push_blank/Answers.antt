use Rattle.std.proofs.Common.{◌∙◌, refl}
use Rattle.abc_instr.specs.declared.marks.TheConstants.{BLANK}
use Rattle.abc_instr.proofs.Marking.{blank_more}
use Rattle.abc_instr.proofs.marks.push_blank.Goals as goal

pub loop-table-preserved : goal.loop-table-preserved
loop-table-preserved c = λ p. blank_more c.loop-table.table.items c.extend_from_slice.new.self.items BLANK p refl c.in_ok-extend_from_slice.ensures.items ∙ c.loop-table.invariant p

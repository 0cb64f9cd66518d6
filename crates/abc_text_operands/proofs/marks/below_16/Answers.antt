use Rattle.std.proofs.Common.{ℕ, ap}
use Rattle.std.specs.declared.result.Result.{Result}
use Rattle.abc_text_lines.specs.declared.reason.AsmReason.{AsmReason}
use Rattle.abc_text_lines.specs.Operands.{value_or}
use Rattle.abc_text_operands.proofs.marks.below_16.Goals as goal

pub returns-in-Ok : goal.returns-in-Ok
returns-in-Ok c = ap (λ (r : Result ℕ AsmReason). value_or r 0) c.in-Ok.ensures

pub returns-in-Err : goal.returns-in-Err
returns-in-Err c = ap (λ (r : Result ℕ AsmReason). value_or r 0) c.in-Err.ensures

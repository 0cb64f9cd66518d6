use Rattle.std.proofs.Common.{Ok, Err, pos, negsuc, sym}
use Rattle.abc_text_lines.specs.Operands.{any_number, u30_operand}
use Rattle.abc_file_types.specs.declared.code.Instr.TheVariants as instrs
use Rattle.abc_text_lines.specs.Lineforms.{first_operand, second_of}
use Rattle.abc_text_operands.proofs.Joining.{two_bad, two_good}
use Rattle.abc_text_operands.proofs.instructions.two_numbers.Goals as goal

pub returns-in_default : goal.returns-in_default
returns-in_default c labels = sym (two_bad (λ x. instrs.Two c.args.op x.0 x.1.0) (λ i. (first_operand i, (second_of i, tt))) u30_operand u30_operand c.args.tokens.now labels c.in_default.ensures)

pub returns-in-Ok : goal.returns-in-Ok
unfolding any_number
returns-in-Ok c labels = sym (two_good (λ x. instrs.Two c.args.op x.0 x.1.0) (λ i. (first_operand i, (second_of i, tt))) u30_operand u30_operand c.args.tokens.now c.in-Some.first c.in-Some.second labels c.u30.result c.u30-2.result (Ok (c.in-Ok.first, c.in-Ok.second)) c.in-Some.ensures c.u30.ensures c.u30-2.ensures c.in-Ok.ensures)

pub returns-in-Err : goal.returns-in-Err
unfolding any_number
returns-in-Err c labels = sym (two_good (λ x. instrs.Two c.args.op x.0 x.1.0) (λ i. (first_operand i, (second_of i, tt))) u30_operand u30_operand c.args.tokens.now c.in-Some.first c.in-Some.second labels c.u30.result c.u30-2.result (Err c.in-Err.reason) c.in-Some.ensures c.u30.ensures c.u30-2.ensures c.in-Err.ensures)

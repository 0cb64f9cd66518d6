use Rattle.std.proofs.Common.{Ok, Err, pos, negsuc, sym}
use Rattle.abc_text_lines.specs.Operands.{any_number, number_below}
use Rattle.abc_file_types.specs.declared.code.Instr.TheVariants as instrs
use Rattle.abc_text_lines.specs.Lineforms.{first_operand}
use Rattle.abc_text_operands.proofs.Kinded.{single_bad, single_good}
use Rattle.abc_text_operands.proofs.instructions.scope_object.Goals as goal

pub returns-in_default : goal.returns-in_default
returns-in_default c labels = sym (single_bad (λ x. instrs.ScopeObject x.0) (λ i. (first_operand i, tt)) (number_below 256) c.args.tokens.now labels c.in_default.ensures)

pub returns-in-Ok : goal.returns-in-Ok
unfolding any_number
returns-in-Ok c labels = sym (single_good (λ x. instrs.ScopeObject x.0) (λ i. (first_operand i, tt)) (number_below 256) c.args.tokens.now c.in-Some.token labels (Ok c.in-Ok.number) c.in-Some.ensures c.in-Ok.ensures)

pub returns-in-Err : goal.returns-in-Err
unfolding any_number
returns-in-Err c labels = sym (single_good (λ x. instrs.ScopeObject x.0) (λ i. (first_operand i, tt)) (number_below 256) c.args.tokens.now c.in-Some.token labels (Err c.in-Err.reason) c.in-Some.ensures c.in-Err.ensures)

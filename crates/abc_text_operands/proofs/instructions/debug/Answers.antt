use Rattle.std.proofs.Common.{Ok, Err, pos, negsuc, sym}
use Rattle.abc_text_lines.specs.Operands.{any_number, number_below, u30_operand}
use Rattle.abc_file_types.specs.declared.code.Instr.TheVariants as instrs
use Rattle.abc_text_lines.specs.Lineforms.{debug_in}
use Rattle.abc_text_operands.proofs.Coded.{four_bad, four_empty, four_good}
use Rattle.abc_text_operands.proofs.instructions.debug.Goals as goal

pub returns-in_default : goal.returns-in_default
returns-in_default c labels = sym (four_empty (λ x. instrs.Debug x.0 x.1.0 x.1.1.0 x.1.1.1.0) debug_in (number_below 256) u30_operand (number_below 256) u30_operand c.args.tokens.now labels c.in_default.ensures)

pub returns-in_default-three_tokens : goal.returns-in_default-three_tokens
returns-in_default-three_tokens c labels = sym (four_bad (λ x. instrs.Debug x.0 x.1.0 x.1.1.0 x.1.1.1.0) debug_in (number_below 256) u30_operand (number_below 256) u30_operand c.args.tokens.now c.in-Some.kind c.in-Some.others.now labels c.in-Some.ensures c.in_default-three_tokens.ensures)

pub returns-in-Ok : goal.returns-in-Ok
unfolding any_number
returns-in-Ok c labels =
    sym (four_good (λ x. instrs.Debug x.0 x.1.0 x.1.1.0 x.1.1.1.0) debug_in (number_below 256) u30_operand (number_below 256) u30_operand c.args.tokens.now c.in-Some.kind c.in-Some.others.now c.in-Some-three_tokens.name c.in-Some-three_tokens.reg c.in-Some-three_tokens.extra labels c.byte-kind.result c.u30-name.result c.byte-reg.result c.u30.result c.two-ends.result c.two-last.result (Ok (c.in-Ok.kind, (c.in-Ok.name, (c.in-Ok.reg, c.in-Ok.extra)))) c.in-Some.ensures c.in-Some-three_tokens.ensures c.byte-kind.ensures c.u30-name.ensures c.byte-reg.ensures c.u30.ensures c.two-ends.ensures c.two-last.ensures c.in-Ok.ensures)

pub returns-in-Err : goal.returns-in-Err
unfolding any_number
returns-in-Err c labels =
    sym (four_good (λ x. instrs.Debug x.0 x.1.0 x.1.1.0 x.1.1.1.0) debug_in (number_below 256) u30_operand (number_below 256) u30_operand c.args.tokens.now c.in-Some.kind c.in-Some.others.now c.in-Some-three_tokens.name c.in-Some-three_tokens.reg c.in-Some-three_tokens.extra labels c.byte-kind.result c.u30-name.result c.byte-reg.result c.u30.result c.two-ends.result c.two-last.result (Err c.in-Err.reason) c.in-Some.ensures c.in-Some-three_tokens.ensures c.byte-kind.ensures c.u30-name.ensures c.byte-reg.ensures c.u30.ensures c.two-ends.ensures c.two-last.ensures c.in-Err.ensures)

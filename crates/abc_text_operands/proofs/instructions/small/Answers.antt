use mir.Syntax.{w8, w64}
use mir.Val.{of_z, to_z}
use Rattle.std.proofs.Common.{◌≡◌, ℤ, Ok, Err, pos, negsuc, sym, ap, ◌∙◌, arith}
use Rattle.std.proofs.lemmas.Int.{ints}
use Rattle.std.specs.Prelude.{◌≤ℤ◌}
use Rattle.std.specs.declared.result.Result.{Result}
use Rattle.abc_text_lines.specs.declared.reason.AsmReason.{AsmReason}
use Rattle.abc_file_types.specs.declared.code.Instr.{Instr}
use Rattle.abc_text_operands.proofs.Coded.{within_range}
use Rattle.abc_text_lines.specs.Operands.{any_signed, signed_between}
use Rattle.abc_file_types.specs.declared.code.Instr.TheVariants as instrs
use Rattle.abc_text_lines.specs.Lineforms.{signed_in}
use Rattle.abc_text_operands.proofs.Kinded.{single_bad, single_good}
use Rattle.abc_text_tokens.specs.Walks.{token_as_text}
use Rattle.abc_text_operands.proofs.instructions.small.Goals as goal

abbrev as_small : ℤ → Result Instr AsmReason
as_small z = Ok (instrs.Byte z)

pub returns-in_default : goal.returns-in_default
returns-in_default c labels = sym (single_bad (λ x. instrs.Byte x.0) (λ i. (signed_in i, tt)) (signed_between (negsuc 127) (pos 127)) c.args.tokens.now labels c.in_default.ensures)

pub byte_of-requires-clause-low : goal.byte_of-requires-clause-low
byte_of-requires-clause-low c =
    let low : negsuc 127 ≤ℤ c.in-Ok.number = (within_range (negsuc 127) (pos 127) (token_as_text c.in-Some.token) c.in-Ok.number c.in-Ok.ensures).0 in
    let high : c.in-Ok.number ≤ℤ pos 127 = (within_range (negsuc 127) (pos 127) (token_as_text c.in-Some.token) c.in-Ok.number c.in-Ok.ensures).1 in
    omega (arith, ints)

pub byte_of-requires-clause-high : goal.byte_of-requires-clause-high
byte_of-requires-clause-high c =
    let low : negsuc 127 ≤ℤ c.in-Ok.number = (within_range (negsuc 127) (pos 127) (token_as_text c.in-Some.token) c.in-Ok.number c.in-Ok.ensures).0 in
    let high : c.in-Ok.number ≤ℤ pos 127 = (within_range (negsuc 127) (pos 127) (token_as_text c.in-Some.token) c.in-Ok.number c.in-Ok.ensures).1 in
    omega (arith, ints)

pub returns-in-Ok : goal.returns-in-Ok
unfolding any_signed
returns-in-Ok c labels =
    let low : negsuc 127 ≤ℤ c.in-Ok.number = (within_range (negsuc 127) (pos 127) (token_as_text c.in-Some.token) c.in-Ok.number c.in-Ok.ensures).0 in
    let high : c.in-Ok.number ≤ℤ pos 127 = (within_range (negsuc 127) (pos 127) (token_as_text c.in-Some.token) c.in-Ok.number c.in-Ok.ensures).1 in
    let back : to_z w64 (of_z w64 c.in-Ok.number) ≡ c.in-Ok.number = omega (arith, ints) in
    let is : c.byte_of.result ≡ c.in-Ok.number = c.byte_of.ensures ∙ back in
    let shown : to_z w8 (of_z w8 c.byte_of.result) ≡ c.in-Ok.number = omega (arith, ints) in
    ap as_small shown ∙ sym (single_good (λ x. instrs.Byte x.0) (λ i. (signed_in i, tt)) (signed_between (negsuc 127) (pos 127)) c.args.tokens.now c.in-Some.token labels (Ok c.in-Ok.number) c.in-Some.ensures c.in-Ok.ensures)

pub returns-in-Err : goal.returns-in-Err
unfolding any_signed
returns-in-Err c labels = sym (single_good (λ x. instrs.Byte x.0) (λ i. (signed_in i, tt)) (signed_between (negsuc 127) (pos 127)) c.args.tokens.now c.in-Some.token labels (Err c.in-Err.reason) c.in-Some.ensures c.in-Err.ensures)

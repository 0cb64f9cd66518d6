-- The integer is 32 bits wide.
use mir.Syntax.{w32, w64}
use mir.Val.{of_z, to_z}
use Rattle.std.proofs.Common.{◌≡◌, ℤ, [], Ok, pos, negsuc, sym, ap, ◌∙◌, arith}
use Rattle.std.proofs.lemmas.Int.{ints}
use Rattle.std.specs.Prelude.{◌≤ℤ◌}
use Rattle.std.specs.declared.result.Result.{Result}
use Rattle.abc_text_lines.specs.declared.reason.AsmReason.{AsmReason}
use Rattle.abc_text_tokens.specs.Walks.{tokens_of}
use Rattle.abc_text_reader.proofs.Within.{int_within}
use Rattle.abc_text_reader.proofs.pools.IntsFlat.line.Goals as goal

abbrev as_int : ℤ → Result ℤ AsmReason
as_int z = Ok z

pub word_of-requires-clause-low : goal.word_of-requires-clause-low
word_of-requires-clause-low c =
    let within = int_within (tokens_of c.args.tokens.now) c.in-Ok.value (c.in-Ok.ensures []) in
    let low : negsuc 2147483647 ≤ℤ c.in-Ok.value = within.0 in
    let high : c.in-Ok.value ≤ℤ pos 2147483647 = within.1 in
    omega (arith, ints)

pub word_of-requires-clause-high : goal.word_of-requires-clause-high
word_of-requires-clause-high c =
    let within = int_within (tokens_of c.args.tokens.now) c.in-Ok.value (c.in-Ok.ensures []) in
    let low : negsuc 2147483647 ≤ℤ c.in-Ok.value = within.0 in
    let high : c.in-Ok.value ≤ℤ pos 2147483647 = within.1 in
    omega (arith, ints)

pub returns-in-Ok : goal.returns-in-Ok
returns-in-Ok c instances labels places =
    let within = int_within (tokens_of c.args.tokens.now) c.in-Ok.value (c.in-Ok.ensures []) in
    let low : negsuc 2147483647 ≤ℤ c.in-Ok.value = within.0 in
    let high : c.in-Ok.value ≤ℤ pos 2147483647 = within.1 in
    let back : to_z w64 (of_z w64 c.in-Ok.value) ≡ c.in-Ok.value = omega (arith, ints) in
    let is : c.word_of.result ≡ c.in-Ok.value = c.word_of.ensures ∙ back in
    let shown : to_z w32 (of_z w32 c.word_of.result) ≡ c.in-Ok.value = omega (arith, ints) in
    sym (ap as_int shown ∙ c.in-Ok.ensures labels)

pub returns-in-Err : goal.returns-in-Err
returns-in-Err c instances labels places = sym (c.in-Err.ensures labels)

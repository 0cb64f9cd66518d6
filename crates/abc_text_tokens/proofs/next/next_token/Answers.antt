-- Nothing is left, or a comment.
use Rattle.std.proofs.Common.{◌≡◌, true, nat_eq, get_or, length, sym, ◌∙◌, arith}
use Rattle.std.proofs.lemmas.Bool.Decides.{nat_tests}
use Rattle.abc_text_lines.specs.Tokens.{semicolon}
use Rattle.abc_text_tokens.proofs.Walking.{commented, ended, some_is}
use Rattle.abc_text_tokens.proofs.next.next_token.Goals as goal

pub returns-then-is_empty : goal.returns-then-is_empty
returns-then-is_empty c = c.after_blanks-rest.ensures.same ∙ ended c.after_blanks-rest.result.now (sym c.is_empty.ensures ∙ c.if-is_empty.true)

pub returns-then-rest-eq59 : goal.returns-then-rest-eq59
returns-then-rest-eq59 c =
    let rest = c.after_blanks-rest.result.now in
    let some = some_is (length rest) (sym c.is_empty.ensures ∙ c.if-is_empty.false) in
    let is : nat_eq (get_or rest 0 0) semicolon ≡ true = (let e = c.if-rest-eq59.true in grind (arith, nat_tests)) in
    c.after_blanks-rest.ensures.same ∙ commented rest some c.after_blanks-rest.ensures.begins is

use Rattle.std.proofs.Common.{◌∙◌, ◌-◌, length, drop, sym, subst, Some, ◌∷◌, [], arith}
use Rattle.std.proofs.lemmas.Bool.Decides.{Decides-eqb}
use Rattle.std.proofs.lemmas.List.{length-drop, take_all}
use Rattle.std.proofs.lemmas.Slice.Eq.{strip_prefix_is}
use Rattle.abc_log.specs.Limits.{EndsAll, is_limit_digit}
use Rattle.abc_log.proofs.Spelling.{no_number, rest_follows}
use Rattle.abc_log.proofs.numbers.next.Goals as goal

pub returns-in_err-number-clause-none : goal.returns-in_err-number-clause-none
returns-in_err-number-clause-none c = rw c.from_residual-in_err-number.ensures (λ n more small ends e.
    no_number c.in_ok-rest.rest.now c.digit_count-count.result c.digit_count-count.ensures c.in_err-number.ensures.none n more small ends
    (sym (strip_prefix_is Decides-eqb c.args.bytes.now (32 ∷ []) (Some c.in_ok-rest.rest) c.in_ok-rest.ensures.cases) ∙ e))

pub returns-clause-ends : goal.returns-clause-ends
returns-clause-ends c =
    let rest = c.in_ok-rest.rest.now in
    let count = c.digit_count-count.result in
    subst (EndsAll is_limit_digit) (sym (take_all (length rest - count) (drop count rest) (omega (arith, length-drop count rest)))) (rest_follows rest count c.digit_count-count.ensures)

use Rattle.std.proofs.Common.{ℕ, ◌+◌, List, take, drop, sym, ap, ◌∙◌}
use Rattle.std.proofs.lemmas.List.{take_rest}
use Rattle.abc_cli_answers.specs.Grammar.{decimal}
use Rattle.abc_cli_answers.specs.Reading.{is_option_number, some_if}
use Rattle.abc_cli_answers.proofs.Cuts.{without_sign, with_sign, no_number, a_number}
use Rattle.abc_cli_answers.proofs.option_word.read_option_word.Goals as goal

pub returns-in_err-end : goal.returns-in_err-end
returns-in_err-end c =
    let parts = c.in_ok-rest.ensures.cases in
    rw c.from_residual-in_err-end.ensures (without_sign c.args.word.now c.in_ok-rest.rest.now parts.0 parts.1 (sym c.in_err-end.ensures))

pub returns-in_err-number : goal.returns-in_err-number
returns-in_err-number c =
    let rest : List ℕ = c.in_ok-rest.rest.now in
    let end : ℕ = c.in_ok-end.end in
    let parts = c.in_ok-rest.ensures.cases in
    let none = ap (λ (l : List ℕ). some_if (is_option_number l) (decimal l)) (sym (take_rest rest (end + 1))) ∙ sym c.in_err-number.ensures in
    rw c.from_residual-in_err-number.ensures (with_sign c.args.word.now rest end parts.0 parts.1 (sym c.in_ok-end.ensures) ∙ no_number (take end rest) (drop (end + 1) rest) none)

pub returns : goal.returns
returns c =
    let rest : List ℕ = c.in_ok-rest.rest.now in
    let end : ℕ = c.in_ok-end.end in
    let parts = c.in_ok-rest.ensures.cases in
    let some = ap (λ (l : List ℕ). some_if (is_option_number l) (decimal l)) (sym (take_rest rest (end + 1))) ∙ sym c.in_ok-number.ensures in
    with_sign c.args.word.now rest end parts.0 parts.1 (sym c.in_ok-end.ensures) ∙ a_number (take end rest) (drop (end + 1) rest) c.in_ok-number.number some

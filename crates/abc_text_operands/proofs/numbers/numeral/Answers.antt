-- One digit further.
use Rattle.std.proofs.Common.{◌&&◌, get_or, Bool, ap, ◌∙◌, arith}
use Rattle.abc_text_lines.specs.Operands.{is_digit}
use Rattle.abc_text_operands.proofs.Digits.{digit_test, digits-more, number-more}
use Rattle.abc_text_operands.proofs.numbers.numeral.Goals as goal

pub loop-digit-preserved : goal.loop-digit-preserved
loop-digit-preserved c =
    let word = c.args.word.now in
    let i = c.loop-digit.digit-index in
    let digit = digit_test (get_or word i 0) c.if-digit-lt48.false c.if-digit-gt57.false in
    record {
      number_is = omega (arith, number-more word i c.loop-digit-test.true, c.min-number.ensures, c.from.ensures, c.loop-digit.invariant.number_is);
      digits = digits-more word i c.loop-digit-test.true ∙ ap (λ (b : Bool). b && is_digit (get_or word i 0)) c.loop-digit.invariant.digits ∙ digit;
    }

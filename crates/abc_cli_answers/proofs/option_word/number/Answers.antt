use Rattle.std.proofs.Common.{refl, ◌∙◌, take, get_or, length-take, arith}
use Rattle.std.proofs.lemmas.List.Folds.{list_all_more}
use Rattle.abc_cli_answers.specs.Reading.{is_option_digit}
use Rattle.abc_cli_answers.proofs.Digits.{decimal-small, decimal-more, digit-test}
use Rattle.abc_cli_answers.proofs.option_word.number.Goals as goal

pub overflow_mul-value : goal.overflow_mul-value
overflow_mul-value c =
    let small = decimal-small (take c.loop-digit.digit-index c.args.digits.now) (omega (arith, length-take c.loop-digit.digit-index c.args.digits.now)) c.loop-digit.invariant.digit in
    omega (arith, c.loop-digit.invariant.value)

pub overflow_add-value : goal.overflow_add-value
overflow_add-value c =
    let small = decimal-small (take c.loop-digit.digit-index c.args.digits.now) (omega (arith, length-take c.loop-digit.digit-index c.args.digits.now)) c.loop-digit.invariant.digit in
    omega (arith, c.loop-digit.invariant.value, c.from.ensures)

pub loop-digit-preserved : goal.loop-digit-preserved
loop-digit-preserved c =
    let more = decimal-more c.args.digits.now c.loop-digit.digit-index (omega arith) in
    let tests = list_all_more is_option_digit c.args.digits.now c.loop-digit.digit-index 0 (omega arith) in
    let one = digit-test (get_or c.args.digits.now c.loop-digit.digit-index 0) (omega arith) (omega arith) in
    record {
      value = omega (arith, c.loop-digit.invariant.value, c.from.ensures);
      digit = tests ∙ rw (c.loop-digit.invariant.digit, one) refl;
    }

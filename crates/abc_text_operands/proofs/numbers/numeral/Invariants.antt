-- The digits so far.
use Rattle.std.proofs.Common.{◌≡◌, ◌^◌, min, take, true}
use Rattle.std.specs.List.{list_all}
use Rattle.abc_text_lines.specs.Operands.{is_digit, number_of_digits}
use Rattle.abc_text_operands.proofs.numbers.numeral.Given as goal

abbrev pub invariant-loop-digit : goal.invariant-loop-digit
invariant-loop-digit l = record {
  number_is : l.number ≡ min (number_of_digits (take l.digit-index l.word)) (2 ^ 40);
  digits : list_all is_digit (take l.digit-index l.word) ≡ true;
}

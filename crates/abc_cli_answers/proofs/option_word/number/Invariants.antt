use Rattle.std.proofs.Common.{◌≡◌, true, take}
use Rattle.std.specs.List.{list_all}
use Rattle.abc_cli_answers.specs.Grammar.{decimal}
use Rattle.abc_cli_answers.specs.Reading.{is_option_digit}
use Rattle.abc_cli_answers.proofs.option_word.number.Given as goal

abbrev pub invariant-loop-digit : goal.invariant-loop-digit
invariant-loop-digit l = record {
  value : l.value ≡ decimal (take l.digit-index l.digits);
  digit : list_all is_option_digit (take l.digit-index l.digits) ≡ true;
}

use Rattle.abc_cli_answers.proofs.Verdicts.{one_of_three, one_command, one_usage_word, not_both}
use Rattle.abc_cli_answers.proofs.laws.words_are_one_of_three.Goals as goal

pub returns-clause-some : goal.returns-clause-some
returns-clause-some g c = one_of_three g.words

pub returns-clause-one_command : goal.returns-clause-one_command
returns-clause-one_command g c = one_command g.words

pub returns-clause-one_usage_word : goal.returns-clause-one_usage_word
returns-clause-one_usage_word g c = one_usage_word g.words

pub returns-clause-not_usage : goal.returns-clause-not_usage
returns-clause-not_usage g c = not_both g.words

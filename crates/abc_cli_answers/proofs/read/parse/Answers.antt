use Rattle.std.proofs.Common.{sym, subst}
use Rattle.abc_cli_answers.proofs.Verdicts.{IsAnswer, IsAnswer-command, says_back, empty_back, usage_back}
use Rattle.abc_cli_answers.proofs.read.parse.Goals as goal

pub returns : goal.returns
returns c =
    let words = c.args.words.now in
    let a = subst (IsAnswer words) (sym c.read_command.ensures) (IsAnswer-command words) in
    record {
      command = λ d. (a.says d, says_back words _ a d);
      none = (a.empty, empty_back words _ a);
      word = λ i. (a.usage i, usage_back words _ a i);
    }

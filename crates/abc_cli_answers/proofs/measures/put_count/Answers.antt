use Rattle.std.proofs.Common.{◌∙◌}
use Rattle.abc_cli_answers.proofs.Measuring.{line_is}
use Rattle.abc_cli_answers.proofs.measures.put_count.Goals as goal

pub returns : goal.returns
returns c =
    line_is _ _ _ _ _ c.args.word.now c.as_bytes-digits.result.now c.args.number c.in_ok-put.ensures c.in_ok-put-2.ensures c.in_ok-put-3.ensures (c.as_bytes-digits.ensures.value ∙ c.format.ensures.text) c.in_ok-put-4.ensures

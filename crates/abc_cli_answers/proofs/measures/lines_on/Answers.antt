use Rattle.abc_cli_answers.proofs.Measuring.{measured_is}
use Rattle.abc_cli_answers.proofs.measures.lines_on.Goals as goal

pub returns : goal.returns
returns c =
    measured_is c.args.abc.now _ _ _ _ _ _ _ c.byte_count-bytes.ensures c.len.ensures c.instruction_count-count.ensures c.new-lines.ensures.items c.in_ok-put_count.ensures c.in_ok-put_count-2.ensures c.in_ok-put_count-3.ensures

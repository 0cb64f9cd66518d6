use Rattle.abc_file_types.proofs.Readiness.{one_more_spelled}
use Rattle.abc_file_types.proofs.ready.spelled_code_len.Goals as goal

pub loop-instr-preserved : goal.loop-instr-preserved
loop-instr-preserved c =
    rw c.saturating_add-len.ensures
    (one_more_spelled c.args.count c.args.code.now c.loop-instr.instr-index c.loop-instr.len c.in_ok-more.more c.instr-item.result c.loop-instr-test.true c.instr-item.is c.loop-instr.invariant c.in_ok-more.ensures.0 c.in_ok-more.ensures.1)

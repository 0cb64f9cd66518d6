use Rattle.std.proofs.Common.{arith}
use Rattle.abc_cli_answers.proofs.Started.{all_starts}
use Rattle.abc_cli_answers.proofs.placing.put_starts.Goals as goal

pub returns : goal.returns
returns c =
    all_starts c.args.code.now c.loop-instr.instr-index c.loop-instr.here c.loop-instr.starts.items _ (omega (arith, c.loop-instr-test.false, c.loop-instr.auto.instr-index-end)) c.in_ok-push-2.ensures.items c.loop-instr.invariant

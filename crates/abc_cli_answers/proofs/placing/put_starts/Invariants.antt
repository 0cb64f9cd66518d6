use Rattle.abc_cli_answers.proofs.Started.{SoFar}
use Rattle.abc_cli_answers.proofs.placing.put_starts.Given as goal

abbrev pub invariant-loop-instr : goal.invariant-loop-instr
invariant-loop-instr l = SoFar l.code l.instr-index l.here l.starts.items

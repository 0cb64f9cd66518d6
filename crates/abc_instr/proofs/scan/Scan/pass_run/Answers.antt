use Rattle.std.proofs.Common.{arith}
use Rattle.abc_instr.proofs.scan.Scan.pass_run.Goals as goal

pub run-requires-clause-room : goal.run-requires-clause-room
run-requires-clause-room c = λ some. omega (arith, c.min-most.ensures, c.saturating_sub.ensures)

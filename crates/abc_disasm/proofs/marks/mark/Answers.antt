-- A number within the marks, or beyond them.
use Rattle.std.proofs.Common.{arith}
use Rattle.abc_disasm.proofs.Marking.{marked, unmarked}
use Rattle.abc_disasm.proofs.marks.mark.Goals as goal

pub returns-then-at-len-clause-marked : goal.returns-then-at-len-clause-marked
returns-then-at-len-clause-marked c = λ named are. marked c.args.marks.now.items named c.args.n (omega arith) are

pub returns-else-at-len-clause-marked : goal.returns-else-at-len-clause-marked
returns-else-at-len-clause-marked c = λ named are. unmarked c.args.marks.now.items named c.args.n (omega arith) are

-- The table of instructions has the pool.
use Rattle.std.proofs.Common.{sym}
use Rattle.abc_disasm.proofs.PutForms.{pool_is}
use Rattle.abc_disasm.proofs.instrs.pool.Goals as goal

pub returns-in-Some : goal.returns-in-Some
returns-in-Some c = λ some. pool_is c.args.op c.in-Some.info (sym c.in-Some.ensures)

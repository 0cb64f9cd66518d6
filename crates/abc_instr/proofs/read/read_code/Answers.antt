use Rattle.std.proofs.Common.{Ok, Err, arith}
use Rattle.abc_file_types.specs.Code.{code}
use Rattle.abc_file_types.proofs.CodeExact.{code-exact}
use Rattle.abc_varint.proofs.Answering.{answers}
use Rattle.abc_instr.specs.Reading.{code_from}
use Rattle.abc_instr.proofs.read.read_code.Goals as goal

pub returns-in-Ok-clause-value : goal.returns-in-Ok-clause-value
returns-in-Ok-clause-value g c = rw c.take.ensures c.in-Ok.ensures.value

pub returns-in-Ok-clause-answers : goal.returns-in-Ok-clause-answers
returns-in-Ok-clause-answers g c = rw c.take.ensures (answers code code-exact _ _ _ _ (Ok (code_from c.read_code_within.new.reading.starts c.in-Ok.instrs)) (omega arith) c.in-Ok.ensures.value.0)

pub returns-clause-answers : goal.returns-clause-answers
returns-clause-answers g c = answers code code-exact _ _ _ _ (Err c.in-Err.e) (omega arith) c.in-Err.ensures.value.0

use Rattle.abc_file_types.proofs.Whole.{file_ready, read_spelled}
use Rattle.abc_file.proofs.laws.reading_gives_the_file.Goals as goal

pub returns-clause-file : goal.returns-clause-file
returns-clause-file c = λ v starts b f. (read_spelled (v, starts) b f.0, f.1)

pub returns-clause-ready : goal.returns-clause-ready
returns-clause-ready c = file_ready

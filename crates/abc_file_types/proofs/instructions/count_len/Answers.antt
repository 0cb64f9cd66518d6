use Rattle.std.proofs.Common.{sym, arith}
use Rattle.abc_file_types.proofs.Lengths.{number_five, number_most}
use Rattle.abc_file_types.proofs.instructions.count_len.Goals as goal

pub returns-then-n-clause-is : goal.returns-then-n-clause-is
returns-then-n-clause-is c = sym (number_five c.args.n (omega arith))

pub returns-clause-bound : goal.returns-clause-bound
returns-clause-bound c = omega (arith, number_most c.args.n, c.len_u30.ensures.is)

use Rattle.std.proofs.Common.{◌+ℤ◌, pos, ◌∙◌, arith}
use Rattle.std.proofs.lemmas.Int.{ints}
use Rattle.abc_file_types.proofs.Resolving.{at_number}
use Rattle.abc_instr.proofs.resolve.target_at.Goals as goal

pub returns : goal.returns
returns c = c.find.ensures ∙ at_number _ (pos c.args.base +ℤ c.args.offset) _ (omega (arith, ints))

use Rattle.abc_ops.proofs.Checked.{strict_equals}
use Rattle.abc_ops.proofs.laws.strict_equals_is_equivalence.Goals as goal

pub returns : goal.returns
returns c = strict_equals

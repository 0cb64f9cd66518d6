use Rattle.abc_ops.proofs.Checked.{undefined_unordered}
use Rattle.abc_ops.proofs.laws.undefined_is_unordered.Goals as goal

pub returns : goal.returns
returns c = undefined_unordered

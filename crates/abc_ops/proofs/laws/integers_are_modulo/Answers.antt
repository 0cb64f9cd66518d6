use Rattle.abc_ops.proofs.Checked.{integers_modulo}
use Rattle.abc_ops.proofs.laws.integers_are_modulo.Goals as goal

pub returns : goal.returns
returns c = integers_modulo

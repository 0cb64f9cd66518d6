use Rattle.abc_ops.proofs.Checked.{modulo_sign}
use Rattle.abc_ops.proofs.laws.modulo_has_the_sign.Goals as goal

pub returns : goal.returns
returns c = modulo_sign

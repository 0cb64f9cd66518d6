use Rattle.abc_meaning.proofs.Agreeing.{has_every_act}
use Rattle.abc_meaning.proofs.act_laws.every_row_has_its_act.Goals as goal

pub returns : goal.returns
returns c = has_every_act

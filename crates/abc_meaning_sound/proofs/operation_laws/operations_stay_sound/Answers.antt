use Rattle.abc_meaning_sound.proofs.Operated.{ops_given}
use Rattle.abc_meaning_sound.proofs.operation_laws.operations_stay_sound.Goals as goal

pub returns : goal.returns
returns c = ops_given

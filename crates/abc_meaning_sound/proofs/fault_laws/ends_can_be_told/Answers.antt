use Rattle.abc_meaning_sound.proofs.Placing.{faults_placed}
use Rattle.abc_meaning_sound.proofs.fault_laws.ends_can_be_told.Goals as goal

pub returns-clause-placed : goal.returns-clause-placed
returns-clause-placed c = faults_placed

use Rattle.abc_meaning_sound.proofs.Witness.{verified_examples}
use Rattle.abc_meaning_sound.proofs.Workshop.{workshop_examples}
use Rattle.abc_meaning_sound.proofs.example_laws.examples_hold.Goals as goal

pub returns-clause-parade : goal.returns-clause-parade
returns-clause-parade c = verified_examples

pub returns-clause-workshop : goal.returns-clause-workshop
returns-clause-workshop c = workshop_examples

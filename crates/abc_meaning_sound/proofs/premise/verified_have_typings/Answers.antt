use Rattle.abc_meaning_sound.proofs.Typed.{has_typings}
use Rattle.abc_meaning_sound.proofs.premise.verified_have_typings.Goals as goal

pub returns : goal.returns
returns c = has_typings

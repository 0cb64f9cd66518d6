use Rattle.abc_meaning_sound.proofs.Hosts.{names_matter}
use Rattle.abc_meaning_sound.proofs.call_laws.names_alone_matter.Goals as goal

pub returns : goal.returns
returns c = names_matter

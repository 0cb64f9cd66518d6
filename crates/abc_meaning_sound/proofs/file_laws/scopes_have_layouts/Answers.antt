use Rattle.abc_meaning_sound.proofs.Scoped.{scopes_given}
use Rattle.abc_meaning_sound.proofs.file_laws.scopes_have_layouts.Goals as goal

pub returns : goal.returns
returns c = scopes_given

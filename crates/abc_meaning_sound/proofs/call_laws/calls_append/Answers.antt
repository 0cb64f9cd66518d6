use Rattle.abc_meaning_sound.proofs.Appended.{calls_append}
use Rattle.abc_meaning_sound.proofs.call_laws.calls_append.Goals as goal

pub returns : goal.returns
returns c = calls_append

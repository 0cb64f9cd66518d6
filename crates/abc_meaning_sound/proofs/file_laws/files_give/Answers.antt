use Rattle.abc_meaning_sound.proofs.Verified.{file_given}
use Rattle.abc_meaning_sound.proofs.file_laws.files_give.Goals as goal

pub returns : goal.returns
returns c = file_given

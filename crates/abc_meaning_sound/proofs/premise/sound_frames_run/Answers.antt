use Rattle.abc_meaning_sound.proofs.Sounded.{frames_run}
use Rattle.abc_meaning_sound.proofs.premise.sound_frames_run.Goals as goal

pub returns : goal.returns
returns c = frames_run

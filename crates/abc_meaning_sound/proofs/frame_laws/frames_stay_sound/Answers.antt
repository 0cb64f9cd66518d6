use Rattle.abc_meaning_sound.proofs.Frames.{frames_stay_sound}
use Rattle.abc_meaning_sound.proofs.frame_laws.frames_stay_sound.Goals as goal

pub returns : goal.returns
returns c = frames_stay_sound

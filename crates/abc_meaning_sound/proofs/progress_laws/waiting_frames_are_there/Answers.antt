use Rattle.abc_meaning_sound.proofs.Waited.{waiting_frames}
use Rattle.abc_meaning_sound.proofs.progress_laws.waiting_frames_are_there.Goals as goal

pub returns : goal.returns
returns c = waiting_frames

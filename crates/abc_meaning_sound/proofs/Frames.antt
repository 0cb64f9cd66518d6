-- Frames stay sound in a heap that grew.
use Rattle.std.specs.Prelude.{[], ◌∷◌}
use Rattle.abc_meaning_sound.specs.FrameLaws.{FramesStaySound}
use Rattle.abc_meaning_sound.proofs.Growing.{all_waiting_on, frame_on}

pub frames_stay_sound : FramesStaySound
frames_stay_sound p typings old new [] g h = tt
frames_stay_sound p typings old new (f ∷ fs) g h = (frame_on p old new g typings f h.0, all_waiting_on p old new g typings fs h.1)

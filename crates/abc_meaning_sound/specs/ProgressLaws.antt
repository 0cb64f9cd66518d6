-- What is proved of the parts of a step from a sound state.
use Rattle.std.specs.Prelude.{◌<◌, List, [], ◌∷◌, length}
use Rattle.abc_heap_values.specs.declared.values.Value.{Value}
use Rattle.abc_meaning.specs.ThrowLaws.{IsVerifiedSetting}
use Rattle.abc_meaning.specs.Sound.{AreTypings, IsSound, Typings, WorldSound}
use Rattle.abc_meaning.specs.Step.{runs}
use Rattle.abc_meaning.specs.Throwing.{last_script}
use Rattle.abc_objects.specs.Stands.{EachAt}
use Rattle.abc_objects.specs.Values.{Exists}
use Rattle.abc_frames.specs.Frame.{Frame}
use Rattle.abc_meaning.specs.Entering.{starts_script}
use Rattle.abc_meaning.specs.Making.{new}
use Rattle.abc_meaning.specs.Setting.{Setting, routine_of}
use Rattle.abc_meaning.specs.World.{World}
use Rattle.abc_meaning.specs.Fair.{IsFairAs, IsFairPart, IsWaiting}

-- an instruction of the newest frame, in which its receiver stands
abbrev pub ActsAreFair : Type 0
ActsAreFair = (p : Setting) (typings : Typings) (w : World) (f : Frame) (fs : List Frame) → IsVerifiedSetting p → AreTypings p typings → IsSound p typings (record { world = w; frames = f ∷ fs }) → IsFairAs p f w (runs p f (routine_of p f.method) w) × (0 < length f.locals)

-- the start of the last script
abbrev pub StartsAreFair : Type 0
StartsAreFair = (p : Setting) (typings : Typings) (w : World) → IsVerifiedSetting p → AreTypings p typings → IsSound p typings (record { world = w; frames = [] }) → IsFairPart p w (starts_script p (last_script p) w)

-- the frames under the newest
abbrev pub WaitingFramesAreThere : Type 0
WaitingFramesAreThere = (p : Setting) (typings : Typings) (w : World) (f : Frame) (fs : List Frame) → IsVerifiedSetting p → AreTypings p typings → IsSound p typings (record { world = w; frames = f ∷ fs }) → EachAt (IsWaiting p w.heap) fs

-- what is made of a value, as a return to a frame that waits for that makes it
abbrev pub NewsAreFair : Type 0
NewsAreFair = (p : Setting) (typings : Typings) (w : World) (v : Value) (args : List Value) → IsVerifiedSetting p → AreTypings p typings → WorldSound p w → Exists p.linked w.heap v → EachAt (Exists p.linked w.heap) args → IsFairPart p w (new p v args w)

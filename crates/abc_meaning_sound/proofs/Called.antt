-- The state with which a call begins.
use Rattle.std.proofs.Common.{ℕ, ℤ, List, [], ◌∷◌}
use Rattle.abc_base.specs.Ranges.{IsNumber}
use Rattle.abc_heap_store.specs.Heap.{obj_id}
use Rattle.abc_objects.specs.Values.{Exists}
use Rattle.abc_objects.specs.Objects.{global_number}
use Rattle.abc_frames.specs.Frame.{Frame}
use Rattle.abc_verify_typing.specs.Lists.{Each}
use Rattle.abc_meaning.specs.Setting.{Setting}
use Rattle.abc_meaning.specs.World.{Errs, Faults, Fills, Outcome, Sticks, Stop, Stopped, Throws, Went, World}
use Rattle.abc_meaning.specs.Sound.{AreTypings, FrameSound, SteppedSound, Typings, WorldSound}
use Rattle.abc_meaning.specs.Throwing.{last_script}
use Rattle.abc_meaning_sound.specs.ObjectLaws.{Given}
use Rattle.abc_meaning_sound.proofs.Settled.{ends_sound, puts_sound}
use Rattle.abc_meaning_sound.specs.Keeping.{Fares, StopSound}
use Rattle.abc_meaning_sound.proofs.Entered.{owned_fares}
use Rattle.abc_meaning_sound.proofs.Never.{given}
use Rattle.abc_meaning.specs.Calls.{enters_call, entered_call, numbers, stops_call}
use Rattle.abc_meaning_sound.specs.CallLaws.{CallsBeginSound}
use Rattle.abc_meaning_sound.proofs.Exported.{owned_by_script}

pub numbers_exist : (p : Setting) (w : World) (ns : List ℤ) → Each IsNumber ns → Each (Exists p.linked w.heap) (numbers ns)
numbers_exist p w [] a = tt
numbers_exist p w (n ∷ ns) a = (a.0, numbers_exist p w ns a.1)

module _ (p : Setting) (typings : Typings) (typed : AreTypings p typings) (g : Given p) (m : ℕ) where
  stopped_sound : (w : World) (why : Stop) → WorldSound p w → StopSound p w why → SteppedSound p typings (stops_call p m w why)
  stopped_sound w (Faults fault) s h = (λ q. absurd cc, s)
  stopped_sound w (Throws v) s h = ends_sound p g.file typings typed w (Throws v) s h
  stopped_sound w (Errs c) s h = ends_sound p g.file typings typed w (Errs c) s h
  stopped_sound w (Fills limit) s h = ends_sound p g.file typings typed w (Fills limit) s h
  stopped_sound w Sticks s h = absurd h

  entered_sound : (w : World) (o : Outcome Frame) → Fares p w o (λ n f. FrameSound p typings n.heap f) → SteppedSound p typings (entered_call p m o)
  entered_sound w (Went n f) h = puts_sound p g.file typings typed n f [] h.so.0.sound h.so.1 tt
  entered_sound w (Stopped n why) h = stopped_sound n why h.so.0.sound h.so.1

pub call_begins : CallsBeginSound
call_begins p typings w m args v typed z exported ns =
    let g = given p v in
    entered_sound p typings typed g m w (enters_call p m args w) (owned_fares p g.file g.ops typings typed w m (obj_id (global_number w.heap (last_script p))) (numbers args) z (owned_by_script p g.file g.ops typings typed m exported w z) (numbers_exist p w args ns))

-- The object that an instruction works on, and a value that has something.
use Rattle.std.proofs.Common.{◌≡◌, ℕ, [], ◌∷◌, refl}
use Rattle.abc_heap_values.specs.declared.values.Value.{Value}
use Rattle.abc_heap_values.specs.declared.values.Value.TheVariants.{Undefined, Null, Num, Bool as Truth, Text, Space, Obj}
use Rattle.abc_meaning.specs.At.{goes, after_pushes}
use Rattle.abc_frames.specs.Frame.{Frame, after_drop}
use Rattle.abc_run_state.specs.Settling.{pushes_instead}
use Rattle.abc_run_state.specs.Stops.{IsOpen}
use Rattle.abc_run_state.proofs.Turning.{open_first}
use Rattle.abc_meaning.specs.Members.{with_holder}
use Rattle.abc_meaning.specs.World.{Run, World, and_then, pure}
use Rattle.abc_run_names.specs.Receivers.{IsReceiver, receiver_object}

pub receiver_open : (v : Value) (w : World) → IsOpen (receiver_object v w) → IsReceiver v
receiver_open (Obj o) w h = tt
receiver_open Null w h = tt
receiver_open Undefined w h = h
receiver_open (Num n) w h = h
receiver_open (Truth b) w h = h
receiver_open (Text t) w h = h
receiver_open (Space n) w h = h

-- it is asked first
abbrev pub passed : Run (Unit {0})
passed = pure tt

pub holder_first : {X : Type 0} (v : Value) (m : Run X) (w : World) → with_holder v m w ≡ and_then (with_holder v passed w) (λ u. m)
holder_first Undefined m w = refl
holder_first Null m w = refl
holder_first (Num n) m w = refl
holder_first (Truth b) m w = refl
holder_first (Text t) m w = refl
holder_first (Space n) m w = refl
holder_first (Obj o) m w = refl

-- what an instruction pushes isn't stuck
pub pushes_open : (m : Run Value) (n : ℕ) (f : Frame) (w : World) → IsOpen (pushes_instead n f m w) → IsOpen (m w)
pushes_open m n f w h = open_first (m w) (λ v. goes (after_pushes (v ∷ []) (after_drop n f))) h

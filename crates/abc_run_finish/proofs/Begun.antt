-- A method of the last script is entered over no frame, and what the call begins with.
use Rattle.std.proofs.Common.{◌≡◌, ℕ, ℤ, List, [], ◌∷◌, drop, refl, sym, ap, ◌∙◌, subst}
use Rattle.std.specs.Prelude.{Ok, Err}
use Rattle.std.specs.declared.result.Result.{Result}
use Rattle.abc_run_finish.specs.Calling.{CanBeginCall, enters_last}
use Rattle.abc_meaning.specs.Calls.{begins_call, entered_call, enters_call, numbers, stops_call}
use Rattle.abc_heap_values.specs.declared.values.Value.{Value}
use Rattle.abc_run_finish.specs.Ending.{IsUnstuck, IsSized, IsThrowable}
use Rattle.abc_run_calls.specs.Arguments.{makes_arguments, first_receiver}
use Rattle.abc_meaning.specs.Fair.{IsFairPart}
use Rattle.abc_run_finish.proofs.Started.{arguments_open, entered_is, entered_stops, first_halts, first_put, first_sized, part_open}
use Rattle.abc_run_finish.proofs.Stepped.{throwable}
use Rattle.abc_run_finish.specs.Starting.{alone_if, begins, frames_alone}
use Rattle.abc_run_finish.specs.Steps.{step_of_turn}
use Rattle.abc_heap_store.specs.declared.records.Full.{Full}
use Rattle.abc_heap_store.specs.declared.records.Limits.{Limits}
use Rattle.abc_meaning.specs.Throwing.{Stepped, goes_on, last_script}
use Rattle.abc_objects.specs.Stands.{StandsOver}
use Rattle.abc_link_names.specs.Linked.{LinkedFile}
use Rattle.abc_link_names.specs.Owners.{owner_of}
use Rattle.abc_frames.specs.Frame.{Frame, Frames, room_for}
use Rattle.abc_frames.specs.declared.records.Size.{Size}
use Rattle.abc_run_state.specs.Outer.{Outer, setting_in, world}
use Rattle.abc_run_state.specs.Stops.{IsOpen, why as why_of}
use Rattle.abc_run_state.specs.Turns.{GoesOn, Gives, Halts, Turned, size_for}
use Rattle.abc_meaning.specs.Entering.{enters, global}
use Rattle.abc_meaning.specs.Objects.{Place, place_of_owner}
use Rattle.abc_meaning.specs.Setting.{Setting}
use Rattle.abc_meaning.specs.World.{Outcome, Stop, Stopped, Went, World, and_then}
use Rattle.abc_run_state.proofs.Turning.{open_first}
use Rattle.abc_run_state.specs.declared.state.State.{State}
use Rattle.abc_run_state.specs.declared.state.Stop.{Stop as Why}

-- ---- the method that is entered: `this` is the script's global object, and `at` is where the method runs

pub place_open : (p : Setting) (m : ℕ) (given : List Value) (w : World) → IsOpen (enters_last p m given w) → IsOpen (place_of_owner (owner_of p.linked.file m) w)
place_open p m given w h = open_first (place_of_owner (owner_of p.linked.file m) w) (λ at. enters p m (global (last_script p) w) at given) h

module _ (p : Setting) (m : ℕ) (given : List Value) (w : World) (this : Value) (at : Place) (et : this ≡ global (last_script p) w) (ea : place_of_owner (owner_of p.linked.file m) w ≡ Went w at) where
  last_is : enters_last p m given w ≡ enters p m this at given w
  last_is =
      ap (λ (o : Outcome Place). and_then o (λ a. enters p m (global (last_script p) w) a given)) ea
      ∙ ap (λ (v : Value). enters p m v at given w) (sym et)

  pub last_open : IsOpen (enters_last p m given w) → IsOpen (makes_arguments p m given w)
  last_open h = arguments_open p m this at given w (subst (λ (o : Outcome Frame). IsOpen o) last_is h)

  pub last_alone : (items : List Value) (after : World) → items ≡ this ∷ drop 1 items → makes_arguments p m given w ≡ Went after (drop 1 items) → enters_last p m given w ≡ frames_alone p m at (first_receiver items) (drop 1 items) given after
  last_alone items after first e = last_is ∙ entered_is p m this at items given w after first e

  pub last_stops : (after : World) (why : Stop) → makes_arguments p m given w ≡ Stopped after why → enters_last p m given w ≡ Stopped after why
  last_stops after why e = last_is ∙ entered_stops p m this at given w after why e

-- ---- what becomes of the frames, in the words of a call

abbrev pub called : Setting → (method : ℕ) → Turned → Stepped
called p m (GoesOn w q) = goes_on w q.living
called p m (Gives w q v) = goes_on w q.living
called p m (Halts w q why) = stops_call p m w why

put_called : (p : Setting) (m : ℕ) (r : Result Unit Full) (size : Size) (w : World) (g : Frame) (q : Frames) → step_of_turn p (alone_if r size w g q) ≡ called p m (alone_if r size w g q)
put_called p m (Ok u) size w g q = refl
put_called p m (Err full) size w g q = refl

entered_called : (p : Setting) (m : ℕ) (w : World) (q : Frames) (o : Outcome Frame) → IsSized p w.heap.limits q → q.living ≡ [] → IsFairPart p w o → entered_call p m o ≡ called p m (begins p q o)
entered_called p m w q (Went n g) s none fair =
    first_put p n g q (subst (λ (x : Limits). IsSized p x q) (sym fair.limits) s) none
    ∙ put_called p m (room_for q (size_for p g)) (size_for p g) n g q
entered_called p m w q (Stopped n why) s none fair = refl

-- ---- a call that can begin, with these numbers

module _ (l : LinkedFile) (out : Outer) (m : ℕ) (s : State) (ns : List ℤ) (given : List Value) (can : CanBeginCall l out m ns s) (is : given ≡ numbers ns) where
  abbrev p : Setting
  p = setting_in l out

  abbrev here : World
  here = world s out

  abbrev entered : Outcome Frame
  entered = enters_last p m given here

  entered_is_call : enters_call p m ns here ≡ entered
  entered_is_call = ap (λ (vs : List Value). enters_last p m vs here) (sym is)

  fair : IsFairPart p here entered
  fair = subst (λ (o : Outcome Frame). IsFairPart p here o) entered_is_call can.fair

  pub call_open : IsOpen entered
  call_open = part_open p here entered fair

  begins_called : begins_call p here m ns ≡ called p m (begins p s.frames entered)
  begins_called = ap (entered_call p m) entered_is_call ∙ entered_called p m here s.frames entered can.sized can.none fair

  -- it goes on, or not
  module _ (new : State) where
    pub goes_is : begins p s.frames entered ≡ GoesOn (world new out) new.frames → begins_call p here m ns ≡ goes_on (world new out) new.frames.living
    goes_is e = begins_called ∙ ap (called p m) e

    pub goes_sized : begins p s.frames entered ≡ GoesOn (world new out) new.frames → IsSized p new.arena.limits new.frames
    goes_sized e = first_sized p here (world new out) s.frames new.frames entered can.sized fair e

    pub stops_is : (why : Stop) → begins p s.frames entered ≡ Halts (world new out) new.frames why → begins_call p here m ns ≡ stops_call p m (world new out) why
    stops_is why e = begins_called ∙ ap (called p m) e

    -- what the code of the end relies on
    pub record CanEnd (e : Why) : Type 0 where
      pub over : StandsOver l new.arena
      pub none : new.frames.living ≡ []
      pub value : IsThrowable l new.arena e
      pub sized : IsSized p new.arena.limits new.frames
      pub free : IsUnstuck (stops_call p m (world new out) (why_of e))

    pub can_end : (e : Why) → begins p s.frames entered ≡ Halts (world new out) new.frames (why_of e) → CanEnd e
    can_end e b =
        let h = first_halts p here (world new out) s.frames new.frames (why_of e) entered fair b in
        record {
          over = h.left.sound.stands;
          none = ap (λ (q : Frames). q.living) (sym h.same) ∙ can.none;
          value = throwable l out new e h.fair;
          sized = subst (λ (x : Limits). IsSized p x new.frames) (sym h.left.limits) (subst (IsSized p s.arena.limits) h.same can.sized);
          free = subst IsUnstuck (stops_is (why_of e) b) can.free;
        }

-- A method is put on top with its first locals, and with the array that it takes.
use Rattle.std.proofs.Common.{◌≡◌, ℕ, ◌<◌, ◌≤◌, List, [], ◌∷◌, ◌++◌, Bool, true, false, nat_le, length, drop, refl, sym, ap, ◌∙◌, subst, arith}
use Rattle.std.specs.Prelude.{None, Some, Ok, Err, IsSome}
use Rattle.std.specs.declared.option.Option.{Option}
use Rattle.std.specs.declared.result.Result.{Result}
use Rattle.std.proofs.lemmas.Bool.{leb-true}
use Rattle.abc_heap_values.specs.declared.values.Value.{Value}
use Rattle.abc_heap_store.specs.declared.records.Full.{Full}
use Rattle.abc_link_names.specs.Owners.{body_of}
use Rattle.abc_frames.specs.Frame.{Frame, Frames, arguments as operands, frame_of_entry, after_drop, after_entry, newest, room_for, waiting}
use Rattle.abc_frames.specs.declared.records.Entry.{Entry}
use Rattle.abc_frames.specs.declared.records.Wait.{Wait}
use Rattle.abc_run_state.specs.Stops.{IsOpen}
use Rattle.abc_run_state.specs.Turns.{GoesOn, Halts, Turned, bare_newest, entered_if, size_of_routine, turn_of}
use Rattle.abc_run_state.proofs.Turning.{open_first}
use Rattle.abc_file_types.specs.declared.methods.Method.{Method}
use Rattle.abc_verify_typing.specs.Routines.{Routine}
use Rattle.abc_meaning.specs.Entering.{extra, frame_for}
use Rattle.abc_meaning.specs.Objects.{Place}
use Rattle.abc_meaning.specs.Setting.{Setting, method_of, routine_in, routine_of}
use Rattle.abc_meaning.specs.World.{Fills, Outcome, Run, Stop, Stopped, Went, World, and_then, pure, must, some, ◌>>=◌, ◌>>◌}
use Rattle.abc_meaning.specs.At.{Above, Act, Goes}
use Rattle.abc_run_calls.specs.Arguments.{first_receiver}
use Rattle.abc_run_calls.specs.Entering.{above_taken, entry_for, puts_on}
use Rattle.abc_run_calls.proofs.Opened.{some_goes, some_is, some_open, then_is}

-- ---- tests

must_is : {X : Type 0} (b : Bool) (m : Run X) (w : World) → IsOpen (and_then (must b w) (λ u. m)) → and_then (must b w) (λ u. m) ≡ m w
must_is true m w h = refl
must_is false m w h = absurd h

must_hold : {X : Type 0} (b : Bool) (m : Run X) (w : World) → IsOpen (and_then (must b w) (λ u. m)) → b ≡ true
must_hold true m w h = refl
must_hold false m w h = absurd h

-- ---- the frame, by its routine

-- the frame of a method whose first locals are all given
abbrev frame_with : ℕ → Place → Option Routine → List Value → Frame
frame_with n at x vs = frame_of_entry (record { method = n; home = at.home; saved = at.saved; size = size_of_routine x }) vs

abbrev fits_in : (n : ℕ) → Place → (this : Value) → List Value → Routine → List Value → Run Frame
fits_in n at this vs r array = must (nat_le (length (this ∷ vs ++ array)) r.local_count) >> pure (frame_with n at (Some r) (this ∷ vs ++ array))

abbrev framing : Setting → (n : ℕ) → Method → Value → Place → (given vs : List Value) → Routine → Run Frame
framing p n m this at given vs r = extra p m given >>= fits_in n at this vs r

framed_with : (p : Setting) (n : ℕ) (m : Method) (this : Value) (at : Place) (given vs array : List Value) (w after : World) (x : Option Routine) → extra p m given w ≡ Went after array → IsOpen (and_then (some x w) (framing p n m this at given vs))
    → (and_then (some x w) (framing p n m this at given vs) ≡ Went after (frame_with n at x (this ∷ vs ++ array))) × (length (this ∷ vs ++ array) ≤ (size_of_routine x).locals)
framed_with p n m this at given vs array w after None e h = absurd h
framed_with p n m this at given vs array w after (Some r) e h =
    let test = nat_le (length (this ∷ vs ++ array)) r.local_count in
    let frame : Run Frame = pure (frame_with n at (Some r) (this ∷ vs ++ array)) in
    let first : framing p n m this at given vs r w ≡ and_then (must test after) (λ u. frame) = then_is (extra p m given w) (fits_in n at this vs r) after array e in
    let free : IsOpen (and_then (must test after) (λ u. frame)) = subst (λ (o : Outcome Frame). IsOpen o) first h in
    (first ∙ must_is test frame after free, leb-true (length (this ∷ vs ++ array)) r.local_count (must_hold test frame after free))

framed_stops : (p : Setting) (n : ℕ) (m : Method) (this : Value) (at : Place) (given vs : List Value) (w after : World) (why : Stop) (x : Option Routine) → extra p m given w ≡ Stopped after why → IsOpen (and_then (some x w) (framing p n m this at given vs))
    → and_then (some x w) (framing p n m this at given vs) ≡ Stopped after why
framed_stops p n m this at given vs w after why None e h = absurd h
framed_stops p n m this at given vs w after why (Some r) e h = ap (λ o. and_then o (fits_in n at this vs r)) e

-- ---- the method that is put on

abbrev putting : Setting → (n : ℕ) → Place → Value → List Value → (count taken : ℕ) → Wait → Frame → Method → Run Act
putting p n at this vs count taken wait f m = frame_for p n m this at (operands count f) vs >>= above_taken taken wait f

framed_open : (p : Setting) (n : ℕ) (at : Place) (this : Value) (vs : List Value) (count taken : ℕ) (wait : Wait) (f : Frame) (m : Method) (w : World) → method_of p n ≡ Some m → IsOpen (puts_on p n at this vs count taken wait f w) → IsOpen (frame_for p n m this at (operands count f) vs w)
framed_open p n at this vs count taken wait f m w e h =
    open_first (frame_for p n m this at (operands count f) vs w) (above_taken taken wait f) (some_goes (method_of p n) m (putting p n at this vs count taken wait f) w e h)

-- the method has a body
pub body_there : (p : Setting) (n : ℕ) (at : Place) (this : Value) (vs : List Value) (count taken : ℕ) (wait : Wait) (f : Frame) (m : Method) (w : World) → method_of p n ≡ Some m → IsOpen (puts_on p n at this vs count taken wait f w) → IsSome (body_of p.linked.file n)
body_there p n at this vs count taken wait f m w e h = go (body_of p.linked.file n) (some_open (routine_of p n) (framing p n m this at (operands count f) vs) w (framed_open p n at this vs count taken wait f m w e h))
  where
    go : (x : Option ℕ) → IsSome (routine_in p x) → IsSome x
    go None g = g
    go (Some b) g = refl

pub puts_is : (p : Setting) (n : ℕ) (at : Place) (this : Value) (vs array : List Value) (count taken : ℕ) (wait : Wait) (f : Frame) (m : Method) (w after : World) → method_of p n ≡ Some m → extra p m (operands count f) w ≡ Went after array → IsOpen (puts_on p n at this vs count taken wait f w)
    → puts_on p n at this vs count taken wait f w ≡ Went after (Goes (Above (frame_of_entry (entry_for p n at) (this ∷ vs ++ array)) (waiting wait (after_drop taken f))))
puts_is p n at this vs array count taken wait f m w after e x h =
    some_is (method_of p n) m (putting p n at this vs count taken wait f) w e
    ∙ ap (λ o. and_then o (above_taken taken wait f)) (framed_with p n m this at (operands count f) vs array w after (routine_of p n) x (framed_open p n at this vs count taken wait f m w e h)).0

pub puts_fits : (p : Setting) (n : ℕ) (at : Place) (this : Value) (vs array : List Value) (count taken : ℕ) (wait : Wait) (f : Frame) (m : Method) (w after : World) → method_of p n ≡ Some m → extra p m (operands count f) w ≡ Went after array → IsOpen (puts_on p n at this vs count taken wait f w)
    → length (this ∷ vs ++ array) ≤ (entry_for p n at).size.locals
puts_fits p n at this vs array count taken wait f m w after e x h =
    (framed_with p n m this at (operands count f) vs array w after (routine_of p n) x (framed_open p n at this vs count taken wait f m w e h)).1

pub puts_stops : (p : Setting) (n : ℕ) (at : Place) (this : Value) (vs : List Value) (count taken : ℕ) (wait : Wait) (f : Frame) (m : Method) (w after : World) (why : Stop) → method_of p n ≡ Some m → extra p m (operands count f) w ≡ Stopped after why → IsOpen (puts_on p n at this vs count taken wait f w)
    → puts_on p n at this vs count taken wait f w ≡ Stopped after why
puts_stops p n at this vs count taken wait f m w after why e x h =
    some_is (method_of p n) m (putting p n at this vs count taken wait f) w e
    ∙ ap (λ o. and_then o (above_taken taken wait f)) (framed_stops p n m this at (operands count f) vs w after why (routine_of p n) x (framed_open p n at this vs count taken wait f m w e h))

-- ---- the frames: `q` before, `mid` when the first locals are made, `r` after

-- what a method that is put on makes of them
abbrev topped : Setting → (n : ℕ) → Place → List Value → (taken : ℕ) → Wait → World → Frames → Result Unit Full → Turned
topped p n at vs taken wait w q result = entered_if result (entry_for p n at).size w (frame_of_entry (entry_for p n at) vs) (waiting wait (after_drop taken (newest q))) q

topped_is : (p : Setting) (n : ℕ) (at : Place) (vs : List Value) (taken : ℕ) (wait : Wait) (w : World) (q mid : Frames) (e : Entry) (o : Outcome Act) (result : Result Unit Full) → o ≡ Went w (Goes (Above (frame_of_entry (entry_for p n at) vs) (waiting wait (after_drop taken (newest q)))))
    → mid ≡ q → e ≡ entry_for p n at → result ≡ room_for mid e.size → turn_of p q o ≡ topped p n at vs taken wait w q result
topped_is p n at vs taken wait w q mid e o result is same ee room =
    ap (turn_of p q) is
    ∙ ap (topped p n at vs taken wait w q) (ap (λ k. room_for k (entry_for p n at).size) (sym same) ∙ ap (λ (x : Entry). room_for mid x.size) (sym ee) ∙ sym room)

pub topped_on : (p : Setting) (n : ℕ) (at : Place) (vs items : List Value) (taken : ℕ) (wait : Wait) (w : World) (q mid r : Frames) (e : Entry) (o : Outcome Act) (u : Unit {0}) → o ≡ Went w (Goes (Above (frame_of_entry (entry_for p n at) vs) (waiting wait (after_drop taken (newest q)))))
    → mid ≡ q → e ≡ entry_for p n at → items ≡ vs → Ok u ≡ room_for mid e.size → r ≡ after_entry e items taken wait mid → turn_of p q o ≡ GoesOn w r
topped_on p n at vs items taken wait w q mid r e o u is same ee ei room entering =
    topped_is p n at vs taken wait w q mid e o (Ok u) is same ee room
    ∙ ap (GoesOn w) (sym (entering ∙ ap (λ x. after_entry x items taken wait mid) ee ∙ ap (λ xs. after_entry (entry_for p n at) xs taken wait mid) ei ∙ ap (λ k. after_entry (entry_for p n at) vs taken wait k) same))

pub topped_full : (p : Setting) (n : ℕ) (at : Place) (vs : List Value) (taken : ℕ) (wait : Wait) (w : World) (q mid r : Frames) (e : Entry) (o : Outcome Act) (full : Full) → o ≡ Went w (Goes (Above (frame_of_entry (entry_for p n at) vs) (waiting wait (after_drop taken (newest q)))))
    → mid ≡ q → e ≡ entry_for p n at → Err full ≡ room_for mid e.size → r ≡ mid → turn_of p q o ≡ Halts w (bare_newest r) (Fills full.0)
topped_full p n at vs taken wait w q mid r e o full is same ee room left =
    topped_is p n at vs taken wait w q mid e o (Err full) is same ee room
    ∙ ap (λ k. Halts w (bare_newest k) (Fills full.0)) (sym (left ∙ same))

-- the receiver stands first, and the array last
pub split_first : (xs ys : List Value) → 0 < length xs → xs ++ ys ≡ first_receiver xs ∷ (drop 1 xs ++ ys)
split_first [] ys h = absurd (omega arith)
split_first (x ∷ xs) ys h = refl

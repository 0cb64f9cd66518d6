-- A method that is put over no frame, and the start of a script over none.
use Rattle.std.proofs.Common.{◌≡◌, ℕ, zero, suc, ◌+◌, ◌<◌, ◌≤◌, List, [], ◌∷◌, ◌++◌, Bool, true, false, nat_le, if◌then◌else◌, length, map, drop, set, refl, sym, ap, ◌∙◌, subst, arith}
use Rattle.std.specs.Prelude.{None, Some, Ok, Err}
use Rattle.std.specs.declared.option.Option.{Option}
use Rattle.std.specs.declared.result.Result.{Result}
use Rattle.std.proofs.lemmas.Bool.{leb-true}
use Rattle.abc_heap_values.specs.declared.values.Value.{Value}
use Rattle.abc_run_finish.specs.Ending.{IsUnstuck, IsSized, IsThrowable}
use Rattle.abc_run_calls.specs.Arguments.{makes_arguments, first_receiver}
use Rattle.abc_run_calls.specs.Entering.{entry_for}
use Rattle.abc_meaning.specs.Fair.{IsFairPart, IsFairStop, IsLeft}
use Rattle.abc_heap_store.specs.Heap.{Heap}
use Rattle.abc_heap_store.specs.declared.records.Full.{Full}
use Rattle.abc_heap_store.specs.declared.records.Limits.{Limits}
use Rattle.abc_link_names.specs.PartsByNumber.{script_at}
use Rattle.abc_meaning.specs.Step.{put_on, puts, size_of_frame, after_start as begun_by, step_of}
use Rattle.abc_meaning.specs.Throwing.{last_script, stops}
use Rattle.abc_objects.specs.Stands.{EachAt, StandsOver}
use Rattle.abc_link_names.specs.Linked.{LinkedFile}
use Rattle.abc_frames.specs.Frame.{Frame, Frames, frame_of_entry, newest, newest_of, room_for, frames_at_start, total_size, total_of_all}
use Rattle.abc_frames.specs.declared.records.Entry.{Entry}
use Rattle.abc_frames.specs.declared.records.Size.{Size}
use Rattle.abc_run_state.specs.Outer.{Outer, setting_in, world}
use Rattle.abc_run_state.specs.Standing.{IsStateThere}
use Rattle.abc_run_state.specs.Stops.{IsOpen, why as why_of}
use Rattle.abc_run_state.specs.Turns.{GoesOn, Halts, Turned, size_of_routine, size_for}
use Rattle.abc_run_state.proofs.Turning.{open_first}
use Rattle.abc_meaning.specs.Entering.{arguments_for, array_of, enters, extra, frame_for, global, starts_script}
use Rattle.abc_meaning.specs.Objects.{Place, place}
use Rattle.abc_meaning.specs.Setting.{Setting, method_of, routine_of}
use Rattle.abc_meaning.specs.World.{Errs, Faults, Fills, Outcome, Run, Sticks, Stop, Stopped, Throws, Went, World, and_then, pure, must, some, ◌>>=◌, ◌>>◌}
use Rattle.abc_run_state.specs.declared.state.State.{State}
use Rattle.abc_run_state.specs.declared.state.Stop.{Stop as Why}
use Rattle.abc_file_types.specs.Methods.{has_flag}
use Rattle.abc_file_types.specs.declared.methods.Method.{Method}
use Rattle.abc_verify_typing.specs.Routines.{Routine}
use Rattle.abc_run_finish.specs.Starting.{alone_frame, alone_if, begins, frames_alone}
use Rattle.abc_run_finish.specs.Steps.{step_of_turn}
use Rattle.abc_run_finish.proofs.Stepped.{throwable}
use Rattle.abc_run_finish.proofs.Turned.{answer_by, frame_total, room_by}

-- ---- the array of those behind the parameters

pub array_rest : (p : Setting) (m : Method) (given rest : List Value) (w : World) → has_flag m.flags 0x04 ≡ true → rest ≡ drop (length m.params) given → extra p m given w ≡ array_of p rest w
array_rest p m given rest w e is =
    ap (λ (b : Bool). (if b then array_of p (drop (length m.params) given) else (if has_flag m.flags 0x01 then array_of p given else pure [])) w) e
    ∙ ap (λ (vs : List Value). array_of p vs w) (sym is)

-- what is so of each is so of those behind some
pub each_behind : {X : Type 0} (P : X → Type 0) (n : ℕ) (xs : List X) → EachAt P xs → EachAt P (drop n xs)
each_behind P zero xs h = h
each_behind P (suc n) [] h = λ k x e. absurd cc
each_behind P (suc n) (x ∷ xs) h = each_behind P n xs (λ k y e. h (suc k) y e)

-- ---- tests

must_is : {X : Type 0} (b : Bool) (m : Run X) (w : World) → IsOpen (and_then (must b w) (λ u. m)) → and_then (must b w) (λ u. m) ≡ m w
must_is true m w h = refl
must_is false m w h = absurd h

must_hold : {X : Type 0} (b : Bool) (m : Run X) (w : World) → IsOpen (and_then (must b w) (λ u. m)) → b ≡ true
must_hold true m w h = refl
must_hold false m w h = absurd h

-- ---- the frame of a method to which some arguments were given, by its routine

abbrev frame_with : ℕ → Place → Option Routine → List Value → Frame
frame_with n at x vs = frame_of_entry (record { method = n; home = at.home; saved = at.saved; size = size_of_routine x }) vs

abbrev fits_in : (n : ℕ) → Place → (this : Value) → List Value → Routine → List Value → Run Frame
fits_in n at this vs r array = must (nat_le (length (this ∷ vs ++ array)) r.local_count) >> pure (frame_with n at (Some r) (this ∷ vs ++ array))

abbrev framing : Setting → (n : ℕ) → Method → Value → Place → (given vs : List Value) → Routine → Run Frame
framing p n m this at given vs r = extra p m given >>= fits_in n at this vs r

framed_with : (p : Setting) (n : ℕ) (m : Method) (this : Value) (at : Place) (given vs array : List Value) (w after : World) (x : Option Routine) → extra p m given w ≡ Went after array → IsOpen (and_then (some x w) (framing p n m this at given vs))
    → (and_then (some x w) (framing p n m this at given vs) ≡ Went after (frame_with n at x (this ∷ vs ++ array))) × (length (this ∷ vs ++ array) ≤ (size_of_routine x).locals)
framed_with p n m this at given vs array w after None e h = absurd h
framed_with p n m this at given vs array w after (Some r) e h =
    let test = nat_le (length (this ∷ vs ++ array)) r.local_count in
    let frame : Run Frame = pure (frame_with n at (Some r) (this ∷ vs ++ array)) in
    let first : framing p n m this at given vs r w ≡ and_then (must test after) (λ u. frame) = ap (λ o. and_then o (fits_in n at this vs r)) e in
    let free : IsOpen (and_then (must test after) (λ u. frame)) = subst (λ (o : Outcome Frame). IsOpen o) first h in
    (first ∙ must_is test frame after free, leb-true (length (this ∷ vs ++ array)) r.local_count (must_hold test frame after free))

framed_stops : (p : Setting) (n : ℕ) (m : Method) (this : Value) (at : Place) (given vs : List Value) (w after : World) (why : Stop) (x : Option Routine) → extra p m given w ≡ Stopped after why → IsOpen (and_then (some x w) (framing p n m this at given vs))
    → and_then (some x w) (framing p n m this at given vs) ≡ Stopped after why
framed_stops p n m this at given vs w after why None e h = absurd h
framed_stops p n m this at given vs w after why (Some r) e h = ap (λ o. and_then o (fits_in n at this vs r)) e

-- ---- the method that is put over none

module _ (p : Setting) (n : ℕ) (at : Place) (this : Value) (vs given : List Value) (m : Method) (w : World) (e : method_of p n ≡ Some m) (h : IsOpen (frames_alone p n at this vs given w)) where
  alone_first : frames_alone p n at this vs given w ≡ frame_for p n m this at given vs w
  alone_first = ap (λ (o : Option Method). and_then (some o w) (λ k. frame_for p n k this at given vs)) e

  alone_open : IsOpen (frame_for p n m this at given vs w)
  alone_open = subst (λ (o : Outcome Frame). IsOpen o) alone_first h

  pub alone_is : (array : List Value) (after : World) → extra p m given w ≡ Went after array → frames_alone p n at this vs given w ≡ Went after (frame_of_entry (entry_for p n at) (this ∷ vs ++ array))
  alone_is array after x = alone_first ∙ (framed_with p n m this at given vs array w after (routine_of p n) x alone_open).0

  pub alone_fits : (array : List Value) (after : World) → extra p m given w ≡ Went after array → length (this ∷ vs ++ array) ≤ (entry_for p n at).size.locals
  alone_fits array after x = (framed_with p n m this at given vs array w after (routine_of p n) x alone_open).1

  pub alone_stops : (after : World) (why : Stop) → extra p m given w ≡ Stopped after why → frames_alone p n at this vs given w ≡ Stopped after why
  alone_stops after why x = alone_first ∙ framed_stops p n m this at given vs w after why (routine_of p n) x alone_open

-- ---- the frames: `q` before, `mid` when the first locals are made, `r` after

begins_is : (p : Setting) (n : ℕ) (at : Place) (vs : List Value) (w : World) (q mid : Frames) (e : Entry) (o : Outcome Frame) (result : Result Unit Full) → o ≡ Went w (frame_of_entry (entry_for p n at) vs) → mid ≡ q → e ≡ entry_for p n at → result ≡ room_for mid e.size
    → begins p q o ≡ alone_if result (entry_for p n at).size w (frame_of_entry (entry_for p n at) vs) q
begins_is p n at vs w q mid e o result is same ee room =
    ap (begins p q) is
    ∙ ap (λ (x : Result Unit Full). alone_if x (entry_for p n at).size w (frame_of_entry (entry_for p n at) vs) q) (ap (λ k. room_for k (entry_for p n at).size) (sym same) ∙ ap (λ (x : Entry). room_for mid x.size) (sym ee) ∙ sym room)

pub begins_on : (p : Setting) (n : ℕ) (at : Place) (vs items : List Value) (w : World) (q mid r : Frames) (e : Entry) (o : Outcome Frame) (u : Unit {0}) → o ≡ Went w (frame_of_entry (entry_for p n at) vs) → mid ≡ q → e ≡ entry_for p n at → items ≡ vs → Ok u ≡ room_for mid e.size → r ≡ frames_at_start e items mid
    → begins p q o ≡ GoesOn w r
begins_on p n at vs items w q mid r e o u is same ee ei room starting =
    begins_is p n at vs w q mid e o (Ok u) is same ee room
    ∙ ap (GoesOn w) (sym (starting ∙ ap (λ x. frames_at_start x items mid) ee ∙ ap (λ xs. frames_at_start (entry_for p n at) xs mid) ei ∙ ap (λ k. frames_at_start (entry_for p n at) vs k) same))

pub begins_full : (p : Setting) (n : ℕ) (at : Place) (vs : List Value) (w : World) (q mid r : Frames) (e : Entry) (o : Outcome Frame) (full : Full) → o ≡ Went w (frame_of_entry (entry_for p n at) vs) → mid ≡ q → e ≡ entry_for p n at → Err full ≡ room_for mid e.size → r ≡ mid
    → begins p q o ≡ Halts w r (Fills full.0)
begins_full p n at vs w q mid r e o full is same ee room left =
    begins_is p n at vs w q mid e o (Err full) is same ee room ∙ ap (λ k. Halts w k (Fills full.0)) (sym (left ∙ same))

pub begins_stops : (p : Setting) (w : World) (q mid : Frames) (o : Outcome Frame) (why : Stop) → o ≡ Stopped w why → mid ≡ q → begins p q o ≡ Halts w mid why
begins_stops p w q mid o why is same = ap (begins p q) is ∙ ap (λ k. Halts w k why) (sym same)

-- the receiver stands first, and the array last
pub split_first : (xs ys : List Value) → 0 < length xs → xs ++ ys ≡ first_receiver xs ∷ (drop 1 xs ++ ys)
split_first [] ys h = absurd (omega arith)
split_first (x ∷ xs) ys h = refl

-- ---- a method to which some arguments were given

entered_first : (p : Setting) (n : ℕ) (this : Value) (at : Place) (vs given : List Value) (w after : World) → makes_arguments p n given w ≡ Went after vs → enters p n this at given w ≡ frames_alone p n at this vs given after
entered_first p n this at vs given w after = go (method_of p n)
  where
    go : (x : Option Method) → and_then (some x w) (λ m. arguments_for p m given) ≡ Went after vs → and_then (some x w) (λ m. arguments_for p m given >>= frame_for p n m this at given) ≡ and_then (some x after) (λ m. frame_for p n m this at given vs)
    go None e = absurd cc
    go (Some m) e = ap (λ o. and_then o (frame_for p n m this at given)) e

pub entered_stops : (p : Setting) (n : ℕ) (this : Value) (at : Place) (given : List Value) (w after : World) (why : Stop) → makes_arguments p n given w ≡ Stopped after why → enters p n this at given w ≡ Stopped after why
entered_stops p n this at given w after why = go (method_of p n)
  where
    go : (x : Option Method) → and_then (some x w) (λ m. arguments_for p m given) ≡ Stopped after why → and_then (some x w) (λ m. arguments_for p m given >>= frame_for p n m this at given) ≡ Stopped after why
    go None e = let same : w ≡ after = cc in let reason : Sticks ≡ why = cc in ap (λ (x : World). Stopped x Sticks) same ∙ ap (Stopped after) reason
    go (Some m) e = ap (λ o. and_then o (frame_for p n m this at given)) e

pub entered_is : (p : Setting) (n : ℕ) (this : Value) (at : Place) (items given : List Value) (w after : World) → items ≡ this ∷ drop 1 items → makes_arguments p n given w ≡ Went after (drop 1 items) → enters p n this at given w ≡ frames_alone p n at (first_receiver items) (drop 1 items) given after
entered_is p n this at items given w after first e =
    entered_first p n this at (drop 1 items) given w after e ∙ ap (λ (v : Value). frames_alone p n at v (drop 1 items) given after) (sym (ap first_receiver first))

pub arguments_open : (p : Setting) (n : ℕ) (this : Value) (at : Place) (given : List Value) (w : World) → IsOpen (enters p n this at given w) → IsOpen (makes_arguments p n given w)
arguments_open p n this at given w = go (method_of p n)
  where
    go : (x : Option Method) → IsOpen (and_then (some x w) (λ m. arguments_for p m given >>= frame_for p n m this at given)) → IsOpen (and_then (some x w) (λ m. arguments_for p m given))
    go None h = h
    go (Some m) h = open_first (arguments_for p m given w) (frame_for p n m this at given) h

-- ---- a script that is started: `mid` is the world in which it counts as started, `after` that in which its first locals are made

module _ (p : Setting) (s : ℕ) (w : World) (marks : List Bool) (this : Value) (init : ℕ) (es : marks ≡ set w.started s true) (et : this ≡ global s (record w { started = marks })) (ei : init ≡ (script_at p.linked.file s).init) where
  abbrev mid : World
  mid = record w { started = marks }

  started_is : starts_script p s w ≡ enters p init this (place s None) [] mid
  started_is =
      ap (λ (bs : List Bool). enters p (script_at p.linked.file s).init (global s w) (place s None) [] (record w { started = bs })) (sym es)
      ∙ ap (λ (v : Value). enters p (script_at p.linked.file s).init v (place s None) [] mid) (sym et)
      ∙ ap (λ (n : ℕ). enters p n this (place s None) [] mid) (sym ei)

  pub start_open : IsOpen (starts_script p s w) → IsOpen (makes_arguments p init [] mid)
  start_open h = arguments_open p init this (place s None) [] mid (subst (λ (o : Outcome Frame). IsOpen o) started_is h)

  pub start_is : (items : List Value) (after : World) → items ≡ this ∷ drop 1 items → makes_arguments p init [] mid ≡ Went after (drop 1 items) → starts_script p s w ≡ frames_alone p init (place s None) (first_receiver items) (drop 1 items) [] after
  start_is items after first e = started_is ∙ entered_is p init this (place s None) items [] mid after first e

  pub start_stops : (after : World) (why : Stop) → makes_arguments p init [] mid ≡ Stopped after why → starts_script p s w ≡ Stopped after why
  start_stops after why e = started_is ∙ entered_stops p init this (place s None) [] mid after why e

-- ---- what a part that comes with no frame relies on

pub none_there : (l : LinkedFile) (h : Heap) (q : Frames) → q.living ≡ [] → 0 < length l.file.scripts → IsStateThere l h (newest q)
none_there l h q e home = subst (λ (fs : List Frame). IsStateThere l h (newest_of fs)) (sym e) (record { stack = λ k v at. absurd cc; locals = λ k v at. absurd cc; scopes = λ k x at. absurd cc; saved = tt; home = home })

pub part_open : {X : Type 0} (p : Setting) (w : World) (o : Outcome X) → IsFairPart p w o → IsOpen o
part_open p w (Went n x) h = tt
part_open p w (Stopped n (Throws v)) h = tt
part_open p w (Stopped n (Errs c)) h = tt
part_open p w (Stopped n (Faults fault)) h = tt
part_open p w (Stopped n (Fills limit)) h = tt
part_open p w (Stopped n Sticks) h = h.1

-- ---- the step that begins a run

first_by : (p : Setting) (w : World) (g : Frame) (q : Frames) (size : Size) (a b : Bool) → put_on p g [] (room_by a b w) ≡ step_of_turn p (alone_if (answer_by a b) size w g q)
first_by p w g q size true true = refl
first_by p w g q size true false = refl
first_by p w g q size false b = refl

pub first_put : (p : Setting) (w : World) (g : Frame) (q : Frames) → IsSized p w.heap.limits q → q.living ≡ [] → puts p w g [] ≡ step_of_turn p (alone_if (room_for q (size_for p g)) (size_for p g) w g q)
first_put p w g q s none =
    let long = ap (λ (fs : List Frame). length fs) none in
    let kept_by = ap total_of_all (s.sizes ∙ ap (map (size_for p)) none) in
    let size = frame_total p g in
    let frames : nat_le (length q.living + 1) q.frame_limit ≡ nat_le (0 + 1) w.heap.limits.frames = ap (λ (n : ℕ). nat_le (n + 1) q.frame_limit) long ∙ ap (λ (n : ℕ). nat_le (0 + 1) n) s.frames in
    let used : total_of_all q.sizes + total_size (size_for p g) ≡ 0 + size_of_frame p g = omega (arith, kept_by, size) in
    let values : nat_le (total_of_all q.sizes + total_size (size_for p g)) q.value_limit ≡ nat_le (0 + size_of_frame p g) w.heap.limits.stack = ap (λ (n : ℕ). nat_le n q.value_limit) used ∙ ap (λ (n : ℕ). nat_le (0 + size_of_frame p g) n) s.values in
    first_by p w g q (size_for p g) (nat_le (0 + 1) w.heap.limits.frames) (nat_le (0 + size_of_frame p g) w.heap.limits.stack)
    ∙ ap (λ (r : Result Unit Full). step_of_turn p (alone_if r (size_for p g) w g q)) (sym (ap (λ (a : Bool). answer_by a (nat_le (total_of_all q.sizes + total_size (size_for p g)) q.value_limit)) frames ∙ ap (answer_by (nat_le (0 + 1) w.heap.limits.frames)) values))

started_on : (p : Setting) (w : World) (q : Frames) (o : Outcome Frame) → IsSized p w.heap.limits q → q.living ≡ [] → IsFairPart p w o → begun_by p o ≡ step_of_turn p (begins p q o)
started_on p w q (Went n g) s none fair = first_put p n g q (subst (λ (x : Limits). IsSized p x q) (sym fair.limits) s) none
started_on p w q (Stopped n why) s none fair = ap (λ (fs : List Frame). stops p n fs why) (sym none)

pub first_is : (p : Setting) (w : World) (q : Frames) → IsSized p w.heap.limits q → q.living ≡ [] → IsFairPart p w (starts_script p (last_script p) w) → step_of p w q.living ≡ step_of_turn p (begins p q (starts_script p (last_script p) w))
first_is p w q s none fair = ap (step_of p w) none ∙ started_on p w q (starts_script p (last_script p) w) s none fair

-- it goes on
pub first_sized : (p : Setting) (w n : World) (q r : Frames) (o : Outcome Frame) → IsSized p w.heap.limits q → IsFairPart p w o → begins p q o ≡ GoesOn n r → IsSized p n.heap.limits r
first_sized p w n q r (Stopped m why) s fair e = absurd cc
first_sized p w n q r (Went m g) s fair e = go (room_for q (size_for p g)) e
  where
    go : (x : Result Unit Full) → alone_if x (size_for p g) m g q ≡ GoesOn n r → IsSized p n.heap.limits r
    go (Err full) d = absurd cc
    go (Ok u) d =
        let world_same : m ≡ n = cc in
        let frames_same : alone_frame (size_for p g) g q ≡ r = cc in
        let limits : w.heap.limits ≡ n.heap.limits = sym fair.limits ∙ ap (λ (x : World). x.heap.limits) world_same in
        let sized : IsSized p w.heap.limits (alone_frame (size_for p g) g q) = record { sizes = refl; frames = s.frames; values = s.values } in
        subst (λ (x : Limits). IsSized p x r) limits (subst (IsSized p w.heap.limits) frames_same sized)

-- or it goes no further
pub record FirstHalts (p : Setting) (w n : World) (q r : Frames) (why : Stop) : Type 0 where
  pub left : IsLeft p w n
  pub fair : IsFairStop p n why
  pub same : q ≡ r

pub first_halts : (p : Setting) (w n : World) (q r : Frames) (y : Stop) (o : Outcome Frame) → IsFairPart p w o → begins p q o ≡ Halts n r y → FirstHalts p w n q r y
first_halts p w n q r y (Stopped m x) fair e =
    let world_same : m ≡ n = cc in
    let frames_same : q ≡ r = cc in
    let why_same : x ≡ y = cc in
    record { left = subst (IsLeft p w) world_same fair.0; fair = subst (IsFairStop p n) why_same (subst (λ (z : World). IsFairStop p z x) world_same fair.1); same = frames_same }
first_halts p w n q r y (Went m g) fair e = go (room_for q (size_for p g)) e
  where
    go : (x : Result Unit Full) → alone_if x (size_for p g) m g q ≡ Halts n r y → FirstHalts p w n q r y
    go (Ok u) d = absurd cc
    go (Err full) d =
        let world_same : m ≡ n = cc in
        let frames_same : q ≡ r = cc in
        let why_same : Fills full.0 ≡ y = cc in
        record { left = subst (IsLeft p w) world_same fair; fair = subst (IsFairStop p n) why_same tt; same = frames_same }

-- what the code of a throw relies on there
pub first_stops : (l : LinkedFile) (out : Outer) (old new : State) (e : Why) (o : Outcome Frame) → IsSized (setting_in l out) old.arena.limits old.frames → IsFairPart (setting_in l out) (world old out) o → begins (setting_in l out) old.frames o ≡ Halts (world new out) new.frames (why_of e) → IsUnstuck (step_of_turn (setting_in l out) (begins (setting_in l out) old.frames o))
    → StandsOver l new.arena × IsThrowable l new.arena e × IsSized (setting_in l out) new.arena.limits new.frames × IsUnstuck (stops (setting_in l out) (world new out) new.frames.living (why_of e))
first_stops l out old new e o s fair is free =
    let p = setting_in l out in
    let h = first_halts p (world old out) (world new out) old.frames new.frames (why_of e) o fair is in
    (h.left.sound.stands, throwable l out new e h.fair, subst (λ (x : Limits). IsSized p x new.frames) (sym h.left.limits) (subst (IsSized p old.arena.limits) h.same s), subst (λ (t : Turned). IsUnstuck (step_of_turn p t)) is free)

-- The ledger, throws, returns and what an instruction comes to: what is true of all steps, whatever their opcode.
use Rattle.std.proofs.Common.{◌≡◌, ℕ, suc, ◌+◌, ◌≤◌, List, [], ◌∷◌, length, take, drop, reverse, refl, sym, subst, arith, length-drop}
use Rattle.std.specs.Prelude.{Bool, true, false, nat_le, if◌then◌else◌}
use Rattle.std.proofs.lemmas.Bool.{leb-true}
use Rattle.abc_base.specs.declared.names.HostClass.{HostClass}
use Rattle.abc_base.specs.declared.names.HostClass.TheVariants as hosts
use Rattle.abc_heap_values.specs.declared.values.ObjId.{ObjId}
use Rattle.abc_heap_values.specs.declared.values.Value.{Value}
use Rattle.abc_heap_values.specs.declared.values.Value.TheVariants.{Obj}
use Rattle.abc_heap_store.specs.Heap.{Heap, cells_used}
use Rattle.abc_heap_store.specs.declared.records.Limit.{Limit}
use Rattle.abc_heap_store.specs.declared.records.Limit.TheVariants.{Cells, Frames, Objects, Stack}
use Rattle.abc_heap_store.specs.declared.records.What.TheVariants.{Plain}
use Rattle.abc_objects.specs.Stands.{host_layout}
use Rattle.abc_objects.specs.Starts.{start_values}
use Rattle.abc_objects.specs.Values.{Exists, IsObject}
use Rattle.abc_link_names.specs.declared.part.Part.TheVariants as parts
use Rattle.abc_link_names.specs.declared.types.Kind.TheVariants.{Any}
use Rattle.abc_verify_typing.specs.Lists.{Each, Each2}
use Rattle.abc_verify_typing.specs.declared.state.State.{State}
use Rattle.abc_verify_typing.proofs.Lists.{Each-reverse}
use Rattle.abc_meaning.specs.Calling.{Came, Calls, Got, Makes}
use Rattle.abc_frames.specs.Frame.{Frame}
use Rattle.abc_meaning.specs.Making.{new}
use Rattle.abc_meaning.specs.Objects.{new_of_host}
use Rattle.abc_meaning.specs.Setting.{Setting, routine_of}
use Rattle.abc_meaning.specs.World.{Errs, Faults, Fills, Outcome, Run, Sticks, Stop, Stopped, Throws, Went, World, and_then, pure, room, stop}
use Rattle.abc_frames.specs.declared.records.Wait.{Wait}
use Rattle.abc_frames.specs.declared.records.Wait.TheVariants as waits
use Rattle.abc_meaning.specs.At.{Above, Act, Goes, Returns, Stays, Top, dropping, next_frame, after_pushes, pushing, waiting_frame}
use Rattle.abc_meaning.specs.Sound.{AreTypings, FrameSound, FramesFit, IsCatching, IsOfKind, IsOfState, IsFrameTyped, IsTypedPushed, FrameStands, SteppedSound, Typings, WaitSound, WaitingSound, WorldSound}
use Rattle.abc_meaning.specs.Step.{after_act, gives_back, put_on, puts, after_resume, resumes, settles, size_of_frame, size_of_frames, after_start, values_kept}
use Rattle.abc_meaning.specs.Throwing.{stops, throws_made}
use Rattle.abc_meaning.proofs.Unwinding.{CanCatch, unwinding}
use Rattle.abc_meaning.proofs.ValueKinds.{kind_up}
use Rattle.abc_meaning_sound.specs.Given.{FileGiven}
use Rattle.abc_meaning_sound.specs.Keeping.{ActSound, CameSound, Fares, IsError, LeavesSound, StopSound, TopSound}
use Rattle.abc_meaning_sound.proofs.Faring.{done_fares, then_fares, weaker}
use Rattle.abc_meaning_sound.proofs.Growing.{all_waiting_on, any_kind, catching_on, kinds_on, pushed_on, stands_on}
use Rattle.abc_meaning_sound.proofs.Made.{new_of_host_fares}

-- ---- the making of an error stops by a limit alone

abbrev pub OnlyFull : {X : Type 0} → Outcome X → Type 0
OnlyFull (Went n x) = Unit {0}
OnlyFull (Stopped n (Fills limit)) = Unit {0}
OnlyFull (Stopped n why) = ⊥

room_only : {Y : Type 0} (w : World) (which : Limit) (used need limit : ℕ) (k : Unit {0} → Run Y) → OnlyFull (k tt w) → OnlyFull (and_then (room which used need limit w) k)
room_only w which used need limit k h = go (nat_le (used + need) limit)
  where
    go : (b : Bool) → OnlyFull (and_then ((if b then pure tt else stop (Fills which)) w) k)
    go true = h
    go false = tt

pub error_only : (p : Setting) (w : World) (c : HostClass) → OnlyFull (new_of_host p c Plain w)
error_only p w c = room_only w Objects (length w.heap.objects) 1 w.heap.limits.objects _ (room_only w Cells (cells_used w.heap) (length (start_values p.linked (host_layout p.linked c))) w.heap.limits.cells _ tt)

-- ---- how a frame waits is no part of its kinds

as_state : (p : Setting) (h : Heap) (s : State) (f : Frame) (x : Wait) → IsOfState p.linked h s f → IsOfState p.linked h s (waiting_frame x f)
as_state p h s f x z = record { stack = z.stack; scopes = z.scopes; locals = z.locals }

as_typed : (p : Setting) (typings : Typings) (h : Heap) (f : Frame) (x : Wait) → IsFrameTyped p typings h f → IsFrameTyped p typings h (waiting_frame x f)
as_typed p typings h f x t = record { state = t.state; typed = t.typed; is = as_state p h t.state f x t.is }

pub as_pushed : (p : Setting) (typings : Typings) (h : Heap) (f : Frame) (x : Wait) → IsTypedPushed p typings h f → IsTypedPushed p typings h (waiting_frame x f)
as_pushed p typings h f x t = record { state = t.state; typed = t.typed; top = t.top; rest = t.rest; stack = t.stack; any = t.any; is = as_state p h (record t.state { stack = t.rest }) f x t.is }

pub as_catching : (p : Setting) (typings : Typings) (h : Heap) (f : Frame) (x : Wait) → IsCatching p typings h f → IsCatching p typings h (waiting_frame x f)
as_catching p typings h f x c = record { state = c.state; typed = c.typed; locals = c.locals }

pub wait_as : (p : Setting) (typings : Typings) (h : Heap) (f : Frame) (x y : Wait) → WaitSound p typings h f y → WaitSound p typings h (waiting_frame x f) y
wait_as p typings h f x waits.Push z = as_pushed p typings h f x z
wait_as p typings h f x waits.Drop z = as_typed p typings h (next_frame f) x z
wait_as p typings h f x (waits.Keep v) z = as_typed p typings h (after_pushes (v ∷ []) f) x z
wait_as p typings h f x waits.Again z = as_typed p typings h f x z
wait_as p typings h f x (waits.New n) z = record { there = z.there; exist = z.exist; typed = as_pushed p typings h (record f { stack = drop n f.stack }) x z.typed }
wait_as p typings h f x waits.Not z = z

-- ---- what is pushed

pub value_pushed : (p : Setting) (typings : Typings) (h : Heap) (v : Value) (f : Frame) → Exists p.linked h v → IsTypedPushed p typings h f → IsFrameTyped p typings h (after_pushes (v ∷ []) f)
value_pushed p typings h v f e t = record { state = t.state; typed = t.typed; is = record { stack = subst (λ ks. Each2 (IsOfKind p.linked h) ks (v ∷ f.stack)) (sym t.stack) (kind_up p.linked h Any t.top v t.any (any_kind p.linked h v e), t.is.stack); scopes = t.is.scopes; locals = t.is.locals } }

-- room for one value
pub pushed_stands : (p : Setting) (h : Heap) (v : Value) (f : Frame) → f.wait ≡ waits.Not → FrameStands p h (waiting_frame waits.Push f) → FrameStands p h (after_pushes (v ∷ []) f)
pushed_stands p h v f idle s =
    let room = s.stack in
    record { routine = s.routine; body = s.body; home = s.home; saved = s.saved; locals = s.locals; stack = subst (λ x. suc (length f.stack) + Rattle.abc_meaning.specs.Sound.put_by_return x ≤ s.routine.max_stack + Rattle.abc_meaning.specs.Sound.taken_by_return x) (sym idle) (omega (arith, room)); scopes = s.scopes }

module _ (p : Setting) (file : FileGiven p) (typings : Typings) (typed : AreTypings p typings) where
  pub with_wait : (h : Heap) (f : Frame) (x : Wait) → FrameStands p h (waiting_frame x f) → IsCatching p typings h f → WaitSound p typings h f x → WaitingSound p typings h (waiting_frame x f)
  with_wait h f x s c z = record { stands = s; catches = as_catching p typings h f x c; waits = wait_as p typings h f x x z }

  kept_stands : (h : Heap) (f : Frame) (v : Value) → FrameStands p h (waiting_frame waits.Push f) → FrameStands p h (waiting_frame (waits.Keep v) f)
  kept_stands h f v s = record { routine = s.routine; body = s.body; home = s.home; saved = s.saved; locals = s.locals; stack = s.stack; scopes = s.scopes }

  pub pushing_sound : (w : World) (f : Frame) (x : Came) → f.wait ≡ waits.Not → FrameStands p w.heap (waiting_frame waits.Push f) → IsCatching p typings w.heap f → IsTypedPushed p typings w.heap f → CameSound p typings w x → TopSound p typings f w (pushing f x)
  pushing_sound w f (Got v) idle s c t h = (refl, record { stands = pushed_stands p w.heap v f idle s; idle = idle; typed = value_pushed p typings w.heap v f h t })
  pushing_sound w f (Calls g) idle s c t h = (refl, h, with_wait w.heap f waits.Push s c t)
  pushing_sound w f (Makes g v) idle s c t h = (refl, h.0, with_wait w.heap f (waits.Keep v) (kept_stands w.heap f v s) c (value_pushed p typings w.heap v f h.1 t))

  pub dropping_sound : (w : World) (f : Frame) (x : Came) → f.wait ≡ waits.Not → FrameStands p w.heap f → FrameStands p w.heap (waiting_frame waits.Drop f) → IsCatching p typings w.heap f → IsFrameTyped p typings w.heap (next_frame f) → CameSound p typings w x → TopSound p typings f w (dropping f x)
  dropping_sound w f (Got v) idle s d c t h = (refl, record { stands = record { routine = s.routine; body = s.body; home = s.home; saved = s.saved; locals = s.locals; stack = s.stack; scopes = s.scopes }; idle = idle; typed = t })
  dropping_sound w f (Calls g) idle s d c t h = (refl, h, with_wait w.heap f waits.Drop d c t)
  dropping_sound w f (Makes g v) idle s d c t h = (refl, h.0, with_wait w.heap f waits.Drop d c t)

  -- ---- a step that goes no further

  pub fit_on : (w n : World) (fs : List Frame) → LeavesSound p w n → FramesFit p w.heap.limits fs → FramesFit p n.heap.limits fs
  fit_on w n fs l fit = subst (λ limits. FramesFit p limits fs) (sym l.grows.limits) fit

  pub catch_on : (w n : World) (f : Frame) → LeavesSound p w n → CanCatch p typings w.heap f → CanCatch p typings n.heap f
  catch_on w n f l c = record { stands = stands_on p w.heap n.heap l.grows f c.stands; catching = catching_on p w.heap n.heap l.grows typings f c.catching }

  pub waiting_on : (w n : World) (fs : List Frame) → LeavesSound p w n → Each (WaitingSound p typings w.heap) fs → Each (WaitingSound p typings n.heap) fs
  waiting_on w n fs l ws = all_waiting_on p w.heap n.heap l.grows typings fs ws

  no_array : (c : HostClass) → IsError c → ◌≡◌ {A = Rattle.abc_link_names.specs.declared.part.Part.Part} (parts.Host c) (parts.Host hosts.Array) → ⊥
  no_array hosts.TypeError e q = cc
  no_array hosts.ReferenceError e q = cc
  no_array hosts.ArgumentError e q = cc
  no_array c e q = absurd e

  pub error_fares : (w : World) (c : HostClass) → WorldSound p w → IsError c → Fares p w (new_of_host p c Plain w) (λ n o. IsObject n.heap o)
  error_fares w c s e = weaker p w (new_of_host p c Plain w) _ (λ n o. IsObject n.heap o) (λ n o l h. h.0) (new_of_host_fares p file w c Plain s (no_array c e) tt tt tt)

  pub stops_sound : (w : World) (f : Frame) (fs : List Frame) (why : Stop) → WorldSound p w → StopSound p w why → CanCatch p typings w.heap f → Each (WaitingSound p typings w.heap) fs → FramesFit p w.heap.limits (f ∷ fs) → SteppedSound p typings (stops p w (f ∷ fs) why)
  stops_sound w f fs (Throws v) s h c ws fit = unwinding p typings w v file.linked typed s h f fs c ws fit
  stops_sound w f fs (Errs x) s h c ws fit = made (new_of_host p x Plain w) (error_fares w x s h) (error_only p w x)
    where
      made : (o : Outcome ObjId) → Fares p w o (λ n i. IsObject n.heap i) → OnlyFull o → SteppedSound p typings (throws_made p (f ∷ fs) o)
      made (Went n o) r q = unwinding p typings n (Obj o) file.linked typed r.so.0.sound r.so.1 f fs (catch_on w n f r.so.0 c) (waiting_on w n fs r.so.0 ws) (fit_on w n (f ∷ fs) r.so.0 fit)
      made (Stopped n (Fills limit)) r q = (λ z. absurd cc, r.so.0.sound)
      made (Stopped n (Throws v)) r q = absurd q
      made (Stopped n (Errs c)) r q = absurd q
      made (Stopped n (Faults fault)) r q = absurd q
      made (Stopped n Sticks) r q = absurd q
  stops_sound w f fs (Faults fault) s h c ws fit = (λ q. absurd cc, s)
  stops_sound w f fs (Fills limit) s h c ws fit = (λ q. absurd cc, s)
  stops_sound w f fs Sticks s h c ws fit = absurd h

  -- the same where no frame is there yet
  pub ends_sound : (w : World) (why : Stop) → WorldSound p w → StopSound p w why → SteppedSound p typings (stops p w [] why)
  ends_sound w (Throws v) s h = (λ q. absurd cc, s)
  ends_sound w (Errs x) s h = made (new_of_host p x Plain w) (error_fares w x s h) (error_only p w x)
    where
      made : (o : Outcome ObjId) → Fares p w o (λ n i. IsObject n.heap i) → OnlyFull o → SteppedSound p typings (throws_made p [] o)
      made (Went n o) r q = (λ z. absurd cc, r.so.0.sound)
      made (Stopped n (Fills limit)) r q = (λ z. absurd cc, r.so.0.sound)
      made (Stopped n (Throws v)) r q = absurd q
      made (Stopped n (Errs c)) r q = absurd q
      made (Stopped n (Faults fault)) r q = absurd q
      made (Stopped n Sticks) r q = absurd q
  ends_sound w (Faults fault) s h = (λ q. absurd cc, s)
  ends_sound w (Fills limit) s h = (λ q. absurd cc, s)
  ends_sound w Sticks s h = absurd h

  -- ---- a new frame takes its room

  pub puts_sound : (w : World) (g : Frame) (fs : List Frame) → WorldSound p w → FrameSound p typings w.heap g → Each (WaitingSound p typings w.heap) fs → SteppedSound p typings (puts p w g fs)
  puts_sound w g fs s h ws = frames (nat_le (length fs + 1) w.heap.limits.frames) refl
    where
      stack : (b : Bool) → nat_le (size_of_frames p fs + size_of_frame p g) w.heap.limits.stack ≡ b → length fs + 1 ≤ w.heap.limits.frames → SteppedSound p typings (put_on p g fs ((if b then pure tt else stop (Fills Stack)) w))
      stack true e a = let b = leb-true (size_of_frames p fs + size_of_frame p g) w.heap.limits.stack e in record { world = s; frames = (h, ws); room = record { frames = omega (arith, a); stack = omega (arith, b) } }
      stack false e a = (λ q. absurd cc, s)

      frames : (b : Bool) → nat_le (length fs + 1) w.heap.limits.frames ≡ b → SteppedSound p typings (put_on p g fs (and_then {X = Unit {0}} ((if b then pure tt else stop (Fills Frames)) w) (λ x. room Stack (size_of_frames p fs) (size_of_frame p g) w.heap.limits.stack)))
      frames true e = stack (nat_le (size_of_frames p fs + size_of_frame p g) w.heap.limits.stack) refl (leb-true (length fs + 1) w.heap.limits.frames e)
      frames false e = (λ q. absurd cc, s)

  pub settled_sound : (w : World) (f : Frame) (fs : List Frame) (top : Top) → WorldSound p w → TopSound p typings f w top → Each (WaitingSound p typings w.heap) fs → FramesFit p w.heap.limits (f ∷ fs) → SteppedSound p typings (settles p w fs top)
  settled_sound w f fs (Stays g) s h ws fit = record { world = s; frames = (h.1, ws); room = record { frames = fit.frames; stack = subst (λ m. values_kept (routine_of p m) + size_of_frames p fs ≤ w.heap.limits.stack) (sym h.0) fit.stack } }
  settled_sound w f fs (Above g b) s h ws fit = puts_sound w g (b ∷ fs) s h.1 (h.2, ws)

  -- ---- returns

  abbrev pub NewSound : Type 0
  NewSound = (w : World) (v : Value) (args : List Value) → WorldSound p w → Exists p.linked w.heap v → Each (Exists p.linked w.heap) args → Fares p w (new p v args w) (CameSound p typings)

  module _ (news : NewSound) where
    resumes_fares : (w : World) (v : Value) (f : Frame) (x : Wait) → WorldSound p w → Exists p.linked w.heap v → FrameStands p w.heap (waiting_frame x f) → IsCatching p typings w.heap f → WaitSound p typings w.heap f x → Fares p w (resumes p (waiting_frame waits.Not f) x v w) (TopSound p typings f)
    resumes_fares w v f waits.Push s e st c h =
        done_fares p w _ _ s (pushing_sound w (waiting_frame waits.Not f) (Got v) refl st (as_catching p typings w.heap f waits.Not c) (as_pushed p typings w.heap f waits.Not h) e)
    resumes_fares w v f waits.Drop s e st c h = done_fares p w _ _ s (refl, record { stands = record { routine = st.routine; body = st.body; home = st.home; saved = st.saved; locals = st.locals; stack = st.stack; scopes = st.scopes }; idle = refl; typed = as_typed p typings w.heap (next_frame f) waits.Not h })
    resumes_fares w v f (waits.Keep kept) s e st c h =
        let room = st.stack in
        done_fares p w _ _ s (refl, record { stands = record { routine = st.routine; body = st.body; home = st.home; saved = st.saved; locals = st.locals; stack = omega (arith, room); scopes = st.scopes }; idle = refl; typed = as_typed p typings w.heap (after_pushes (kept ∷ []) f) waits.Not h })
    resumes_fares w v f waits.Again s e st c h = done_fares p w _ _ s (refl, record { stands = record { routine = st.routine; body = st.body; home = st.home; saved = st.saved; locals = st.locals; stack = st.stack; scopes = st.scopes }; idle = refl; typed = as_typed p typings w.heap f waits.Not h })
    resumes_fares w v f (waits.New n) s e st c h =
        let g : Frame = record f { stack = drop n f.stack; wait = waits.Not } in
        let room = st.stack in
        let there = h.there in
        let left = length-drop n f.stack in
        let stands : FrameStands p w.heap (waiting_frame waits.Push g) = record { routine = st.routine; body = st.body; home = st.home; saved = st.saved; locals = st.locals; stack = omega (arith, room, there, left); scopes = st.scopes } in
        then_fares p w (new p v (reverse (take n f.stack)) w) _ _ _ (news w v (reverse (take n f.stack)) s e (Each-reverse (Exists p.linked w.heap) (take n f.stack) h.exist)) (λ m came l k.
        done_fares p m _ _ l.sound (pushing_sound m g came refl (stands_on p w.heap m.heap l.grows (waiting_frame waits.Push g) stands) (record { state = c.state; typed = c.typed; locals = kinds_on p w.heap m.heap l.grows c.state.locals f.locals c.locals }) (pushed_on p w.heap m.heap l.grows typings g (as_pushed p typings w.heap (record f { stack = drop n f.stack }) waits.Not h.typed)) k))
    resumes_fares w v f waits.Not s e st c h = absurd h

    resumed_sound : (w : World) (f : Frame) (fs : List Frame) (o : Outcome Top) → CanCatch p typings w.heap f → Each (WaitingSound p typings w.heap) fs → FramesFit p w.heap.limits (f ∷ fs) → Fares p w o (TopSound p typings f) → SteppedSound p typings (after_resume p f fs o)
    resumed_sound w f fs (Went n top) c ws fit h = settled_sound n f fs top h.so.0.sound h.so.1 (waiting_on w n fs h.so.0 ws) (fit_on w n (f ∷ fs) h.so.0 fit)
    resumed_sound w f fs (Stopped n why) c ws fit h = stops_sound n f fs why h.so.0.sound h.so.1 (catch_on w n f h.so.0 c) (waiting_on w n fs h.so.0 ws) (fit_on w n (f ∷ fs) h.so.0 fit)

    pub gives_back_sound : (w : World) (v : Value) (fs : List Frame) → WorldSound p w → Exists p.linked w.heap v → Each (WaitingSound p typings w.heap) fs → FramesFit p w.heap.limits fs → SteppedSound p typings (gives_back p w v fs)
    gives_back_sound w v [] s e ws fit = (λ q. absurd cc, s)
    gives_back_sound w v (f ∷ fs) s e ws fit =
        resumed_sound w f fs _ (record { stands = ws.0.stands; catching = ws.0.catches }) ws.1 fit (resumes_fares w v f f.wait s e ws.0.stands ws.0.catches ws.0.waits)

    pub acted_sound : (w : World) (f : Frame) (fs : List Frame) (o : Outcome Act) → CanCatch p typings w.heap f → Each (WaitingSound p typings w.heap) fs → FramesFit p w.heap.limits (f ∷ fs) → Fares p w o (ActSound p typings f) → SteppedSound p typings (after_act p f fs o)
    acted_sound w f fs (Went n (Goes top)) c ws fit h = settled_sound n f fs top h.so.0.sound h.so.1 (waiting_on w n fs h.so.0 ws) (fit_on w n (f ∷ fs) h.so.0 fit)
    acted_sound w f fs (Went n (Returns v)) c ws fit h =
        let now = fit_on w n (f ∷ fs) h.so.0 fit in
        let a = now.frames in
        let b = now.stack in
        gives_back_sound n v fs h.so.0.sound h.so.1 (waiting_on w n fs h.so.0 ws) (record { frames = omega (arith, a); stack = omega (arith, b) })
    acted_sound w f fs (Stopped n why) c ws fit h = stops_sound n f fs why h.so.0.sound h.so.1 (catch_on w n f h.so.0 c) (waiting_on w n fs h.so.0 ws) (fit_on w n (f ∷ fs) h.so.0 fit)

  -- ---- the first step

  pub started_sound : (w : World) (o : Outcome Frame) → Fares p w o (λ n g. FrameSound p typings n.heap g) → SteppedSound p typings (after_start p o)
  started_sound w (Went n g) h = puts_sound n g [] h.so.0.sound h.so.1 tt
  started_sound w (Stopped n why) h = ends_sound n why h.so.0.sound h.so.1

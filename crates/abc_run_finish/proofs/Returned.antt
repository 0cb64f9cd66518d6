-- From the way in which a frame waits to what it does with what returns.
use Rattle.std.proofs.Common.{◌≡◌, ℕ, ◌+◌, ◌<◌, ◌≤◌, List, [], ◌∷◌, drop, length, map, reverse, take, refl, sym, ap, ◌∙◌, subst, arith}
use Rattle.std.specs.declared.option.Option.{Option}
use Rattle.abc_run_calls.specs.Calls.{makes_value}
use Rattle.abc_heap_values.specs.declared.values.Value.{Value}
use Rattle.abc_run_finish.specs.Ending.{IsUnstuck, IsSized}
use Rattle.abc_meaning.specs.Fair.{IsFairAs, IsFairPart}
use Rattle.abc_heap_store.specs.declared.records.Limits.{Limits}
use Rattle.abc_meaning.specs.Sound.{put_by_return, taken_by_return}
use Rattle.abc_meaning.specs.Step.{after_act, gives_back, after_resume, resumes}
use Rattle.abc_meaning.specs.Throwing.{Stepped}
use Rattle.abc_frames.specs.Ready.{HasFrameRoom}
use Rattle.abc_frames.specs.Frame.{Frame, Frames, first_size, after_leave, newest, newest_of, newest_size, rest_of, under, waiting, with_newest}
use Rattle.abc_frames.specs.declared.records.Size.{Size}
use Rattle.abc_frames.specs.declared.records.Wait.{Wait}
use Rattle.abc_frames.specs.declared.records.Wait.TheVariants as waits
use Rattle.abc_meaning.specs.At.{Act, Top, pushing}
use Rattle.abc_run_state.specs.Settling.{settles_how}
use Rattle.abc_run_state.specs.Standing.{IsStateThere}
use Rattle.abc_run_state.specs.Stops.{IsOpen}
use Rattle.abc_run_state.specs.Turns.{bare_frame, bare_newest, size_of_routine, size_for, turn_of}
use Rattle.abc_meaning.specs.Calling.{Calls, Came, Got, Makes}
use Rattle.abc_meaning.specs.Making.{new}
use Rattle.abc_meaning.specs.Setting.{Setting}
use Rattle.abc_meaning.specs.World.{Errs, Faults, Fills, Outcome, Sticks, Stopped, Throws, Went, World, and_then, pure}
use Rattle.abc_run_state.specs.declared.state.How.TheVariants.{Push}
use Rattle.abc_verify_typing.specs.Routines.{Routine}
use Rattle.abc_run_finish.specs.Fairly.{CanTake, FirstCanTake, HasArguments, IsFairTurn, IsSoundAndSized, made_of}
use Rattle.abc_run_finish.specs.Steps.{step_of_turn}
use Rattle.abc_run_finish.proofs.Turned.{MayReturn, acted_is, living_is, stops_bare, top_sized, turn_held}

-- ---- an object that is made of what returned, as an act

-- the object in the place of its arguments
abbrev placing : ℕ → Frame → Came → Top
placing n f c = pushing (record f { stack = drop n f.stack }) c

abbrev pub makes_here : Setting → Frame → Value → ℕ → World → Outcome Act
makes_here p f v n w = makes_value p v n (Push n) f w

made_resumed : (p : Setting) (f : Frame) (fs : List Frame) (n : ℕ) (o : Outcome Came) → after_resume p f fs (and_then o (λ c. pure (placing n f c))) ≡ after_act p f fs (and_then o (settles_how (Push n) f))
made_resumed p f fs n (Went w c) = refl
made_resumed p f fs n (Stopped w why) = refl

made_fair : (p : Setting) (f : Frame) (n : ℕ) (w : World) (o : Outcome Came) → IsFairPart p w (and_then o (λ c. pure (placing n f c))) → IsFairAs p f w (and_then o (settles_how (Push n) f))
made_fair p f n w (Went m (Got v)) h = (h, refl)
made_fair p f n w (Went m (Calls g)) h = (h, refl)
made_fair p f n w (Went m (Makes g v)) h = (h, refl)
made_fair p f n w (Stopped m why) h = h

made_may : (p : Setting) (q : Frames) (f : Frame) (n : ℕ) (o : Outcome Came) → MayReturn p q (and_then o (settles_how (Push n) f))
made_may p q f n (Went m c) = tt
made_may p q f n (Stopped m why) = tt

pub open_by : (p : Setting) (f : Frame) (w : World) (o : Outcome Act) → IsFairAs p f w o → IsOpen o
open_by p f w (Went n act) h = tt
open_by p f w (Stopped n (Throws v)) h = tt
open_by p f w (Stopped n (Errs c)) h = tt
open_by p f w (Stopped n (Faults fault)) h = tt
open_by p f w (Stopped n (Fills limit)) h = tt
open_by p f w (Stopped n Sticks) h = h.1

module _ (p : Setting) (q : Frames) (v : Value) (n : ℕ) (w : World) (held : IsSoundAndSized p w q) (this : 0 < length (newest q).locals) (live : 0 < length q.living) (fair : IsFairPart p w (resumes p (newest q) (waits.New n) v w)) where
  abbrev came : Outcome Came
  came = new p v (reverse (take n (newest q).stack)) w

  pub makes_fair : IsFairAs p (newest q) w (makes_here p (newest q) v n w)
  makes_fair = made_fair p (newest q) n w came fair

  pub makes_open : IsOpen (makes_here p (newest q) v n w)
  makes_open = open_by p (newest q) w (makes_here p (newest q) v n w) makes_fair

  pub makes_is : made_of p w q v n ≡ step_of_turn p (turn_of p q (makes_here p (newest q) v n w))
  makes_is = made_resumed p (newest q) (under q.living) n came ∙ acted_is p w q (makes_here p (newest q) v n w) held.sized live makes_fair

  pub makes_turn : IsUnstuck (made_of p w q v n) → IsFairTurn p (turn_of p q (makes_here p (newest q) v n w))
  makes_turn free = record {
    held = turn_held p w q (makes_here p (newest q) v n w) held.sized this makes_fair (made_may p q (newest q) n came);
    free = subst (λ (s : Stepped). IsUnstuck s) makes_is free;
  }

-- ---- a frame that waited for anything

resumed_waiting : (p : Setting) (f : Frame) (fs : List Frame) (o : Outcome Top) → after_resume p f fs o ≡ after_resume p (waiting waits.Not f) fs o
resumed_waiting p f fs (Went w top) = refl
resumed_waiting p f fs (Stopped w why) = stops_bare p w f fs why

waited_is : (p : Setting) (w : World) (v : Value) (q : Frames) (wait : Wait) → 0 < length q.living → wait ≡ (newest q).wait
    → gives_back p w v q.living ≡ after_resume p (waiting waits.Not (newest q)) (under q.living) (resumes p (waiting waits.Not (newest q)) wait v w)
waited_is p w v q wait live e =
    ap (gives_back p w v) (living_is q live)
    ∙ ap (λ (x : Wait). after_resume p (newest q) (under q.living) (resumes p (waiting waits.Not (newest q)) x v w)) (sym e)
    ∙ resumed_waiting p (newest q) (under q.living) (resumes p (waiting waits.Not (newest q)) wait v w)

-- ---- what the code of a frame that goes on relies on: `q` are the frames as they waited, and `r` with the newest waiting no more

abbrev awake : Frames → Frames
awake q = with_newest (waiting waits.Not) q

first_size_is : (p : Setting) (limits : Limits) (q : Frames) → IsSized p limits q → 0 < length q.living → newest_size q ≡ size_for p (newest q)
first_size_is p limits q s live = ap first_size (s.sizes ∙ ap (map (size_for p)) (living_is q live))

arguments_there : (wait : Wait) (f : Frame) → HasArguments wait f → taken_by_return wait ≤ length f.stack
arguments_there (waits.New n) f h = h
arguments_there waits.Not f h = omega arith
arguments_there waits.Push f h = omega arith
arguments_there waits.Drop f h = omega arith
arguments_there (waits.Keep v) f h = omega arith
arguments_there waits.Again f h = omega arith

module _ (p : Setting) (w : World) (v : Value) (q r : Frames) (live : 0 < length q.living) (held : IsSoundAndSized p w q) (takes : CanTake p w v (newest q)) (e : r ≡ awake q) where
  pub awake_ready : (wait : Wait) → wait ≡ (newest q).wait → HasFrameRoom (taken_by_return wait) (put_by_return wait) r
  awake_ready wait is =
      let t = takes.there in
      let most : (newest_size q).stack ≡ t.routine.max_stack = ap (λ (s : Size). s.stack) (first_size_is p w.heap.limits q held.sized live) ∙ ap (λ (o : Option Routine). (size_of_routine o).stack) t.body in
      let there = arguments_there wait (newest q) (subst (λ (x : Wait). HasArguments x (newest q)) (sym is) takes.arguments) in
      let room = subst (λ (x : Wait). length (newest q).stack + put_by_return x ≤ t.routine.max_stack + taken_by_return x) (sym is) t.room in
      let place = t.place in
      subst (HasFrameRoom (taken_by_return wait) (put_by_return wait)) (sym e) (record { live = omega arith; operands = there; room = omega (arith, room, most); place = place })

  pub awake_there : IsStateThere p.linked w.heap (newest r)
  awake_there =
      let t = takes.there in
      subst (λ (x : Frames). IsStateThere p.linked w.heap (newest x)) (sym e) (record { stack = t.stack; locals = t.locals; scopes = t.scopes; saved = t.saved; home = t.home })

  pub awake_sized : (f : Frame → Frame) (k : Frames) → k ≡ with_newest f r → (f (waiting waits.Not (newest q))).method ≡ (newest q).method → IsSized p w.heap.limits k
  awake_sized f k is m = subst (IsSized p w.heap.limits) (sym (is ∙ ap (with_newest f) e)) (top_sized p w.heap.limits q (f (waiting waits.Not (newest q))) held.sized live m)

  pub awake_held : IsSoundAndSized p w r
  awake_held = record { sound = held.sound; sized = subst (IsSized p w.heap.limits) (sym e) (top_sized p w.heap.limits q (waiting waits.Not (newest q)) held.sized live refl) }

  pub awake_this : 0 < length (newest r).locals
  awake_this = let this = takes.there.this in subst (λ (x : Frames). 0 < length (newest x).locals) (sym e) this

  pub awake_living : newest r ∷ under r.living ≡ r.living
  awake_living = subst (λ (x : Frames). newest x ∷ under x.living ≡ x.living) (sym e) refl

  -- what it does, by the way in which it waited
  pub awake_is : (wait : Wait) → wait ≡ (newest q).wait → gives_back p w v q.living ≡ after_resume p (newest r) (under r.living) (resumes p (newest r) wait v w)
  awake_is wait is = waited_is p w v q wait live is ∙ ap (λ (x : Frames). after_resume p (newest x) (under x.living) (resumes p (newest x) wait v w)) (sym e)

  pub awake_fair : (wait : Wait) → wait ≡ (newest q).wait → IsFairPart p w (resumes p (newest r) wait v w)
  awake_fair wait is = subst (λ (x : Frames). IsFairPart p w (resumes p (newest x) wait v w)) (sym e) (subst (λ (x : Wait). IsFairPart p w (resumes p (waiting waits.Not (newest q)) x v w)) (sym is) takes.fair)

-- ---- the newest frame is left

left_sizes : (p : Setting) (f : Frame) (fs : List Frame) (ss : List Size) → ss ≡ map (size_for p) (f ∷ fs) → rest_of ss ≡ map (size_for p) fs
left_sizes p f fs ss e = ap rest_of e

pub left_held : (p : Setting) (w : World) (q r : Frames) → IsSoundAndSized p w (bare_newest q) → r ≡ after_leave q → IsSoundAndSized p w r
left_held p w q r h e = subst (IsSoundAndSized p w) (sym e) (record { sound = h.sound; sized = record { sizes = left_sizes p (bare_frame (newest q)) (under q.living) q.sizes h.sized.sizes; frames = h.sized.frames; values = h.sized.values } })

pub first_takes : (p : Setting) (w : World) (v : Value) (q r : Frames) → r ≡ after_leave q → 0 < length r.living → FirstCanTake p w v (under q.living) → CanTake p w v (newest r)
first_takes p w v q r e live h = go r.living live (subst (λ (x : Frames). FirstCanTake p w v x.living) (sym e) h)
  where
    go : (fs : List Frame) → 0 < length fs → FirstCanTake p w v fs → CanTake p w v (newest_of fs)
    go [] b h = absurd (omega arith)
    go (f ∷ fs) b h = h

pub none_by : (fs : List Frame) → length fs ≡ 0 → fs ≡ []
none_by [] e = refl
none_by (f ∷ fs) e = absurd (omega (arith, e))

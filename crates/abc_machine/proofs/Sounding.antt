-- What is relied on follows from soundness.
use Rattle.std.proofs.Common.{◌≡◌, ◌<◌, ◌^◌, List, [], ◌∷◌, length, take, reverse, refl, ap, ◌∙◌, subst, arith}
use Rattle.abc_heap_values.specs.declared.values.Value.{Value}
use Rattle.abc_run_finish.specs.Ending.{IsUnstuck}
use Rattle.abc_meaning_sound.proofs.Fared.{acts_fair, news_fair, starts_fair}
use Rattle.abc_meaning_sound.proofs.Waited.{waiting_frames}
use Rattle.abc_meaning.specs.Fair.{IsFairAs, IsFairPart, IsLeft, IsWaiting}
use Rattle.abc_heap_store.specs.Heap.{Heap}
use Rattle.abc_run_state.proofs.Keeping.{there_grown}
use Rattle.abc_meaning.specs.ThrowLaws.{IsVerifiedSetting}
use Rattle.abc_meaning.specs.Sound.{AreTypings, IsSound, Typings, WaitSound, WorldSound}
use Rattle.abc_meaning.specs.Step.{resumes, runs, step_of}
use Rattle.abc_meaning.specs.Throwing.{Machine, Stepped, last_script}
use Rattle.abc_objects.proofs.Grown.{exists_grown, grows_self}
use Rattle.abc_objects.specs.Growing.{Grows}
use Rattle.abc_objects.specs.Values.{Exists}
use Rattle.abc_link_names.specs.Linked.{LinkedFile}
use Rattle.abc_frames.specs.Frame.{Frame, newest, under, waiting}
use Rattle.abc_frames.specs.declared.records.Wait.{Wait}
use Rattle.abc_frames.specs.declared.records.Wait.TheVariants as waits
use Rattle.abc_meaning.specs.At.{Act, Goes, Returns}
use Rattle.abc_run_state.specs.Outer.{Outer, setting_in, world}
use Rattle.abc_run_state.specs.Turns.{turn_of}
use Rattle.abc_meaning.specs.Entering.{starts_script}
use Rattle.abc_meaning.specs.Making.{new}
use Rattle.abc_meaning.specs.Setting.{Setting, routine_of}
use Rattle.abc_meaning.specs.World.{Outcome, Stopped, Went, World, and_then, pure}
use Rattle.abc_run_state.specs.declared.state.State.{State}
use Rattle.abc_verify_typing.proofs.Lists.{Each-reverse}
use Rattle.abc_verify_typing.specs.Lists.{Each}
use Rattle.abc_meaning_sound.proofs.Filed.{definitions, some_script}
use Rattle.abc_meaning_sound.proofs.Never.{stays_sound}
use Rattle.abc_meaning_sound.proofs.Lists.{each_at}
use Rattle.abc_run_finish.specs.Fairly.{CanStart, FirstCanTake, HasArguments, IsFairTurn}
use Rattle.abc_run_finish.specs.Steps.{IsReached, machine, step_here, step_of_turn}
use Rattle.abc_run_finish.proofs.Stepped.{free_of}
use Rattle.abc_run_finish.proofs.Turned.{MayReturn, acted_is, living_is, turn_held}

-- ---- a frame that waits, in a heap that grew

waiting_grown : (p : Setting) (a b : Heap) (f : Frame) → Grows a b → IsWaiting p a f → IsWaiting p b f
waiting_grown p a b f g t =
    let there = there_grown p.linked a b f g (record { stack = t.stack; locals = t.locals; scopes = t.scopes; saved = t.saved; home = t.home }) in
    record { stack = there.stack; locals = there.locals; scopes = there.scopes; saved = there.saved; home = there.home; routine = t.routine; body = t.body; room = t.room; place = t.place; this = t.this }

each_grown : (l : LinkedFile) (a b : Heap) (vs : List Value) → Grows a b → Each (Exists l a) vs → Each (Exists l b) vs
each_grown l a b [] g e = tt
each_grown l a b (v ∷ vs) g e = (exists_grown l a b v g e.0, each_grown l a b vs g e.1)

left_self : (p : Setting) (n : World) → WorldSound p n → IsLeft p n n
left_self p n s = record { sound = s; grows = grows_self n.heap; limits = refl }

fair_then : {X Y : Type 0} (p : Setting) (w : World) (o : Outcome X) (f : X → Y) → IsFairPart p w o → IsFairPart p w (and_then o (λ x. pure (f x)))
fair_then p w (Went n x) f h = h
fair_then p w (Stopped n why) f h = h

-- ---- what a frame that waits does with what returns: in world `w` it is sound, and in `n` the value comes

module _ (p : Setting) (typings : Typings) (w n : World) (v : Value) (verified : IsVerifiedSetting p) (typed : AreTypings p typings) (left : IsLeft p w n) (value : Exists p.linked n.heap v) where
  arguments_by : (f : Frame) (wait : Wait) → WaitSound p typings w.heap f wait → HasArguments wait f
  arguments_by f waits.Push s = tt
  arguments_by f waits.Drop s = tt
  arguments_by f (waits.Keep k) s = tt
  arguments_by f waits.Again s = tt
  arguments_by f (waits.New k) s = s.there
  arguments_by f waits.Not s = absurd s

  resumes_fair : (f : Frame) (wait : Wait) → WaitSound p typings w.heap f wait → IsFairPart p n (resumes p (waiting waits.Not f) wait v n)
  resumes_fair f waits.Push s = left_self p n left.sound
  resumes_fair f waits.Drop s = left_self p n left.sound
  resumes_fair f (waits.Keep k) s = left_self p n left.sound
  resumes_fair f waits.Again s = left_self p n left.sound
  resumes_fair f (waits.New k) s =
      let args = reverse (take k f.stack) in
      let there = Each-reverse (Exists p.linked n.heap) (take k f.stack) (each_grown p.linked w.heap n.heap (take k f.stack) left.grows s.exist) in
      fair_then p n (new p v args n) _ (news_fair p typings n v args verified typed left.sound value (each_at (Exists p.linked n.heap) args there))
  resumes_fair f waits.Not s = absurd s

  pub below_takes : (f : Frame) (fs : List Frame) → IsSound p typings (record { world = w; frames = f ∷ fs }) → FirstCanTake p n v fs
  below_takes f [] s = tt
  below_takes f (g ∷ gs) s =
      let waits_sound = s.frames.1.0.waits in
      record {
        there = waiting_grown p w.heap n.heap g left.grows (waiting_frames p typings w f (g ∷ gs) verified typed s 0 g refl);
        arguments = arguments_by g g.wait waits_sound;
        fair = resumes_fair g g.wait waits_sound;
      }

-- ---- a state that a run reaches

module _ (l : LinkedFile) (out : Outer) (s : State) (reached : IsReached l out s) where
  abbrev p : Setting
  p = setting_in l out

  abbrev here : World
  here = world s out

  pub scripts_there : 0 < length l.file.scripts
  scripts_there = some_script l reached.verified.linked

  pub scripts_few : length l.file.scripts < 2 ^ 32
  scripts_few = let count = (definitions l reached.verified.linked).script_count in omega (arith, count)

  pub step_free : IsUnstuck (step_here l out s)
  step_free = free_of p reached.typings (step_here l out s) (stays_sound p reached.typings (machine s out) reached.verified reached.typed reached.sound)

  -- ---- over no frame the last script is started

  start_fair : s.frames.living ≡ [] → IsFairPart p here (starts_script p (last_script p) here)
  start_fair none =
      let q : List Frame → Machine = λ fs. record { world = here; frames = fs } in
      starts_fair p reached.typings here reached.verified reached.typed (subst (λ (fs : List Frame). IsSound p reached.typings (q fs)) none reached.sound)

  pub can_start : s.frames.living ≡ [] → CanStart l out s
  can_start none = record {
    over = reached.sound.world.stands;
    none = none;
    known = reached.known;
    scripts = scripts_there;
    few = scripts_few;
    started = reached.sound.world.scripts;
    sized = reached.sized;
    fair = start_fair none;
    free = step_free;
  }

  -- ---- and else the newest frame's instruction is run

  module _ (live : 0 < length s.frames.living) where
    abbrev pub ran : Outcome Act
    ran = runs p (newest s.frames) (routine_of p (newest s.frames).method) here

    newest_sound : IsSound p reached.typings (record { world = here; frames = newest s.frames ∷ under s.frames.living })
    newest_sound =
        let q : List Frame → Machine = λ fs. record { world = here; frames = fs } in
        subst (λ (fs : List Frame). IsSound p reached.typings (q fs)) (living_is s.frames live) reached.sound

    act_fair : IsFairAs p (newest s.frames) here ran × (0 < length (newest s.frames).locals)
    act_fair = acts_fair p reached.typings here (newest s.frames) (under s.frames.living) reached.verified reached.typed newest_sound

    may_return : (o : Outcome Act) → IsFairAs p (newest s.frames) here o → MayReturn p s.frames o
    may_return (Went n (Goes top)) fair = tt
    may_return (Went n (Returns v)) fair = below_takes p reached.typings here n v reached.verified reached.typed fair.0 fair.1 (newest s.frames) (under s.frames.living) newest_sound
    may_return (Stopped n why) fair = tt

    pub step_is : step_here l out s ≡ step_of_turn p (turn_of p s.frames ran)
    step_is = ap (step_of p here) (living_is s.frames live) ∙ acted_is p here s.frames ran reached.sized live act_fair.0

    pub turn_fair : IsFairTurn p (turn_of p s.frames ran)
    turn_fair = record {
      held = turn_held p here s.frames ran reached.sized act_fair.1 act_fair.0 (may_return ran act_fair.0);
      free = subst (λ (r : Stepped). IsUnstuck r) step_is step_free;
    }

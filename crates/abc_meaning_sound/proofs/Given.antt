-- A value that a call gives is there.
use Rattle.std.proofs.Common.{◌≡◌, ℕ, zero, suc, ◌+◌, List, [], ◌∷◌, length, refl, ap, subst}
use Rattle.std.specs.Prelude.{Bool, true, false, nat_le, Some, None, if◌then◌else◌}
use Rattle.std.specs.declared.option.Option.{Option}
use Rattle.abc_meaning.specs.At.{Above, Act, Goes, Returns, Stays, Top}
use Rattle.abc_heap_values.specs.declared.values.ObjId.{ObjId}
use Rattle.abc_heap_values.specs.declared.values.Value.{Value}
use Rattle.abc_heap_values.specs.declared.values.Value.TheVariants.{Obj, Undefined}
use Rattle.abc_meaning_sound.proofs.Fared.{acts_fair}
use Rattle.abc_meaning.specs.Fair.{IsFairAs}
use Rattle.abc_heap_store.specs.declared.records.Limit.{Limit}
use Rattle.abc_heap_store.specs.declared.records.Limit.TheVariants.{Frames, Stack}
use Rattle.abc_heap_store.specs.declared.records.What.TheVariants.{Plain}
use Rattle.abc_objects.specs.Values.{Exists}
use Rattle.abc_frames.specs.Frame.{Frame, waiting}
use Rattle.abc_frames.specs.declared.records.Wait.TheVariants as waits
use Rattle.abc_file_types.specs.declared.code.Handler.{Handler}
use Rattle.abc_meaning_sound.proofs.Never.{are_typings, stays_sound, typings}
use Rattle.abc_meaning.specs.Objects.{new_of_host}
use Rattle.abc_meaning.specs.Setting.{Setting, routine_of}
use Rattle.abc_meaning.specs.World.{Errs, Faults, Fills, Outcome, Run, Sticks, Stop, Stopped, Throws, Went, World, pure, stop, ◌>>◌}
use Rattle.abc_meaning.specs.ThrowLaws.{IsVerifiedSetting}
use Rattle.abc_meaning.specs.Sound.{AreTypings, IsSound, SteppedSound, Typings}
use Rattle.abc_meaning.specs.Step.{after_act, gives_back, put_on, puts, after_resume, resumes, runs, settles, size_of_frame, size_of_frames, step}
use Rattle.abc_meaning.specs.Throwing.{Done, End, Ends, FuelSpent, Full, Machine, Profile, Stepped, Steps, Stuck, Uncaught, catcher, caught_at, goes_on, has_stack, lands, stops, throws_made, unwinds}
use Rattle.abc_meaning.specs.Calls.{Gives, Replied, begins_call, call_meaning, replies_for, value_at_end, silent, then_replies, value_returned}
use Rattle.abc_meaning_sound.specs.CallLaws.{CallsGiveThere}
use Rattle.abc_meaning_sound.proofs.Called.{call_begins}
use Rattle.abc_meaning_sound.proofs.Left.{silent_sound}

-- ---- the run isn't done where a value returns to a frame

abbrev IsDone : Stepped → World → Type 0
IsDone s w = s ≡ Ends w Done

module _ (p : Setting) (u : World) where
  lands_on : (w : World) (v : Value) (f : Frame) (fs : List Frame) (o : Option Handler) (s : Stepped) → (IsDone s u → ⊥) → IsDone (lands p w v f fs o s) u → ⊥
  lands_on w v f fs None s h d = h d
  lands_on w v f fs (Some handler) s h d = go (has_stack (routine_of p f.method)) d
    where
      go : (b : Bool) → IsDone (if b then goes_on w (caught_at v handler.target f ∷ fs) else Ends w Stuck) u → ⊥
      go true e = cc
      go false e = cc

  unwinds_on : (w : World) (v : Value) (fs : List Frame) → IsDone (unwinds p w v fs) u → ⊥
  unwinds_on w v [] d = cc
  unwinds_on w v (f ∷ fs) d = lands_on w v f fs (catcher p w v f) (unwinds p w v fs) (unwinds_on w v fs) d

  throws_on : (fs : List Frame) (o : Outcome ObjId) → IsDone (throws_made p fs o) u → ⊥
  throws_on fs (Went w o) d = unwinds_on w (Obj o) fs d
  throws_on fs (Stopped w (Throws v)) d = cc
  throws_on fs (Stopped w (Errs c)) d = cc
  throws_on fs (Stopped w (Faults x)) d = cc
  throws_on fs (Stopped w (Fills limit)) d = cc
  throws_on fs (Stopped w Sticks) d = cc

  stops_on : (w : World) (f : Frame) (fs : List Frame) (why : Stop) → IsDone (stops p w (f ∷ fs) why) u → ⊥
  stops_on w f fs (Throws v) d = unwinds_on w v (f ∷ fs) d
  stops_on w f fs (Errs c) d = throws_on (f ∷ fs) (new_of_host p c Plain w) d
  stops_on w f fs (Faults x) d = cc
  stops_on w f fs (Fills limit) d = cc
  stops_on w f fs Sticks d = cc

  abbrev within : Bool → Limit → Run (Unit {0})
  within b which = if b then pure tt else stop (Fills which)

  puts_on : (w : World) (g f : Frame) (fs : List Frame) → IsDone (puts p w g (f ∷ fs)) u → ⊥
  puts_on w g f fs d = go (nat_le (length (f ∷ fs) + 1) w.heap.limits.frames) (nat_le (size_of_frames p (f ∷ fs) + size_of_frame p g) w.heap.limits.stack) d
    where
      go : (a b : Bool) → IsDone (put_on p g (f ∷ fs) ((within a Frames >> within b Stack) w)) u → ⊥
      go true true e = cc
      go true false e = cc
      go false b e = cc

  settles_on : (w : World) (fs : List Frame) (top : Top) → IsDone (settles p w fs top) u → ⊥
  settles_on w fs (Stays f) d = cc
  settles_on w fs (Above g f) d = puts_on w g f fs d

  resumed_on : (f : Frame) (fs : List Frame) (o : Outcome Top) → IsDone (after_resume p f fs o) u → ⊥
  resumed_on f fs (Went w top) d = settles_on w fs top d
  resumed_on f fs (Stopped w why) d = stops_on w f fs why d

  -- so where it is done, what was returned is there
  returns_there : (n : World) (v : Value) (fs : List Frame) → Exists p.linked n.heap v → IsDone (gives_back p n v fs) u → Exists p.linked u.heap v
  returns_there n v [] x d = let same : n ≡ u = cc in subst (λ (w : World). Exists p.linked w.heap v) same x
  returns_there n v (f ∷ fs) x d = absurd (resumed_on f fs (resumes p (waiting waits.Not f) f.wait v n) d)

  value_there : (w : World) (f : Frame) (fs : List Frame) (o : Outcome Act) → IsFairAs p f w o → IsDone (after_act p f fs o) u → Exists p.linked u.heap (value_returned o)
  value_there w f fs (Went n (Goes top)) fair d = tt
  value_there w f fs (Went n (Returns v)) fair d = returns_there n v fs fair.1 d
  value_there w f fs (Stopped n why) fair d = tt

-- ---- steps of a call

-- what it gives is there
abbrev GivesThere : Setting → Replied → Type 0
GivesThere p r = (v : Value) → r.reply ≡ Gives v → Exists p.linked r.world.heap v

ended_there : (p : Setting) (x : Value) (w : World) (e : End) (go : Machine → Replied) → (e ≡ Done → Exists p.linked w.heap x) → GivesThere p (then_replies x (Ends w e) go)
ended_there p x w Done go h v q = let same : x ≡ v = cc in subst (Exists p.linked w.heap) same (h refl)
ended_there p x w (Uncaught t) go h v q = absurd cc
ended_there p x w (Profile n i fault) go h v q = absurd cc
ended_there p x w FuelSpent go h v q = absurd cc
ended_there p x w (Full limit) go h v q = absurd cc
ended_there p x w Stuck go h v q = absurd cc

module _ (p : Setting) (types : Typings) (verified : IsVerifiedSetting p) (typed : AreTypings p types) where
  returned_there : (w u : World) (fs : List Frame) → IsSound p types (record { world = w; frames = fs }) → IsDone (step p (record { world = w; frames = fs })) u → Exists p.linked u.heap (value_at_end p w fs)
  returned_there w u [] s d = tt
  returned_there w u (f ∷ fs) s d = value_there p u w f fs (runs p f (routine_of p f.method) w) (acts_fair p types w f fs verified typed s).0 d

  then_there : (x : Value) (r : Stepped) (go : Machine → Replied) → SteppedSound p types r → ((w : World) → IsDone r w → Exists p.linked w.heap x) → ((q : Machine) → IsSound p types q → GivesThere p (go q)) → GivesThere p (then_replies x r go)
  then_there x (Steps q) go s d h = h q s
  then_there x (Ends w e) go s d h = ended_there p x w e go (λ q. d w (ap (Ends w) q))

  replies_there : (fuel : ℕ) (q : Machine) → IsSound p types q → GivesThere p (replies_for p fuel q)
  replies_there zero q s v e = absurd cc
  replies_there (suc fuel) q s v e =
      then_there (value_at_end p q.world q.frames) (step p q) (replies_for p fuel) (stays_sound p types q verified typed s) (λ w d. returned_there q.world w q.frames s d) (λ n t. replies_there fuel n t) v e

pub calls_give : CallsGiveThere
unfolding call_meaning
calls_give p fuel w m args v verified z exported ns e =
    let types = typings p verified in
    let typed = are_typings p verified in
    then_there p types verified typed Undefined (begins_call p (silent w) m args) (replies_for p fuel) (call_begins p types (silent w) m args verified typed (silent_sound p w z) exported ns) (λ u d. tt) (λ q s. replies_there p types verified typed fuel q s) v e

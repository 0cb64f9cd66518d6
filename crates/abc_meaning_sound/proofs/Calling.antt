-- What comes of a call of a verified file can be told.
use Rattle.std.proofs.Common.{◌≡◌, ℕ, ℤ, zero, suc, List, [], ap}
use Rattle.abc_base.specs.Ranges.{IsNumber}
use Rattle.abc_base.specs.declared.names.Fault.{Fault}
use Rattle.abc_meaning_sound.proofs.Called.{call_begins}
use Rattle.abc_meaning_sound.proofs.Exported.{owned_by_script}
use Rattle.abc_meaning_sound.proofs.Left.{silent_sound}
use Rattle.abc_meaning.specs.Calls.{EndsAs, Replied, begins_call, call_meaning, enters_call, entered_call, replies_for, value_at_end, silent, stops_call, then_replies}
use Rattle.abc_meaning.specs.Exports.{IsScriptMethod}
use Rattle.abc_meaning_sound.specs.CallLaws.{CallsLeaveSound, RunsLeaveSound}
use Rattle.abc_heap_values.specs.declared.values.Value.{Value}
use Rattle.abc_heap_values.specs.declared.values.Value.TheVariants.{Undefined}
use Rattle.abc_link_names.specs.PartsByNumber.{script_at}
use Rattle.abc_frames.specs.Frame.{Frame}
use Rattle.abc_verify_typing.specs.Lists.{Each}
use Rattle.abc_meaning.specs.ThrowLaws.{IsVerifiedSetting}
use Rattle.abc_meaning.specs.Meaning.{first_state}
use Rattle.abc_meaning.specs.Sound.{AreTypings, IsSound, SteppedSound, Typings, WorldSound}
use Rattle.abc_meaning.specs.Step.{puts, step}
use Rattle.abc_meaning.specs.Throwing.{Done, End, Ends, FuelSpent, Full, Machine, Profile, Stepped, Steps, Stuck, Uncaught, last_script}
use Rattle.abc_meaning.specs.World.{Errs, Faults, Fills, Outcome, Sticks, Stop, Stopped, Throws, Went, World}
use Rattle.abc_meaning.specs.Setting.{Setting}
use Rattle.abc_meaning_sound.proofs.Never.{are_typings, given, stays_sound, the_first_is_sound, typings}
use Rattle.abc_meaning_sound.specs.Placed.{CallsCanBeTold, RunsEndSound}
use Rattle.abc_meaning.specs.Told.{IsInstruction}
use Rattle.abc_meaning_sound.proofs.Placing.{init_placed, placed, step_placed, there}
use Rattle.abc_meaning_sound.proofs.Stopping.{TellsAt, puts_tells, stops_tells}

same_end : (e f : End) → EndsAs e ≡ EndsAs f → e ≡ f
same_end e f q = cc

module _ (p : Setting) (types : Typings) (v : IsVerifiedSetting p) (typed : AreTypings p types) (m i : ℕ) (fault : Fault) where
  -- it is told so only where a step ends so
  ended_tells : (x : Value) (w : World) (e : End) (go : Machine → Replied) → (then_replies x (Ends w e) go).reply ≡ EndsAs (Profile m i fault) → e ≡ Profile m i fault
  ended_tells x w Done go q = absurd cc
  ended_tells x w (Uncaught t) go q = same_end (Uncaught t) (Profile m i fault) q
  ended_tells x w (Profile n j other) go q = same_end (Profile n j other) (Profile m i fault) q
  ended_tells x w FuelSpent go q = same_end FuelSpent (Profile m i fault) q
  ended_tells x w (Full limit) go q = same_end (Full limit) (Profile m i fault) q
  ended_tells x w Stuck go q = same_end Stuck (Profile m i fault) q

  then_placed : (x : Value) (s : Stepped) (go : Machine → Replied) → SteppedSound p types s → (TellsAt s m i fault → IsInstruction p.linked.file m i)
      → ((q : Machine) → IsSound p types q → (go q).reply ≡ EndsAs (Profile m i fault) → IsInstruction p.linked.file m i) → (then_replies x s go).reply ≡ EndsAs (Profile m i fault) → IsInstruction p.linked.file m i
  then_placed x (Steps q) go h here more e = more q h e
  then_placed x (Ends w end) go h here more e = here (w, ap (Ends w) (ended_tells x w end go e))

  replies_placed : (fuel : ℕ) (q : Machine) → IsSound p types q → (replies_for p fuel q).reply ≡ EndsAs (Profile m i fault) → IsInstruction p.linked.file m i
  replies_placed zero q s e = absurd cc
  replies_placed (suc fuel) q s e =
      then_placed (value_at_end p q.world q.frames) (step p q) (replies_for p fuel) (stays_sound p types q v typed s) (step_placed p types v typed m i fault q.world q.frames s.frames) (λ n h f. replies_placed fuel n h f) e

  -- ---- the beginning

  -- the first instruction of a method of the last script
  first_instruction : (n : ℕ) (w : World) → WorldSound p w → IsScriptMethod p n → IsInstruction p.linked.file n 0
  first_instruction n w z exported =
      let g = given p v in
      let body = (owned_by_script p g.file g.ops types typed n exported w z).body in
      let start = (typed n body.routine body.body).start in
      placed p types v typed n 0 body.routine start.0 body.body start.1

  -- where no frame is there, any other is told at the init of the last script
  else_placed : (x : Fault) → Profile (script_at p.linked.file (last_script p)).init 0 x ≡ Profile m i fault → IsInstruction p.linked.file m i
  else_placed x e = there p types v typed m i fault (script_at p.linked.file (last_script p)).init 0 x (init_placed p types v typed) e

  stopped_placed : (n : ℕ) (w : World) (why : Stop) → IsInstruction p.linked.file n 0 → TellsAt (stops_call p n w why) m i fault → IsInstruction p.linked.file m i
  stopped_placed n w (Faults x) at t = let e = t.1 in there p types v typed m i fault n 0 x at cc
  stopped_placed n w (Throws y) at t = let k = stops_tells p m i fault w [] (Throws y) t in else_placed k.0 k.1
  stopped_placed n w (Errs c) at t = let k = stops_tells p m i fault w [] (Errs c) t in else_placed k.0 k.1
  stopped_placed n w (Fills limit) at t = let k = stops_tells p m i fault w [] (Fills limit) t in else_placed k.0 k.1
  stopped_placed n w Sticks at t = let k = stops_tells p m i fault w [] Sticks t in else_placed k.0 k.1

  entered_placed : (n : ℕ) (o : Outcome Frame) → IsInstruction p.linked.file n 0 → TellsAt (entered_call p n o) m i fault → IsInstruction p.linked.file m i
  entered_placed n (Went w f) at t = absurd (puts_tells p m i fault w f [] t)
  entered_placed n (Stopped w why) at t = stopped_placed n w why at t

  called_placed : (fuel : ℕ) (w : World) (n : ℕ) (args : List ℤ) → WorldSound p w → IsScriptMethod p n → Each IsNumber args → (call_meaning p fuel w n args).reply ≡ EndsAs (Profile m i fault) → IsInstruction p.linked.file m i
  unfolding call_meaning
  called_placed fuel w n args z exported ns e =
      then_placed Undefined (begins_call p (silent w) n args) (replies_for p fuel) (call_begins p types (silent w) n args v typed (silent_sound p w z) exported ns)
      (entered_placed n (enters_call p n args (silent w)) (first_instruction n w z exported)) (λ q s f. replies_placed fuel q s f) e

pub calls_told : CallsLeaveSound → CallsCanBeTold
calls_told leave p fuel w m args v z exported ns =
    let left = leave p (typings p v) fuel w m args v (are_typings p v) z exported ns in
    record {
      sound = left.0;
      unstuck = left.1;
      placed = λ n i fault e. called_placed p (typings p v) v (are_typings p v) n i fault fuel w m args z exported ns e;
    }

pub runs_told : RunsLeaveSound → RunsEndSound
runs_told leave p limits fuel v counted small =
    let typed = are_typings p v in
    leave p (typings p v) fuel (first_state p limits) v typed (the_first_is_sound p (typings p v) limits v typed counted small)

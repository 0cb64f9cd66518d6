-- Steps and runs.
use Rattle.std.proofs.Common.{◌≡◌, zero, suc, List, [], ◌∷◌, length, refl, inr}
use Rattle.std.specs.Prelude.{Bool, true, false, Some, None, reverse, slice_get, take, if◌then◌else◌}
use Rattle.std.specs.declared.option.Option.{Option}
use Rattle.abc_heap_values.specs.declared.values.ObjId.{ObjId}
use Rattle.abc_heap_values.specs.declared.values.Value.{Value}
use Rattle.abc_heap_values.specs.declared.values.Value.TheVariants.{Obj}
use Rattle.abc_heap_store.specs.declared.records.Limit.TheVariants.{Frames, Stack}
use Rattle.abc_heap_store.specs.declared.records.What.TheVariants.{Plain}
use Rattle.abc_verify_typing.specs.Instructions.{opcode}
use Rattle.abc_verify_typing.specs.Rows.{Shape, row_at}
use Rattle.abc_frames.specs.Frame.{Frame}
use Rattle.abc_frames.specs.declared.records.Wait.{Wait}
use Rattle.abc_frames.specs.declared.records.Wait.TheVariants as waits
use Rattle.abc_file_types.specs.declared.code.Handler.{Handler}
use Rattle.abc_file_types.specs.declared.code.Instr.{Instr}
use Rattle.abc_verify_typing.specs.Effects.{Here}
use Rattle.abc_verify_typing.specs.Routines.{Routine}
use Rattle.abc_meaning.specs.Setting.{Setting, routine_of}
use Rattle.abc_meaning.specs.World.{Errs, Faults, Fills, Outcome, Run, Sticks, Stop, Stopped, Throws, Went, World}
use Rattle.abc_meaning.specs.At.{Above, Act, Doing, Goes, Returns, Stays, Top, waiting_frame}
use Rattle.abc_meaning.specs.Table.{act_of}
use Rattle.abc_meaning.specs.Meaning.{Ended, runs_for, then_runs}
use Rattle.abc_meaning.specs.Step.{after_act, does, does_instr, does_row, gives_back, put_on, puts, after_resume, resumes, room_for_frame, runs, settles, size_of_frame, size_of_frames, after_start, step, step_of, or_stuck}
use Rattle.abc_meaning.specs.Tests.{at_frame, can_run}
use Rattle.abc_meaning.specs.Throwing.{Ends, Machine, Stepped, Steps, Stuck, catcher, caught_at, goes_on, has_stack, lands, last_script, stops, throws_made, unwinds}
use Rattle.abc_meaning.specs.Front.{Changes, IsWorldFront, FrontKeeps, Starts, left_by}
use Rattle.abc_meaning.specs.OutputLaws.{RunsAppend, StepsAppend, StepsChangeOnce}
use Rattle.abc_meaning.proofs.Adding.{Once, Quiet, Starting, changes_first, done_quiet, front_of, front_on, keeps_on, keeps_self, once, room_quiet, same_front, starts_on, stop_quiet, then_quiet}
use Rattle.abc_meaning.proofs.Entering.{new_of_host_quiet, starts_starting}
use Rattle.abc_meaning.proofs.Tabled.{ActOnce, act_once}
use Rattle.abc_meaning.proofs.Values.{new_quiet}

-- ---- an instruction

module _ (p : Setting) where
  tested_once : (w : World) (b : Bool) (m : Run Act) → Once w (m w) → Once w (or_stuck b m w)
  tested_once w true m a = a
  tested_once w false m a = once w _ (stop_quiet w Sticks)

  does_once : (w : World) (h : Here) (f : Frame) (d : Option Doing) → ((x : Doing) → d ≡ Some x → ActOnce x) → Once w (does p h f d w)
  does_once w h f None g = once w _ (stop_quiet w Sticks)
  does_once w h f (Some d) g = tested_once w (can_run p h f w) (d (at_frame p h f)) ((g d refl).is w (at_frame p h f))

  row_once : (w : World) (r : Routine) (f : Frame) (i : Instr) (row : Option Shape) → Once w (does_row p r f i row w)
  row_once w r f i None = once w _ (stop_quiet w Sticks)
  row_once w r f i (Some row) = does_once w (record { file = p.linked; method = r; place = f.place; instr = i; row = row }) f (act_of (opcode i)) (λ d e. act_once (opcode i) d e)

  instr_once : (w : World) (r : Routine) (f : Frame) (i : Option Instr) → Once w (does_instr p r f i w)
  instr_once w r f None = once w _ (stop_quiet w Sticks)
  instr_once w r f (Some i) = row_once w r f i (row_at (opcode i))

  runs_once : (w : World) (f : Frame) (r : Option Routine) → Once w (runs p f r w)
  runs_once w f None = once w _ (stop_quiet w Sticks)
  runs_once w f (Some r) = instr_once w r f (slice_get r.code f.place)

  -- ---- what a step leaves

  record Leaves (w : World) (s : Stepped) : Type 0 where
    kept : FrontKeeps w (left_by s)

  record LeavesOnce (w : World) (s : Stepped) : Type 0 where
    one : Changes w (left_by s)

  self : (w : World) → FrontKeeps w w
  self w = keeps_self w

  leaves_on : (u w : World) (s : Stepped) → FrontKeeps u w → Leaves w s → Leaves u s
  leaves_on u w s a b = record { kept = keeps_on u w (left_by s) a b.kept }

  once_on : (u w : World) (s : Stepped) → Changes u w → Leaves w s → LeavesOnce u s
  once_on u w s a b = record { one = changes_first u w (left_by s) a b.kept }

  landed : (w : World) (b : Bool) (v : Value) (f : Frame) (fs : List Frame) (h : Handler) → Leaves w (if b then goes_on w (caught_at v h.target f ∷ fs) else Ends w Stuck)
  landed w true v f fs h = record { kept = self w }
  landed w false v f fs h = record { kept = self w }

  lands_leave : (w : World) (v : Value) (f : Frame) (fs : List Frame) (h : Option Handler) (otherwise : Stepped) → Leaves w otherwise → Leaves w (lands p w v f fs h otherwise)
  lands_leave w v f fs None otherwise a = a
  lands_leave w v f fs (Some h) otherwise a = landed w (has_stack (routine_of p f.method)) v f fs h

  unwinds_leave : (w : World) (v : Value) (fs : List Frame) → Leaves w (unwinds p w v fs)
  unwinds_leave w v [] = record { kept = self w }
  unwinds_leave w v (f ∷ fs) = lands_leave w v f fs (catcher p w v f) (unwinds p w v fs) (unwinds_leave w v fs)

  made_leave : (u : World) (fs : List Frame) (o : Outcome ObjId) → Quiet u o → Leaves u (throws_made p fs o)
  made_leave u fs (Went w o) a = leaves_on u w (unwinds p w (Obj o) fs) a.kept (unwinds_leave w (Obj o) fs)
  made_leave u fs (Stopped w (Fills limit)) a = record { kept = a.kept }
  made_leave u fs (Stopped w (Throws v)) a = record { kept = a.kept }
  made_leave u fs (Stopped w (Errs c)) a = record { kept = a.kept }
  made_leave u fs (Stopped w (Faults fault)) a = record { kept = a.kept }
  made_leave u fs (Stopped w Sticks) a = record { kept = a.kept }

  stops_leave : (w : World) (fs : List Frame) (why : Stop) → Leaves w (stops p w fs why)
  stops_leave w fs (Throws v) = unwinds_leave w v fs
  stops_leave w fs (Errs c) = made_leave w fs _ (new_of_host_quiet p w c Plain)
  stops_leave w fs (Faults fault) = record { kept = self w }
  stops_leave w fs (Fills limit) = record { kept = self w }
  stops_leave w fs Sticks = record { kept = self w }

  room_for_quiet : (w : World) (g : Frame) (fs : List Frame) → Quiet w (room_for_frame p g fs w)
  room_for_quiet w g fs = then_quiet w _ _ (room_quiet w Frames (length fs) 1 w.heap.limits.frames) (λ n u. room_quiet n Stack (size_of_frames p fs) (size_of_frame p g) w.heap.limits.stack)

  put_leave : (u : World) (g : Frame) (fs : List Frame) (o : Outcome (Unit {0})) → Quiet u o → Leaves u (put_on p g fs o)
  put_leave u g fs (Went w x) a = record { kept = a.kept }
  put_leave u g fs (Stopped w why) a = leaves_on u w (stops p w fs why) a.kept (stops_leave w fs why)

  puts_leave : (w : World) (g : Frame) (fs : List Frame) → Leaves w (puts p w g fs)
  puts_leave w g fs = put_leave w g fs (room_for_frame p g fs w) (room_for_quiet w g fs)

  settles_leave : (w : World) (fs : List Frame) (top : Top) → Leaves w (settles p w fs top)
  settles_leave w fs (Stays f) = record { kept = self w }
  settles_leave w fs (Above g f) = puts_leave w g (f ∷ fs)

  resumes_quiet : (w : World) (f : Frame) (wait : Wait) (v : Value) → Quiet w (resumes p f wait v w)
  resumes_quiet w f waits.Push v = done_quiet w _
  resumes_quiet w f waits.Drop v = done_quiet w _
  resumes_quiet w f (waits.Keep kept) v = done_quiet w _
  resumes_quiet w f waits.Again v = done_quiet w _
  resumes_quiet w f (waits.New n) v = then_quiet w _ _ (new_quiet p w v (reverse (take n f.stack))) (λ i c. done_quiet i _)
  resumes_quiet w f waits.Not v = stop_quiet w Sticks

  resumed_leave : (u : World) (f : Frame) (fs : List Frame) (o : Outcome Top) → Quiet u o → Leaves u (after_resume p f fs o)
  resumed_leave u f fs (Went w top) a = leaves_on u w (settles p w fs top) a.kept (settles_leave w fs top)
  resumed_leave u f fs (Stopped w why) a = leaves_on u w (stops p w (f ∷ fs) why) a.kept (stops_leave w (f ∷ fs) why)

  gives_back_leave : (w : World) (v : Value) (fs : List Frame) → Leaves w (gives_back p w v fs)
  gives_back_leave w v [] = record { kept = self w }
  gives_back_leave w v (f ∷ fs) = resumed_leave w f fs (resumes p (waiting_frame waits.Not f) f.wait v w) (resumes_quiet w (waiting_frame waits.Not f) f.wait v)

  acted_once : (u : World) (f : Frame) (fs : List Frame) (o : Outcome Act) → Once u o → LeavesOnce u (after_act p f fs o)
  acted_once u f fs (Went w (Goes top)) a = once_on u w (settles p w fs top) a.one (settles_leave w fs top)
  acted_once u f fs (Went w (Returns v)) a = once_on u w (gives_back p w v fs) a.one (gives_back_leave w v fs)
  acted_once u f fs (Stopped w why) a = once_on u w (stops p w (f ∷ fs) why) a.one (stops_leave w (f ∷ fs) why)

  started_starts : (u : World) (o : Outcome Frame) → Starting u o → Starts u (left_by (after_start p o))
  started_starts u (Went w f) a = starts_on u w (left_by (puts p w f [])) a.starts (puts_leave w f []).kept
  started_starts u (Stopped w why) a = starts_on u w (left_by (stops p w [] why)) a.starts (stops_leave w [] why).kept

  -- the step that begins a run
  pub first_starts : (w : World) → Starts w (left_by (step_of p w []))
  first_starts w = started_starts w _ (starts_starting p w (last_script p))

  step_once : (w : World) (fs : List Frame) → LeavesOnce w (step_of p w fs)
  step_once w [] = record { one = inr (first_starts w) }
  step_once w (f ∷ fs) = acted_once w f fs _ (runs_once w f (routine_of p f.method))

pub steps_change : StepsChangeOnce
steps_change p q = (step_once p q.world q.frames).one

pub steps_append : StepsAppend
steps_append p q = front_of q.world (left_by (step p q)) (steps_change p q)

-- ---- runs

then_append : (u : World) (s : Stepped) (go : Machine → Ended) → IsWorldFront u (left_by s) → ((q : Machine) → IsWorldFront q.world (go q).world) → IsWorldFront u (then_runs s go).world
then_append u (Steps q) go a g = front_on u q.world (go q).world a (g q)
then_append u (Ends w e) go a g = a

pub runs_append : RunsAppend
runs_append p zero q = same_front q.world q.world refl
runs_append p (suc fuel) q = then_append q.world (step p q) (runs_for p fuel) (steps_append p q) (λ n. runs_append p fuel n)

-- What an instruction leaves to be done starts no script.
use Rattle.std.proofs.Common.{◌≡◌, ℕ, List, [], ◌∷◌, length, refl, ◌∙◌}
use Rattle.std.specs.Prelude.{Bool, true, false, ℤ, Ok, Err, Some, None, map, nat_eq, reverse, slice_get, take, if◌then◌else◌}
use Rattle.std.specs.declared.option.Option.{Option}
use Rattle.std.specs.declared.result.Result.{Result}
use Rattle.abc_base.specs.Hosts.{number_or_none, value_of}
use Rattle.abc_base.specs.declared.formula.Formula.{Formula}
use Rattle.abc_base.specs.declared.names.Fault.TheVariants as faults
use Rattle.abc_base.specs.declared.names.HostClass.TheVariants as hosts
use Rattle.abc_heap_values.specs.declared.values.ObjId.{ObjId}
use Rattle.abc_heap_values.specs.declared.values.Value.{Value}
use Rattle.abc_heap_values.specs.declared.values.Value.TheVariants.{Obj, Undefined}
use Rattle.abc_heap_values.specs.declared.numbers.Conversion.TheVariants.{ConvertD, ConvertS}
use Rattle.abc_heap_store.specs.declared.records.Full.{Full}
use Rattle.abc_heap_store.specs.declared.records.Limit.TheVariants.{Frames, Stack}
use Rattle.abc_heap_store.specs.declared.records.What.TheVariants.{Formula as AsFormula, Plain}
use Rattle.abc_run_finish.specs.Steps.{step_of_turn}
use Rattle.abc_meaning.specs.Logs.{world_left}
use Rattle.abc_meaning.specs.At.{Above, Act, Goes, Returns, Stays, Top, waiting_frame}
use Rattle.abc_meaning.specs.Step.{gives_back, put_on, puts, after_resume, resumes, room_for_frame, settles, size_of_frame, size_of_frames}
use Rattle.abc_meaning.specs.Throwing.{Ends, Stepped, Steps, Stuck, catcher, caught_at, goes_on, has_stack, lands, stops, throws_made, unwinds}
use Rattle.abc_meaning.specs.World.{Errs, Faults, Fills, Outcome, Run, Sticks, Stop, Stopped, Throws, Went, World, and_then}
use Rattle.abc_meaning.specs.Calling.{Came, calls_formula, calls_what, number_in_range, number_of_argument, trace}
use Rattle.abc_meaning.specs.Ops.{as_number, as_text}
use Rattle.abc_meaning.specs.Setting.{Setting, routine_of}
use Rattle.abc_meaning.proofs.Adding.{Quiet, done_quiet, each_quiet, if_quiet, room_quiet, some_quiet, stop_quiet, then_quiet, world_of}
use Rattle.abc_meaning.proofs.Entering.{converts_quiet, new_of_host_quiet}
use Rattle.abc_meaning.proofs.Values.{new_quiet}
use Rattle.abc_frames.specs.Frame.{Frame, Frames as Living, arguments, newest, room_for, under}
use Rattle.abc_frames.specs.declared.records.Size.{Size}
use Rattle.abc_frames.specs.declared.records.Wait.{Wait}
use Rattle.abc_frames.specs.declared.records.Wait.TheVariants as waits
use Rattle.abc_run_state.specs.Settling.{settles_how as settling}
use Rattle.abc_run_state.specs.Turns.{Turned, turn_of_act, turn_of_answer, turn_of_formula, bare_newest, entered_if, turn_of_left, size_for, turn_of_trace, turn_of, turned_to}
use Rattle.abc_run_state.specs.declared.state.How.{How}
use Rattle.abc_run_state.specs.declared.state.Left.{Left}
use Rattle.abc_run_state.specs.declared.state.Left.TheVariants as lefts
use Rattle.abc_run_state.specs.declared.state.Stop.{Stop as Why}
use Rattle.abc_file_types.specs.declared.code.Handler.{Handler}

-- ---- parts of a step

record Still {X : Type 0} (w : World) (o : Outcome X) : Type 0 where
  started : (world_of o).started ≡ w.started

still : {X : Type 0} (w : World) (o : Outcome X) → Quiet w o → Still w o
still w o a = record { started = a.kept.started }

then_still : {X Y : Type 0} (w : World) (o : Outcome X) (f : X → Run Y) → Still w o → ((n : World) (x : X) → Still n (f x n)) → Still w (and_then o f)
then_still w (Went n x) f a g = record { started = (g n x).started ∙ a.started }
then_still w (Stopped n why) f a g = record { started = a.started }

-- ---- what a step leaves

record Same (w : World) (s : Stepped) : Type 0 where
  started : (world_left s).started ≡ w.started

same_on : (u w : World) (s : Stepped) → w.started ≡ u.started → Same w s → Same u s
same_on u w s a b = record { started = b.started ∙ a }

module _ (p : Setting) where
  landed : (w : World) (b : Bool) (v : Value) (f : Frame) (fs : List Frame) (h : Handler) → Same w (if b then goes_on w (caught_at v h.target f ∷ fs) else Ends w Stuck)
  landed w true v f fs h = record { started = refl }
  landed w false v f fs h = record { started = refl }

  lands_same : (w : World) (v : Value) (f : Frame) (fs : List Frame) (h : Option Handler) (otherwise : Stepped) → Same w otherwise → Same w (lands p w v f fs h otherwise)
  lands_same w v f fs None otherwise a = a
  lands_same w v f fs (Some h) otherwise a = landed w (has_stack (routine_of p f.method)) v f fs h

  unwinds_same : (w : World) (v : Value) (fs : List Frame) → Same w (unwinds p w v fs)
  unwinds_same w v [] = record { started = refl }
  unwinds_same w v (f ∷ fs) = lands_same w v f fs (catcher p w v f) (unwinds p w v fs) (unwinds_same w v fs)

  made_same : (u : World) (fs : List Frame) (o : Outcome ObjId) → Still u o → Same u (throws_made p fs o)
  made_same u fs (Went w o) a = same_on u w (unwinds p w (Obj o) fs) a.started (unwinds_same w (Obj o) fs)
  made_same u fs (Stopped w (Fills limit)) a = record { started = a.started }
  made_same u fs (Stopped w (Throws v)) a = record { started = a.started }
  made_same u fs (Stopped w (Errs c)) a = record { started = a.started }
  made_same u fs (Stopped w (Faults fault)) a = record { started = a.started }
  made_same u fs (Stopped w Sticks) a = record { started = a.started }

  stops_same : (w : World) (fs : List Frame) (why : Stop) → Same w (stops p w fs why)
  stops_same w fs (Throws v) = unwinds_same w v fs
  stops_same w fs (Errs c) = made_same w fs _ (still w _ (new_of_host_quiet p w c Plain))
  stops_same w fs (Faults fault) = record { started = refl }
  stops_same w fs (Fills limit) = record { started = refl }
  stops_same w fs Sticks = record { started = refl }

  room_still : (w : World) (g : Frame) (fs : List Frame) → Still w (room_for_frame p g fs w)
  room_still w g fs = still w _ (then_quiet w _ _ (room_quiet w Frames (length fs) 1 w.heap.limits.frames) (λ n u. room_quiet n Stack (size_of_frames p fs) (size_of_frame p g) w.heap.limits.stack))

  put_same : (u : World) (g : Frame) (fs : List Frame) (o : Outcome (Unit {0})) → Still u o → Same u (put_on p g fs o)
  put_same u g fs (Went w x) a = record { started = a.started }
  put_same u g fs (Stopped w why) a = same_on u w (stops p w fs why) a.started (stops_same w fs why)

  settles_same : (w : World) (fs : List Frame) (top : Top) → Same w (settles p w fs top)
  settles_same w fs (Stays f) = record { started = refl }
  settles_same w fs (Above g f) = put_same w g (f ∷ fs) (room_for_frame p g (f ∷ fs) w) (room_still w g (f ∷ fs))

  resumes_quiet : (w : World) (f : Frame) (wait : Wait) (v : Value) → Quiet w (resumes p f wait v w)
  resumes_quiet w f waits.Push v = done_quiet w _
  resumes_quiet w f waits.Drop v = done_quiet w _
  resumes_quiet w f (waits.Keep kept) v = done_quiet w _
  resumes_quiet w f waits.Again v = done_quiet w _
  resumes_quiet w f (waits.New n) v = then_quiet w _ _ (new_quiet p w v (reverse (take n f.stack))) (λ i c. done_quiet i _)
  resumes_quiet w f waits.Not v = stop_quiet w Sticks

  resumed_same : (u : World) (f : Frame) (fs : List Frame) (o : Outcome Top) → Still u o → Same u (after_resume p f fs o)
  resumed_same u f fs (Went w top) a = same_on u w (settles p w fs top) a.started (settles_same w fs top)
  resumed_same u f fs (Stopped w why) a = same_on u w (stops p w (f ∷ fs) why) a.started (stops_same w (f ∷ fs) why)

  gives_back_same : (w : World) (v : Value) (fs : List Frame) → Same w (gives_back p w v fs)
  gives_back_same w v [] = record { started = refl }
  gives_back_same w v (f ∷ fs) = resumed_same w f fs (resumes p (waiting_frame waits.Not f) f.wait v w) (still w _ (resumes_quiet w (waiting_frame waits.Not f) f.wait v))

  -- ---- what is written, and what is asked

  traces_still : (w : World) (args : List Value) → Still w (trace p args w)
  traces_still w args = then_still w _ _ (still w _ (each_quiet (as_text p) (λ n v. converts_quiet p n ConvertS v) w args)) (λ n texts. record { started = refl })

  range_quiet : (w : World) (n : Option ℤ) → Quiet w (number_in_range n w)
  range_quiet w None = stop_quiet w (Faults faults.Range)
  range_quiet w (Some n) = done_quiet w _

  formula_quiet : (w : World) (f : Formula) (args : List Value) → Quiet w (calls_formula p f args w)
  formula_quiet w f args = if_quiet w (nat_eq (length args) (length f.factors)) _ _ (then_quiet w _ _ (each_quiet (as_number p) (λ n v. converts_quiet p n ConvertD v) w args) (λ n vs. range_quiet n (number_or_none (value_of f (map number_of_argument vs))))) (stop_quiet w (Errs hosts.ArgumentError))

  asks_still : (w : World) (n : ℕ) (args : List Value) → Still w (calls_what p (AsFormula n) Undefined args w)
  asks_still w n args = still w _ (then_quiet w _ _ (some_quiet w (slice_get p.formulas n)) (λ m f. formula_quiet m f args))

  settled_still : (w : World) (how : How) (f : Frame) (o : Outcome Came) → Still w o → Still w (and_then o (settling how f))
  settled_still w how f o a = then_still w o (settling how f) a (λ n c. record { started = refl })

  -- ---- what becomes of the frames

  entered_same : (r : Result Unit Full) (size : Size) (w : World) (g f : Frame) (q : Living) → Same w (step_of_turn p (entered_if r size w g f q))
  entered_same (Ok u) size w g f q = record { started = refl }
  entered_same (Err full) size w g f q = record { started = refl }

  acted_same : (w : World) (q : Living) (act : Act) → Same w (step_of_turn p (turn_of_act p w q act))
  acted_same w q (Goes (Stays f)) = record { started = refl }
  acted_same w q (Goes (Above g f)) = entered_same (room_for q (size_for p g)) (size_for p g) w g f q
  acted_same w q (Returns v) = gives_back_same w v (under (bare_newest q).living)

  turned_same : (u : World) (q : Living) (o : Outcome Act) → Still u o → Same u (step_of_turn p (turn_of p q o))
  turned_same u q (Went w act) a = same_on u w (step_of_turn p (turn_of_act p w q act)) a.started (acted_same w q act)
  turned_same u q (Stopped w why) a = same_on u w (stops p w (bare_newest q).living why) a.started (stops_same w (bare_newest q).living why)

  left_same : (l : Left) (w : World) (q : Living) → Same w (step_of_turn p (turn_of_left p l w q))
  left_same lefts.Goes w q = record { started = refl }
  left_same (lefts.Returns v) w q = gives_back_same w v (under (bare_newest q).living)
  left_same (lefts.Traces count how) w q = turned_same w q _ (settled_still w how (newest q) _ (traces_still w (arguments count (newest q))))
  left_same (lefts.Asks n count how) w q = turned_same w q _ (settled_still w how (newest q) _ (asks_still w n (arguments count (newest q))))

  answered_same : (r : Result Left Why) (w : World) (q : Living) → Same w (step_of_turn p (turn_of_answer p r w q))
  answered_same (Ok l) w q = left_same l w q
  answered_same (Err e) w q = stops_same w (bare_newest q).living _

  -- what is left starts no script
  pub none_started : (r : Result Left Why) (w : World) (q : Living) → (world_left (step_of_turn p (turn_of_answer p r w q))).started ≡ w.started
  none_started r w q = (answered_same r w q).started

-- The texts of a heap stay in what a step makes of it, also where its line could not be written.
use Rattle.std.proofs.Common.{◌≡◌, ℕ, zero, suc, ◌+◌, ◌≤◌, List, [], ◌∷◌, ◌++◌, length, take, drop, refl, sym, ap, ◌∙◌, subst, append-nil, append_assoc, arith}
use Rattle.std.proofs.lemmas.List.{drop-append-le, length-append, length-drop, take-append-le}
use Rattle.std.specs.Prelude.{Bool, true, false, ℤ, Ok, Err, Some, None, nat_le, if◌then◌else◌}
use Rattle.std.specs.declared.option.Option.{Option}
use Rattle.std.specs.declared.result.Result.{Result}
use Rattle.abc_base.specs.Ranges.{IsNumber}
use Rattle.abc_base.specs.declared.names.HostClass.{HostClass}
use Rattle.abc_file_types.specs.declared.code.Handler.{Handler}
use Rattle.abc_frames.specs.Frame.{Frame, Frames, waiting}
use Rattle.abc_frames.specs.declared.records.Wait.TheVariants as waits
use Rattle.abc_heap_store.specs.Heap.{Heap, cells_used}
use Rattle.abc_heap_store.specs.Texts.{IsText, part_of_text, text_of}
use Rattle.abc_heap_store.specs.declared.records.Limit.{Limit}
use Rattle.abc_heap_store.specs.declared.records.Limit.TheVariants as limits
use Rattle.abc_heap_store.specs.declared.records.What.{What}
use Rattle.abc_heap_store.specs.declared.records.What.TheVariants.{Plain}
use Rattle.abc_heap_values.specs.declared.values.ObjId.{ObjId}
use Rattle.abc_heap_values.specs.declared.values.Span.{Span}
use Rattle.abc_heap_values.specs.declared.values.Value.{Value}
use Rattle.abc_heap_values.specs.declared.values.Value.TheVariants.{Obj}
use Rattle.abc_link_names.specs.Linked.{LinkedFile}
use Rattle.abc_machine.proofs.Sounding.{below_takes}
use Rattle.abc_machine.specs.Calling.{CanCall}
use Rattle.abc_machine.specs.Machines.{Opened}
use Rattle.abc_machine.specs.Texts.{KeepsTexts, TextsGrow}
use Rattle.abc_meaning.proofs.Adding.{world_of}
use Rattle.abc_meaning.specs.At.{Above, Act, Goes, Returns, Stays, Top}
use Rattle.abc_meaning.specs.Calls.{begins_call, entered_call, enters_call, stops_call}
use Rattle.abc_meaning.specs.Entering.{starts_script}
use Rattle.abc_meaning.specs.Fair.{IsFairAs, IsFairPart}
use Rattle.abc_meaning.specs.Logs.{world_left}
use Rattle.abc_meaning.specs.Objects.{new_object, new_of_host, prototype_for}
use Rattle.abc_meaning.specs.Setting.{Setting, routine_of}
use Rattle.abc_meaning.specs.Sound.{AreTypings, IsSound, Typings}
use Rattle.abc_meaning.specs.Step.{after_act, gives_back, put_on, puts, after_resume, resumes, room_for_frame, runs, settles, size_of_frame, size_of_frames, after_start, step_of}
use Rattle.abc_meaning.specs.ThrowLaws.{IsVerifiedSetting}
use Rattle.abc_meaning.specs.Throwing.{End, Ends, Stepped, Stuck, catcher, caught_at, goes_on, has_stack, lands, last_script, stops, throws_made, unwinds}
use Rattle.abc_meaning.specs.World.{Errs, Faults, Fills, Outcome, Run, Sticks, Stop, Stopped, Throws, Went, World, and_then, pure, room, room_for_cells, room_for_objects, stop}
use Rattle.abc_meaning_sound.proofs.Fairly.{call_fair}
use Rattle.abc_meaning_sound.proofs.Fared.{acts_fair, starts_fair}
use Rattle.abc_meaning_sound.proofs.Typed.{has_typings}
use Rattle.abc_objects.specs.Growing.{Grows}
use Rattle.abc_objects.specs.Stands.{host_layout}
use Rattle.abc_run_finish.specs.Ending.{stepped_by}
use Rattle.abc_run_finish.specs.Fairly.{FirstCanTake}
use Rattle.abc_run_finish.specs.Steps.{EndsAs, FailsAs, GoesOnAs, IsReached, step_here}
use Rattle.abc_run_finish.specs.declared.ended.Ended.{Ended}
use Rattle.abc_run_state.specs.Outer.{Outer, setting_in, world}
use Rattle.abc_run_state.specs.declared.state.State.{State}
use Rattle.abc_verify_typing.specs.Lists.{Each}

-- ---- heaps

pub texts_self : (h : Heap) → TextsGrow h h
texts_self h = record { fixed = refl; made = ([], sym (append-nil h.made)) }

pub texts_on : (a b c : Heap) → TextsGrow a b → TextsGrow b c → TextsGrow a c
texts_on a b c p q = record {
  fixed = q.fixed ∙ p.fixed;
  made = (p.made.0 ++ q.made.0, q.made.1 ∙ ap (λ (m : List ℕ). m ++ q.made.0) p.made.1 ∙ append_assoc a.made p.made.0 q.made.0);
}

texts_grown : (a b : Heap) → Grows a b → TextsGrow a b
texts_grown a b g = record { fixed = g.fixed; made = g.made }

-- ---- a text has the bytes that it had

longer : (xs ys more : List ℕ) → ys ≡ xs ++ more → length xs ≤ length ys
longer xs ys more e = omega (arith, ap length e, length-append xs more)

front_taken : (n k : ℕ) (xs ys more : List ℕ) → ys ≡ xs ++ more → n + k ≤ length xs → take k (drop n ys) ≡ take k (drop n xs)
front_taken n k xs ys more e within =
    let low : n ≤ length xs = omega (arith, within) in
    let long : k ≤ length (drop n xs) = omega (arith, within, length-drop n xs) in
    ap (λ (zs : List ℕ). take k (drop n zs)) e ∙ ap (take k) (drop-append-le n xs more low) ∙ take-append-le k (drop n xs) more long

part_longer : (pool : List (List ℕ)) (a b : Heap) (part : ℕ) → TextsGrow a b → length (part_of_text a.fixed a.made pool part) ≤ length (part_of_text b.fixed b.made pool part)
part_longer pool a b zero g = omega (arith, ap length g.fixed)
part_longer pool a b (suc zero) g = longer a.made b.made g.made.0 g.made.1
part_longer pool a b (suc (suc i)) g = omega arith

part_taken : (pool : List (List ℕ)) (a b : Heap) (part n k : ℕ) → TextsGrow a b → n + k ≤ length (part_of_text a.fixed a.made pool part) → take k (drop n (part_of_text b.fixed b.made pool part)) ≡ take k (drop n (part_of_text a.fixed a.made pool part))
part_taken pool a b zero n k g within = ap (λ (xs : List ℕ). take k (drop n xs)) g.fixed
part_taken pool a b (suc zero) n k g within = front_taken n k a.made b.made g.made.0 g.made.1 within
part_taken pool a b (suc (suc i)) n k g within = refl

text_there : (pool : List (List ℕ)) (a b : Heap) (s : Span) → TextsGrow a b → IsText pool a s → IsText pool b s
text_there pool a b s g t = let longer = part_longer pool a b s.part g in omega (arith, t, longer)

text_same : (pool : List (List ℕ)) (a b : Heap) (s : Span) → TextsGrow a b → IsText pool a s → text_of pool b s ≡ text_of pool a s
text_same pool a b s g t = part_taken pool a b s.part s.start s.len g t

pub keeps_texts : (old new : Opened) → new.linked ≡ old.linked → TextsGrow old.world.heap new.world.heap → KeepsTexts old new
keeps_texts old new is g = record {
  there = λ s t. subst (λ (l : LinkedFile). IsText l.file.strings new.world.heap s) (sym is) (text_there old.linked.file.strings old.world.heap new.world.heap s g t);
  same = λ s t. ap (λ (l : LinkedFile). text_of l.file.strings new.world.heap s) is ∙ text_same old.linked.file.strings old.world.heap new.world.heap s g t;
}

-- ---- parts of a step

record PartKeeps {X : Type 0} (w : World) (o : Outcome X) : Type 0 where
  texts : TextsGrow w.heap (world_of o).heap

then_keeps : {X Y : Type 0} (w : World) (o : Outcome X) (f : X → Run Y) → PartKeeps w o → ((n : World) (x : X) → PartKeeps n (f x n)) → PartKeeps w (and_then o f)
then_keeps w (Went n x) f a g = record { texts = texts_on w.heap n.heap (world_of (f x n)).heap a.texts (g n x).texts }
then_keeps w (Stopped n why) f a g = record { texts = a.texts }

if_keeps : {X : Type 0} (w : World) (b : Bool) (m k : Run X) → PartKeeps w (m w) → PartKeeps w (k w) → PartKeeps w ((if b then m else k) w)
if_keeps w true m k f g = f
if_keeps w false m k f g = g

room_keeps : (w : World) (which : Limit) (used need limit : ℕ) → PartKeeps w (room which used need limit w)
room_keeps w which used need limit = if_keeps w (nat_le (used + need) limit) (pure tt) (stop (Fills which)) (record { texts = texts_self w.heap }) (record { texts = texts_self w.heap })

objects_keep : (w : World) (need : ℕ) → PartKeeps w (room_for_objects need w)
objects_keep w need = room_keeps w limits.Objects (length w.heap.objects) need w.heap.limits.objects

cells_keep : (w : World) (need : ℕ) → PartKeeps w (room_for_cells need w)
cells_keep w need = room_keeps w limits.Cells (cells_used w.heap) need w.heap.limits.cells

new_object_keeps : (p : Setting) (w : World) (layout : ℕ) (delegate : Option ObjId) (what : What) → PartKeeps w (new_object p layout delegate what w)
new_object_keeps p w layout delegate what = then_keeps w _ _ (objects_keep w 1) (λ n u. then_keeps n _ _ (cells_keep n _) (λ m v. record { texts = record { fixed = refl; made = ([], sym (append-nil m.heap.made)) } }))

new_keeps : (p : Setting) (w : World) (c : HostClass) (what : What) → PartKeeps w (new_of_host p c what w)
new_keeps p w c what = new_object_keeps p w (host_layout p.linked c) (prototype_for c w) what

fair_keeps : {X : Type 0} (p : Setting) (w : World) (o : Outcome X) → IsFairPart p w o → PartKeeps w o
fair_keeps p w (Went n x) fair = record { texts = texts_grown w.heap n.heap fair.grows }
fair_keeps p w (Stopped n why) fair = record { texts = texts_grown w.heap n.heap fair.0.grows }

-- ---- what a step leaves

record StepKeeps (w : World) (s : Stepped) : Type 0 where
  texts : TextsGrow w.heap (world_left s).heap

step_on : (u w : World) (s : Stepped) → TextsGrow u.heap w.heap → StepKeeps w s → StepKeeps u s
step_on u w s a b = record { texts = texts_on u.heap w.heap (world_left s).heap a b.texts }

module _ (p : Setting) where
  landed : (w : World) (b : Bool) (v : Value) (f : Frame) (fs : List Frame) (h : Handler) → StepKeeps w (if b then goes_on w (caught_at v h.target f ∷ fs) else Ends w Stuck)
  landed w true v f fs h = record { texts = texts_self w.heap }
  landed w false v f fs h = record { texts = texts_self w.heap }

  lands_keep : (w : World) (v : Value) (f : Frame) (fs : List Frame) (h : Option Handler) (otherwise : Stepped) → StepKeeps w otherwise → StepKeeps w (lands p w v f fs h otherwise)
  lands_keep w v f fs None otherwise a = a
  lands_keep w v f fs (Some h) otherwise a = landed w (has_stack (routine_of p f.method)) v f fs h

  unwinds_keep : (w : World) (v : Value) (fs : List Frame) → StepKeeps w (unwinds p w v fs)
  unwinds_keep w v [] = record { texts = texts_self w.heap }
  unwinds_keep w v (f ∷ fs) = lands_keep w v f fs (catcher p w v f) (unwinds p w v fs) (unwinds_keep w v fs)

  made_keep : (u : World) (fs : List Frame) (o : Outcome ObjId) → PartKeeps u o → StepKeeps u (throws_made p fs o)
  made_keep u fs (Went w o) a = step_on u w (unwinds p w (Obj o) fs) a.texts (unwinds_keep w (Obj o) fs)
  made_keep u fs (Stopped w (Fills limit)) a = record { texts = a.texts }
  made_keep u fs (Stopped w (Throws v)) a = record { texts = a.texts }
  made_keep u fs (Stopped w (Errs c)) a = record { texts = a.texts }
  made_keep u fs (Stopped w (Faults fault)) a = record { texts = a.texts }
  made_keep u fs (Stopped w Sticks) a = record { texts = a.texts }

  stops_keep : (w : World) (fs : List Frame) (why : Stop) → StepKeeps w (stops p w fs why)
  stops_keep w fs (Throws v) = unwinds_keep w v fs
  stops_keep w fs (Errs c) = made_keep w fs _ (new_keeps p w c Plain)
  stops_keep w fs (Faults fault) = record { texts = texts_self w.heap }
  stops_keep w fs (Fills limit) = record { texts = texts_self w.heap }
  stops_keep w fs Sticks = record { texts = texts_self w.heap }

  room_for_frame_keeps : (w : World) (g : Frame) (fs : List Frame) → PartKeeps w (room_for_frame p g fs w)
  room_for_frame_keeps w g fs = then_keeps w _ _ (room_keeps w limits.Frames (length fs) 1 w.heap.limits.frames) (λ n u. room_keeps n limits.Stack (size_of_frames p fs) (size_of_frame p g) w.heap.limits.stack)

  put_keeps : (u : World) (g : Frame) (fs : List Frame) (o : Outcome (Unit {0})) → PartKeeps u o → StepKeeps u (put_on p g fs o)
  put_keeps u g fs (Went w x) a = record { texts = a.texts }
  put_keeps u g fs (Stopped w why) a = step_on u w (stops p w fs why) a.texts (stops_keep w fs why)

  puts_keep : (w : World) (g : Frame) (fs : List Frame) → StepKeeps w (puts p w g fs)
  puts_keep w g fs = put_keeps w g fs (room_for_frame p g fs w) (room_for_frame_keeps w g fs)

  settles_keep : (w : World) (fs : List Frame) (top : Top) → StepKeeps w (settles p w fs top)
  settles_keep w fs (Stays f) = record { texts = texts_self w.heap }
  settles_keep w fs (Above g f) = puts_keep w g (f ∷ fs)

  resumed_keeps : (u : World) (f : Frame) (fs : List Frame) (o : Outcome Top) → PartKeeps u o → StepKeeps u (after_resume p f fs o)
  resumed_keeps u f fs (Went w top) a = step_on u w (settles p w fs top) a.texts (settles_keep w fs top)
  resumed_keeps u f fs (Stopped w why) a = step_on u w (stops p w (f ∷ fs) why) a.texts (stops_keep w (f ∷ fs) why)

  given_back_keeps : (w : World) (v : Value) (fs : List Frame) → FirstCanTake p w v fs → StepKeeps w (gives_back p w v fs)
  given_back_keeps w v [] can = record { texts = texts_self w.heap }
  given_back_keeps w v (f ∷ fs) can = resumed_keeps w f fs (resumes p (waiting waits.Not f) f.wait v w) (fair_keeps p w (resumes p (waiting waits.Not f) f.wait v w) can.fair)

  started_keeps : (w : World) (o : Outcome Frame) → PartKeeps w o → StepKeeps w (after_start p o)
  started_keeps w (Went n f) a = step_on w n (puts p n f []) a.texts (puts_keep n f [])
  started_keeps w (Stopped n why) a = step_on w n (stops p n [] why) a.texts (stops_keep n [] why)

  -- ---- a call that is begun

  stopped_call_keeps : (m : ℕ) (w : World) (why : Stop) → StepKeeps w (stops_call p m w why)
  stopped_call_keeps m w (Faults fault) = record { texts = texts_self w.heap }
  stopped_call_keeps m w (Throws v) = stops_keep w [] (Throws v)
  stopped_call_keeps m w (Errs c) = stops_keep w [] (Errs c)
  stopped_call_keeps m w (Fills limit) = stops_keep w [] (Fills limit)
  stopped_call_keeps m w Sticks = stops_keep w [] Sticks

  entered_call_keeps : (m : ℕ) (w : World) (o : Outcome Frame) → PartKeeps w o → StepKeeps w (entered_call p m o)
  entered_call_keeps m w (Went n f) a = step_on w n (puts p n f []) a.texts (puts_keep n f [])
  entered_call_keeps m w (Stopped n why) a = step_on w n (stops_call p m n why) a.texts (stopped_call_keeps m n why)

  -- ---- a step

  module _ (typings : Typings) (verified : IsVerifiedSetting p) (typed : AreTypings p typings) where
    acted_keeps : (w : World) (f : Frame) (fs : List Frame) (o : Outcome Act) → IsSound p typings (record { world = w; frames = f ∷ fs }) → IsFairAs p f w o → StepKeeps w (after_act p f fs o)
    acted_keeps w f fs (Went n (Goes (Stays g))) sound fair = step_on w n (settles p n fs (Stays g)) (texts_grown w.heap n.heap fair.0.grows) (settles_keep n fs (Stays g))
    acted_keeps w f fs (Went n (Goes (Above g b))) sound fair = step_on w n (settles p n fs (Above g b)) (texts_grown w.heap n.heap fair.0.grows) (settles_keep n fs (Above g b))
    acted_keeps w f fs (Went n (Returns v)) sound fair =
        step_on w n (gives_back p n v fs) (texts_grown w.heap n.heap fair.0.grows) (given_back_keeps n v fs (below_takes p typings w n v verified typed fair.0 fair.1 f fs sound))
    acted_keeps w f fs (Stopped n why) sound fair = step_on w n (stops p n (f ∷ fs) why) (texts_grown w.heap n.heap fair.0.grows) (stops_keep n (f ∷ fs) why)

    step_keeps : (w : World) (fs : List Frame) → IsSound p typings (record { world = w; frames = fs }) → StepKeeps w (step_of p w fs)
    step_keeps w [] sound = started_keeps w (starts_script p (last_script p) w) (fair_keeps p w (starts_script p (last_script p) w) (starts_fair p typings w verified typed sound))
    step_keeps w (f ∷ fs) sound = acted_keeps w f fs (runs p f (routine_of p f.method) w) sound (acts_fair p typings w f fs verified typed sound).0

-- ---- the states of the code

module _ (l : LinkedFile) (out : Outer) (s : State) (reached : IsReached l out s) where
  here_keeps : StepKeeps (world s out) (step_here l out s)
  here_keeps = step_keeps (setting_in l out) reached.typings reached.verified reached.typed (world s out) s.frames.living reached.sound

  left_texts : (r : Stepped) (h : Heap) → step_here l out s ≡ r → (world_left r).heap ≡ h → TextsGrow s.arena h
  left_texts r h e is = subst (TextsGrow s.arena) (ap (λ (x : Stepped). (world_left x).heap) e ∙ is) here_keeps.texts

  pub went_texts : (new : State) (before now : Option (List ℕ)) → GoesOnAs l out s new before now → TextsGrow s.arena new.arena
  went_texts new before now g = left_texts _ new.arena g.goes refl

  pub ended_texts : (new : State) (end : End) (before now : Option (List ℕ)) → EndsAs l out s new end before now → TextsGrow s.arena new.arena
  ended_texts new end before now e = left_texts _ new.arena e.ends refl

  pub failed_texts : (new : State) (before now : Option (List ℕ)) → FailsAs l out s new before now → TextsGrow s.arena new.arena
  failed_texts new before now f = left_texts _ new.arena f.goes f.heap

-- ---- a call that is begun, as the code begins it

left_by_code : (r : Result Unit Ended) (w : World) (q : Frames) → (world_left (stepped_by r w q)).heap ≡ w.heap
left_by_code (Ok u) w q = refl
left_by_code (Err e) w q = refl

pub begun_texts : (l : LinkedFile) (out : Outer) (m : ℕ) (s new : State) (ns : List ℤ) (r : Result Unit Ended) → CanCall l out m s → Each IsNumber ns → begins_call (setting_in l out) (world s out) m ns ≡ stepped_by r (world new out) new.frames → TextsGrow s.arena new.arena
begun_texts l out m s new ns r can numbered e =
    let p = setting_in l out in
    let w = world s out in
    let t = has_typings p can.verified in
    let keeps = entered_call_keeps p m w (enters_call p m ns w) (fair_keeps p w (enters_call p m ns w) (call_fair p t.0 w m ns can.verified t.1 can.sound can.exported numbered)) in
    subst (TextsGrow s.arena) (ap (λ (x : Stepped). (world_left x).heap) e ∙ left_by_code r (world new out) new.frames) keeps.texts

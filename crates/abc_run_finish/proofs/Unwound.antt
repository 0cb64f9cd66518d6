-- A throw of the meaning leaves the frames that code leaves.
use Rattle.std.proofs.Common.{◌≡◌, ℕ, suc, ◌<◌, ◌≤◌, drop, drop-cons, get_or, cond, Bool, true, false, List, [], ◌∷◌, length, map, refl, sym, ap, ◌∙◌, subst, arith, nat_lt, if◌then◌else◌}
use Rattle.std.specs.Prelude.{◌&&◌, None, Some}
use Rattle.std.specs.List.{find}
use Rattle.std.specs.declared.option.Option.{Option}
use Rattle.std.proofs.lemmas.Bool.{le-leb, lt-ltb, ltb-false, ltb-true}
use Rattle.abc_heap_values.specs.declared.values.ObjId.{ObjId}
use Rattle.abc_heap_values.specs.declared.values.Value.{Value}
use Rattle.abc_heap_values.specs.declared.values.Value.TheVariants.{Obj}
use Rattle.abc_run_finish.specs.Ending.{IsUnstuck, IsLimitReached, IsSized}
use Rattle.abc_run_finish.specs.Handling.{handler_catches, is_caught_by, target_for_value, target_of_handler}
use Rattle.abc_heap_store.specs.declared.records.Limits.{Limits}
use Rattle.abc_meaning.specs.Throwing.{Ends, Stepped, Stuck, Uncaught, catcher, caught_at, goes_on, has_stack, lands, thrown_as, throws_made, unwinds}
use Rattle.abc_frames.specs.Frame.{Frame, Frames, after_catch}
use Rattle.abc_frames.specs.declared.records.Size.{Size}
use Rattle.abc_run_state.specs.Stops.{why}
use Rattle.abc_run_state.specs.declared.state.Stop.{Stop as Why}
use Rattle.abc_run_state.specs.declared.state.Stop.TheVariants as stopped
use Rattle.abc_link_names.specs.Linked.{LinkedFile}
use Rattle.abc_link_names.specs.Types.{type_of}
use Rattle.abc_link_names.specs.declared.types.Ty.{Ty}
use Rattle.abc_heap_store.specs.Heap.{Heap}
use Rattle.abc_meaning.specs.Types.{is_of_type}
use Rattle.abc_run_state.specs.Turns.{size_of_routine, size_for}
use Rattle.abc_file_types.specs.declared.code.Handler.{Handler}
use Rattle.abc_frames.specs.Throws.{CanCatch, MayKeep, lands_on, sizes_from, sizes_left, unwound}
use Rattle.abc_verify_typing.specs.Routines.{Routine}
use Rattle.abc_meaning.specs.Setting.{Setting, routine_of}
use Rattle.abc_meaning.specs.World.{Outcome, Stopped, Went, World}

-- on goes what is left over, and where nothing is the run ends
abbrev pub left_over : Setting → World → Value → List Frame → Stepped
left_over p w v [] = Ends w (Uncaught (thrown_as p w v))
left_over p w v (f ∷ fs) = goes_on w (f ∷ fs)

lands_is : (p : Setting) (w : World) (v : Value) (f : Frame) (fs : List Frame) (o : Option Handler) (otherwise : Stepped) (left : List Frame) → IsUnstuck (lands p w v f fs o otherwise) → (IsUnstuck otherwise → otherwise ≡ left_over p w v left) → lands p w v f fs o otherwise ≡ left_over p w v (lands_on (target_of_handler o) v f fs left)
lands_is p w v f fs None otherwise left h more = more h
lands_is p w v f fs (Some handler) otherwise left h more = go (has_stack (routine_of p f.method)) h
  where
    go : (b : Bool) → IsUnstuck (if b then goes_on w (caught_at v handler.target f ∷ fs) else Ends w Stuck) → (if b then goes_on w (caught_at v handler.target f ∷ fs) else Ends w Stuck) ≡ goes_on w (after_catch v handler.target f ∷ fs)
    go true k = refl
    go false k = absurd (k w refl)

pub unwinds_to : (p : Setting) (w : World) (v : Value) (fs : List Frame) → IsUnstuck (unwinds p w v fs) → unwinds p w v fs ≡ left_over p w v (unwound (target_for_value p.linked w.heap v) v fs)
unwinds_to p w v [] h = refl
unwinds_to p w v (f ∷ fs) h = lands_is p w v f fs (catcher p w v f) (unwinds p w v fs) (unwound (target_for_value p.linked w.heap v) v fs) h (unwinds_to p w v fs)

-- ---- the frames that are left over may still keep what their routines say

sizes_step : (p : Setting) (v : Value) (f : Frame) (fs : List Frame) (ss : List Size) (left : List Frame) (o : Option ℕ) → ss ≡ map (size_for p) left → sizes_from o (size_for p f ∷ map (size_for p) fs) ss ≡ map (size_for p) (lands_on o v f fs left)
sizes_step p v f fs ss left None e = e
sizes_step p v f fs ss left (Some t) e = refl

pub sizes_over : (p : Setting) (w : World) (v : Value) (fs : List Frame) → sizes_left (target_for_value p.linked w.heap v) fs (map (size_for p) fs) ≡ map (size_for p) (unwound (target_for_value p.linked w.heap v) v fs)
sizes_over p w v [] = refl
sizes_over p w v (f ∷ fs) =
    let t = target_for_value p.linked w.heap v in
    sizes_step p v f fs (sizes_left t fs (map (size_for p) fs)) (unwound t v fs) (t f.method f.place) (sizes_over p w v fs)

-- ---- the frame that catches can keep the value

has_room : (o : Option Routine) → has_stack o ≡ true → 0 < (size_of_routine o).stack
has_room None e = absurd cc
has_room (Some r) e = ltb-true 0 r.max_stack e

catch_step : (p : Setting) (w : World) (v : Value) (f : Frame) (fs : List Frame) (o : Option Handler) (otherwise : Stepped) (rest : Type 0) → IsUnstuck (lands p w v f fs o otherwise) → (IsUnstuck otherwise → rest) → MayKeep (target_of_handler o) (size_for p f) rest
catch_step p w v f fs None otherwise rest h more = more h
catch_step p w v f fs (Some handler) otherwise rest h more = go (has_stack (routine_of p f.method)) refl h
  where
    go : (b : Bool) → has_stack (routine_of p f.method) ≡ b → IsUnstuck (if b then goes_on w (caught_at v handler.target f ∷ fs) else Ends w Stuck) → 0 < (size_for p f).stack
    go true e k = has_room (routine_of p f.method) e
    go false e k = absurd (k w refl)

pub can_catch : (p : Setting) (w : World) (v : Value) (fs : List Frame) → IsUnstuck (unwinds p w v fs) → CanCatch (target_for_value p.linked w.heap v) fs (map (size_for p) fs)
can_catch p w v [] h = tt
can_catch p w v (f ∷ fs) h = catch_step p w v f fs (catcher p w v f) (unwinds p w v fs) (CanCatch (target_for_value p.linked w.heap v) fs (map (size_for p) fs)) h (can_catch p w v fs)

-- ---- a throw that is caught, and one that is not

goes_left : (p : Setting) (w : World) (v : Value) (fs : List Frame) → nat_lt 0 (length fs) ≡ true → left_over p w v fs ≡ goes_on w fs
goes_left p w v [] e = absurd cc
goes_left p w v (f ∷ fs) e = refl

none_left : (p : Setting) (w : World) (v : Value) (fs : List Frame) → nat_lt 0 (length fs) ≡ false → left_over p w v fs ≡ Ends w (Uncaught (thrown_as p w v))
none_left p w v [] e = refl
none_left p w v (f ∷ fs) e = absurd (omega (arith, ltb-false 0 (length (f ∷ fs)) e))

pub caught_is : (p : Setting) (w : World) (v : Value) (fs left : List Frame) (b : Bool) → IsUnstuck (unwinds p w v fs) → left ≡ unwound (target_for_value p.linked w.heap v) v fs → b ≡ nat_lt 0 (length left) → b ≡ true → unwinds p w v fs ≡ goes_on w left
caught_is p w v fs left b h e q t = unwinds_to p w v fs h ∙ ap (left_over p w v) (sym e) ∙ goes_left p w v left (sym q ∙ t)

pub uncaught_is : (p : Setting) (w : World) (v : Value) (fs left : List Frame) (b : Bool) → IsUnstuck (unwinds p w v fs) → left ≡ unwound (target_for_value p.linked w.heap v) v fs → b ≡ nat_lt 0 (length left) → b ≡ false → unwinds p w v fs ≡ Ends w (Uncaught (thrown_as p w v))
uncaught_is p w v fs left b h e q t = unwinds_to p w v fs h ∙ ap (left_over p w v) (sym e) ∙ none_left p w v left (sym q ∙ t)

pub sized_on : (p : Setting) (limits : Limits) (w : World) (v : Value) (old new : Frames) → IsSized p limits old → new.living ≡ unwound (target_for_value p.linked w.heap v) v old.living → new.sizes ≡ sizes_left (target_for_value p.linked w.heap v) old.living old.sizes → (new.frame_limit ≡ old.frame_limit) × (new.value_limit ≡ old.value_limit) → IsSized p limits new
sized_on p limits w v old new s living sizes limits_same = record {
  sizes = sizes ∙ ap (sizes_left (target_for_value p.linked w.heap v) old.living) s.sizes ∙ sizes_over p w v old.living ∙ ap (map (size_for p)) (sym living);
  frames = limits_same.0 ∙ s.frames;
  values = limits_same.1 ∙ s.values;
}

pub can_catch_sized : (p : Setting) (limits : Limits) (w : World) (v : Value) (q : Frames) → IsSized p limits q → IsUnstuck (unwinds p w v q.living) → CanCatch (target_for_value p.linked w.heap v) q.living q.sizes
can_catch_sized p limits w v q s h = subst (λ (ss : List Size). CanCatch (target_for_value p.linked w.heap v) q.living ss) (sym s.sizes) (can_catch p w v q.living h)

-- ---- an error that is made

pub made_free : (p : Setting) (fs : List Frame) (o : Outcome ObjId) (w : World) (e : ObjId) → o ≡ Went w e → IsUnstuck (throws_made p fs o) → IsUnstuck (unwinds p w (Obj e) fs)
made_free p fs o w e q h = subst (λ (x : Outcome ObjId). IsUnstuck (throws_made p fs x)) q h

-- where it isn't made, a limit is reached
pub only_full : (p : Setting) (fs : List Frame) (o : Outcome ObjId) (w : World) (e : Why) → o ≡ Stopped w (why e) → IsUnstuck (throws_made p fs o) → IsLimitReached e
only_full p fs o w e q h = go e (subst (λ (x : Outcome ObjId). IsUnstuck (throws_made p fs x)) q h)
  where
    go : (e : Why) → IsUnstuck (throws_made p fs (Stopped w (why e))) → IsLimitReached e
    go (stopped.Throws v) k = k w refl
    go (stopped.Errs c) k = k w refl
    go (stopped.Faults fault) k = k w refl
    go (stopped.Fills limit) k = tt

-- ---- the first handler that catches

pub catches_as : (l : LinkedFile) (h : Heap) (v : Value) (i : ℕ) (handler : Handler) (t : Ty) (b : Bool) → handler.from ≤ i → i < handler.to → type_of l handler.exc_type ≡ Some t → b ≡ is_of_type l h t v → b ≡ handler_catches l h v i handler
catches_as l h v i handler t b from to ty e =
    e ∙ ap (λ (o : Option Ty). is_caught_by l h v o) (sym ty)
    ∙ sym (ap (λ (x : Bool). x && nat_lt i handler.to && is_caught_by l h v (type_of l handler.exc_type)) (le-leb handler.from i from) ∙ ap (λ (x : Bool). x && is_caught_by l h v (type_of l handler.exc_type)) (lt-ltb i handler.to to))

pub find_more : (p : Handler → Bool) (xs : List Handler) (i : ℕ) (d : Handler) → i < length xs → p (get_or xs i d) ≡ false → find p (drop (suc i) xs) ≡ find p (drop i xs)
find_more p xs i d b e = sym (ap (find p) (drop-cons xs i d b) ∙ ap (λ (x : Bool). cond x (Some (get_or xs i d)) (find p (drop (suc i) xs))) e)

pub find_here : (p : Handler → Bool) (xs : List Handler) (i : ℕ) (d : Handler) → i < length xs → p (get_or xs i d) ≡ true → find p (drop i xs) ≡ Some (get_or xs i d)
find_here p xs i d b e = ap (find p) (drop-cons xs i d b) ∙ ap (λ (x : Bool). cond x (Some (get_or xs i d)) (find p (drop (suc i) xs))) e

-- What the meaning makes of an act is what becomes of the frames.
use Rattle.std.proofs.Common.{◌≡◌, ◌≢◌, ℕ, suc, ◌+◌, ◌<◌, List, [], ◌∷◌, length, map, refl, sym, ap, ◌∙◌, subst, arith, nat_le, Bool, true, false, if◌then◌else◌}
use Rattle.std.specs.Prelude.{None, Some, Ok, Err}
use Rattle.std.specs.declared.option.Option.{Option}
use Rattle.std.specs.declared.result.Result.{Result}
use Rattle.abc_heap_values.specs.declared.values.Value.{Value}
use Rattle.abc_run_finish.specs.Ending.{IsSized}
use Rattle.abc_meaning.specs.Fair.{IsFairAs, IsLeft}
use Rattle.abc_heap_store.specs.declared.records.Full.{Full}
use Rattle.abc_heap_store.specs.declared.records.Limit.TheVariants.{Frames as FrameLimit, Stack as StackLimit}
use Rattle.abc_heap_store.specs.declared.records.Limits.{Limits}
use Rattle.abc_meaning.specs.Step.{after_act, put_on, puts, size_of_frame, size_of_frames, values_kept}
use Rattle.abc_meaning.specs.Throwing.{stops}
use Rattle.abc_frames.specs.Frame.{Frame, Frames, newest, newest_of, room_for, total_size, total_of_all, under}
use Rattle.abc_frames.specs.declared.records.Size.{Size}
use Rattle.abc_meaning.specs.At.{Above, Act, Goes, Returns, Stays}
use Rattle.abc_run_state.specs.Turns.{Gives, with_frame_above, bare_frame, bare_newest, entered_if, size_of_routine, on_top, size_for, turn_of}
use Rattle.abc_meaning.specs.Setting.{Setting, routine_of}
use Rattle.abc_meaning.specs.World.{Errs, Faults, Fills, Outcome, Run, Sticks, Stop, Stopped, Throws, Went, World, and_then, pure, stop}
use Rattle.abc_verify_typing.specs.Routines.{Routine}
use Rattle.abc_run_finish.specs.Fairly.{IsSoundAndSized, IsHeldTurn, FirstCanTake}
use Rattle.abc_run_finish.specs.Steps.{step_of_turn}

-- a throw looks at a frame's method, place and locals alone
pub stops_bare : (p : Setting) (w : World) (f : Frame) (fs : List Frame) (why : Stop) → stops p w (f ∷ fs) why ≡ stops p w (bare_frame f ∷ fs) why
stops_bare p w f fs (Throws v) = refl
stops_bare p w f fs (Errs c) = refl
stops_bare p w f fs (Faults fault) = refl
stops_bare p w f fs (Fills limit) = refl
stops_bare p w f fs Sticks = refl

-- ---- room

kept_total : (o : Option Routine) → total_size (size_of_routine o) ≡ values_kept o
kept_total None = refl
kept_total (Some r) = refl

pub frame_total : (p : Setting) (f : Frame) → total_size (size_for p f) ≡ size_of_frame p f
frame_total p f = kept_total (routine_of p f.method)

pub totals : (p : Setting) (fs : List Frame) → total_of_all (map (size_for p) fs) ≡ size_of_frames p fs
totals p [] = refl
totals p (f ∷ fs) = let e = kept_total (routine_of p f.method) in let t = totals p fs in omega (arith, e, t)

living_long : (fs : List Frame) → 0 < length fs → length fs ≡ suc (length (under fs))
living_long [] b = absurd (omega arith)
living_long (f ∷ fs) b = refl

pub living_is : (q : Frames) → 0 < length q.living → q.living ≡ newest q ∷ under q.living
living_is q b = go q.living b
  where
    go : (fs : List Frame) → 0 < length fs → fs ≡ newest_of fs ∷ under fs
    go [] b = absurd (omega arith)
    go (f ∷ fs) b = refl

-- a frame with locals is one that lives
pub live_by : (q : Frames) → 0 < length (newest q).locals → 0 < length q.living
live_by q b = go q.living b
  where
    go : (fs : List Frame) → 0 < length (newest_of fs).locals → 0 < length fs
    go [] b = absurd (omega arith)
    go (f ∷ fs) b = omega arith

-- ---- a frame more, where there is room

abbrev pub room_by : Bool → Bool → Run (Unit {0})
room_by a b w = and_then (let m : Run (Unit {0}) = if a then pure tt else stop (Fills FrameLimit) in m w) (λ u. if b then pure tt else stop (Fills StackLimit))

abbrev pub answer_by : Bool → Bool → Result Unit Full
answer_by a b = if a then (if b then Ok tt else Err (record { 0 = StackLimit })) else Err (record { 0 = FrameLimit })

put_by : (p : Setting) (w : World) (g f : Frame) (q : Frames) (size : Size) (a b : Bool) → put_on p g (f ∷ under q.living) (room_by a b w) ≡ step_of_turn p (entered_if (answer_by a b) size w g f q)
put_by p w g f q size true true = refl
put_by p w g f q size true false = refl
put_by p w g f q size false b = refl

puts_is : (p : Setting) (w : World) (g f : Frame) (q : Frames) → IsSized p w.heap.limits q → 0 < length q.living → f.method ≡ (newest q).method → puts p w g (f ∷ under q.living) ≡ step_of_turn p (entered_if (room_for q (size_for p g)) (size_for p g) w g f q)
puts_is p w g f q s b m =
    let fs = under q.living in
    let long = living_long q.living b in
    let same : size_of_frame p f ≡ size_of_frame p (newest q) = ap (λ (n : ℕ). values_kept (routine_of p n)) m in
    let all = totals p (newest q ∷ fs) in
    let kept_by = ap total_of_all (s.sizes ∙ ap (map (size_for p)) (living_is q b)) in
    let size = frame_total p g in
    let frames : nat_le (length q.living + 1) q.frame_limit ≡ nat_le (length (f ∷ fs) + 1) w.heap.limits.frames = ap (λ (n : ℕ). nat_le (n + 1) q.frame_limit) long ∙ ap (λ (n : ℕ). nat_le (length (f ∷ fs) + 1) n) s.frames in
    let used : total_of_all q.sizes + total_size (size_for p g) ≡ size_of_frames p (f ∷ fs) + size_of_frame p g = omega (arith, same, all, kept_by, size) in
    let values : nat_le (total_of_all q.sizes + total_size (size_for p g)) q.value_limit ≡ nat_le (size_of_frames p (f ∷ fs) + size_of_frame p g) w.heap.limits.stack = ap (λ (n : ℕ). nat_le n q.value_limit) used ∙ ap (λ (n : ℕ). nat_le (size_of_frames p (f ∷ fs) + size_of_frame p g) n) s.values in
    put_by p w g f q (size_for p g) (nat_le (length (f ∷ fs) + 1) w.heap.limits.frames) (nat_le (size_of_frames p (f ∷ fs) + size_of_frame p g) w.heap.limits.stack)
    ∙ ap (λ (r : Result Unit Full). step_of_turn p (entered_if r (size_for p g) w g f q)) (sym (ap (λ (a : Bool). answer_by a (nat_le (total_of_all q.sizes + total_size (size_for p g)) q.value_limit)) frames ∙ ap (answer_by (nat_le (length (f ∷ fs) + 1) w.heap.limits.frames)) values))

-- ---- an act

pub acted_is : (p : Setting) (w : World) (q : Frames) (o : Outcome Act) → IsSized p w.heap.limits q → 0 < length q.living → IsFairAs p (newest q) w o → after_act p (newest q) (under q.living) o ≡ step_of_turn p (turn_of p q o)
acted_is p w q (Went n (Goes (Stays f))) s b fair = refl
acted_is p w q (Went n (Goes (Above g f))) s b fair = puts_is p n g f q (subst (λ (x : Limits). IsSized p x q) (sym fair.0.limits) s) b fair.1
acted_is p w q (Went n (Returns v)) s b fair = refl
acted_is p w q (Stopped n why) s b fair = stops_bare p n (newest q) (under q.living) why

-- ---- the frames may still keep what their routines say

pub top_sized : (p : Setting) (limits : Limits) (q : Frames) (f : Frame) → IsSized p limits q → 0 < length q.living → f.method ≡ (newest q).method → IsSized p limits (on_top f q)
top_sized p limits q f s b m = record {
  sizes = s.sizes ∙ ap (map (size_for p)) (living_is q b) ∙ ap (λ (n : ℕ). size_of_routine (routine_of p n) ∷ map (size_for p) (under q.living)) (sym m);
  frames = s.frames;
  values = s.values;
}

-- frames with the newest bare, and as it stood
pub bared_sized : (p : Setting) (limits : Limits) (q : Frames) → 0 < length q.living → IsSized p limits (bare_newest q) → IsSized p limits q
bared_sized p limits q b s = record { sizes = s.sizes ∙ sym (ap (map (size_for p)) (living_is q b)); frames = s.frames; values = s.values }

top_held : (p : Setting) (w n : World) (q : Frames) (f : Frame) → IsSized p w.heap.limits q → 0 < length q.living → IsLeft p w n → f.method ≡ (newest q).method → IsSoundAndSized p n (on_top f q)
top_held p w n q f s b l m = record { sound = l.sound; sized = top_sized p n.heap.limits q f (subst (λ (x : Limits). IsSized p x q) (sym l.limits) s) b m }

above_held : (p : Setting) (n : World) (q : Frames) (g : Frame) → IsSoundAndSized p n q → IsSoundAndSized p n (with_frame_above (size_for p g) g q)
above_held p n q g h = record { sound = h.sound; sized = record { sizes = ap (λ (ss : List Size). size_for p g ∷ ss) h.sized.sizes; frames = h.sized.frames; values = h.sized.values } }

entered_held : (p : Setting) (n : World) (g f : Frame) (q : Frames) (r : Result Unit Full) → IsSoundAndSized p n (on_top f q) → IsSoundAndSized p n (bare_newest q) → 0 < length (newest q).locals → IsHeldTurn p (entered_if r (size_for p g) n g f q)
entered_held p n g f q (Ok u) h b this = above_held p n (on_top f q) g h
entered_held p n g f q (Err full) h b this = record { held = b; fair = tt; this = this }

-- a frame that is entered gives nothing back
pub entered_gives_none : (r : Result Unit Full) (size : Size) (w : World) (g f : Frame) (q : Frames) (n : World) (k : Frames) (v : Value) → entered_if r size w g f q ≢ Gives n k v
entered_gives_none (Ok u) size w g f q n k v e = cc
entered_gives_none (Err full) size w g f q n k v e = cc

-- where it returns, the frame below can go on
abbrev pub MayReturn : Setting → Frames → Outcome Act → Type 0
MayReturn p q (Went n (Returns v)) = FirstCanTake p n v (under q.living)
MayReturn p q (Went n (Goes top)) = Unit {0}
MayReturn p q (Stopped n why) = Unit {0}

pub turn_held : (p : Setting) (w : World) (q : Frames) (o : Outcome Act) → IsSized p w.heap.limits q → 0 < length (newest q).locals → IsFairAs p (newest q) w o → MayReturn p q o → IsHeldTurn p (turn_of p q o)
turn_held p w q (Went n (Goes (Stays f))) s this fair may = top_held p w n q f s (live_by q this) fair.0 fair.1
turn_held p w q (Went n (Goes (Above g f))) s this fair may =
    let b = live_by q this in
    entered_held p n g f q (room_for q (size_for p g)) (top_held p w n q f s b fair.0 fair.1) (top_held p w n q (bare_frame (newest q)) s b fair.0 refl) this
turn_held p w q (Went n (Returns v)) s this fair may = record { held = top_held p w n q (bare_frame (newest q)) s (live_by q this) fair.0 refl; value = fair.1; below = may; this = this }
turn_held p w q (Stopped n why) s this fair may = record { held = top_held p w n q (bare_frame (newest q)) s (live_by q this) fair.0 refl; fair = fair.1; this = this }

-- Operands that leave from under the top ones.
use Rattle.std.proofs.Common.{◌≡◌, inl, inr, ℕ, zero, suc, ◌+◌, ◌<◌, List, [], ◌∷◌, ◌++◌, length, take, drop, refl, sym, ap, subst, arith}
use Rattle.std.specs.Prelude.{Ok, Err, Some, slice_get}
use Rattle.std.specs.declared.result.Result.{Result}
use Rattle.abc_heap_values.specs.declared.values.Value.{Value}
use Rattle.abc_heap_values.specs.declared.values.Value.TheVariants as values
use Rattle.abc_meaning.specs.At.{Above, Act, Goes, Returns, Stays as Stay}
use Rattle.abc_run_calls.specs.Entering.{above_taken, enters_owned_above}
use Rattle.abc_heap_store.specs.declared.records.Full.{Full}
use Rattle.abc_objects.specs.Stands.{EachAt}
use Rattle.abc_objects.specs.Values.{Exists}
use Rattle.abc_objects.proofs.Kept.{in_either}
use Rattle.abc_link_names.specs.Linked.{LinkedFile}
use Rattle.abc_frames.proofs.Living.{living_is}
use Rattle.abc_frames.specs.Frame.{Frame, Frames, dropped_under, newest, room_for, under, with_newest}
use Rattle.abc_frames.specs.declared.records.Size.{Size}
use Rattle.abc_frames.specs.declared.records.Wait.TheVariants.{New}
use Rattle.abc_run_state.specs.Standing.{IsSet, IsStateThere}
use Rattle.abc_run_state.specs.Stops.{IsOpen}
use Rattle.abc_run_state.specs.Turns.{entered_if, size_for, turn_of}
use Rattle.abc_run_state.specs.declared.state.State.{State}
use Rattle.abc_meaning.specs.Calling.{calls_frame}
use Rattle.abc_meaning.specs.Entering.{enters_owned}
use Rattle.abc_meaning.specs.Setting.{Setting}
use Rattle.abc_meaning.specs.World.{Outcome, Stopped, Went, World, and_then}
use Rattle.abc_run_members.specs.Members.{constructs_getter, constructs_of}

-- ---- what is left is there

of_taken : {X : Type 0} (n : ℕ) (xs : List X) (k : ℕ) (x : X) → slice_get (take n xs) k ≡ Some x → (j : ℕ) × (slice_get xs j ≡ Some x)
of_taken zero xs k x e = absurd cc
of_taken (suc n) [] k x e = absurd cc
of_taken (suc n) (y ∷ ys) zero x e = (0, e)
of_taken (suc n) (y ∷ ys) (suc k) x e = let r = of_taken n ys k x e in (suc r.0, r.1)

of_dropped : {X : Type 0} (n : ℕ) (xs : List X) (k : ℕ) (x : X) → slice_get (drop n xs) k ≡ Some x → (j : ℕ) × (slice_get xs j ≡ Some x)
of_dropped zero xs k x e = (k, e)
of_dropped (suc n) [] k x e = absurd cc
of_dropped (suc n) (y ∷ ys) k x e = let r = of_dropped n ys k x e in (suc r.0, r.1)

each_under : {X : Type 0} (P : X → Type 0) (n k : ℕ) (xs : List X) → EachAt P xs → EachAt P (take n xs ++ drop (n + k) xs)
each_under P n k xs h = λ i x e. elim (in_either (take n xs) (drop (n + k) xs) i x e) [
  | inl a ↦ (let r = of_taken n xs i x a.1 in h r.0 x r.1)
  | inr b ↦ (let r = of_dropped (n + k) xs b.0 x b.2 in h r.0 x r.1)
]

there_under : (l : LinkedFile) (s : State) (n k : ℕ) → IsStateThere l s.arena (newest s.frames) → IsStateThere l s.arena (dropped_under n k (newest s.frames))
there_under l s n k t = record { stack = each_under (Exists l s.arena) n k (newest s.frames).stack t.stack; locals = t.locals; scopes = t.scopes; saved = t.saved; home = t.home }

pub set_under : (l : LinkedFile) (s : State) (q : Frames) (n k : ℕ) → IsSet l s → q ≡ with_newest (dropped_under n k) s.frames → IsSet l (record s { frames = q })
set_under l s q n k t e = record { over = t.over; frame = subst (λ (r : Frames). IsStateThere l s.arena (newest r)) (sym e) (there_under l s n k t.frame) }

pub live_under : (q r : Frames) (n k : ℕ) → r ≡ with_newest (dropped_under n k) q → 0 < length r.living
live_under q r n k e = subst (λ (x : Frames). 0 < length x.living) (sym e) (omega arith)

-- ---- what an act makes of the frames doesn't depend on them

abbrev over_one : Frame → List Frame → List Size → ℕ → ℕ → Frames
over_one f fs sizes frames values = record { living = f ∷ fs; sizes = sizes; frame_limit = frames; value_limit = values }

entered_under : (p : Setting) (n k : ℕ) (w : World) (g h f : Frame) (fs : List Frame) (sizes : List Size) (frames values : ℕ) (size : Size) (r : Result Unit Full)
    → entered_if r size w g h (with_newest (dropped_under n k) (over_one f fs sizes frames values)) ≡ entered_if r size w g h (over_one f fs sizes frames values)
entered_under p n k w g h f fs sizes frames values size (Ok u) = refl
entered_under p n k w g h f fs sizes frames values size (Err full) = refl

one_under : (p : Setting) (n k : ℕ) (f : Frame) (fs : List Frame) (sizes : List Size) (frames values : ℕ) (o : Outcome Act)
    → turn_of p (with_newest (dropped_under n k) (over_one f fs sizes frames values)) o ≡ turn_of p (over_one f fs sizes frames values) o
one_under p n k f fs sizes frames values (Went w (Goes (Stay h))) = refl
one_under p n k f fs sizes frames values (Went w (Goes (Above g h))) = entered_under p n k w g h f fs sizes frames values (size_for p g) (room_for (over_one f fs sizes frames values) (size_for p g))
one_under p n k f fs sizes frames values (Went w (Returns v)) = refl
one_under p n k f fs sizes frames values (Stopped w why) = refl

pub turned_under : (p : Setting) (q : Frames) (n k : ℕ) (o : Outcome Act) → 0 < length q.living → turn_of p (with_newest (dropped_under n k) q) o ≡ turn_of p q o
turned_under p q n k o live =
    let is : q ≡ over_one (newest q) (under q.living) q.sizes q.frame_limit q.value_limit = ap (λ (fs : List Frame). record q { living = fs }) (living_is q.living live) in
    subst (λ (r : Frames). turn_of p (with_newest (dropped_under n k) r) o ≡ turn_of p r o) (sym is) (one_under p n k (newest q) (under q.living) q.sizes q.frame_limit q.value_limit o)

-- ---- a getter, and then new

entered_constructs : (p : Setting) (k n : ℕ) (f : Frame) (o : Outcome Frame) → and_then (and_then o calls_frame) (constructs_of p k n f) ≡ and_then o (above_taken 0 (New n) (dropped_under n k f))
entered_constructs p k n f (Went w g) = refl
entered_constructs p k n f (Stopped w why) = refl

pub getter_constructs : (p : Setting) (m : ℕ) (v : Value) (k n : ℕ) (f : Frame) (w : World) → IsOpen (constructs_getter p m v k n f w) → constructs_getter p m v k n f w ≡ enters_owned_above p m v 0 0 (New n) (dropped_under n k f) w
getter_constructs p m (values.Obj o) k n f w h = entered_constructs p k n f (enters_owned p m (values.Obj o) [] w)
getter_constructs p m values.Undefined k n f w h = absurd h
getter_constructs p m values.Null k n f w h = absurd h
getter_constructs p m (values.Num z) k n f w h = absurd h
getter_constructs p m (values.Bool b) k n f w h = absurd h
getter_constructs p m (values.Text t) k n f w h = absurd h
getter_constructs p m (values.Space s) k n f w h = absurd h

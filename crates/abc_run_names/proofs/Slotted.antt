-- Slots of objects.
use Rattle.std.proofs.Common.{◌≡◌, ◌∙◌, ℕ, zero, suc, ◌<◌, List, [], ◌∷◌, length, refl, sym, ap, subst, arith, false, true}
use Rattle.std.proofs.lemmas.Bool.{false≢true}
use Rattle.std.specs.Prelude.{Some, None, IsSome, get_or, is_some, slice_get}
use Rattle.std.specs.declared.option.Option.{Option}
use Rattle.std.proofs.lemmas.Option.{slice_get-get_or}
use Rattle.abc_heap_values.specs.declared.values.ObjId.{ObjId}
use Rattle.abc_heap_values.specs.declared.values.Value.{Value}
use Rattle.abc_heap_values.specs.declared.values.Value.TheVariants.{Null, Obj}
use Rattle.abc_heap_store.specs.Changes.{with_object, with_slot}
use Rattle.abc_heap_store.specs.Heap.{Heap, Object, object_at, slots_of_object}
use Rattle.abc_frames.specs.Moves.{dropped_on}
use Rattle.abc_objects.specs.Growing.{Grows}
use Rattle.abc_objects.specs.Stands.{StandsOver}
use Rattle.abc_objects.specs.Values.{slot_kind_of_object}
use Rattle.abc_objects.proofs.Kept.{slots_there}
use Rattle.abc_link_names.specs.Linked.{LinkedFile}
use Rattle.abc_link_names.specs.Slots.{slot_numbered, slots_of}
use Rattle.abc_link_names.specs.Types.{kind_of_type}
use Rattle.abc_link_names.specs.declared.types.SlotInfo.{SlotInfo}
use Rattle.abc_link_names.specs.declared.types.Ty.{Ty}
use Rattle.abc_link_names.specs.declared.types.Ty.TheVariants as types
use Rattle.abc_frames.specs.Frame.{Frame, Frames, after_drop, newest, with_newest}
use Rattle.abc_link_names.specs.declared.start.Start.TheVariants as starts
use Rattle.abc_meaning.specs.At.{Act, goes, next_frame}
use Rattle.abc_run_state.proofs.Things.{object_is, slots_counted}
use Rattle.abc_run_state.specs.Outer.{at_heap}
use Rattle.abc_run_state.specs.Stops.{IsOpen, why}
use Rattle.abc_run_state.specs.Turns.{GoesOn, Halts, bare_newest, turn_of}
use Rattle.abc_run_state.specs.declared.state.Stop.{Stop as Why}
use Rattle.abc_run_state.proofs.Turning.{open_first}
use Rattle.abc_meaning.specs.Members.{slot_info, write_slot}
use Rattle.abc_meaning.specs.Ops.{coerces}
use Rattle.abc_meaning.specs.Setting.{Setting}
use Rattle.abc_meaning.specs.World.{Outcome, Run, Stop, Stopped, Went, World, and_then, changes, some, ◌>>=◌, ◌>>◌}
use Rattle.abc_run_names.specs.Numbered.{on_numbered, slot_type}
use Rattle.abc_run_names.specs.Receivers.{IsReceiver, receiver_object}
use Rattle.abc_run_names.proofs.Receiving.{receiver_open}

-- an object that has a slot is there
pub holder_there : (h : Heap) (o : ObjId) (k : ℕ) → k < length (slots_of_object h.objects o.0) → o.0 < length h.objects
holder_there h o k b = slots_there h.objects o.0 (omega arith)

abbrev pub any_slot : SlotInfo
any_slot = record { ty = types.Any; constant = false; start = starts.Undefined }

abbrev slot_of : LinkedFile → Heap → ObjId → ℕ → SlotInfo
slot_of l h o k = get_or (slots_of l (object_at h.objects o.0).layout) k any_slot

pub slot_within : (l : LinkedFile) (h : Heap) (o : ObjId) (k : ℕ) → StandsOver l h → k < length (slots_of_object h.objects o.0) → k < length (slots_of l (object_at h.objects o.0).layout)
slot_within l h o k st b = omega (arith, slots_counted l h o.0 st (holder_there h o k b))

slot_is : (l : LinkedFile) (h : Heap) (o : ObjId) (k : ℕ) → StandsOver l h → k < length (slots_of_object h.objects o.0) → slice_get (slots_of l (object_at h.objects o.0).layout) k ≡ Some (slot_of l h o k)
slot_is l h o k st b = slice_get-get_or (slots_of l (object_at h.objects o.0).layout) k any_slot (slot_within l h o k st b)

-- ---- a slot is written

abbrev writing : ObjId → ℕ → Value → Run (Unit {0})
writing o k v = changes (with_object (with_slot k v) o.0) (λ h. tt)

coercing : Setting → ObjId → ℕ → Value → World → Option SlotInfo → Outcome (Unit {0})
coercing p o k x w s = and_then (some s w) (λ slot. coerces p slot.ty x >>= writing o k)

finding : Setting → ObjId → ℕ → Value → World → Option Object → Outcome (Unit {0})
finding p o k x w ob = and_then (some ob w) (λ it. some (slot_info p it.layout k) >>= λ slot. coerces p slot.ty x >>= writing o k)

coerces_first : (p : Setting) (o : ObjId) (k : ℕ) (x : Value) (w : World) → StandsOver p.linked w.heap → k < length (slots_of_object w.heap.objects o.0) → write_slot p o k x w ≡ and_then (coerces p (slot_type p.linked w.heap o k) x w) (writing o k)
unfolding coercing finding
coerces_first p o k x w st b = ap (finding p o k x w) (object_is w.heap.objects o.0 (holder_there w.heap o k b)) ∙ ap (coercing p o k x w) (slot_is p.linked w.heap o k st b)

written_after : ObjId → ℕ → Outcome Value → Outcome (Unit {0})
written_after o k r = and_then r (writing o k)

pub slot_written : (p : Setting) (o : ObjId) (k : ℕ) (x v : Value) (t : Ty) (w n : World) (new : Heap) → StandsOver p.linked w.heap → k < length (slots_of_object w.heap.objects o.0) → t ≡ slot_type p.linked w.heap o k → coerces p t x w ≡ Went n v → new ≡ with_object (with_slot k v) o.0 n.heap
    → write_slot p o k x w ≡ Went (at_heap new n) tt
unfolding written_after
slot_written p o k x v t w n new st b is e heap =
    coerces_first p o k x w st b
    ∙ ap (λ (u : Ty). and_then (coerces p u x w) (writing o k)) (sym is)
    ∙ ap (written_after o k) e
    ∙ ap (λ (h : Heap). Went (at_heap h n) tt) (sym heap)

pub slot_stopped : (p : Setting) (o : ObjId) (k : ℕ) (x : Value) (t : Ty) (w n : World) (why : Stop) → StandsOver p.linked w.heap → k < length (slots_of_object w.heap.objects o.0) → t ≡ slot_type p.linked w.heap o k → coerces p t x w ≡ Stopped n why → write_slot p o k x w ≡ Stopped n why
unfolding written_after
slot_stopped p o k x t w n why st b is e =
    coerces_first p o k x w st b
    ∙ ap (λ (u : Ty). and_then (coerces p u x w) (writing o k)) (sym is)
    ∙ ap (written_after o k) e

-- ---- a heap that grew has the same slots

pub layout_kept : (a b : Heap) (o : ObjId) → Grows a b → o.0 < length a.objects → (object_at b.objects o.0).layout ≡ (object_at a.objects o.0).layout
layout_kept a b o g t = (g.objects o.0 t).1.layout

pub slot_kept : (l : LinkedFile) (a b : Heap) (o : ObjId) (k : ℕ) → StandsOver l a → StandsOver l b → Grows a b → k < length (slots_of_object a.objects o.0) → k < length (slots_of_object b.objects o.0)
slot_kept l a b o k s t g h =
    let there = holder_there a o k h in
    let same : length (slots_of l (object_at b.objects o.0).layout) ≡ length (slots_of l (object_at a.objects o.0).layout) = ap (λ (x : ℕ). length (slots_of l x)) (layout_kept a b o g there) in
    omega (arith, h, same, slots_counted l a o.0 s there, slots_counted l b o.0 t (g.objects o.0 there).0)

pub type_kept : (l : LinkedFile) (a b : Heap) (o : ObjId) (k : ℕ) → Grows a b → o.0 < length a.objects → kind_of_type l (slot_type l a o k) ≡ slot_kind_of_object l b o k
type_kept l a b o k g t = ap (λ (x : ℕ). kind_of_type l (get_or (slots_of l x) k any_slot).ty) (sym (layout_kept a b o g t))

-- ---- by numbers

some_open : {X : Type 0} (x : Option X) (w : World) → IsOpen (some x w) → IsSome x
some_open None w h = absurd h
some_open (Some x) w h = refl

at_number : {X : Type 0} (p : Setting) (n : ℕ) (o : ObjId) (f : ObjId → Object → ℕ → Run X) (w : World) → o.0 < length w.heap.objects → on_numbered p n (Obj o) f w ≡ and_then (some (slot_numbered p.linked (object_at w.heap.objects o.0).layout n) w) (f o (object_at w.heap.objects o.0))
at_number {X = X} p n o f w t = ap going (object_is w.heap.objects o.0 t)
  where
    going : Option Object → Outcome X
    going ob = and_then (some ob w) (λ it. some (slot_numbered p.linked it.layout n) >>= f o it)

pub number_open : {X : Type 0} (p : Setting) (n : ℕ) (o : ObjId) (f : ObjId → Object → ℕ → Run X) (w : World) → o.0 < length w.heap.objects → IsOpen (on_numbered p n (Obj o) f w) → IsSome (slot_numbered p.linked (object_at w.heap.objects o.0).layout n)
number_open p n o f w t h =
    let s = slot_numbered p.linked (object_at w.heap.objects o.0).layout n in
    some_open s w (open_first (some s w) (f o (object_at w.heap.objects o.0)) (subst IsOpen (at_number p n o f w t) h))

pub numbered : {X : Type 0} (p : Setting) (n : ℕ) (o : ObjId) (k : ℕ) (f : ObjId → Object → ℕ → Run X) (w : World) → o.0 < length w.heap.objects → slot_numbered p.linked (object_at w.heap.objects o.0).layout n ≡ Some k → on_numbered p n (Obj o) f w ≡ f o (object_at w.heap.objects o.0) k w
numbered p n o k f w t e = at_number p n o f w t ∙ ap (λ s. and_then (some s w) (f o (object_at w.heap.objects o.0))) e

-- null throws first
pub on_receiver : {X : Type 0} (p : Setting) (n : ℕ) (v : Value) (f : ObjId → Object → ℕ → Run X) (w : World) → on_numbered p n v f w ≡ and_then (receiver_object v w) (λ o. on_numbered p n (Obj o) f)
on_receiver p n (Obj o) f w = refl
on_receiver p n Null f w = refl
on_receiver p n other f w = refl

-- ---- the same, by what the calls gave

module _ {X : Type 0} (p : Setting) (n : ℕ) (f : ObjId → Object → ℕ → Run X) (v x : Value) (w : World) (is : v ≡ x) where
  pub open_receiver : IsOpen (on_numbered p n x f w) → IsReceiver v
  open_receiver h = receiver_open v w (open_first (receiver_object v w) (λ o. on_numbered p n (Obj o) f) (subst IsOpen (ap (λ y. on_numbered p n y f w) (sym is) ∙ on_receiver p n v f w) h))

  pub numbered_stopped : (why : Stop) → receiver_object v w ≡ Stopped w why → on_numbered p n x f w ≡ Stopped w why
  numbered_stopped why e = ap (λ y. on_numbered p n y f w) (sym is) ∙ on_receiver p n v f w ∙ ap (λ r. and_then r (λ o. on_numbered p n (Obj o) f)) e

  module _ (o : ObjId) (object : v ≡ Obj o) where
    pub at_object : on_numbered p n x f w ≡ on_numbered p n (Obj o) f w
    at_object = ap (λ y. on_numbered p n y f w) (sym is ∙ object)

    pub has_number : o.0 < length w.heap.objects → IsOpen (on_numbered p n x f w) → IsSome (slot_numbered p.linked (object_at w.heap.objects o.0).layout n)
    has_number t h = number_open p n o f w t (subst IsOpen at_object h)

    pub numbered_at : (k : ℕ) → o.0 < length w.heap.objects → slot_numbered p.linked (object_at w.heap.objects o.0).layout n ≡ Some k → on_numbered p n x f w ≡ f o (object_at w.heap.objects o.0) k w
    numbered_at k t e = at_object ∙ numbered p n o k f w t e

within : {X : Type 0} (xs : List X) (k : ℕ) → is_some (slice_get xs k) ≡ true → k < length xs
within [] k e = absurd (false≢true e)
within (x ∷ xs) zero e = omega arith
within (x ∷ xs) (suc k) e = let r = within xs k e in omega arith

-- what is read there is there
pub held_within : (vs : List Value) (k : ℕ) (w : World) → IsOpen (some (slice_get vs k) w) → k < length vs
held_within vs k w h = within vs k (some_open (slice_get vs k) w h)

-- and what is written
pub write_within : (p : Setting) (o : ObjId) (k : ℕ) (x : Value) (w : World) → StandsOver p.linked w.heap → o.0 < length w.heap.objects → IsOpen (write_slot p o k x w) → k < length (slots_of_object w.heap.objects o.0)
unfolding finding
write_within p o k x w st t h =
    let ob = object_at w.heap.objects o.0 in
    let s = slot_info p ob.layout k in
    let open_slot = open_first (some s w) (λ slot. coerces p slot.ty x >>= writing o k) (subst IsOpen (ap (finding p o k x w) (object_is w.heap.objects o.0 t)) h) in
    omega (arith, within (slots_of p.linked ob.layout) k (some_open s w open_slot), slots_counted p.linked w.heap o.0 st t)

-- ---- an instruction that pushes nothing

then_next : ℕ → Frame → Outcome (Unit {0}) → Outcome Act
then_next n f r = and_then r (λ u. goes (next_frame (after_drop n f)))

pub drops_on : (p : Setting) (q mid r : Frames) (n : ℕ) (m : Run (Unit {0})) (w new : World) → m w ≡ Went new tt → mid ≡ q → r ≡ with_newest (dropped_on n) mid → turn_of p q ((m >> goes (next_frame (after_drop n (newest q)))) w) ≡ GoesOn new r
unfolding then_next
drops_on p q mid r n m w new e same is = ap (λ o. turn_of p q (then_next n (newest q) o)) e ∙ ap (λ k. GoesOn new (with_newest (dropped_on n) k)) (sym same) ∙ ap (GoesOn new) (sym is)

pub drops_stopped : (p : Setting) (q mid : Frames) (n : ℕ) (m : Run (Unit {0})) (w new : World) (s : Why) → m w ≡ Stopped new (why s) → mid ≡ q → turn_of p q ((m >> goes (next_frame (after_drop n (newest q)))) w) ≡ Halts new (bare_newest mid) (why s)
unfolding then_next
drops_stopped p q mid n m w new s e same = ap (λ o. turn_of p q (then_next n (newest q) o)) e ∙ ap (λ k. Halts new (bare_newest k) (why s)) (sym same)

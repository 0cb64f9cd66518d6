-- Elements and properties that are written.
use Rattle.std.proofs.Common.{◌≡◌, ℕ, zero, suc, ◌<◌, Bool, true, false, List, length, nat_eq, eq-eqb, is_some, refl, sym, ap, ◌∙◌, subst, arith}
use Rattle.std.proofs.lemmas.Bool.Decides.{nat_tests}
use Rattle.std.specs.Prelude.{cond, nat_lt, slice_get, Some, None, if◌then◌else◌}
use Rattle.std.specs.declared.option.Option.{Option}
use Rattle.abc_base.specs.declared.names.Fault.TheVariants as faults
use Rattle.abc_base.specs.declared.names.HostClass.TheVariants as hosts
use Rattle.abc_heap_values.specs.declared.values.ObjId.{ObjId}
use Rattle.abc_heap_values.specs.declared.values.Span.{Span}
use Rattle.abc_heap_values.specs.declared.values.Value.{Value}
use Rattle.abc_heap_values.specs.declared.values.Value.TheVariants.{Obj}
use Rattle.abc_heap_store.specs.Changes.{with_element, with_new_element, with_object}
use Rattle.abc_heap_store.specs.Heap.{FitsCells, Heap, IsFull, Object, cells_used, object_at}
use Rattle.abc_heap_store.specs.Properties.{present_property, found_property as held_at, is_property_named, place_below, place_of_property, property_in_heap, the_value}
use Rattle.abc_heap_store.specs.Texts.{text_of}
use Rattle.abc_heap_store.specs.What.{is_array}
use Rattle.abc_heap_store.specs.declared.records.Full.{Full}
use Rattle.abc_heap_store.specs.declared.records.Limit.TheVariants as limits
use Rattle.abc_lookup.specs.Named.{element_in, element_name_on}
use Rattle.abc_lookup.specs.declared.elements.ElementName as code
use Rattle.abc_objects.specs.Growing.{Grows}
use Rattle.abc_objects.specs.Stands.{StandsOver}
use Rattle.abc_objects.specs.Values.{IsObject}
use Rattle.abc_objects.proofs.Kept.{changed_grows}
use Rattle.abc_link_names.specs.Linked.{LinkedFile}
use Rattle.abc_objects.specs.ElementNames.{ElementName, IsNumber, element_name}
use Rattle.abc_run_state.specs.Outer.{at_heap}
use Rattle.abc_run_state.specs.Standing.{Stays}
use Rattle.abc_run_state.specs.declared.state.State.{State}
use Rattle.abc_meaning.specs.Members.{dynamic_in, element_of, is_dynamic, may_hold, write_element, write_own, write_property}
use Rattle.abc_meaning.specs.Objects.{own_place, set_property}
use Rattle.abc_meaning.specs.Setting.{Setting, is_dynamic_layout}
use Rattle.abc_meaning.specs.World.{Errs, Faults, Fills, Run, Stopped, Went, World, and_then, changes, fails, room_for_cells, see, some, throws, ◌>>=◌, ◌>>◌}
use Rattle.abc_run_state.proofs.Rooms.{cells_full, cells_ok, changes_to}
use Rattle.abc_run_members.specs.Members.{may_take_property}
use Rattle.abc_run_members.proofs.Searched.{object_inside}

-- ---- the heap alone changes

pub heap_stays : (l : LinkedFile) (s : State) (h : Heap) → StandsOver l h → Grows s.arena h → h.limits ≡ s.arena.limits → Stays l s (record s { arena = h })
heap_stays l s h over grows limits = record { over = over; grows = grows; limits = limits; frames = refl; started = refl; given = refl }

pub element_grows : (h new : Heap) (o : ObjId) (k : ℕ) (x : Value) → new ≡ with_object (with_element k x) o.0 h → Grows h new
element_grows h new o k x e = subst (Grows h) (sym e) (changed_grows h (with_element k x) o.0 (λ ob. record { layout = refl; delegate = refl; what = refl }))

pub new_element_grows : (h new : Heap) (o : ObjId) (x : Value) → new ≡ with_object (with_new_element x) o.0 h → Grows h new
new_element_grows h new o x e = subst (Grows h) (sym e) (changed_grows h (with_new_element x) o.0 (λ ob. record { layout = refl; delegate = refl; what = refl }))

pub element_limits : (h new : Heap) (o : ObjId) (k : ℕ) (x : Value) → new ≡ with_object (with_element k x) o.0 h → new.limits ≡ h.limits
element_limits h new o k x e = ap (λ (k : Heap). k.limits) e

pub new_element_limits : (h new : Heap) (o : ObjId) (x : Value) → new ≡ with_object (with_new_element x) o.0 h → new.limits ≡ h.limits
new_element_limits h new o x e = ap (λ (k : Heap). k.limits) e

pub same_limits : (h new : Heap) → new ≡ h → new.limits ≡ h.limits
same_limits h new e = ap (λ (k : Heap). k.limits) e

-- ---- elements

lower : (a b : ℕ) → a < b → nat_lt a b ≡ true
lower a b h = grind (arith, nat_tests)

no_lower : (a b : ℕ) → b < a → nat_lt a b ≡ false
no_lower a b h = grind (arith, nat_tests)

self_no_lower : (a : ℕ) → nat_lt a a ≡ false
self_no_lower a = grind (arith, nat_tests)

differs : (a b : ℕ) → b < a → nat_eq a b ≡ false
differs a b h = grind (arith, nat_tests)

-- at a place: it is replaced, added, or past the end
abbrev replaced : ObjId → ℕ → Value → Run (Unit {0})
replaced o k x = changes (with_object (with_element k x) o.0) (λ h. tt)

abbrev added : ObjId → Value → Run (Unit {0})
added o x = room_for_cells 1 >> changes (with_object (with_new_element x) o.0) (λ h. tt)

abbrev chosen : (low same : Bool) → ObjId → ℕ → Value → Run (Unit {0})
chosen low same o k x = if low then replaced o k x else (if same then added o x else fails faults.ArrayIndex)

pub element_kept : (o : ObjId) (n k : ℕ) (x : Value) (w : World) (new : Heap) → k < n → new ≡ with_object (with_element k x) o.0 w.heap → write_element o n k x w ≡ Went (at_heap new w) tt
element_kept o n k x w new h e =
    ap (λ (b : Bool). chosen b (nat_eq k n) o k x w) (lower k n h) ∙ changes_to (with_object (with_element k x) o.0) (λ h. tt) w new tt e refl

at_end : (o : ObjId) (k : ℕ) (x : Value) (w : World) → write_element o k k x w ≡ added o x w
at_end o k x w = ap (λ (b : Bool). chosen b (nat_eq k k) o k x w) (self_no_lower k) ∙ ap (λ (b : Bool). chosen false b o k x w) (eq-eqb k k refl)

pub element_added : (o : ObjId) (n k : ℕ) (x : Value) (w : World) (new : Heap) → k ≡ n → FitsCells w.heap new 1 (with_object (with_new_element x) o.0 w.heap) → write_element o n k x w ≡ Went (at_heap new w) tt
element_added o n k x w new e f =
    ap (λ (j : ℕ). write_element o j k x w) (sym e) ∙ at_end o k x w
    ∙ cells_ok w 1 (changes (with_object (with_new_element x) o.0) (λ h. tt)) f.0
    ∙ changes_to (with_object (with_new_element x) o.0) (λ h. tt) w new tt f.1 refl

pub element_full : (o : ObjId) (n k : ℕ) (x : Value) (w : World) (new : Heap) (e : Full) → k ≡ n → IsFull w.heap new (cells_used w.heap) 1 w.heap.limits.cells limits.Cells e → write_element o n k x w ≡ Stopped (at_heap new w) (Fills e.0)
element_full o n k x w new e same f = ap (λ (j : ℕ). write_element o j k x w) (sym same) ∙ at_end o k x w ∙ cells_full w 1 (changes (with_object (with_new_element x) o.0) (λ h. tt)) new e f

pub element_past : (o : ObjId) (n k : ℕ) (x : Value) (w : World) → n < k → write_element o n k x w ≡ Stopped w (Faults faults.ArrayIndex)
element_past o n k x w h = ap (λ (b : Bool). chosen b (nat_eq k n) o k x w) (no_lower k n h) ∙ ap (λ (b : Bool). chosen false b o k x w) (differs k n h)

-- ---- own properties

named_filled : (f : Span → List ℕ) (t : List ℕ) (q : Option (Option (Span × Value))) → is_property_named f t q ≡ true → is_some (the_value (present_property q)) ≡ true
named_filled f t None e = absurd cc
named_filled f t (Some None) e = absurd cc
named_filled f t (Some (Some p)) e = refl

own_below : (f : Span → List ℕ) (t : List ℕ) (ps : List (Option (Span × Value))) (n : ℕ) → is_some (held_at ps (place_below f t ps n)) ≡ is_some (place_below f t ps n)
own_below f t ps zero = refl
own_below f t ps (suc k) = go (own_below f t ps k) (is_property_named f t (slice_get ps k)) refl
  where
    go : is_some (held_at ps (place_below f t ps k)) ≡ is_some (place_below f t ps k) → (b : Bool) → is_property_named f t (slice_get ps k) ≡ b
        → is_some (held_at ps (cond b (Some k) (place_below f t ps k))) ≡ is_some (cond b (Some k) (place_below f t ps k))
    go more true e = named_filled f t (slice_get ps k) e
    go more false e = more

pub own_is : (strings : List (List ℕ)) (h : Heap) (o : ℕ) (n : Span) → is_some (property_in_heap strings h o n) ≡ is_some (place_of_property strings h o n)
own_is strings h o n = own_below (text_of strings h) (text_of strings h n) (object_at h.objects o).properties (length (object_at h.objects o).properties)

may_all : (place : Option ℕ) → may_hold place true ≡ true
may_all None = refl
may_all (Some k) = refl

may_if : (place : Option ℕ) → may_hold place false ≡ is_some place
may_if None = refl
may_if (Some k) = refl

dynamic_is : (p : Setting) (o : ObjId) (w : World) → IsObject w.heap o → is_dynamic p (Obj o) w ≡ is_dynamic_layout p (object_at w.heap.objects o.0).layout
dynamic_is p o w inner = ap (dynamic_in p) (object_inside w.heap.objects o.0 inner)

-- what is dynamic may
pub dynamic_takes : (p : Setting) (o : ObjId) (text : Span) (w : World) (d : Bool) → IsObject w.heap o → d ≡ is_dynamic p (Obj o) w → d ≡ true → true ≡ may_take_property p o text w
dynamic_takes p o text w d inner is e =
    sym (ap (may_hold (own_place p o text w)) (sym (dynamic_is p o w inner) ∙ sym is ∙ e) ∙ may_all (own_place p o text w))

-- and what is not, where it has one of its own
pub own_takes : (p : Setting) (o : ObjId) (text : Span) (w : World) (d b : Bool) → IsObject w.heap o → d ≡ is_dynamic p (Obj o) w → d ≡ false
    → b ≡ is_some (property_in_heap p.linked.file.strings w.heap o.0 text) → b ≡ may_take_property p o text w
own_takes p o text w d b inner is e own =
    own ∙ own_is p.linked.file.strings w.heap o.0 text
    ∙ sym (ap (may_hold (own_place p o text w)) (sym (dynamic_is p o w inner) ∙ sym is ∙ e) ∙ may_if (own_place p o text w))

held : (p : Setting) (o : ObjId) (text : Span) (x : Value) (w : World) (b : Bool) → may_take_property p o text w ≡ b
    → write_own p o (object_at w.heap.objects o.0) text x None w ≡ (let m : Run (Unit {0}) = if b then set_property p o text x else throws hosts.ReferenceError in m w)
held p o text x w b e = ap (λ (c : Bool). let m : Run (Unit {0}) = if c then set_property p o text x else throws hosts.ReferenceError in m w) e

pub own_written : (p : Setting) (o : ObjId) (text : Span) (x : Value) (w : World) (b : Bool) → b ≡ may_take_property p o text w → b ≡ true → write_own p o (object_at w.heap.objects o.0) text x None w ≡ set_property p o text x w
own_written p o text x w b e t = held p o text x w true (sym e ∙ t)

pub own_refused : (p : Setting) (o : ObjId) (text : Span) (x : Value) (w : World) (b : Bool) → b ≡ may_take_property p o text w → b ≡ false → write_own p o (object_at w.heap.objects o.0) text x None w ≡ Stopped w (Errs hosts.ReferenceError)
own_refused p o text x w b e t = held p o text x w false (sym e ∙ t)

-- ---- by a text

pub property_written : (p : Setting) (o : ObjId) (text : Span) (x : Value) (w : World) (named : Option code.ElementName) → IsObject w.heap o → element_in named ≡ element_name_on p.linked w.heap o text
    → write_property p o text x w ≡ write_own p o (object_at w.heap.objects o.0) text x (element_in named) w
property_written p o text x w named inner e =
    ap (λ (r : Option Object). and_then (some r w) (λ ob. see (element_of p ob text) >>= write_own p o ob text x)) (object_inside w.heap.objects o.0 inner)
    ∙ ap (λ (r : Option ElementName). write_own p o (object_at w.heap.objects o.0) text x r w) (sym e)

-- only an array has elements
pub array_named : (l : LinkedFile) (h : Heap) (o : ObjId) (text : Span) (k : ℕ) → element_name_on l h o text ≡ Some (IsNumber k) → is_array (object_at h.objects o.0).what ≡ true
array_named l h o text k e = go (is_array (object_at h.objects o.0).what) e
  where
    go : (b : Bool) → cond b (element_name (text_of l.file.strings h text)) None ≡ Some (IsNumber k) → b ≡ true
    go true q = refl
    go false q = absurd cc

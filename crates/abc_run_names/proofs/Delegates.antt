-- Objects that are there, and the first position along their delegates.
use Rattle.std.proofs.Common.{◌≡◌, ◌<◌, ℕ, zero, suc, List, [], ◌∷◌, length, refl, sym, ap, ◌∙◌, arith, Some, None, slice_get, true, false}
use Rattle.std.specs.declared.option.Option.{Option}
use Rattle.abc_base_graphs.specs.Ways.{IsFalling, way}
use Rattle.abc_base_graphs.proofs.Walks.{step_in, way_none, way_some}
use Rattle.abc_heap_store.specs.Heap.{Heap, Object, object_at, obj_id}
use Rattle.abc_heap_store.specs.Properties.{at_position, element_at, the_name, walked_next, walked_value}
use Rattle.abc_heap_store.specs.What.{is_array}
use Rattle.abc_ops.specs.Left.{gives_left}
use Rattle.abc_heap_values.specs.declared.values.ObjId.{ObjId}
use Rattle.abc_lookup.proofs.Stands.{delegates_fall, outside}
use Rattle.abc_objects.specs.Stands.{IsObjectOrNone, StandsOver}
use Rattle.abc_objects.specs.Values.{IsObject}
use Rattle.abc_link_names.specs.Linked.{LinkedFile}
use Rattle.abc_objects.specs.Objects.{delegate_at, number_of_object}
use Rattle.abc_run_names.specs.Walking.{element_named, first_position, named_in, next_position, position_or_later, position_from, name_text_or_null, value_at_position, found_or_undefined}

-- ---- an object that is there

object_there : (obs : List Object) (o : ℕ) → o < length obs → slice_get obs o ≡ Some (object_at obs o)
object_there [] o b = absurd (omega arith)
object_there (ob ∷ obs) zero b = refl
object_there (ob ∷ obs) (suc o) b = object_there obs o (omega arith)

pub next_there : (h : Heap) (o k : ℕ) → o < length h.objects → next_position (slice_get h.objects o) k ≡ walked_next (object_at h.objects o) k
next_there h o k b = ap (λ ob. next_position ob k) (object_there h.objects o b)

pub value_there : (h : Heap) (o k : ℕ) → o < length h.objects → value_at_position (slice_get h.objects o) k ≡ found_or_undefined (walked_value (object_at h.objects o) k)
value_there h o k b = ap (λ ob. value_at_position ob k) (object_there h.objects o b)

pub array_named : (h : Heap) (o k : ℕ) → o < length h.objects → is_array (object_at h.objects o).what ≡ true → named_in h (slice_get h.objects o) k ≡ element_named h k (element_at (object_at h.objects o).elements k)
array_named h o k b e = rw (object_there h.objects o b, e) refl

pub property_named : (h : Heap) (o k : ℕ) → o < length h.objects → is_array (object_at h.objects o).what ≡ false → named_in h (slice_get h.objects o) k ≡ gives_left h (name_text_or_null (the_name (at_position (object_at h.objects o).properties k)))
property_named h o k b e = rw (object_there h.objects o b, e) refl

-- and its delegate is too
pub delegate_there : (l : LinkedFile) (h : Heap) → StandsOver l h → (o : ObjId) → IsObject h o → IsObjectOrNone h (object_at h.objects o.0).delegate
delegate_there l h st o b =
    let d = (object_at h.objects o.0).delegate in
    outside h d (step_in (delegate_at h) (delegates_fall l h st) o.0 (length h.objects) (Some o.0) refl b (number_of_object d) refl)

-- ---- the first position along the way

first_step : (h : Heap) → IsFalling (delegate_at h) → (x : ℕ) → first_position h (way (delegate_at h) (Some x)) ≡ position_or_later (position_from x (walked_next (object_at h.objects x) 0)) (first_position h (way (delegate_at h) (delegate_at h x)))
first_step h f x = ap (first_position h) (way_some (delegate_at h) f x)

-- none is left
pub first_end : (h : Heap) (at : Option ℕ) → at ≡ None → first_position h (way (delegate_at h) at) ≡ None
first_end h at e = ap (λ a. first_position h (way (delegate_at h) a)) e ∙ ap (first_position h) (way_none (delegate_at h))

-- an object without a position is passed
pub first_next : (h : Heap) (x : ℕ) (at next : Option ℕ) → IsFalling (delegate_at h) → at ≡ Some x → walked_next (object_at h.objects x) 0 ≡ None → next ≡ delegate_at h x
    → first_position h (way (delegate_at h) next) ≡ first_position h (way (delegate_at h) at)
first_next h x at next f is none up =
    ap (λ a. first_position h (way (delegate_at h) a)) up
    ∙ ap (λ p. position_or_later (position_from x p) (first_position h (way (delegate_at h) (delegate_at h x)))) (sym none)
    ∙ sym (first_step h f x)
    ∙ ap (λ a. first_position h (way (delegate_at h) a)) (sym is)

-- an object that has one
pub first_here : (h : Heap) (x k : ℕ) (at : Option ℕ) → IsFalling (delegate_at h) → at ≡ Some x → walked_next (object_at h.objects x) 0 ≡ Some k
    → Some (record { holder = obj_id x; position = k }) ≡ first_position h (way (delegate_at h) at)
first_here h x k at f is e =
    ap (λ p. position_or_later (position_from x p) (first_position h (way (delegate_at h) (delegate_at h x)))) (sym e)
    ∙ sym (first_step h f x)
    ∙ ap (λ a. first_position h (way (delegate_at h) a)) (sym is)

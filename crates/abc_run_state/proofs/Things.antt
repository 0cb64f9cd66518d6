-- What an object of an arena over a file has.
use Rattle.std.proofs.Common.{◌≡◌, ℕ, zero, suc, ◌<◌, List, [], ◌∷◌, length, refl, arith}
use Rattle.std.specs.Prelude.{Some, None, slice_get}
use Rattle.abc_heap_values.specs.declared.values.Value.{Value}
use Rattle.abc_heap_store.specs.Heap.{Heap, Object, object_at, slots_of_object}
use Rattle.abc_objects.specs.Stands.{StandsOver, object_if_any}
use Rattle.abc_link_names.specs.Linked.{LinkedFile}
use Rattle.abc_link_names.specs.Slots.{slots_of}

pub object_is : (obs : List Object) (o : ℕ) → o < length obs → slice_get obs o ≡ Some (object_at obs o)
object_is [] o b = absurd (omega arith)
object_is (ob ∷ obs) zero b = refl
object_is (ob ∷ obs) (suc o) b = object_is obs o (omega arith)

pub layout_there : (l : LinkedFile) (h : Heap) (o : ℕ) → StandsOver l h → o < length h.objects → (object_at h.objects o).layout < length l.parts
layout_there l h o st b = (st.objects o (object_at h.objects o) (object_is h.objects o b)).layout

pub slots_counted : (l : LinkedFile) (h : Heap) (o : ℕ) → StandsOver l h → o < length h.objects → length (slots_of_object h.objects o) ≡ length (slots_of l (object_at h.objects o).layout)
slots_counted l h o st b = (st.objects o (object_at h.objects o) (object_is h.objects o b)).slots

pub none_held : (vs : List Value) → length vs ≡ 0 → object_if_any (slice_get vs 0) ≡ None
none_held [] e = refl
none_held (v ∷ vs) e = absurd (omega arith)

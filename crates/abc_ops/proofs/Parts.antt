-- The layouts of objects are those of the file's parts.
use Rattle.std.proofs.Common.{◌≡◌, ℕ, zero, suc, ◌<◌, List, [], ◌∷◌, Some, length, refl, arith}
use Rattle.std.specs.Prelude.{slice_get}
use Rattle.abc_heap_store.specs.Heap.{Heap, Object, object_at}
use Rattle.abc_link_names.specs.Linked.{LinkedFile}
use Rattle.abc_objects.specs.Stands.{StandsOver}

-- an object is found at its position
object_found : (obs : List Object) (o : ℕ) → o < length obs → slice_get obs o ≡ Some (object_at obs o)
object_found (ob ∷ obs) zero lt = refl
object_found (ob ∷ obs) (suc o) lt = object_found obs o (omega arith)
object_found [] o lt = absurd (omega arith)

pub layout_there : (l : LinkedFile) (h : Heap) (o : ℕ) → StandsOver l h → o < length h.objects → (object_at h.objects o).layout < length l.parts
layout_there l h o s lt = (s.objects o (object_at h.objects o) (object_found h.objects o lt)).layout

-- What an object of an arena is names parts that are there.
use Rattle.std.proofs.Common.{◌≡◌, ℕ, zero, suc, ◌<◌, List, [], ◌∷◌, Some, length, refl, arith}
use Rattle.std.specs.Prelude.{slice_get}
use Rattle.abc_heap_values.specs.declared.values.ObjId.{ObjId}
use Rattle.abc_heap_store.specs.Heap.{Heap, Object, object_at}
use Rattle.abc_objects.specs.Stands.{NamesParts, StandsOver}
use Rattle.abc_objects.specs.Values.{IsObject}
use Rattle.abc_link_names.specs.Linked.{LinkedFile}

object_there : (obs : List Object) (o : ℕ) → o < length obs → slice_get obs o ≡ Some (object_at obs o)
object_there [] o h = absurd (omega arith)
object_there (ob ∷ obs) zero h = refl
object_there (ob ∷ obs) (suc o) h = object_there obs o (omega arith)

pub parts_named : (l : LinkedFile) (h : Heap) (o : ObjId) → StandsOver l h → IsObject h o → NamesParts l h (object_at h.objects o.0).what
parts_named l h o s lt = (s.objects o.0 (object_at h.objects o.0) (object_there h.objects o.0 lt)).what

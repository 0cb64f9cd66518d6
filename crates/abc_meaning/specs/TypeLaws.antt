-- The test of types and coercion, by computing, are what they are to be.
use Rattle.std.specs.Prelude.{◌↔◌, IsTrue}
use Rattle.std.specs.declared.result.Result.{Result}
use Rattle.abc_heap_values.specs.declared.values.Value.{Value}
use Rattle.abc_heap_store.specs.Heap.{Heap}
use Rattle.abc_ops.specs.Coercions.{Coerces}
use Rattle.abc_ops.specs.Left.{LeavesHeap}
use Rattle.abc_ops.specs.Types.{IsOf}
use Rattle.abc_ops.specs.declared.end.OpEnd.{OpEnd}
use Rattle.abc_link_names.specs.Linked.{IsLinkedFile, LinkedFile}
use Rattle.abc_link_names.specs.declared.types.Ty.{Ty}
use Rattle.abc_meaning.specs.Ops.{coerce_to}
use Rattle.abc_meaning.specs.Types.{is_of_type}

-- over a linked file, a value passes the test of a type exactly where it is of that type
abbrev pub DecidesTypes : Type 0
DecidesTypes = (l : LinkedFile) (h : Heap) (t : Ty) (v : Value) → IsLinkedFile l → (IsTrue (is_of_type l h t v) ↔ IsOf l h t v)

-- over a linked file, what coercion to a type is to answer and to leave, computing it does answer and leave
abbrev pub ComputesCoercion : Type 0
ComputesCoercion = (l : LinkedFile) (old new : Heap) (t : Ty) (v : Value) (result : Result Value OpEnd) → IsLinkedFile l → Coerces l old new t v result → LeavesHeap (coerce_to l old t v) result new

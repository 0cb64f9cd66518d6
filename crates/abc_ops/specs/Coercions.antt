-- Coercion of values to types (Overview, chapter 5; profile: docs/MACHINE.md, "Values, conversions and operations").
use Rattle.std.specs.Prelude.{◌≡◌, Bool, if◌then◌else◌, IsTrue, ◌↔◌, Ok, Err}
use Rattle.std.specs.declared.result.Result.{Result}
use Rattle.abc_base.specs.declared.names.HostClass.TheVariants as hosts
use Rattle.abc_heap_values.specs.declared.values.Value.{Value}
use Rattle.abc_heap_values.specs.declared.values.Value.TheVariants as values
use Rattle.abc_heap_values.specs.Kinds.{is_nothing, is_undefined}
use Rattle.abc_heap_values.specs.declared.numbers.Conversion.TheVariants as conversions
use Rattle.abc_heap_store.specs.Heap.{Heap}
use Rattle.abc_link_names.specs.Linked.{LinkedFile}
use Rattle.abc_link_names.specs.declared.types.Ty.{Ty}
use Rattle.abc_link_names.specs.declared.types.Ty.TheVariants as types
use Rattle.abc_ops.specs.Conversions.{conversion_result}
use Rattle.abc_ops.specs.Left.{LeavesHeap, gives_left}
use Rattle.abc_ops.specs.Types.{IsOf}
use Rattle.abc_ops.specs.declared.end.OpEnd.{OpEnd}
use Rattle.abc_ops.specs.declared.end.OpEnd.TheVariants as ends

-- null for undefined
abbrev pub undefined_as_null : Value → Value
undefined_as_null v = if is_undefined v then values.Null else v

-- by whether the value is of the type: undefined and null become null
abbrev pub value_kept_by : Bool → Value → Result Value OpEnd
value_kept_by is v =
    if is_nothing v then Ok values.Null
    else (if is then Ok v else Err (ends.Throw hosts.TypeError))

-- what coercion to a class or an interface answers: is tells whether the value is of the type
pub record CoercionKeeps (l : LinkedFile) (h : Heap) (ty : Ty) (v : Value) (result : Result Value OpEnd) : Type 0 where
  pub is : Bool
  pub tells : IsTrue is ↔ IsOf l h ty v
  pub kept : result ≡ value_kept_by is v

-- what coercion answers and leaves
abbrev pub Coerces : LinkedFile → Heap → Heap → Ty → Value → Result Value OpEnd → Type 0
Coerces l old new types.Any v result = LeavesHeap (gives_left old v) result new
Coerces l old new types.Void v result = LeavesHeap (gives_left old values.Undefined) result new
Coerces l old new types.Object v result = LeavesHeap (gives_left old (undefined_as_null v)) result new
Coerces l old new types.Int v result = LeavesHeap (conversion_result l old conversions.ConvertI v) result new
Coerces l old new types.UInt v result = LeavesHeap (conversion_result l old conversions.ConvertU v) result new
Coerces l old new types.Number v result = LeavesHeap (conversion_result l old conversions.ConvertD v) result new
Coerces l old new types.Boolean v result = LeavesHeap (conversion_result l old conversions.ConvertB v) result new
Coerces l old new types.Text v result = LeavesHeap (conversion_result l old conversions.CoerceS v) result new
Coerces l old new types.Space v result = CoercionKeeps l old types.Space v result × (new ≡ old)
Coerces l old new (types.Of x) v result = CoercionKeeps l old (types.Of x) v result × (new ≡ old)
Coerces l old new (types.Interface k) v result = CoercionKeeps l old (types.Interface k) v result × (new ≡ old)

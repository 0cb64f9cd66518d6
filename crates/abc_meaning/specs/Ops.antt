-- Operations as parts of a step (Overview, chapter 5; profile: docs/MACHINE.md, "Values, conversions and operations").
use Rattle.std.specs.Prelude.{ℕ, Bool, Ok, Err}
use Rattle.std.specs.declared.result.Result.{Result}
use Rattle.abc_heap_values.specs.declared.values.Span.{Span}
use Rattle.abc_heap_values.specs.declared.values.Value.{Value}
use Rattle.abc_heap_values.specs.declared.values.Value.TheVariants as values
use Rattle.abc_heap_values.specs.declared.numbers.Conversion.{Conversion}
use Rattle.abc_heap_values.specs.declared.numbers.Conversion.TheVariants.{ConvertS, ConvertI, ConvertU, ConvertD, ConvertB, CoerceS}
use Rattle.abc_heap_store.specs.Heap.{Heap}
use Rattle.abc_ops.specs.Coercions.{value_kept_by, undefined_as_null}
use Rattle.abc_ops.specs.Compares.{comparison_result}
use Rattle.abc_ops.specs.Conversions.{conversion_result, spelling}
use Rattle.abc_ops.specs.Left.{Left, gives_left, heap_unchanged}
use Rattle.abc_ops.specs.Operations.{computation, computed_single}
use Rattle.abc_ops.specs.declared.end.OpEnd.{OpEnd}
use Rattle.abc_ops.specs.declared.end.OpEnd.TheVariants as ends
use Rattle.abc_link_names.specs.Linked.{LinkedFile}
use Rattle.abc_link_names.specs.declared.types.Ty.{Ty}
use Rattle.abc_link_names.specs.declared.types.Ty.TheVariants as types
use Rattle.abc_meaning.specs.Setting.{Setting}
use Rattle.abc_meaning.specs.Types.{is_of_type}
use Rattle.abc_meaning.specs.World.{Errs, Faults, Fills, Outcome, Run, Stop, Stopped, Went, World, with_heap}

abbrev pub stop_of : OpEnd → Stop
stop_of (ends.Profile fault) = Faults fault
stop_of (ends.Full limit) = Fills limit
stop_of (ends.Throw c) = Errs c

abbrev pub outcome : {X : Type 0} → World → Result X OpEnd → Outcome X
outcome w (Ok x) = Went w x
outcome w (Err e) = Stopped w (stop_of e)

-- what an operation answers, in the heap that it leaves
abbrev pub operates : {X : Type 0} → (Heap → Left X) → Run X
operates f w = outcome (with_heap (λ h. (f h).heap) w) (f w.heap).answer

-- the value is converted
abbrev pub converts : Setting → Conversion → Value → Run Value
converts p to v = operates (λ h. conversion_result p.linked h to v)

abbrev pub as_int : Setting → Value → Run Value
as_int p = converts p ConvertI

abbrev pub as_uint : Setting → Value → Run Value
as_uint p = converts p ConvertU

abbrev pub as_number : Setting → Value → Run Value
as_number p = converts p ConvertD

abbrev pub as_boolean : Setting → Value → Run Value
as_boolean p = converts p ConvertB

-- a text, as a value and as where it lies
abbrev pub as_text : Setting → Value → Run Value
as_text p = converts p ConvertS

-- the text of a value, as a span
abbrev pub spells : Setting → Value → Run Span
spells p v = operates (λ h. spelling p.linked h v)

-- ---- coercion to a type

abbrev pub value_kept : LinkedFile → Heap → Ty → Value → Left Value
value_kept l h t v = heap_unchanged h (value_kept_by (is_of_type l h t v) v)

abbrev pub coerce_to : LinkedFile → Heap → Ty → Value → Left Value
coerce_to l h types.Any v = gives_left h v
coerce_to l h types.Void v = gives_left h values.Undefined
coerce_to l h types.Object v = gives_left h (undefined_as_null v)
coerce_to l h types.Int v = conversion_result l h ConvertI v
coerce_to l h types.UInt v = conversion_result l h ConvertU v
coerce_to l h types.Number v = conversion_result l h ConvertD v
coerce_to l h types.Boolean v = conversion_result l h ConvertB v
coerce_to l h types.Text v = conversion_result l h CoerceS v
coerce_to l h types.Space v = value_kept l h types.Space v
coerce_to l h (types.Of x) v = value_kept l h (types.Of x) v
coerce_to l h (types.Interface k) v = value_kept l h (types.Interface k) v

-- the value is coerced to a type
abbrev pub coerces : Setting → Ty → Value → Run Value
coerces p t v = operates (λ h. coerce_to p.linked h t v)

-- ---- by the opcode

-- what the opcode computes of one value
abbrev pub computes_one : ℕ → Value → Run Value
computes_one op v = operates (λ h. computed_single h op v)

-- what the opcode computes of two values, the left first
abbrev pub computes_two : Setting → ℕ → Value → Value → Run Value
computes_two p op x y = operates (λ h. computation p.linked h op x y)

-- what the opcode of a comparison answers of two values, the left first
abbrev pub compares : Setting → ℕ → Value → Value → Run Bool
compares p op x y w = outcome w (comparison_result p.linked w.heap op x y)

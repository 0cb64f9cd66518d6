-- The conversions of values (Overview, chapter 5; profile: docs/MACHINE.md, "Values, conversions and operations").
use Rattle.std.specs.Prelude.{true, false, if◌then◌else◌, Ok, Err}
use Rattle.std.specs.Fmt.{signed_decimal}
use Rattle.std.specs.declared.result.Result.{Result}
use Rattle.abc_base.specs.declared.names.Fault.TheVariants as faults
use Rattle.abc_base.specs.declared.names.HostClass.TheVariants as hosts
use Rattle.abc_heap_values.specs.declared.values.Span.{Span}
use Rattle.abc_heap_values.specs.declared.values.Value.{Value}
use Rattle.abc_heap_values.specs.declared.values.Value.TheVariants as values
use Rattle.abc_heap_values.specs.Kinds.{is_nothing}
use Rattle.abc_heap_values.specs.Numbers.{int_of, number_of, truth_of, uint_of}
use Rattle.abc_heap_values.specs.declared.numbers.Conversion.{Conversion}
use Rattle.abc_heap_values.specs.declared.numbers.Conversion.TheVariants as conversions
use Rattle.abc_heap_store.specs.Heap.{Heap}
use Rattle.abc_link_names.specs.Pool.{space}
use Rattle.abc_link_names.specs.Linked.{LinkedFile}
use Rattle.abc_objects.specs.Fixed.{fixed_span}
use Rattle.abc_objects.specs.Starts.{string_span}
use Rattle.abc_objects.specs.declared.fixed.FixedText.TheVariants as fixed
use Rattle.abc_ops.specs.Left.{Left, as_value, ends_by, gives_left, number_or_fault, text_made, heap_unchanged}
use Rattle.abc_ops.specs.declared.end.OpEnd.{OpEnd}
use Rattle.abc_ops.specs.declared.end.OpEnd.TheVariants as ends

-- convert_s: a number makes its text, a namespace has its name
abbrev pub spelling : LinkedFile → Heap → Value → Left Span
spelling l h values.Undefined = gives_left h (fixed_span fixed.Undefined)
spelling l h values.Null = gives_left h (fixed_span fixed.Null)
spelling l h (values.Num n) = text_made h (signed_decimal n)
spelling l h (values.Bool true) = gives_left h (fixed_span fixed.True)
spelling l h (values.Bool false) = gives_left h (fixed_span fixed.False)
spelling l h (values.Text s) = gives_left h s
spelling l h (values.Space n) = gives_left h (string_span l.file.strings (space l.file n).name)
spelling l h (values.Obj o) = ends_by h (ends.Profile faults.ObjectToPrimitive)

-- convert_o
abbrev pub object_or_error : Value → Result Value OpEnd
object_or_error v = if is_nothing v then Err (ends.Throw hosts.TypeError) else Ok v

-- coerce_s
abbrev pub converted_or_null : LinkedFile → Heap → Value → Left Value
converted_or_null l h v = if is_nothing v then gives_left h values.Null else as_value (spelling l h v)

-- what a conversion gives of a value, and the heap that it leaves
abbrev pub conversion_result : LinkedFile → Heap → Conversion → Value → Left Value
conversion_result l h conversions.ConvertS v = as_value (spelling l h v)
conversion_result l h conversions.ConvertI v = heap_unchanged h (number_or_fault (int_of v))
conversion_result l h conversions.ConvertU v = heap_unchanged h (number_or_fault (uint_of v))
conversion_result l h conversions.ConvertD v = heap_unchanged h (number_or_fault (number_of v))
conversion_result l h conversions.ConvertB v = gives_left h (values.Bool (truth_of v))
conversion_result l h conversions.ConvertO v = heap_unchanged h (object_or_error v)
conversion_result l h conversions.CoerceS v = converted_or_null l h v

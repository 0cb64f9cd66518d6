-- What the comparisons answer (Overview, chapter 5; profile: docs/MACHINE.md, "Values, conversions and operations").
use Rattle.std.specs.Prelude.{ℕ, Bool, Ok, Err}
use Rattle.std.specs.declared.result.Result.{Result}
use Rattle.abc_base.specs.declared.names.Fault.{Fault}
use Rattle.abc_heap_values.specs.declared.values.Value.{Value}
use Rattle.abc_heap_values.specs.Equality.{equal_values, same_values}
use Rattle.abc_ops.specs.Opcodes.{comparison_of}
use Rattle.abc_heap_values.specs.Order.{order_of}
use Rattle.abc_ops.specs.declared.opcodes.Comparison.{Comparison}
use Rattle.abc_ops.specs.declared.opcodes.Comparison.TheVariants.{Equal, StrictlyEqual, Ordered}
use Rattle.abc_heap_store.specs.Heap.{Heap}
use Rattle.abc_heap_store.specs.Texts.{text_of}
use Rattle.abc_link_names.specs.Pool.{same_space}
use Rattle.abc_link_names.specs.Linked.{LinkedFile}
use Rattle.abc_ops.specs.declared.end.OpEnd.{OpEnd}
use Rattle.abc_ops.specs.declared.end.OpEnd.TheVariants as ends

abbrev pub or_fault : Result Bool Fault → Result Bool OpEnd
or_fault (Ok b) = Ok b
or_fault (Err f) = Err (ends.Profile f)

abbrev pub compared_as : LinkedFile → Heap → Comparison → Value → Value → Result Bool OpEnd
compared_as l h Equal x y = or_fault (equal_values (text_of l.file.strings h) (same_space l.file) x y)
compared_as l h StrictlyEqual x y = Ok (same_values (text_of l.file.strings h) (same_space l.file) x y)
compared_as l h (Ordered order) x y = or_fault (order_of (text_of l.file.strings h) order x y)

-- what the opcode of a comparison answers of two values, the left first, or why it has no answer
abbrev pub comparison_result : LinkedFile → Heap → ℕ → Value → Value → Result Bool OpEnd
comparison_result l h op x y = compared_as l h (comparison_of op) x y

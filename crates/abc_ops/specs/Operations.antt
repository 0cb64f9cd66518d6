-- What the opcodes compute of one value and of two (Overview, chapter 5; profile: docs/MACHINE.md, "Values, conversions and operations").
use Rattle.std.specs.Prelude.{ℕ, ◌||◌, ◌&&◌, not, nat_eq, ◌++◌, if◌then◌else◌}
use Rattle.abc_heap_values.specs.declared.values.Span.{Span}
use Rattle.abc_heap_values.specs.declared.values.Value.{Value}
use Rattle.abc_heap_values.specs.declared.values.Value.TheVariants as values
use Rattle.abc_heap_values.specs.Kinds.{is_text}
use Rattle.abc_heap_values.specs.Numbers.{calculated_of, calculated_single_of, truth_of}
use Rattle.abc_ops.specs.Opcodes.{operation_of, single_of}
use Rattle.abc_heap_store.specs.Heap.{Heap, object_at}
use Rattle.abc_heap_store.specs.Texts.{text_of}
use Rattle.abc_heap_store.specs.declared.records.What.{What}
use Rattle.abc_heap_store.specs.declared.records.What.TheVariants as whats
use Rattle.abc_link_names.specs.Linked.{LinkedFile}
use Rattle.abc_objects.specs.Fixed.{fixed_span}
use Rattle.abc_objects.specs.declared.fixed.FixedText.{FixedText}
use Rattle.abc_objects.specs.declared.fixed.FixedText.TheVariants as fixed
use Rattle.abc_ops.specs.Conversions.{spelling}
use Rattle.abc_ops.specs.Left.{Left, as_value, gives_left, number_or_fault, then_with, text_made, heap_unchanged}
use Rattle.abc_file_types.specs.declared.op.TheConstants as op

-- ---- typeof

abbrev pub name_of_what : What → FixedText
name_of_what (whats.Closure method home scope bound) = fixed.Function
name_of_what whats.Trace = fixed.Function
name_of_what (whats.Formula n) = fixed.Function
name_of_what what = fixed.Object

abbrev pub type_name : Heap → Value → FixedText
type_name h values.Undefined = fixed.Undefined
type_name h values.Null = fixed.Object
type_name h (values.Num n) = fixed.Number
type_name h (values.Bool b) = fixed.Boolean
type_name h (values.Text s) = fixed.Str
type_name h (values.Space n) = fixed.Object
type_name h (values.Obj o) = name_of_what (object_at h.objects o.0).what

-- ---- one value

-- what the opcode `code` computes of one value, and the heap that is left
abbrev pub computed_single : Heap → ℕ → Value → Left Value
computed_single h code v =
    if nat_eq code op.TYPEOF then gives_left h (values.Text (fixed_span (type_name h v)))
    else (if nat_eq code op.NOT then gives_left h (values.Bool (not (truth_of v)))
    else heap_unchanged h (number_or_fault (calculated_single_of (single_of code) v)))

-- ---- two values

-- two texts, one after the other
abbrev pub joined_texts : LinkedFile → Heap → Span → Span → Left Value
joined_texts l h a b = as_value (text_made h (text_of l.file.strings h a ++ text_of l.file.strings h b))

-- a text, and then that of a value
abbrev pub joined_to : LinkedFile → Heap → Span → Value → Left Value
joined_to l h a y = then_with (spelling l h y) (λ k b. joined_texts l k a b)

-- the texts of both, the left made before the right
abbrev pub concatenation : LinkedFile → Heap → Value → Value → Left Value
concatenation l h x y = then_with (spelling l h x) (λ k a. joined_to l k a y)

-- what the opcode `code` computes of two values, the left first, and the heap that is left: add joins where one is a text
abbrev pub computation : LinkedFile → Heap → ℕ → Value → Value → Left Value
computation l h code x y =
    if nat_eq code op.ADD && (is_text x || is_text y) then concatenation l h x y
    else heap_unchanged h (number_or_fault (calculated_of (operation_of code) x y))

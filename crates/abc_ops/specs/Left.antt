-- What an operation answers, and the heap that it leaves (profile: docs/MACHINE.md, "Values, conversions and operations").
use Rattle.std.specs.Prelude.{◌≡◌, ℕ, ℤ, ◌+◌, nat_le, List, ◌++◌, length, Bool, true, false, Ok, Err}
use Rattle.std.specs.declared.result.Result.{Result}
use Rattle.abc_base.specs.declared.names.Fault.{Fault}
use Rattle.abc_heap_values.specs.declared.values.Span.{Span}
use Rattle.abc_heap_values.specs.declared.values.Value.{Value}
use Rattle.abc_heap_values.specs.declared.values.Value.TheVariants as values
use Rattle.abc_heap_store.specs.Heap.{Heap}
use Rattle.abc_heap_store.specs.declared.records.Limit.TheVariants as limits
use Rattle.abc_ops.specs.declared.end.OpEnd.{OpEnd}
use Rattle.abc_ops.specs.declared.end.OpEnd.TheVariants as ends

pub record Left (A : Type 0) : Type 0 where
  pub answer : Result A OpEnd
  pub heap : Heap

abbrev pub gives_left : {A : Type 0} → Heap → A → Left A
gives_left h x = record { answer = Ok x; heap = h }

-- the heap stays as it is
abbrev pub heap_unchanged : {A : Type 0} → Heap → Result A OpEnd → Left A
heap_unchanged h answer = record { answer = answer; heap = h }

abbrev pub ends_by : {A : Type 0} → Heap → OpEnd → Left A
ends_by h e = record { answer = Err e; heap = h }

-- what follows a step where it has a value, in the heap that the step left
abbrev pub followed_by : {A B : Type 0} → Heap → Result A OpEnd → (Heap → A → Left B) → Left B
followed_by h (Ok x) f = f h x
followed_by h (Err e) f = ends_by h e

abbrev pub then_with : {A B : Type 0} → Left A → (Heap → A → Left B) → Left B
then_with step f = followed_by step.heap step.answer f

-- a text is made, after all others, where there is room for it
abbrev pub text_made_if : Bool → Heap → List ℕ → Left Span
text_made_if true h bytes = gives_left (record h { made = h.made ++ bytes }) (record { part = 1; start = length h.made; len = length bytes })
text_made_if false h bytes = ends_by h (ends.Full limits.Text)

-- a text of these bytes is made, after all others; where there is no room, the limit of text ends it
abbrev pub text_made : Heap → List ℕ → Left Span
text_made h bytes = text_made_if (nat_le (length h.made + length bytes) h.limits.text) h bytes

-- a number, or a fault
abbrev pub number_or_fault : Result ℤ Fault → Result Value OpEnd
number_or_fault (Ok n) = Ok (values.Num n)
number_or_fault (Err f) = Err (ends.Profile f)

-- a text as a value
abbrev pub text_value : Heap → Span → Left Value
text_value h s = gives_left h (values.Text s)

abbrev pub as_value : Left Span → Left Value
as_value step = then_with step text_value

-- the operation answered and left what it is to
abbrev pub LeavesHeap : {A : Type 0} → Left A → Result A OpEnd → Heap → Type 0
LeavesHeap step result heap = (result ≡ step.answer) × (heap ≡ step.heap)

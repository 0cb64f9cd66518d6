-- The values with which the slots of a layout start (profile: docs/MACHINE.md, "Heap and room").
use Rattle.std.specs.Prelude.{◌≡◌, ℕ, zero, suc, ◌+◌, ◌<◌, ◌^◌, true, false, List, map, length, Some, slice_get}
use Rattle.abc_base.specs.Ranges.{IsNumber}
use Rattle.abc_heap_values.specs.declared.values.Span.{Span}
use Rattle.abc_heap_values.specs.declared.values.Value.{Value}
use Rattle.abc_heap_values.specs.declared.values.Value.TheVariants as values
use Rattle.abc_heap_store.specs.Texts.{pool_text}
use Rattle.abc_objects.specs.Fixed.{fixed_span}
use Rattle.abc_objects.specs.declared.fixed.FixedText.TheVariants as fixed
use Rattle.abc_objects.specs.Values.{IsSpace}
use Rattle.abc_link_names.specs.Linked.{LinkedFile}
use Rattle.abc_link_names.specs.Slots.{slots_of}
use Rattle.abc_link_names.specs.declared.types.SlotInfo.{SlotInfo}
use Rattle.abc_link_names.specs.declared.start.Start.{Start}
use Rattle.abc_link_names.specs.declared.start.Start.TheVariants as starts

-- a string of the pool; that of index 0 is the fixed empty text
abbrev pub string_span : List (List ℕ) → ℕ → Span
string_span pool zero = fixed_span fixed.Empty
string_span pool (suc i) = record { part = suc (suc (suc i)); start = 0; len = length (pool_text pool (suc i)) }

abbrev pub start_value : List (List ℕ) → Start → Value
start_value pool starts.Undefined = values.Undefined
start_value pool starts.Null = values.Null
start_value pool (starts.Num n) = values.Num n
start_value pool (starts.Bool b) = values.Bool b
start_value pool (starts.BoolText true) = values.Text (fixed_span fixed.True)
start_value pool (starts.BoolText false) = values.Text (fixed_span fixed.False)
start_value pool (starts.Text i) = values.Text (string_span pool i)
start_value pool (starts.Space n) = values.Space n

-- the values with which the slots of a layout start
abbrev pub start_values : LinkedFile → ℕ → List Value
start_values l x = map (λ s. start_value l.file.strings s.start) (slots_of l x)

-- a string of the pool whose index and length a span can hold
abbrev pub IsShort : List (List ℕ) → ℕ → Type 0
IsShort pool i = (i + 2 < 2 ^ 32) × (length (pool_text pool i) < 2 ^ 32)

-- a number is in its range, a string fits a span, and a namespace is one of the pool's
abbrev pub StartExists : LinkedFile → Start → Type 0
StartExists l (starts.Num n) = IsNumber n
StartExists l (starts.Text i) = IsShort l.file.strings i
StartExists l (starts.Space n) = IsSpace l n
StartExists l other = Unit {0}

-- so is each slot's start, and slots can be counted
pub record StartsIn (l : LinkedFile) (slots : List SlotInfo) : Type 0 where
  pub each : (k : ℕ) (s : SlotInfo) → slice_get slots k ≡ Some s → StartExists l s.start
  pub few : length slots < 2 ^ 32

abbrev pub StartsExist : LinkedFile → Type 0
StartsExist l = (x : ℕ) → x < length l.parts → StartsIn l (slots_of l x)

abbrev pub IsShortStart : List (List ℕ) → Start → Type 0
IsShortStart pool x = (i : ℕ) → x ≡ starts.Text i → IsShort pool i

-- the slots can be counted, and their strings fit spans
pub record CanStartSlots (pool : List (List ℕ)) (slots : List SlotInfo) : Type 0 where
  pub few : length slots < 2 ^ 32
  pub short : (k : ℕ) (s : SlotInfo) → slice_get slots k ≡ Some s → IsShortStart pool s.start

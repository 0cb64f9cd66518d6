-- The order of values: two texts by their bytes, all others by their numbers
-- (Overview, chapter 5; profile: docs/MACHINE.md, "Values, conversions and operations").
use Rattle.std.specs.Prelude.{ℕ, ℤ, int_lt, nat_lt, List, Bool, false, not, ◌&&◌, if◌then◌else◌, Ok, Err, Some, None}
use Rattle.std.specs.List.{list_all}
use Rattle.std.specs.Ordering.{is_lt, nat_cmp}
use Rattle.std.specs.Cmp.Lexicographic.{slice_cmp}
use Rattle.std.specs.declared.option.Option.{Option}
use Rattle.std.specs.declared.result.Result.{Result}
use Rattle.abc_base.specs.declared.names.Fault.{Fault}
use Rattle.abc_base.specs.declared.names.Fault.TheVariants.{TextOrder}
use Rattle.abc_heap_values.specs.declared.values.Span.{Span}
use Rattle.abc_heap_values.specs.declared.values.Value.{Value}
use Rattle.abc_heap_values.specs.declared.values.Value.TheVariants as values
use Rattle.abc_heap_values.specs.Kinds.{is_undefined}
use Rattle.abc_heap_values.specs.Numbers.{then_number, number_of}
use Rattle.abc_heap_values.specs.declared.order.Order.{Order}
use Rattle.abc_heap_values.specs.declared.order.Order.TheVariants.{Less, LessOrEqual, Greater, GreaterOrEqual}

-- by whether the left is below the right, and the right below the left
abbrev pub holds_by : Order → Bool → Bool → Bool
holds_by Less below above = below
holds_by LessOrEqual below above = not above
holds_by Greater below above = above
holds_by GreaterOrEqual below above = not below

-- ---- texts: the first byte that differs decides, and a front is below what it begins

abbrev pub text_below : List ℕ → List ℕ → Bool
text_below a b = is_lt (slice_cmp nat_cmp a b)

-- no byte is above 7F
abbrev pub is_ascii : List ℕ → Bool
is_ascii bytes = list_all (λ b. nat_lt b 0x80) bytes

abbrev pub ordered_texts : Order → List ℕ → List ℕ → Result Bool Fault
ordered_texts order a b = if is_ascii a && is_ascii b then Ok (holds_by order (text_below a b) (text_below b a)) else Err TextOrder

-- ---- numbers: undefined is none, stands in no order, and is no fault

abbrev pub number_if_any : Value → Result (Option ℤ) Fault
number_if_any v = if is_undefined v then Ok None else then_number (number_of v) (λ n. Ok (Some n))

abbrev pub numbers_hold : Order → Option ℤ → Option ℤ → Bool
numbers_hold order None b = false
numbers_hold order (Some a) None = false
numbers_hold order (Some a) (Some b) = holds_by order (int_lt a b) (int_lt b a)

-- the left is made a number before the right
abbrev pub ordered_numbers : Order → Value → Value → Result Bool Fault
ordered_numbers order x y = then_number (number_if_any x) (λ a. then_number (number_if_any y) (λ b. Ok (numbers_hold order a b)))

-- whether two values are in the order, the left first: two texts as texts, all else as numbers; `text` gives the bytes of a span
abbrev pub order_of : (Span → List ℕ) → Order → Value → Value → Result Bool Fault
order_of text order (values.Text s) (values.Text t) = ordered_texts order (text s) (text t)
order_of text order x y = ordered_numbers order x y

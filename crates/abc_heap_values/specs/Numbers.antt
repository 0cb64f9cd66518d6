-- Values as numbers and truths (Overview, chapter 5; profile: docs/MACHINE.md, "Values, conversions and operations").
use Rattle.std.specs.Prelude.{ℤ, pos, Bool, true, false, not, nat_eq, if◌then◌else◌, Ok, Err}
use Rattle.std.specs.Ordering.{int_eq}
use Rattle.std.specs.declared.result.Result.{Result}
use Rattle.abc_base.specs.Ranges.{IsNumber}
use Rattle.abc_base.specs.declared.names.Fault.{Fault}
use Rattle.abc_base.specs.declared.names.Fault.TheVariants.{NotANumber, TextToNumber, ObjectToPrimitive}
use Rattle.abc_heap_values.specs.declared.values.Value.{Value}
use Rattle.abc_heap_values.specs.declared.values.Value.TheVariants as values
use Rattle.abc_heap_values.specs.Kinds.{is_undefined}
use Rattle.abc_heap_values.specs.Modular.{modulo_signed, modulo_unsigned}
use Rattle.abc_heap_values.specs.Operations.{calculation, calculated_single}
use Rattle.abc_heap_values.specs.declared.operations.Operation.{Operation}
use Rattle.abc_heap_values.specs.declared.operations.Operation.TheVariants as ops
use Rattle.abc_heap_values.specs.declared.operations.Single.{Single}
use Rattle.abc_heap_values.specs.declared.operations.Single.TheVariants as singles

-- a number is from -2147483648 to 4294967295
abbrev pub IsInRange : Value → Type 0
IsInRange values.Undefined = Unit {0}
IsInRange values.Null = Unit {0}
IsInRange (values.Num n) = IsNumber n
IsInRange (values.Bool b) = Unit {0}
IsInRange (values.Text s) = Unit {0}
IsInRange (values.Space n) = Unit {0}
IsInRange (values.Obj o) = Unit {0}

-- a step, and what follows it where it is no fault
abbrev pub then_number : {A B : Type 0} → Result A Fault → (A → Result B Fault) → Result B Fault
then_number (Ok x) f = f x
then_number (Err e) f = Err e

-- ---- convert_d, convert_i, convert_u

-- the number of a truth: 1 for true, 0 for false
abbrev pub number_of_bool : Bool → ℤ
number_of_bool true = pos 1
number_of_bool false = pos 0

-- convert_d: the number of a value, or the fault of one that has none
abbrev pub number_of : Value → Result ℤ Fault
number_of values.Undefined = Err NotANumber
number_of values.Null = Ok (pos 0)
number_of (values.Num n) = Ok n
number_of (values.Bool b) = Ok (number_of_bool b)
number_of (values.Text s) = Err TextToNumber
number_of (values.Space n) = Err ObjectToPrimitive
number_of (values.Obj o) = Err ObjectToPrimitive

-- a number that is to be taken modulo 2 ^ 32: undefined is 0
abbrev pub whole_of : Value → Result ℤ Fault
whole_of v = if is_undefined v then Ok (pos 0) else number_of v

-- convert_i: the number of a value modulo 2 ^ 32, from -2 ^ 31 to 2 ^ 31 - 1
abbrev pub int_of : Value → Result ℤ Fault
int_of v = then_number (whole_of v) (λ n. Ok (modulo_signed n))

-- convert_u: the number of a value modulo 2 ^ 32, from 0 to 2 ^ 32 - 1
abbrev pub uint_of : Value → Result ℤ Fault
uint_of v = then_number (whole_of v) (λ n. Ok (pos (modulo_unsigned n)))

-- ---- convert_b

-- the truth of a value: undefined, null, 0, false and the empty text are false, all else is true
abbrev pub truth_of : Value → Bool
truth_of values.Undefined = false
truth_of values.Null = false
truth_of (values.Num n) = not (int_eq n (pos 0))
truth_of (values.Bool b) = b
truth_of (values.Text s) = not (nat_eq s.len 0)
truth_of (values.Space n) = true
truth_of (values.Obj o) = true

-- ---- operations on values

abbrev pub is_modular : Operation → Bool
is_modular ops.Add = false
is_modular ops.Subtract = false
is_modular ops.Multiply = false
is_modular ops.Divide = false
is_modular ops.Modulo = false
is_modular other = true

abbrev pub operand_of : Operation → Value → Result ℤ Fault
operand_of op v = if is_modular op then whole_of v else number_of v

-- the left is made a number before the right
abbrev pub calculated_of : Operation → Value → Value → Result ℤ Fault
calculated_of op x y = then_number (operand_of op x) (λ a. then_number (operand_of op y) (λ b. calculation op a b))

abbrev pub is_modular_single : Single → Bool
is_modular_single singles.Negate = false
is_modular_single singles.Increment = false
is_modular_single singles.Decrement = false
is_modular_single other = true

abbrev pub operand_of_single : Single → Value → Result ℤ Fault
operand_of_single op v = if is_modular_single op then whole_of v else number_of v

-- what an operation on one value gives: the value is made a number first
abbrev pub calculated_single_of : Single → Value → Result ℤ Fault
calculated_single_of op v = then_number (operand_of_single op v) (λ n. calculated_single op n)

-- Equality of values (Overview, chapter 5; profile: docs/MACHINE.md, "Values, conversions and operations").
use Rattle.std.specs.Prelude.{ℕ, ℤ, List, Bool, false, not, if◌then◌else◌, nat_eq, Ok, Err}
use Rattle.std.specs.Ordering.{int_eq}
use Rattle.std.specs.Str.{bytes_eq}
use Rattle.std.specs.declared.result.Result.{Result}
use Rattle.abc_base.specs.declared.names.Fault.{Fault}
use Rattle.abc_base.specs.declared.names.Fault.TheVariants.{TextToNumber, ObjectToPrimitive}
use Rattle.abc_heap_values.specs.declared.values.ObjId.{ObjId}
use Rattle.abc_heap_values.specs.declared.values.Span.{Span}
use Rattle.abc_heap_values.specs.declared.values.Value.{Value}
use Rattle.abc_heap_values.specs.declared.values.Value.TheVariants as values
use Rattle.abc_heap_values.specs.Kinds.{is_nothing, is_null, is_undefined}
use Rattle.abc_heap_values.specs.Numbers.{number_of_bool}

-- ---- strictly: values of one kind

abbrev pub same_number : ℤ → Value → Bool
same_number n (values.Num m) = int_eq n m
same_number n other = false

abbrev pub same_truth : Bool → Value → Bool
same_truth a (values.Bool b) = if a then b else not b
same_truth a other = false

-- by their bytes
abbrev pub same_text : (Span → List ℕ) → Span → Value → Bool
same_text text s (values.Text t) = bytes_eq (text s) (text t)
same_text text s other = false

abbrev pub is_equal_space : (ℕ → ℕ → Bool) → ℕ → Value → Bool
is_equal_space same a (values.Space b) = same a b
is_equal_space same a other = false

-- by identity
abbrev pub same_object : ObjId → Value → Bool
same_object o (values.Obj p) = nat_eq o.0 p.0
same_object o other = false

-- two values are strictly equal; `text` gives the bytes of a span, and `same` tells whether two namespaces are the same
abbrev pub same_values : (Span → List ℕ) → (ℕ → ℕ → Bool) → Value → Value → Bool
same_values text same values.Undefined y = is_undefined y
same_values text same values.Null y = is_null y
same_values text same (values.Num n) y = same_number n y
same_values text same (values.Bool b) y = same_truth b y
same_values text same (values.Text s) y = same_text text s y
same_values text same (values.Space a) y = is_equal_space same a y
same_values text same (values.Obj o) y = same_object o y

-- ---- loosely

-- a Num or a Bool, by its number
abbrev pub number_equals : ℤ → Value → Result Bool Fault
number_equals n values.Undefined = Ok false
number_equals n values.Null = Ok false
number_equals n (values.Num m) = Ok (int_eq n m)
number_equals n (values.Bool b) = Ok (int_eq n (number_of_bool b))
number_equals n (values.Text s) = Err TextToNumber
number_equals n (values.Space a) = Ok false
number_equals n (values.Obj o) = Err ObjectToPrimitive

abbrev pub text_equals : (Span → List ℕ) → Span → Value → Result Bool Fault
text_equals text s values.Undefined = Ok false
text_equals text s values.Null = Ok false
text_equals text s (values.Num n) = Err TextToNumber
text_equals text s (values.Bool b) = Err TextToNumber
text_equals text s (values.Text t) = Ok (bytes_eq (text s) (text t))
text_equals text s (values.Space a) = Ok false
text_equals text s (values.Obj o) = Err ObjectToPrimitive

abbrev pub object_equals : ObjId → Value → Result Bool Fault
object_equals o values.Undefined = Ok false
object_equals o values.Null = Ok false
object_equals o (values.Num n) = Err ObjectToPrimitive
object_equals o (values.Bool b) = Err ObjectToPrimitive
object_equals o (values.Text s) = Err ObjectToPrimitive
object_equals o (values.Space a) = Ok false
object_equals o (values.Obj p) = Ok (nat_eq o.0 p.0)

-- null and undefined are equal to each other alone, and a namespace to namespaces alone
abbrev pub equal_values : (Span → List ℕ) → (ℕ → ℕ → Bool) → Value → Value → Result Bool Fault
equal_values text same values.Undefined y = Ok (is_nothing y)
equal_values text same values.Null y = Ok (is_nothing y)
equal_values text same (values.Num n) y = number_equals n y
equal_values text same (values.Bool b) y = number_equals (number_of_bool b) y
equal_values text same (values.Text s) y = text_equals text s y
equal_values text same (values.Space a) y = Ok (is_equal_space same a y)
equal_values text same (values.Obj o) y = object_equals o y

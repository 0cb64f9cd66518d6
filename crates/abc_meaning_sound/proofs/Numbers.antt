-- What is computed of numbers is a number.
use Rattle.std.proofs.Common.{◌≡◌, inl, inr, ℕ, zero, suc, ◌-◌, ◌%◌, ◌^◌, ◌<◌, ◌≤◌, ℤ, pos, negsuc, neg_ℤ, ◌+ℤ◌, ◌-ℤ◌, ◌*ℤ◌, ◌≤ℤ◌, refl, sym, subst, arith, rules}
use Rattle.std.proofs.Math.Nat.{div-le_self, mod-le}
use Rattle.std.proofs.lemmas.Bool.{cases_lt, le-ltb, lt-ltb}
use Rattle.std.proofs.lemmas.Int.{ints}
use Rattle.std.specs.Int.{cast_signed, int_shr, w32}
use Rattle.std.specs.Ordering.{int_eq}
use Rattle.std.specs.Prelude.{Bool, true, false, ◌&&◌, int_le, int_div, int_rem, unsigned_abs, if◌then◌else◌}
use Rattle.std.specs.declared.result.Result.{Result}
use Rattle.std.specs.declared.result.Result.TheVariants.{Ok, Err}
use Rattle.abc_heap_values.specs.Modular.{modulo_signed, modulo_unsigned}
use Rattle.abc_heap_values.specs.Operations.{calculation, calculated_single}
use Rattle.abc_heap_values.specs.Plain.{in_range, whole_quotient}
use Rattle.abc_heap_values.specs.Whole.{distance}
use Rattle.abc_heap_values.specs.declared.operations.Operation.{Operation}
use Rattle.abc_heap_values.specs.declared.operations.Operation.TheVariants as ops
use Rattle.abc_heap_values.specs.declared.operations.Single.{Single}
use Rattle.abc_heap_values.specs.declared.operations.Single.TheVariants as singles
use Rattle.abc_base.specs.Ranges.{IsNumber}
use Rattle.abc_base.specs.declared.names.Fault.{Fault}
use Rattle.abc_base.specs.declared.names.Fault.TheVariants.{Range, NotANumber}
use Rattle.abc_heap_values.specs.declared.values.Value.{Value}
use Rattle.abc_heap_values.specs.declared.values.Value.TheVariants as values
use Rattle.abc_heap_values.specs.Kinds.{is_undefined}
use Rattle.abc_heap_values.specs.Numbers.{IsInRange, then_number, calculated_of, calculated_single_of, int_of, is_modular, is_modular_single, number_of, number_of_bool, operand_of, operand_of_single, uint_of, whole_of}
use Rattle.abc_ops.proofs.Wrapped.{signed_high, signed_low, unsigned_below}
use Rattle.abc_verify_typing.proofs.Member.{and_left, and_right}

-- a number, or a fault
abbrev pub Ranged : Result ℤ Fault → Type 0
Ranged (Ok z) = IsNumber z
Ranged (Err f) = Unit {0}

signed_number : (n : ℤ) → IsNumber (modulo_signed n)
signed_number n = (signed_low n, omega (arith, ints, signed_high n))

unsigned_number : (n : ℤ) → IsNumber (pos (modulo_unsigned n))
unsigned_number n = (omega (arith, ints), omega (arith, ints, unsigned_below n))

low_bits : (u : ℕ) → u < 2147483648 → cast_signed w32 u ≡ pos u
low_bits u h = rw (lt-ltb u 2147483648 h)

high_bits : (u : ℕ) → 2147483648 ≤ u → cast_signed w32 u ≡ negsuc (4294967296 - suc u)
high_bits u h = rw (le-ltb u 2147483648 h)

pub cast_number : (u : ℕ) → IsNumber (cast_signed w32 u)
cast_number u = elim (cases_lt u 2147483648) [
  | inl low ↦ subst IsNumber (sym (low_bits u low)) (omega (arith, ints), omega (arith, ints, low))
  | inr high ↦ subst IsNumber (sym (high_bits u high)) (omega (arith, ints, high), omega (arith, ints))
]

shr_number : (z : ℤ) (k : ℕ) → IsNumber z → IsNumber (int_shr z k)
shr_number (pos a) k h = let d = div-le_self a (2 ^ k) in (omega (arith, ints), omega (arith, ints, d, h.1))
shr_number (negsuc a) k h = let d = div-le_self a (2 ^ k) in (omega (arith, ints, d, h.0), omega (arith, ints))

opposite_number : (r a : ℕ) → r ≤ suc a → IsNumber (negsuc a) → IsNumber (neg_ℤ (pos r))
opposite_number zero a le h = (omega (arith, ints), omega (arith, ints))
opposite_number (suc r) a le h = (omega (arith, ints, le, h.0), omega (arith, ints))

remainder_number : (x y : ℤ) → IsNumber x → IsNumber (int_rem x y)
remainder_number (pos a) y h = let m = mod-le a (unsigned_abs y) in (omega (arith, ints), omega (arith, ints, m, h.1))
remainder_number (negsuc a) y h = opposite_number (suc a % unsigned_abs y) a (mod-le (suc a) (unsigned_abs y)) h

int_at_most : (a b : ℤ) → int_le a b ≡ true → a ≤ℤ b
int_at_most a b e = search rules

in_range_ranged : (z : ℤ) → Ranged (in_range z)
in_range_ranged z = go (int_le (negsuc 2147483647) z && int_le z (pos 4294967295)) refl
  where
    go : (b : Bool) → (int_le (negsuc 2147483647) z && int_le z (pos 4294967295)) ≡ b → Ranged (if b then Ok z else Err Range)
    go true is = (int_at_most (negsuc 2147483647) z (and_left _ _ is), int_at_most z (pos 4294967295) (and_right (int_le (negsuc 2147483647) z) _ is))
    go false is = tt

if_ranged : (b : Bool) (x y : Result ℤ Fault) → Ranged x → Ranged y → Ranged (if b then x else y)
if_ranged true x y p q = p
if_ranged false x y p q = q

calculated_ranged : (op : Operation) (x y : ℤ) → IsNumber x → Ranged (calculation op x y)
calculated_ranged ops.Add x y h = in_range_ranged (x +ℤ y)
calculated_ranged ops.Subtract x y h = in_range_ranged (x -ℤ y)
calculated_ranged ops.Multiply x y h = in_range_ranged (x *ℤ y)
calculated_ranged ops.Divide x y h = if_ranged (int_eq y (pos 0)) (Err NotANumber) (whole_quotient x y) tt (if_ranged (int_eq (int_rem x y) (pos 0)) (in_range (int_div x y)) (Err Range) (in_range_ranged (int_div x y)) tt)
calculated_ranged ops.Modulo x y h = if_ranged (int_eq y (pos 0)) (Err NotANumber) (Ok (int_rem x y)) tt (remainder_number x y h)
calculated_ranged ops.ShiftLeft x y h = cast_number _
calculated_ranged ops.ShiftRight x y h = shr_number (modulo_signed x) (distance y) (signed_number x)
calculated_ranged ops.ShiftRightUnsigned x y h = let u = unsigned_below x in let d = div-le_self (modulo_unsigned x) (2 ^ distance y) in (omega (arith, ints), omega (arith, ints, d, u))
calculated_ranged ops.BitAnd x y h = cast_number _
calculated_ranged ops.BitOr x y h = cast_number _
calculated_ranged ops.BitXor x y h = cast_number _
calculated_ranged ops.AddWhole x y h = signed_number _
calculated_ranged ops.SubtractWhole x y h = signed_number _
calculated_ranged ops.MultiplyWhole x y h = signed_number _

single_ranged : (op : Single) (x : ℤ) → Ranged (calculated_single op x)
single_ranged singles.Negate x = in_range_ranged (neg_ℤ x)
single_ranged singles.Increment x = in_range_ranged (x +ℤ pos 1)
single_ranged singles.Decrement x = in_range_ranged (x -ℤ pos 1)
single_ranged singles.BitNot x = cast_number _
single_ranged singles.NegateWhole x = signed_number _
single_ranged singles.IncrementWhole x = signed_number _
single_ranged singles.DecrementWhole x = signed_number _

-- ---- of values

then_ranged : (r : Result ℤ Fault) (f : ℤ → Result ℤ Fault) → Ranged r → ((x : ℤ) → IsNumber x → Ranged (f x)) → Ranged (then_number r f)
then_ranged (Ok x) f h k = k x h
then_ranged (Err e) f h k = tt

zero_number : IsNumber (pos 0)
zero_number = (omega (arith, ints), omega (arith, ints))

bool_number : (b : Bool) → IsNumber (number_of_bool b)
bool_number true = (omega (arith, ints), omega (arith, ints))
bool_number false = zero_number

pub number_ranged : (v : Value) → IsInRange v → Ranged (number_of v)
number_ranged values.Undefined h = tt
number_ranged values.Null h = zero_number
number_ranged (values.Num n) h = h
number_ranged (values.Bool b) h = bool_number b
number_ranged (values.Text s) h = tt
number_ranged (values.Space n) h = tt
number_ranged (values.Obj o) h = tt

whole_ranged : (v : Value) → IsInRange v → Ranged (whole_of v)
whole_ranged v h = if_ranged (is_undefined v) (Ok (pos 0)) (number_of v) zero_number (number_ranged v h)

pub int_ranged : (v : Value) → IsInRange v → Ranged (int_of v)
int_ranged v h = then_ranged (whole_of v) (λ n. Ok (modulo_signed n)) (whole_ranged v h) (λ n k. signed_number n)

pub uint_ranged : (v : Value) → IsInRange v → Ranged (uint_of v)
uint_ranged v h = then_ranged (whole_of v) (λ n. Ok (pos (modulo_unsigned n))) (whole_ranged v h) (λ n k. unsigned_number n)

pub calculated_of_ranged : (op : Operation) (x y : Value) → IsInRange x → IsInRange y → Ranged (calculated_of op x y)
calculated_of_ranged op x y h k =
    then_ranged (operand_of op x) (λ a. then_number (operand_of op y) (λ b. calculation op a b)) (operand x h) (λ a ha.
    then_ranged (operand_of op y) (λ b. calculation op a b) (operand y k) (λ b hb. calculated_ranged op a b ha))
  where
    operand : (v : Value) → IsInRange v → Ranged (operand_of op v)
    operand v z = if_ranged (is_modular op) (whole_of v) (number_of v) (whole_ranged v z) (number_ranged v z)

pub single_of_ranged : (op : Single) (v : Value) → IsInRange v → Ranged (calculated_single_of op v)
single_of_ranged op v h =
    then_ranged (operand_of_single op v) (λ n. calculated_single op n) (if_ranged (is_modular_single op) (whole_of v) (number_of v) (whole_ranged v h) (number_ranged v h)) (λ n k. single_ranged op n)

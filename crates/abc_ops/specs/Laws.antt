-- What a reader would check of the operations.
use Rattle.std.specs.Prelude.{◌≡◌, ℕ, ◌%◌, ◌<◌, ℤ, pos, negsuc, ◌+ℤ◌, ◌*ℤ◌, ◌≤ℤ◌, unsigned_abs, Bool, false, not, Ok}
use Rattle.std.specs.Cmp.{IsEquivalence}
use Rattle.std.specs.declared.result.Result.{Result}
use Rattle.abc_heap_values.specs.Modular.{modulo_unsigned}
use Rattle.abc_heap_values.specs.declared.values.Value.{Value}
use Rattle.abc_heap_values.specs.declared.values.Value.TheVariants.{Num, Undefined}
use Rattle.abc_heap_values.specs.Kinds.{is_undefined}
use Rattle.abc_heap_values.specs.declared.numbers.Conversion.TheVariants.{ConvertI, ConvertU}
use Rattle.abc_ops.specs.declared.opcodes.Comparison.TheVariants.{Ordered}
use Rattle.abc_heap_values.specs.declared.order.Order.{Order}
use Rattle.abc_heap_values.specs.declared.order.Order.TheVariants.{Less, LessOrEqual, Greater, GreaterOrEqual}
use Rattle.abc_heap_store.specs.Heap.{Heap}
use Rattle.abc_link_names.specs.Linked.{LinkedFile}
use Rattle.abc_ops.specs.Compares.{comparison_result, compared_as}
use Rattle.abc_ops.specs.Conversions.{conversion_result}
use Rattle.abc_ops.specs.Left.{gives_left}
use Rattle.abc_ops.specs.Operations.{computation}
use Rattle.abc_file_types.specs.declared.op.TheConstants as op

-- ---- convert_i and convert_u: the number in a range of 2 ^ 32 numbers that differs by a multiple of 2 ^ 32

-- m is n modulo 2 ^ 32, from one number up to another
pub record IsModulo (low high n m : ℤ) : Type 0 where
  pub above : low ≤ℤ m
  pub below : m ≤ℤ high
  pub turns : ℤ
  pub differs : n ≡ m +ℤ turns *ℤ pos 4294967296

pub record ConvertsModulo (l : LinkedFile) (h : Heap) (n : ℤ) : Type 0 where
  pub int : ℤ
  pub int_modulo : IsModulo (negsuc 2147483647) (pos 2147483647) n int
  pub is_int : conversion_result l h ConvertI (Num n) ≡ gives_left h (Num int)
  pub uint : ℤ
  pub uint_modulo : IsModulo (pos 0) (pos 4294967295) n uint
  pub is_uint : conversion_result l h ConvertU (Num n) ≡ gives_left h (Num uint)

-- convert_i and convert_u give each number modulo 2 ^ 32, signed and unsigned
abbrev pub IntegersAreModulo : Type 0
IntegersAreModulo = (l : LinkedFile) (h : Heap) (n : ℤ) → ConvertsModulo l h n

-- ---- lshift, rshift and urshift (A5, A6, A7) use the low five bits of the right operand

abbrev pub low_five : ℤ → ℤ
low_five n = pos (modulo_unsigned n % 32)

-- the opcode computes the same by the low five bits alone
abbrev pub UsesFiveBits : ℕ → Type 0
UsesFiveBits op = (l : LinkedFile) (h : Heap) (x : Value) (n : ℤ) → computation l h op x (Num n) ≡ computation l h op x (Num (low_five n))

-- the three shifts use the low five bits of the right operand alone
abbrev pub ShiftsUseFiveBits : Type 0
ShiftsUseFiveBits = UsesFiveBits op.LSHIFT × UsesFiveBits op.RSHIFT × UsesFiveBits op.URSHIFT

-- ---- modulo (A4): what is left of the dividend, with its sign

pub record IsRemainder (x y r : ℤ) : Type 0 where
  pub quotient : ℤ
  pub differs : quotient *ℤ y +ℤ r ≡ x
  pub below : unsigned_abs r < unsigned_abs y
  pub not_negative : pos 0 ≤ℤ x → pos 0 ≤ℤ r
  pub not_positive : x ≤ℤ pos 0 → r ≤ℤ pos 0

-- a number that modulo gives is the remainder, with the dividend's sign
abbrev pub ModuloHasTheSign : Type 0
ModuloHasTheSign = (l : LinkedFile) (h : Heap) (x y r : ℤ) → computation l h op.MODULO (Num x) (Num y) ≡ gives_left h (Num r) → IsRemainder x y r

-- ---- strictequals (AC) answers always, and as an equivalence

pub record IsStrict (l : LinkedFile) (h : Heap) : Type 0 where
  pub same : Value → Value → Bool
  pub answers : (x y : Value) → comparison_result l h op.STRICTEQUALS x y ≡ Ok (same x y)
  pub equivalence : IsEquivalence same

-- strictequals answers of any two values, and as an equivalence
abbrev pub StrictEqualsIsEquivalence : Type 0
StrictEqualsIsEquivalence = (l : LinkedFile) (h : Heap) → IsStrict l h

-- ---- the orders: lessequals is the opposite of the exchanged lessthan, but for undefined

-- what orders answer of two values, and of the two exchanged
pub record AreOpposed {E : Type 0} (forth back : Order → Result Bool E) : Type 0 where
  pub less_or_equal : (r : Bool) → back Less ≡ Ok r → forth LessOrEqual ≡ Ok (not r)
  pub greater : (r : Bool) → back Less ≡ Ok r → forth Greater ≡ Ok r
  pub greater_or_equal : (r : Bool) → forth Less ≡ Ok r → forth GreaterOrEqual ≡ Ok (not r)

-- of two values other than undefined, all four orders answer what lessthan says of them, or of the two exchanged
abbrev pub OrdersAreOpposed : Type 0
OrdersAreOpposed = (l : LinkedFile) (h : Heap) (x y : Value) → is_undefined x ≡ false → is_undefined y ≡ false → AreOpposed (λ (o : Order). compared_as l h (Ordered o) x y) (λ (o : Order). compared_as l h (Ordered o) y x)

-- with undefined on either side the answer is false, if it is none
abbrev pub UndefinedIsUnordered : Type 0
UndefinedIsUnordered = (l : LinkedFile) (h : Heap) (o : Order) (v : Value) (r : Bool) → (compared_as l h (Ordered o) Undefined v ≡ Ok r → r ≡ false) × (compared_as l h (Ordered o) v Undefined ≡ Ok r → r ≡ false)

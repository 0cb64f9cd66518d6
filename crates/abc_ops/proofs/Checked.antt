-- The laws of the operations.
use Rattle.std.proofs.Common.{◌≡◌, ℕ, zero, suc, ◌/◌, ◌<◌, ◌^◌, ℤ, pos, negsuc, Bool, true, false, if◌then◌else◌, refl, sym, ap, subst, arith}
use Rattle.std.proofs.lemmas.Bool.{false≢true}
use Rattle.std.proofs.lemmas.Int.{ints, quot-rem, rem_below}
use Rattle.std.specs.Int.{int_shl, int_shr, w32}
use Rattle.std.specs.Ordering.{int_eq}
use Rattle.std.specs.Prelude.{int_div, int_rem, unsigned_abs}
use Rattle.std.specs.declared.result.Result.{Result}
use Rattle.std.specs.declared.result.Result.TheVariants.{Ok, Err}
use Rattle.abc_base.specs.declared.names.Fault.{Fault}
use Rattle.abc_base.specs.declared.names.Fault.TheVariants.{NotANumber}
use Rattle.abc_heap_values.specs.Modular.{modulo_signed, modulo_unsigned}
use Rattle.abc_heap_values.specs.Plain.{remainder}
use Rattle.abc_heap_values.specs.declared.values.Value.{Value}
use Rattle.abc_heap_values.specs.declared.values.Value.TheVariants as values
use Rattle.abc_heap_values.specs.Equality.{same_values}
use Rattle.abc_heap_values.specs.Numbers.{then_number, whole_of}
use Rattle.abc_heap_values.specs.Order.{order_of}
use Rattle.abc_heap_values.specs.declared.order.Order.TheVariants as orders
use Rattle.abc_heap_store.specs.Heap.{Heap}
use Rattle.abc_heap_store.specs.Texts.{text_of}
use Rattle.abc_link_names.specs.Pool.{same_space}
use Rattle.abc_ops.proofs.Spaces.{same_space_equivalence}
use Rattle.abc_link_names.specs.Linked.{LinkedFile}
use Rattle.abc_ops.specs.Compares.{or_fault}
use Rattle.abc_ops.specs.Laws.{ConvertsModulo, IntegersAreModulo, IsRemainder, ModuloHasTheSign, OrdersAreOpposed, ShiftsUseFiveBits, StrictEqualsIsEquivalence, UndefinedIsUnordered}
use Rattle.abc_ops.specs.Left.{Left, gives_left, number_or_fault, heap_unchanged}
use Rattle.abc_ops.proofs.Opposites.{undefined_left, undefined_right, values_opposed}
use Rattle.abc_ops.proofs.Same.{same_values_equivalence}
use Rattle.abc_ops.proofs.Wrapped.{remainder_not_negative, remainder_not_positive, same_distance, signed_high, signed_low, signed_turns, unsigned_below, unsigned_turns}

-- ---- modulo 2 ^ 32

converts_modulo : (l : LinkedFile) (h : Heap) (n : ℤ) → ConvertsModulo l h n
converts_modulo l h n =
    let s = signed_turns n in
    let u = unsigned_turns n in
    record {
      int = modulo_signed n;
      int_modulo = record { above = signed_low n; below = signed_high n; turns = s.0; differs = s.1 };
      is_int = refl;
      uint = pos (modulo_unsigned n);
      uint_modulo = record { above = omega (arith, ints); below = omega (arith, ints, unsigned_below n); turns = u.0; differs = u.1 };
      is_uint = refl;
    }

pub integers_modulo : IntegersAreModulo
integers_modulo l h n = converts_modulo l h n

-- ---- shifts

pub shifts_by_five : ShiftsUseFiveBits
shifts_by_five = (
  λ l h x n. ap (λ (d : ℕ). heap_unchanged h (number_or_fault (then_number (whole_of x) (λ (a : ℤ). Ok (int_shl w32 (modulo_signed a) d))))) (sym (same_distance n)),
  λ l h x n. ap (λ (d : ℕ). heap_unchanged h (number_or_fault (then_number (whole_of x) (λ (a : ℤ). Ok (int_shr (modulo_signed a) d))))) (sym (same_distance n)),
  λ l h x n. ap (λ (d : ℕ). heap_unchanged h (number_or_fault (then_number (whole_of x) (λ (a : ℤ). Ok (pos (modulo_unsigned a / 2 ^ d)))))) (sym (same_distance n)),
)

-- ---- remainders

left_number : (h : Heap) (q : Result ℤ Fault) (r : ℤ) → heap_unchanged h (number_or_fault q) ≡ gives_left h (values.Num r) → q ≡ Ok r
left_number h (Ok n) r e = cc (ap (λ (s : Left Value). s.answer) e)
left_number h (Err f) r e = cc (ap (λ (s : Left Value). s.answer) e)

divided : (x y r : ℤ) (zero : Bool) → (if zero then Err NotANumber else Ok (int_rem x y)) ≡ Ok r → (zero ≡ false) × (int_rem x y ≡ r)
divided x y r true e = (cc, cc)
divided x y r false e = (refl, cc)

not_zero : (y : ℤ) → int_eq y (pos 0) ≡ false → 0 < unsigned_abs y
not_zero (pos zero) e = absurd (false≢true (sym e))
not_zero (pos (suc n)) e = omega arith
not_zero (negsuc n) e = omega arith

is_remainder : (x y : ℤ) → 0 < unsigned_abs y → IsRemainder x y (int_rem x y)
is_remainder x y lt = record {
  quotient = int_div x y;
  differs = quot-rem x y;
  below = rem_below x y lt;
  not_negative = remainder_not_negative x y;
  not_positive = remainder_not_positive x y;
}

pub modulo_sign : ModuloHasTheSign
modulo_sign l h x y r e =
    let d = divided x y r (int_eq y (pos 0)) (left_number h (remainder x y) r e) in
    subst (IsRemainder x y) d.1 (is_remainder x y (not_zero y d.0))

-- ---- strict equality

pub strict_equals : StrictEqualsIsEquivalence
strict_equals l h = record {
  same = same_values (text_of l.file.strings h) (same_space l.file);
  answers = λ x y. refl;
  equivalence = same_values_equivalence (text_of l.file.strings h) (same_space l.file) (same_space_equivalence l.file);
}

-- ---- orders

fault_free : (q : Result Bool Fault) (r : Bool) → or_fault q ≡ Ok r → q ≡ Ok r
fault_free (Ok b) r e = cc
fault_free (Err f) r e = cc

pub orders_opposed : OrdersAreOpposed
orders_opposed l h x y dx dy =
    let text = text_of l.file.strings h in
    let w = values_opposed text x y dx dy in
    record {
      less_or_equal = λ r e. ap or_fault (w.less_or_equal r (fault_free (order_of text orders.Less y x) r e));
      greater = λ r e. ap or_fault (w.greater r (fault_free (order_of text orders.Less y x) r e));
      greater_or_equal = λ r e. ap or_fault (w.greater_or_equal r (fault_free (order_of text orders.Less x y) r e));
    }

pub undefined_unordered : UndefinedIsUnordered
undefined_unordered l h o v r =
    let text = text_of l.file.strings h in
    (λ e. undefined_left text o v r (fault_free (order_of text o values.Undefined v) r e), λ e. undefined_right text o v r (fault_free (order_of text o v values.Undefined) r e))

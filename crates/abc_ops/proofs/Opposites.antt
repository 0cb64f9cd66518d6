-- The four orders by one another, and undefined in them.
use Rattle.std.proofs.Common.{◌≡◌, ℤ, ℕ, List, Bool, true, false, not, ◌&&◌, if◌then◌else◌, refl, sym, ◌∙◌}
use Rattle.std.proofs.lemmas.Bool.{and_right}
use Rattle.std.specs.declared.option.Option.{Option}
use Rattle.std.specs.declared.option.Option.TheVariants.{Some, None}
use Rattle.std.specs.declared.result.Result.{Result}
use Rattle.std.specs.declared.result.Result.TheVariants.{Ok, Err}
use Rattle.abc_base.specs.declared.names.Fault.{Fault}
use Rattle.abc_base.specs.declared.names.Fault.TheVariants.{TextOrder}
use Rattle.abc_heap_values.specs.declared.values.Span.{Span}
use Rattle.abc_heap_values.specs.declared.values.Value.{Value}
use Rattle.abc_heap_values.specs.declared.values.Value.TheVariants as values
use Rattle.abc_heap_values.specs.Kinds.{is_text, is_undefined}
use Rattle.abc_heap_values.specs.Numbers.{then_number}
use Rattle.abc_heap_values.specs.Order.{is_ascii, number_if_any, numbers_hold, order_of, ordered_numbers, ordered_texts, text_below}
use Rattle.abc_heap_values.specs.declared.order.Order.{Order}
use Rattle.abc_heap_values.specs.declared.order.Order.TheVariants as orders
use Rattle.abc_ops.specs.Laws.{AreOpposed}

-- ---- texts

turned : (p q above r : Bool) → (if q && p then Ok above else Err TextOrder) ≡ Ok r → (if p && q then Ok (not above) else Err TextOrder) ≡ Ok (not r)
turned true true above r e = cc
turned true false above r e = cc
turned false true above r e = cc
turned false false above r e = cc

exchanged : (p q above r : Bool) → (if q && p then Ok above else Err TextOrder) ≡ Ok r → (if p && q then Ok above else Err TextOrder) ≡ Ok r
exchanged true true above r e = e
exchanged true false above r e = cc
exchanged false true above r e = cc
exchanged false false above r e = cc

turned_here : (p q below r : Bool) → (if p && q then Ok below else Err TextOrder) ≡ Ok r → (if p && q then Ok (not below) else Err TextOrder) ≡ Ok (not r)
turned_here true true below r e = cc
turned_here true false below r e = cc
turned_here false true below r e = cc
turned_here false false below r e = cc

texts_opposed : (a b : List ℕ) → AreOpposed (λ (o : Order). ordered_texts o a b) (λ (o : Order). ordered_texts o b a)
texts_opposed a b = record {
  less_or_equal = turned (is_ascii a) (is_ascii b) (text_below b a);
  greater = exchanged (is_ascii a) (is_ascii b) (text_below b a);
  greater_or_equal = turned_here (is_ascii a) (is_ascii b) (text_below a b);
}

-- ---- numbers

abbrev pairs : Order → Result (Option ℤ) Fault → Result (Option ℤ) Fault → Result Bool Fault
pairs order p q = then_number p (λ a. then_number q (λ b. Ok (numbers_hold order a b)))

abbrev IsDefined : Result (Option ℤ) Fault → Type 0
IsDefined (Ok None) = ⊥
IsDefined other = Unit {0}

pairs_opposed : (p q : Result (Option ℤ) Fault) → IsDefined p → IsDefined q → AreOpposed (λ (o : Order). pairs o p q) (λ (o : Order). pairs o q p)
pairs_opposed (Ok (Some a)) (Ok (Some b)) d e = record { less_or_equal = λ r i. cc; greater = λ r i. cc; greater_or_equal = λ r i. cc }
pairs_opposed (Ok (Some a)) (Err g) d e = record { less_or_equal = λ r i. cc; greater = λ r i. cc; greater_or_equal = λ r i. cc }
pairs_opposed (Err f) (Ok (Some b)) d e = record { less_or_equal = λ r i. cc; greater = λ r i. cc; greater_or_equal = λ r i. cc }
pairs_opposed (Err f) (Err g) d e = record { less_or_equal = λ r i. cc; greater = λ r i. cc; greater_or_equal = λ r i. cc }
pairs_opposed (Ok None) q d e = absurd d
pairs_opposed p (Ok None) d e = absurd e

defined : (v : Value) → is_undefined v ≡ false → IsDefined (number_if_any v)
defined values.Undefined e = cc
defined v e = tt

-- ---- values

-- where one is no text
plain : (text : Span → List ℕ) (o : Order) (x y : Value) → (is_text x && is_text y) ≡ false → order_of text o x y ≡ ordered_numbers o x y
plain text o (values.Text s) (values.Text t) e = cc
plain text o (values.Text s) y e = refl
plain text o x y e = refl

plain_opposed : (text : Span → List ℕ) (x y : Value) → is_undefined x ≡ false → is_undefined y ≡ false → (is_text x && is_text y) ≡ false → (is_text y && is_text x) ≡ false → AreOpposed (λ (o : Order). order_of text o x y) (λ (o : Order). order_of text o y x)
plain_opposed text x y dx dy p q =
    let w = pairs_opposed (number_if_any x) (number_if_any y) (defined x dx) (defined y dy) in
    record {
      less_or_equal = λ r e. plain text orders.LessOrEqual x y p ∙ w.less_or_equal r (sym (plain text orders.Less y x q) ∙ e);
      greater = λ r e. plain text orders.Greater x y p ∙ w.greater r (sym (plain text orders.Less y x q) ∙ e);
      greater_or_equal = λ r e. plain text orders.GreaterOrEqual x y p ∙ w.greater_or_equal r (sym (plain text orders.Less x y p) ∙ e);
    }

pub values_opposed : (text : Span → List ℕ) (x y : Value) → is_undefined x ≡ false → is_undefined y ≡ false → AreOpposed (λ (o : Order). order_of text o x y) (λ (o : Order). order_of text o y x)
values_opposed text (values.Text s) (values.Text t) dx dy = texts_opposed (text s) (text t)
values_opposed text (values.Text s) y dx dy = plain_opposed text (values.Text s) y dx dy refl refl
values_opposed text x y dx dy = plain_opposed text x y dx dy refl (and_right (is_text y) (is_text x) refl)

-- ---- undefined

after_none : (o : Order) (q : Result (Option ℤ) Fault) (r : Bool) → pairs o (Ok None) q ≡ Ok r → r ≡ false
after_none o (Ok b) r e = cc
after_none o (Err f) r e = cc

before_none : (o : Order) (p : Result (Option ℤ) Fault) (r : Bool) → pairs o p (Ok None) ≡ Ok r → r ≡ false
before_none o (Ok None) r e = cc
before_none o (Ok (Some a)) r e = cc
before_none o (Err f) r e = cc

pub undefined_left : (text : Span → List ℕ) (o : Order) (y : Value) (r : Bool) → order_of text o values.Undefined y ≡ Ok r → r ≡ false
undefined_left text o y r e = after_none o (number_if_any y) r e

pub undefined_right : (text : Span → List ℕ) (o : Order) (x : Value) (r : Bool) → order_of text o x values.Undefined ≡ Ok r → r ≡ false
undefined_right text o (values.Text s) r e = before_none o (number_if_any (values.Text s)) r e
undefined_right text o x r e = before_none o (number_if_any x) r e

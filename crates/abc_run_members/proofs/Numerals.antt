-- The text of a number names the element of that number.
use Rattle.std.proofs.Common.{◌≡◌, ℕ, zero, suc, ◌<◌, ◌≤◌, ◌^◌, Bool, true, false, cond, List, [], ◌∷◌, get_or, nat_eq, nat_le, refl, ap, ◌∙◌, arith}
use Rattle.std.specs.Prelude.{Some, None, ◌&&◌, not}
use Rattle.std.specs.Fmt.{decimal}
use Rattle.std.specs.List.{list_all}
use Rattle.std.proofs.lemmas.Bool.Decides.{nat_tests}
use Rattle.std.proofs.lemmas.Fmt.{decimal_digit, decimal_is_IsNumeral, digits_value-decimal, first_decimal}
use Rattle.std.proofs.lemmas.Str.Parse.{IsNumeralModel, digit_from_value, numerals_by_fold, tells_digits}
use Rattle.std.specs.Str.Parse.{AllDigits}
use Rattle.abc_objects.specs.ElementNames.{IsLength, IsNumber, element_name, element_number, is_name_digit, is_length, is_element_numeral, number_from, number_name}

both : (a b : Bool) → (a && b) ≡ true → (a ≡ true) × (b ≡ true)
both true b e = (refl, e)
both false b e = absurd cc

le_true : (a b : ℕ) → a ≤ b → nat_le a b ≡ true
le_true a b h = grind (arith, nat_tests)

digit_is : (c : ℕ) → 48 ≤ c → c ≤ 57 → is_name_digit c ≡ true
digit_is c low high = let a = le_true 48 c low in let b = le_true c 57 high in rw (a, b) refl

digits_are : (ds : List ℕ) → AllDigits 10 ds → list_all is_name_digit ds ≡ true
digits_are [] d = refl
digits_are (c ∷ ds) d = let r = digit_from_value c d.0 in let a = digit_is c r.0 r.1 in let b = digits_are ds d.1 in rw (a, b) refl

own : IsNumeralModel (AllDigits 10) (number_from 0)
own = numerals_by_fold (AllDigits 10) tells_digits number_from (record { empty = λ n. refl; more = λ n c cs k. refl })

decimal_digits : (k : ℕ) → k < 2 ^ 64 → list_all is_name_digit (decimal k) ≡ true
decimal_digits k h = digits_are (decimal k) (decimal_is_IsNumeral k h).0.1

digit_alone : (b : ℕ) → list_all is_name_digit (b ∷ []) ≡ true → is_name_digit b ≡ true
digit_alone b e = (both (is_name_digit b) true e).0

digit_low : (b : ℕ) → is_name_digit b ≡ true → nat_eq b 108 ≡ false
digit_low b e = let high : nat_le b 57 ≡ true = (both (nat_le 48 b) (nat_le b 57) e).1 in grind (arith, nat_tests)

no_zero : (b : ℕ) → 48 < b → nat_eq b 48 ≡ false
no_zero b h = grind (arith, nat_tests)

-- digits of which the first is no zero
from_digits : (ds : List ℕ) → list_all is_name_digit ds ≡ true → 48 < get_or ds 0 0 → is_element_numeral ds ≡ true
from_digits [] e h = absurd (omega arith)
from_digits (b ∷ []) e h = digit_alone b e
from_digits (b ∷ c ∷ bs) e h = ap (λ (t : Bool). not t && list_all is_name_digit (b ∷ c ∷ bs)) (no_zero b h) ∙ e

decimal_numeral : (k : ℕ) → k < 2 ^ 64 → is_element_numeral (decimal k) ≡ true
decimal_numeral zero h = ap is_element_numeral (decimal_digit 0 (omega arith))
decimal_numeral (suc k) h = from_digits (decimal (suc k)) (decimal_digits (suc k) h) (first_decimal (suc k) (omega arith) h)

no_length : (ds : List ℕ) → list_all is_name_digit ds ≡ true → is_length ds ≡ false
no_length [] e = refl
no_length (b ∷ bs) e = let z = digit_low b (both (is_name_digit b) (list_all is_name_digit bs) e).0 in rw z refl

chosen : (t : List ℕ) (k : ℕ) → is_element_numeral t ≡ true → number_from 0 t ≡ k → nat_le k 4294967294 ≡ true → element_number t ≡ Some k
chosen t k a b c =
    ap (λ (d : Bool). cond (d && nat_le (number_from 0 t) 4294967294) (Some (number_from 0 t)) None) a
    ∙ ap (λ (n : ℕ). cond (nat_le n 4294967294) (Some n) None) b
    ∙ ap (λ (d : Bool). cond d (Some k) None) c

pub decimal_number : (k : ℕ) → k ≤ 4294967294 → element_number (decimal k) ≡ Some k
decimal_number k h = let small : k < 2 ^ 64 = omega arith in chosen (decimal k) k (decimal_numeral k small) (digits_value-decimal own k small) (le_true k 4294967294 h)

pub decimal_name : (k : ℕ) → k ≤ 4294967294 → element_name (decimal k) ≡ Some (IsNumber k)
decimal_name k h =
    let small : k < 2 ^ 64 = omega arith in
    ap (λ (b : Bool). cond b (Some IsLength) (number_name (element_number (decimal k)))) (no_length (decimal k) (decimal_digits k small)) ∙ ap number_name (decimal_number k h)

-- The number that digits stand for, one digit further.
use Rattle.std.proofs.Common.{◌≡◌, ℕ, ◌+◌, ◌-◌, ◌*◌, ◌^◌, ◌<◌, ◌≤◌, true, List, [], ◌∷◌, ◌++◌, ◌&&◌, Bool, false, length, take, get_or, refl, ap, ◌∙◌, arith, mul_assoc}
use Rattle.std.specs.List.{list_all}
use Rattle.std.proofs.lemmas.Bool.Decides.{nat_tests}
use Rattle.std.proofs.lemmas.List.{take_more, length_push}
use Rattle.std.proofs.lemmas.Grind.{common_steps}
use Rattle.abc_text_lines.specs.Operands.{is_digit, number_of_digits}

regroup : (h p d k : ℕ) → h * (p * 10) + (d * 10 + k) ≡ (h * p + d) * 10 + k
regroup h p d k = rw (← mul_assoc) (omega arith)

number-push : (digits : List ℕ) (byte : ℕ) → number_of_digits (digits ++ byte ∷ []) ≡ number_of_digits digits * 10 + (byte - 48)
number-push [] byte = omega arith
number-push (first ∷ digits) byte =
    let more = length_push digits byte in
    let power : 10 ^ length (digits ++ byte ∷ []) ≡ 10 ^ length digits * 10 = grind (arith, common_steps) in
    rw (number-push digits byte, power) (regroup (first - 48) (10 ^ length digits) (number_of_digits digits) (byte - 48))

pub number-more : (bytes : List ℕ) (i : ℕ) → i < length bytes → number_of_digits (take (i + 1) bytes) ≡ number_of_digits (take i bytes) * 10 + (get_or bytes i 0 - 48)
number-more bytes i lt = ap number_of_digits (take_more bytes i 0 lt) ∙ number-push (take i bytes) (get_or bytes i 0)

one : (b : Bool) → (b && true) ≡ true && b
one true = refl
one false = refl

and_assoc : (a b c : Bool) → (a && (b && c)) ≡ ((a && b) && c)
and_assoc true b c = refl
and_assoc false b c = refl

digits-push : (digits : List ℕ) (byte : ℕ) → list_all is_digit (digits ++ byte ∷ []) ≡ list_all is_digit digits && is_digit byte
digits-push [] byte = one (is_digit byte)
digits-push (first ∷ digits) byte = ap (λ (b : Bool). is_digit first && b) (digits-push digits byte) ∙ and_assoc (is_digit first) (list_all is_digit digits) (is_digit byte)

pub digits-more : (bytes : List ℕ) (i : ℕ) → i < length bytes → list_all is_digit (take (i + 1) bytes) ≡ list_all is_digit (take i bytes) && is_digit (get_or bytes i 0)
digits-more bytes i lt = ap (list_all is_digit) (take_more bytes i 0 lt) ∙ digits-push (take i bytes) (get_or bytes i 0)

pub digit_test : (byte : ℕ) → 48 ≤ byte → byte ≤ 57 → is_digit byte ≡ true
digit_test byte low high = grind (arith, nat_tests)

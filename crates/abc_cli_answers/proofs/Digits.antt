-- The number that digits stand for, and the test of digits.
use Rattle.std.proofs.Common.{◌≡◌, ℕ, zero, suc, ◌+◌, ◌-◌, ◌*◌, ◌^◌, ◌<◌, ◌≤◌, true, cond, eqb, leb, Decides, List, [], ◌∷◌, ◌++◌, length, take, get_or, refl, ap, ◌∙◌, arith, mul_assoc, add-zero, add-suc}
use Rattle.std.specs.List.{list_all, All}
use Rattle.std.proofs.lemmas.Bool.Decides.{Decides-and, Decides-by_and, Decides-ltb, nat_tests}
use Rattle.std.proofs.lemmas.Nat.{mul-add-lt}
use Rattle.std.proofs.lemmas.List.{take_more, length_push}
use Rattle.std.proofs.lemmas.Grind.{common_steps}
use Rattle.abc_cli_answers.specs.Grammar.{IsDigit, IsNumeral, decimal}
use Rattle.abc_cli_answers.specs.Reading.{is_option_digit, is_option_number}

-- ---- the value

regroup : (h p d k : ℕ) → h * (p * 10) + (d * 10 + k) ≡ (h * p + d) * 10 + k
regroup h p d k = rw (← mul_assoc) (omega arith)

pub decimal-push : (digits : List ℕ) (byte : ℕ) → decimal (digits ++ byte ∷ []) ≡ decimal digits * 10 + (byte - 48)
decimal-push [] byte = omega arith
decimal-push (first ∷ digits) byte =
    let more = length_push digits byte in
    let power : 10 ^ length (digits ++ byte ∷ []) ≡ 10 ^ length digits * 10 = grind (arith, common_steps) in
    rw (decimal-push digits byte, power) (regroup (first - 48) (10 ^ length digits) (decimal digits) (byte - 48))

pub decimal-more : (bytes : List ℕ) (i : ℕ) → i < length bytes → decimal (take (i + 1) bytes) ≡ decimal (take i bytes) * 10 + (get_or bytes i 0 - 48)
decimal-more bytes i lt = ap decimal (take_more bytes i 0 lt) ∙ decimal-push (take i bytes) (get_or bytes i 0)

-- ---- the test

Decides-leb : (a b : ℕ) → Decides (leb a b) (a ≤ b)
Decides-leb a b = (λ e. grind (arith, nat_tests), λ le. grind (arith, nat_tests))

Decides-digit : (byte : ℕ) → Decides (is_option_digit byte) (IsDigit byte)
Decides-digit byte = Decides-and _ _ (Decides-leb 48 byte) (Decides-leb byte 57)

pub digit-test : (byte : ℕ) → 48 ≤ byte → byte ≤ 57 → is_option_digit byte ≡ true
digit-test byte low high = (Decides-digit byte).1 (low, high)

pub Decides-digits : (digits : List ℕ) → Decides (list_all is_option_digit digits) (All IsDigit digits)
Decides-digits digits = Decides-by_and is_option_digit IsDigit (list_all is_option_digit) Decides-digit refl (λ _ _. refl) digits

Decides-if : (a b c d : ℕ) → Decides (cond (eqb a b) (eqb c d) true) (a ≡ b → c ≡ d)
Decides-if a b c d = (λ e same. grind (arith, nat_tests), λ f. grind (arith, nat_tests, f))

pub IsNumber-from_test : (digits : List ℕ) → is_option_number digits ≡ true → IsNumeral digits
IsNumber-from_test digits e =
    let whole = (Decides-and _ _ (Decides-digits digits) (Decides-and _ _ (Decides-ltb 0 (length digits)) (Decides-and _ _ (Decides-leb (length digits) 10) (Decides-if (get_or digits 0 0) 48 (length digits) 1)))).0 e in
    record { digit = whole.0; some = whole.1.0; few = whole.1.1.0; no_leading_zero = whole.1.1.1 }

pub test_from_IsNumber : (digits : List ℕ) → IsNumeral digits → is_option_number digits ≡ true
test_from_IsNumber digits n =
    (Decides-and _ _ (Decides-digits digits) (Decides-and _ _ (Decides-ltb 0 (length digits)) (Decides-and _ _ (Decides-leb (length digits) 10) (Decides-if (get_or digits 0 0) 48 (length digits) 1)))).1 (n.digit, (n.some, (n.few, n.no_leading_zero)))

-- ---- the bound

pub decimal-lt : (digits : List ℕ) → list_all is_option_digit digits ≡ true → decimal digits < 10 ^ length digits
decimal-lt [] e = omega arith
decimal-lt (byte ∷ digits) e =
    let both = (Decides-and _ _ (Decides-digit byte) (Decides-digits digits)).0 e in
    let others = decimal-lt digits ((Decides-digits digits).1 both.1) in
    let low = both.0.0 in
    let high = both.0.1 in
    let power : 10 ^ suc (length digits) ≡ 10 ^ length digits * 10 = grind (arith, common_steps) in
    rw power (mul-add-lt (byte - 48) (10 ^ length digits) (decimal digits) 10 (omega arith) others)

power_mono : (n k : ℕ) → 10 ^ k ≤ 10 ^ (k + n)
power_mono zero k = rw add-zero (omega arith)
power_mono (suc n) k =
    let before = power_mono n k in
    let power : 10 ^ (k + suc n) ≡ 10 ^ (k + n) * 10 = rw add-suc (grind (arith, common_steps)) in
    rw power (omega arith)

pub decimal-small : (digits : List ℕ) → length digits ≤ 9 → list_all is_option_digit digits ≡ true → decimal digits < 10 ^ 9
decimal-small digits few e =
    let whole : length digits + (9 - length digits) ≡ 9 = omega arith in
    let below = rw whole at (power_mono (9 - length digits) (length digits)) in
    omega (arith, decimal-lt digits e)

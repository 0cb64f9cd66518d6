-- Short numbers by their digits.
use Rattle.std.proofs.Common.{◌≡◌, ℕ, ◌+◌, ◌/◌, ◌%◌, ◌<◌, ◌≤◌, List, [], ◌∷◌, ◌++◌, get_or, map, refl, ◌∙◌, ap, arith}
use Rattle.std.specs.Prelude.{decimal}
use Rattle.std.specs.List.{range_with_len}
use Rattle.std.proofs.lemmas.Fmt.{decimal_digit, decimal_step}
use Rattle.std.proofs.lemmas.List.FromFn.{get_or-map-range_with_len}
use Rattle.abc_text_writer.specs.declared.tokens.TheConstants.{PAIRS}

-- two digits
abbrev pub pair_of : ℕ → List ℕ
pair_of n = (48 + n / 10) ∷ (48 + n % 10) ∷ []

same_pairs : PAIRS ≡ map pair_of (range_with_len 0 100)
same_pairs = refl

pub pair_is : (n : ℕ) (none : List ℕ) → n < 100 → get_or PAIRS n none ≡ pair_of n
pair_is n none less = ap (λ (l : List (List ℕ)). get_or l n none) same_pairs ∙ get_or-map-range_with_len pair_of 0 100 n n none less (omega arith)

pub one : (n : ℕ) → n < 10 → decimal n ≡ (48 + n) ∷ []
one = decimal_digit

pub two : (n : ℕ) → 10 ≤ n → n < 100 → decimal n ≡ (48 + n / 10) ∷ (48 + n % 10) ∷ []
two n more less = decimal_step n more (omega arith) ∙ ap (λ (l : List ℕ). l ++ (48 + n % 10) ∷ []) (decimal_digit (n / 10) (omega arith))

pub three : (n : ℕ) → 100 ≤ n → n < 1000 → decimal n ≡ (48 + n / 100) ∷ (48 + n % 100 / 10) ∷ (48 + n % 100 % 10) ∷ []
three n more less =
    let a : n / 10 / 10 ≡ n / 100 = omega arith in
    let b : n / 10 % 10 ≡ n % 100 / 10 = omega arith in
    let c : n % 10 ≡ n % 100 % 10 = omega arith in
    decimal_step n (omega (arith, more)) (omega (arith, less))
    ∙ ap (λ (l : List ℕ). l ++ (48 + n % 10) ∷ []) (two (n / 10) (omega (arith, more)) (omega (arith, less)))
    ∙ ap (λ (x : ℕ). (48 + x) ∷ (48 + n / 10 % 10) ∷ (48 + n % 10) ∷ []) a
    ∙ ap (λ (x : ℕ). (48 + n / 100) ∷ (48 + x) ∷ (48 + n % 10) ∷ []) b
    ∙ ap (λ (x : ℕ). (48 + n / 100) ∷ (48 + n % 100 / 10) ∷ (48 + x) ∷ []) c

pub four : (n : ℕ) → 1000 ≤ n → n < 10000 → decimal n ≡ (48 + n / 100 / 10) ∷ (48 + n / 100 % 10) ∷ (48 + n % 100 / 10) ∷ (48 + n % 100 % 10) ∷ []
four n more less =
    let a : n / 10 / 100 ≡ n / 100 / 10 = omega arith in
    let b : n / 10 % 100 / 10 ≡ n / 100 % 10 = omega arith in
    let c : n / 10 % 100 % 10 ≡ n % 100 / 10 = omega arith in
    let d : n % 10 ≡ n % 100 % 10 = omega arith in
    decimal_step n (omega (arith, more)) (omega (arith, less))
    ∙ ap (λ (l : List ℕ). l ++ (48 + n % 10) ∷ []) (three (n / 10) (omega (arith, more)) (omega (arith, less)))
    ∙ ap (λ (x : ℕ). (48 + x) ∷ (48 + n / 10 % 100 / 10) ∷ (48 + n / 10 % 100 % 10) ∷ (48 + n % 10) ∷ []) a
    ∙ ap (λ (x : ℕ). (48 + n / 100 / 10) ∷ (48 + x) ∷ (48 + n / 10 % 100 % 10) ∷ (48 + n % 10) ∷ []) b
    ∙ ap (λ (x : ℕ). (48 + n / 100 / 10) ∷ (48 + n / 100 % 10) ∷ (48 + x) ∷ (48 + n % 10) ∷ []) c
    ∙ ap (λ (x : ℕ). (48 + n / 100 / 10) ∷ (48 + n / 100 % 10) ∷ (48 + n % 100 / 10) ∷ (48 + x) ∷ []) d

-- Runs of letters and digits, as numbers, names and labels are written.
use Rattle.std.proofs.Common.{◌≡◌, ℕ, zero, suc, ℤ, pos, negsuc, ◌+◌, ◌/◌, ◌%◌, ◌^◌, ◌<◌, ◌≤◌, ◌⊎◌, inl, inr, Bool, true, false, cond, ◌&&◌, ◌||◌, nat_eq, nat_le, nat_lt, List, [], ◌∷◌, length, get_or, decimal, refl, ap, arith}
use Rattle.std.specs.Fmt.{signed_decimal}
use Rattle.std.specs.Str.Parse.{AllDigits}
use Rattle.std.specs.List.{AllByRecursion, list_all}
use Rattle.std.proofs.lemmas.Bool.{cases_lt}
use Rattle.std.proofs.lemmas.Bool.Decides.{nat_tests}
use Rattle.std.proofs.lemmas.Fmt.{decimal_digit, decimal_is_IsNumeral, decimal_nonempty, digits_value-decimal, first_decimal}
use Rattle.std.proofs.lemmas.Str.Parse.{digit_from_value, numerals_by_weight, tells_digits}
use Rattle.abc_base.specs.Escapes.{hex_digit}
use Rattle.abc_text_lines.specs.Tokens.{Bare, hex_value, is_hex, is_run_byte}
use Rattle.abc_text_lines.specs.Writing.{IsWritable}
use Rattle.abc_text_lines.proofs.Bools.{and_true}
use Rattle.abc_text_lines.specs.Operands.{AreHex, IsSigned, is_digit, is_letter, is_name, is_numeral, number_of_digits}
use Rattle.abc_text_lines.specs.Listing.{listing_hex, label_of}

-- ---- bytes

-- a byte of runs that is no line feed
abbrev pub IsSolid : ℕ → Type 0
IsSolid b = (0x2d ≤ b) × ¬ (b ≡ 0x3b)

abbrev pub IsNoFeed : ℕ → Type 0
IsNoFeed b = nat_eq b 0x0a ≡ false

solid_run : (b : ℕ) → IsSolid b → is_run_byte b ≡ true
solid_run b s =
    let le = s.0 in
    let other = s.1 in
    let a : nat_eq b 0x20 ≡ false = grind (arith, nat_tests) in
    let c : nat_eq b 0x09 ≡ false = grind (arith, nat_tests) in
    let d : nat_eq b 0x0d ≡ false = grind (arith, nat_tests) in
    let e : nat_eq b 0x3b ≡ false = grind (arith, nat_tests) in
    let f : nat_eq b 0x22 ≡ false = grind (arith, nat_tests) in
    rw (a, c, d, e, f) refl

solid_feed : (b : ℕ) → IsSolid b → IsNoFeed b
solid_feed b s = let le = s.0 in grind (arith, nat_tests)

digit_solid : (b : ℕ) → 48 ≤ b → b ≤ 57 → IsSolid b
digit_solid b low high = (omega arith, λ e. omega arith)

is_digit_solid : (b : ℕ) → is_digit b ≡ true → IsSolid b
is_digit_solid b e = let both = and_true (nat_le 48 b) (nat_le b 57) e in let a = both.0 in let c = both.1 in digit_solid b (grind (arith, nat_tests)) (grind (arith, nat_tests))

or_is : (a b : Bool) → (a || b) ≡ true → (a ≡ true) ⊎ (b ≡ true)
or_is true b e = inl refl
or_is false b e = inr e

between_solid : (b low high : ℕ) → 60 ≤ low → (nat_le low b && nat_le b high) ≡ true → IsSolid b
between_solid b low high le e = let both = and_true (nat_le low b) (nat_le b high) e in let a = both.0 in let c : low ≤ b = grind (arith, nat_tests) in (omega arith, λ s. omega arith)

is_letter_solid : (b : ℕ) → is_letter b ≡ true → IsSolid b
is_letter_solid b e =
    elim (or_is ((nat_le 65 b && nat_le b 90) || (nat_le 97 b && nat_le b 122)) (nat_eq b 95) e) [
      | inl x ↦ elim (or_is (nat_le 65 b && nat_le b 90) (nat_le 97 b && nat_le b 122) x) [
        | inl y ↦ between_solid b 65 90 (omega arith) y
        | inr y ↦ between_solid b 97 122 (omega arith) y
      ]
      | inr x ↦ let same : b ≡ 95 = grind (arith, nat_tests) in (omega arith, λ s. omega arith)
    ]

-- ---- runs

-- a word that can be a run and has no line feed
pub record IsWord (word : List ℕ) : Type 0 where
  pub some : 0 < length word
  pub solid : AllByRecursion IsSolid word

pub runs : (word : List ℕ) → AllByRecursion IsSolid word → AllByRecursion (λ b. is_run_byte b ≡ true) word
runs [] all = tt
runs (b ∷ word) all = (solid_run b all.0, runs word all.1)

pub feeds : (word : List ℕ) → AllByRecursion IsSolid word → AllByRecursion IsNoFeed word
feeds [] all = tt
feeds (b ∷ word) all = (solid_feed b all.0, feeds word all.1)

pub word_writable : (word : List ℕ) → IsWord word → IsWritable (Bare word)
word_writable [] is = let some = is.some in absurd (omega arith)
word_writable (b ∷ word) is = runs (b ∷ word) is.solid

name_rest : (bytes : List ℕ) → list_all (λ b. is_letter b || is_digit b) bytes ≡ true → AllByRecursion IsSolid bytes
name_rest [] e = tt
name_rest (b ∷ bytes) e =
    let both = and_true (is_letter b || is_digit b) (list_all (λ b. is_letter b || is_digit b) bytes) e in
    (elim (or_is (is_letter b) (is_digit b) both.0) [ inl x ↦ is_letter_solid b x | inr x ↦ is_digit_solid b x ], name_rest bytes both.1)

pub name_word : (word : List ℕ) → is_name word ≡ true → IsWord word
name_word [] e = absurd cc
name_word (b ∷ word) e =
    let both = and_true (is_letter b) (list_all (λ b. is_letter b || is_digit b) word) e in
    record { some = omega arith; solid = (is_letter_solid b both.0, name_rest word both.1) }

-- ---- numbers

digits_solid : (ds : List ℕ) → AllDigits 10 ds → AllByRecursion IsSolid ds
digits_solid [] d = tt
digits_solid (c ∷ ds) d = let r = digit_from_value c d.0 in (digit_solid c r.0 r.1, digits_solid ds d.1)

is_digit_yes : (c : ℕ) → 48 ≤ c → c ≤ 57 → is_digit c ≡ true
is_digit_yes c low high = let a : nat_le 48 c ≡ true = grind (arith, nat_tests) in let b : nat_le c 57 ≡ true = grind (arith, nat_tests) in rw (a, b) refl

digits_test : (ds : List ℕ) → AllDigits 10 ds → list_all is_digit ds ≡ true
digits_test [] d = refl
digits_test (c ∷ ds) d = let r = digit_from_value c d.0 in let a = is_digit_yes c r.0 r.1 in let b = digits_test ds d.1 in rw (a, b) refl

pub decimal_word : (n : ℕ) → n < 2 ^ 64 → IsWord (decimal n)
decimal_word n lt = record { some = decimal_nonempty n lt; solid = digits_solid (decimal n) (decimal_is_IsNumeral n lt).0.1 }

no_zero : (ds : List ℕ) → 48 < get_or ds 0 0 → (if_ : Bool) → cond (nat_eq (get_or ds 0 0) 48) if_ true ≡ true
no_zero ds lt b = let e : nat_eq (get_or ds 0 0) 48 ≡ false = grind (arith, nat_tests) in rw e refl

numeral_from : (ds : List ℕ) → list_all is_digit ds ≡ true → nat_lt 0 (length ds) ≡ true → cond (nat_eq (get_or ds 0 0) 48) (nat_eq (length ds) 1) true ≡ true → is_numeral ds ≡ true
numeral_from ds a b c = rw (a, b, c) refl

pub decimal_numeral : (n : ℕ) → n < 2 ^ 64 → is_numeral (decimal n) ≡ true
decimal_numeral zero lt = ap is_numeral (decimal_digit 0 (omega arith))
decimal_numeral (suc n) lt =
    let some = decimal_nonempty (suc n) lt in
    numeral_from (decimal (suc n)) (digits_test (decimal (suc n)) (decimal_is_IsNumeral (suc n) lt).0.1) (grind (arith, nat_tests)) (no_zero (decimal (suc n)) (first_decimal (suc n) (omega arith) lt) (nat_eq (length (decimal (suc n))) 1))

pub decimal_value : (n : ℕ) → n < 2 ^ 64 → number_of_digits (decimal n) ≡ n
decimal_value n lt = digits_value-decimal (numerals_by_weight (AllDigits 10) tells_digits number_of_digits (record { empty = refl; more = λ c cs k. refl })) n lt

-- of what a signed number is written
abbrev pub size_of : ℤ → ℕ
size_of (pos n) = n
size_of (negsuc n) = suc n

pub signed_word : (z : ℤ) → size_of z < 2 ^ 64 → IsWord (signed_decimal z)
signed_word (pos n) lt = decimal_word n lt
signed_word (negsuc n) lt = record { some = omega arith; solid = ((omega arith, λ e. omega arith), (decimal_word (suc n) lt).solid) }

pub signed_is : (z : ℤ) → size_of z < 2 ^ 64 → IsSigned (signed_decimal z) z
signed_is (pos n) lt = (decimal_numeral n lt, decimal_value n lt)
signed_is (negsuc n) lt = (decimal (suc n), refl, decimal_numeral (suc n) lt, decimal_value (suc n) lt)

-- ---- labels

digits_name : (ds : List ℕ) → AllDigits 10 ds → list_all (λ b. is_letter b || is_digit b) ds ≡ true
digits_name [] d = refl
digits_name (c ∷ ds) d =
    let r = digit_from_value c d.0 in
    let a = is_digit_yes c r.0 r.1 in
    let b = digits_name ds d.1 in
    let o : (is_letter c || true) ≡ true = or_true (is_letter c) in
    rw (a, o, b) refl
  where
    or_true : (a : Bool) → (a || true) ≡ true
    or_true true = refl
    or_true false = refl

pub label_name : (n : ℕ) → n < 2 ^ 64 → is_name (label_of n) ≡ true
label_name n lt = digits_name (decimal n) (decimal_is_IsNumeral n lt).0.1

-- ---- hexadecimal digits

hex_is : (n : ℕ) → n < 16 → (is_hex (hex_digit n) ≡ true) × (hex_value (hex_digit n) ≡ n)
hex_is n lt =
    elim (cases_lt n 10) [
      | inl low ↦
          let a : nat_lt n 10 ≡ true = grind (arith, nat_tests) in
          let b : nat_le 48 (48 + n) ≡ true = grind (arith, nat_tests) in
          let c : nat_le (48 + n) 57 ≡ true = grind (arith, nat_tests) in
          rw (a, b, c) (refl, omega arith)
      | inr high ↦
          let a : nat_lt n 10 ≡ false = grind (arith, nat_tests) in
          let b : nat_le (87 + n) 57 ≡ false = grind (arith, nat_tests) in
          let c : nat_le 97 (87 + n) ≡ true = grind (arith, nat_tests) in
          let d : nat_le (87 + n) 102 ≡ true = grind (arith, nat_tests) in
          let e : nat_le (87 + n) 70 ≡ false = grind (arith, nat_tests) in
          let f : nat_le 48 (87 + n) ≡ true = grind (arith, nat_tests) in
          rw (a, f, b, c, d, e) (refl, omega arith)
    ]

hex_solid : (n : ℕ) → n < 16 → IsSolid (hex_digit n)
hex_solid n lt =
    elim (cases_lt n 10) [
      | inl low ↦ let a : nat_lt n 10 ≡ true = grind (arith, nat_tests) in rw a (omega arith, λ e. omega arith)
      | inr high ↦ let a : nat_lt n 10 ≡ false = grind (arith, nat_tests) in rw a (omega arith, λ e. omega arith)
    ]

pub hex_solids : (bytes : List ℕ) → AllByRecursion (λ b. b < 256) bytes → AllByRecursion IsSolid (listing_hex bytes)
hex_solids [] all = tt
hex_solids (b ∷ bytes) all = let lt = all.0 in (hex_solid (b / 16) (omega arith), (hex_solid (b % 16) (omega arith), hex_solids bytes all.1))

pub hex_read : (bytes : List ℕ) → AllByRecursion (λ b. b < 256) bytes → AreHex (listing_hex bytes) bytes
hex_read [] all = refl
hex_read (b ∷ bytes) all =
    let lt = all.0 in
    let h = hex_is (b / 16) (omega arith) in
    let l = hex_is (b % 16) (omega arith) in
    (hex_digit (b / 16), hex_digit (b % 16), listing_hex bytes, refl, h.0, l.0, omega (arith, h.1, l.1), hex_read bytes all.1)

pub hex_word : (bytes : List ℕ) → 0 < length bytes → AllByRecursion (λ b. b < 256) bytes → IsWord (listing_hex bytes)
hex_word [] some all = absurd (omega arith)
hex_word (b ∷ bytes) some all = record { some = omega arith; solid = hex_solids (b ∷ bytes) all }

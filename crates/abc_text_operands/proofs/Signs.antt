-- Words with a sign, and the ranges of their numbers.
use Rattle.std.proofs.Common.{◌≡◌, ℕ, ℤ, pos, negsuc, zero, suc, ◌-◌, ◌<◌, ◌≤◌, ◌^◌, ◌&&◌, true, false, cond, nat_eq, nat_le, min, List, [], ◌∷◌, length, drop, get_or, Ok, Err, refl, arith}
use Rattle.std.specs.Prelude.{int_le}
use Rattle.std.specs.declared.result.Result.{Result}
use Rattle.std.proofs.lemmas.Bool.Decides.{nat_tests}
use Rattle.abc_text_lines.specs.declared.reason.AsmReason.{AsmReason}
use Rattle.abc_text_lines.specs.declared.reason.AsmReason.TheVariants as reasons
use Rattle.abc_text_lines.specs.Operands.{is_numeral, negative, number_of_digits, signed_of}
use Rattle.abc_text_operands.specs.Signed.{in_signed_range}

pub plain_is : (word : List ℕ) → 0 < length word → nat_eq (get_or word 0 0) 0x2d ≡ false → signed_of word ≡ cond (is_numeral word) (Ok (pos (number_of_digits word))) (Err reasons.Number)
plain_is [] lt e = absurd (omega arith)
plain_is (b ∷ word) lt e = rw e refl

pub minus_is : (word : List ℕ) → 0 < length word → nat_eq (get_or word 0 0) 0x2d ≡ true → signed_of word ≡ cond (is_numeral (drop 1 word)) (negative (number_of_digits (drop 1 word))) (Err reasons.Number)
minus_is [] lt e = absurd (omega arith)
minus_is (b ∷ word) lt e = rw e refl

pub no_number : (limit : ℕ) (word : List ℕ) (a : Result ℤ AsmReason) → is_numeral word ≡ false → Err reasons.Number ≡ in_signed_range limit (cond (is_numeral word) a (Err reasons.Number))
no_number limit word a e = rw e refl

plain_fits : (limit n : ℕ) → n < limit → (int_le (negsuc (limit - 1)) (pos n) && int_le (pos n) (pos (limit - 1))) ≡ true
plain_fits limit n lt = (let t : nat_le n (limit - 1) ≡ true = grind (arith, nat_tests) in t)

plain_wide : (limit n : ℕ) → 0 < limit → limit ≤ n → (int_le (negsuc (limit - 1)) (pos n) && int_le (pos n) (pos (limit - 1))) ≡ false
plain_wide limit n some le = (let t : nat_le n (limit - 1) ≡ false = grind (arith, nat_tests) in t)

pub plain_in : (limit m : ℕ) (word : List ℕ) → limit ≤ 2 ^ 31 → is_numeral word ≡ true → m ≡ min (number_of_digits word) (2 ^ 40) → m < limit → Ok (pos m) ≡ in_signed_range limit (cond (is_numeral word) (Ok (pos (number_of_digits word))) (Err reasons.Number))
plain_in limit m word wide is e lt =
    let same : m ≡ number_of_digits word = omega arith in
    let fit = plain_fits limit (number_of_digits word) (omega arith) in
    rw (is, fit, same) refl

pub plain_out : (limit m : ℕ) (word : List ℕ) → 0 < limit → limit ≤ 2 ^ 31 → is_numeral word ≡ true → m ≡ min (number_of_digits word) (2 ^ 40) → limit ≤ m → Err reasons.Range ≡ in_signed_range limit (cond (is_numeral word) (Ok (pos (number_of_digits word))) (Err reasons.Number))
plain_out limit m word some wide is e le =
    let far = plain_wide limit (number_of_digits word) some (omega arith) in
    rw (is, far) refl

negative_fits : (limit n : ℕ) → 0 < limit → suc n ≤ limit → (int_le (negsuc (limit - 1)) (negsuc n) && int_le (negsuc n) (pos (limit - 1))) ≡ true
negative_fits limit n some le = (let t : nat_le n (limit - 1) ≡ true = grind (arith, nat_tests) in rw t refl)

negative_wide : (limit n : ℕ) → 0 < limit → limit < suc n → (int_le (negsuc (limit - 1)) (negsuc n) && int_le (negsuc n) (pos (limit - 1))) ≡ false
negative_wide limit n some lt = (let t : nat_le n (limit - 1) ≡ false = grind (arith, nat_tests) in rw t refl)

by_number : (limit n : ℕ) (m : ℕ) → 0 < limit → limit ≤ 2 ^ 31 → m ≡ min n (2 ^ 40) → 0 < m → m ≤ limit → Ok (negsuc (m - 1)) ≡ in_signed_range limit (negative n)
by_number limit zero m some wide e pos_ le = absurd (omega arith)
by_number limit (suc n) m some wide e pos_ le =
    let same : m - 1 ≡ n = omega arith in
    let fit = negative_fits limit n some (omega arith) in
    rw (fit, same) refl

by_far : (limit n : ℕ) (m : ℕ) → 0 < limit → limit ≤ 2 ^ 31 → m ≡ min n (2 ^ 40) → limit < m → Err reasons.Range ≡ in_signed_range limit (negative n)
by_far limit zero m some wide e lt = absurd (omega arith)
by_far limit (suc n) m some wide e lt = let far = negative_wide limit n some (omega arith) in rw far refl

by_zero : (limit n : ℕ) (m : ℕ) → m ≡ min n (2 ^ 40) → m ≡ 0 → Err reasons.Number ≡ in_signed_range limit (negative n)
by_zero limit zero m e z = refl
by_zero limit (suc n) m e z = absurd (omega arith)

abbrev behind : ℕ → List ℕ → Result ℤ AsmReason
behind limit word = in_signed_range limit (cond (is_numeral word) (negative (number_of_digits word)) (Err reasons.Number))

pub negative_in : (limit m : ℕ) (word : List ℕ) → 0 < limit → limit ≤ 2 ^ 31 → is_numeral word ≡ true → m ≡ min (number_of_digits word) (2 ^ 40) → 0 < m → m ≤ limit → Ok (negsuc (m - 1)) ≡ behind limit word
negative_in limit m word some wide is e pos_ le = rw is (by_number limit (number_of_digits word) m some wide e pos_ le)

pub negative_out : (limit m : ℕ) (word : List ℕ) → 0 < limit → limit ≤ 2 ^ 31 → is_numeral word ≡ true → m ≡ min (number_of_digits word) (2 ^ 40) → limit < m → Err reasons.Range ≡ behind limit word
negative_out limit m word some wide is e lt = rw is (by_far limit (number_of_digits word) m some wide e lt)

pub negative_none : (limit m : ℕ) (word : List ℕ) → is_numeral word ≡ true → m ≡ min (number_of_digits word) (2 ^ 40) → m ≡ 0 → Err reasons.Number ≡ behind limit word
negative_none limit m word is e z = rw is (by_zero limit (number_of_digits word) m e z)

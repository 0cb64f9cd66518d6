-- One number among those up to it.
use Rattle.std.proofs.Common.{◌≡◌, ℕ, ◌+◌, ◌⊎◌, inl, inr, Bool, true, false, cond, nat_eq, nat_lt, [], Ok, Err, refl, sym, ap, ◌∙◌, arith}
use Rattle.std.proofs.lemmas.Bool.Decides.{nat_tests}
use Rattle.std.specs.declared.result.Result.{Result}
use Rattle.abc_text_lines.specs.declared.reason.AsmReason.{AsmReason}
use Rattle.abc_text_lines.specs.declared.reason.AsmReason.TheVariants as reasons
use Rattle.abc_text_lines.specs.Tokens.{Token}
use Rattle.abc_text_lines.proofs.Bools.{split_bool}
use Rattle.abc_text_lines.specs.Operands.{any_number, exactly, number_below, numeral, test_result}

abbrev ok_as : ℕ → Result ℕ AsmReason
ok_as n = Ok n

abbrev err_as : AsmReason → Result ℕ AsmReason
err_as r = Err r

-- the value of one test, by another test of it
one_test : (f g : ℕ → Bool) (r : Result ℕ AsmReason) (m : ℕ) → Ok m ≡ test_result f reasons.Range r → g m ≡ true → Ok m ≡ test_result g reasons.Range r
one_test f g (Ok k) m e good =
    elim (split_bool (f k)) [
      | inl t ↦ let u : ok_as m ≡ cond (f k) (ok_as k) (err_as reasons.Range) = e in let same : ok_as m ≡ ok_as k = u ∙ (rw t refl) in let is : m ≡ k = cc in let v : g k ≡ true = sym (ap g is) ∙ good in rw v same
      | inr t ↦ let u : ok_as m ≡ cond (f k) (ok_as k) (err_as reasons.Range) = e in let bad : ok_as m ≡ err_as reasons.Range = u ∙ (rw t refl) in absurd cc
    ]
one_test f g (Err x) m e good = absurd cc

other_test : (f g : ℕ → Bool) (r : Result ℕ AsmReason) (m : ℕ) → Ok m ≡ test_result f reasons.Range r → g m ≡ false → Err reasons.Range ≡ test_result g reasons.Range r
other_test f g (Ok k) m e bad =
    elim (split_bool (f k)) [
      | inl t ↦ let u : ok_as m ≡ cond (f k) (ok_as k) (err_as reasons.Range) = e in let same : ok_as m ≡ ok_as k = u ∙ (rw t refl) in let is : m ≡ k = cc in let v : g k ≡ false = sym (ap g is) ∙ bad in rw v refl
      | inr t ↦ let u : ok_as m ≡ cond (f k) (ok_as k) (err_as reasons.Range) = e in let none : ok_as m ≡ err_as reasons.Range = u ∙ (rw t refl) in absurd cc
    ]
other_test f g (Err x) m e bad = absurd cc

no_test : (f g : ℕ → Bool) (r : Result ℕ AsmReason) (s : AsmReason) → Err s ≡ test_result f reasons.Range r → ((k : ℕ) → f k ≡ false → g k ≡ false) → Err s ≡ test_result g reasons.Range r
no_test f g (Ok k) s e far =
    elim (split_bool (f k)) [
      | inl t ↦ let u : err_as s ≡ cond (f k) (ok_as k) (err_as reasons.Range) = e in let none : err_as s ≡ ok_as k = u ∙ (rw t refl) in absurd cc
      | inr t ↦ let u : err_as s ≡ cond (f k) (ok_as k) (err_as reasons.Range) = e in let same : err_as s ≡ err_as reasons.Range = u ∙ (rw t refl) in let v : g k ≡ false = far k t in rw v same
    ]
no_test f g (Err x) s e far = e

is_far : (n k : ℕ) → nat_lt k (n + 1) ≡ false → nat_eq k n ≡ false
is_far n k far = grind (arith, nat_tests)

pub exact_in : (n m : ℕ) (token : Token) → Ok m ≡ (number_below (n + 1)).reads [] token → m ≡ n → Ok m ≡ (exactly n).reads [] token
unfolding any_number
exact_in n m token e same = let t : nat_eq m n ≡ true = grind (arith, nat_tests) in one_test (λ k. nat_lt k (n + 1)) (λ k. nat_eq k n) (numeral token) m e t

pub exact_out : (n m : ℕ) (token : Token) → Ok m ≡ (number_below (n + 1)).reads [] token → ¬ (m ≡ n) → Err reasons.Range ≡ (exactly n).reads [] token
unfolding any_number
exact_out n m token e differs = let t : nat_eq m n ≡ false = grind (arith, nat_tests) in other_test (λ k. nat_lt k (n + 1)) (λ k. nat_eq k n) (numeral token) m e t

pub exact_bad : (n : ℕ) (s : AsmReason) (token : Token) → Err s ≡ (number_below (n + 1)).reads [] token → Err s ≡ (exactly n).reads [] token
unfolding any_number
exact_bad n s token e = no_test (λ k. nat_lt k (n + 1)) (λ k. nat_eq k n) (numeral token) s e (is_far n)

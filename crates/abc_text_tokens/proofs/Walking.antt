-- Going over blanks and runs.
use Rattle.std.proofs.Common.{◌≡◌, ℕ, zero, suc, ◌+◌, ◌-◌, ◌<◌, true, false, nat_eq, List, [], ◌∷◌, ◌++◌, length, take, drop, get_or, ◌==◌, rules, refl, sym, ap, subst, ◌∙◌, add-one, arith}
use Rattle.std.proofs.Math.Seq.{drop-cons, take-suc}
use Rattle.std.proofs.lemmas.List.{length-drop, take-append-drop, take_all}
use Rattle.std.proofs.lemmas.Bool.Decides.{nat_tests}
use Rattle.std.specs.List.{AllByRecursion}
use Rattle.abc_text_lines.specs.Tokens.{Bare, EndsRun, is_blank, is_run_byte, quote, semicolon}
use Rattle.abc_text_lines.specs.Scanning.{Between, also, scan, scan_of}
use Rattle.abc_text_lines.proofs.Scans.{blank_read, eq_is, run_read}
use Rattle.abc_text_tokens.specs.Walks.{BeginsRun, BeginsToken}

pub drop_at : (bytes : List ℕ) (i : ℕ) → i < length bytes → drop i bytes ≡ get_or bytes i 0 ∷ drop (i + 1) bytes
drop_at bytes i lt = rw add-one (drop-cons bytes i 0 lt)

pub take_at : (bytes : List ℕ) (i : ℕ) → i < length bytes → take (i + 1) bytes ≡ take i bytes ++ get_or bytes i 0 ∷ []
take_at bytes i lt = rw add-one (take-suc bytes i 0 lt)

-- what a slice from a place on has
pub tail_is : (bytes : List ℕ) (n : ℕ) → take (length bytes - n) (drop n bytes) ≡ drop n bytes
tail_is bytes n = take_all (length bytes - n) (drop n bytes) (omega (arith, length-drop n bytes))

pub tail_short : (bytes : List ℕ) (n : ℕ) → length (take (length bytes - n) (drop n bytes)) ≡ length bytes - n
tail_short bytes n = ap length (tail_is bytes n) ∙ length-drop n bytes

pub blank_step : (bytes : List ℕ) (i : ℕ) → i < length bytes → is_blank (get_or bytes i 0) ≡ true → scan (drop i bytes) Between ≡ scan (drop (i + 1) bytes) Between
blank_step bytes i lt is = ap (λ (l : List ℕ). scan l Between) (drop_at bytes i lt) ∙ blank_read (get_or bytes i 0) (drop (i + 1) bytes) is

pub begins_at : (bytes : List ℕ) (i : ℕ) → i < length bytes → is_blank (get_or bytes i 0) ≡ false → BeginsToken (drop i bytes)
begins_at bytes i lt is = subst BeginsToken (sym (drop_at bytes i lt)) is

pub run_append : (word : List ℕ) (b : ℕ) → AllByRecursion (λ byte. is_run_byte byte ≡ true) word → is_run_byte b ≡ true → AllByRecursion (λ byte. is_run_byte byte ≡ true) (word ++ b ∷ [])
run_append [] b all is = (is, tt)
run_append (c ∷ word) b all is = (all.0, run_append word b all.1 is)

pub run_step : (bytes : List ℕ) (i : ℕ) → i < length bytes → AllByRecursion (λ byte. is_run_byte byte ≡ true) (take i bytes) → is_run_byte (get_or bytes i 0) ≡ true → AllByRecursion (λ byte. is_run_byte byte ≡ true) (take (i + 1) bytes)
run_step bytes i lt all is = subst (λ (l : List ℕ). AllByRecursion (λ byte. is_run_byte byte ≡ true) l) (sym (take_at bytes i lt)) (run_append (take i bytes) (get_or bytes i 0) all is)

pub ends_at : (bytes : List ℕ) (i : ℕ) → i < length bytes → is_run_byte (get_or bytes i 0) ≡ false → EndsRun (drop i bytes)
ends_at bytes i lt is = subst EndsRun (sym (drop_at bytes i lt)) is

some_run : (bytes : List ℕ) (n : ℕ) → BeginsRun bytes → EndsRun (drop n bytes) → ¬ (take n bytes ≡ [])
some_run [] n begins ends e = absurd begins
some_run (b ∷ bytes) zero begins ends e = let no : true ≡ false = sym begins ∙ ends in absurd cc
some_run (b ∷ bytes) (suc n) begins ends e = absurd cc

pub run_found : (bytes : List ℕ) (n : ℕ) → BeginsRun bytes → AllByRecursion (λ byte. is_run_byte byte ≡ true) (take n bytes) → EndsRun (drop n bytes) → scan bytes Between ≡ also (Bare (take n bytes)) (scan (drop n bytes) Between)
run_found bytes n begins all ends =
    ap (λ (l : List ℕ). scan l Between) (sym (take-append-drop n bytes)) ∙ run_read (take n bytes) (drop n bytes) (record { some = some_run bytes n begins ends; bytes = all; longest = ends })

pub shorter : (bytes : List ℕ) (n : ℕ) → BeginsRun bytes → EndsRun (drop n bytes) → 0 < n
shorter [] n begins ends = absurd begins
shorter (b ∷ bytes) zero begins ends = let no : true ≡ false = sym begins ∙ ends in absurd cc
shorter (b ∷ bytes) (suc n) begins ends = omega arith

-- ---- the first byte of what is left

pub zero_is : (n : ℕ) → (n == 0) ≡ true → n ≡ 0
zero_is n e = search rules

pub some_is : (n : ℕ) → (n == 0) ≡ false → 0 < n
some_is n e = grind (arith, nat_tests)

pub ended : (rest : List ℕ) → (length rest == 0) ≡ true → scan rest Between ≡ scan_of false []
unfolding scan
ended [] e = refl
ended (b ∷ rest) e = let z = zero_is (length (b ∷ rest)) e in absurd (omega arith)

pub commented : (rest : List ℕ) → 0 < length rest → BeginsToken rest → nat_eq (get_or rest 0 0) semicolon ≡ true → scan rest Between ≡ scan_of false []
unfolding scan
commented [] lt begins is = absurd (omega arith)
commented (b ∷ rest) lt begins is = rw (begins, is) refl

pub run_begins : (rest : List ℕ) → 0 < length rest → BeginsToken rest → nat_eq (get_or rest 0 0) semicolon ≡ false → nat_eq (get_or rest 0 0) quote ≡ false → BeginsRun rest
run_begins [] lt begins first second = absurd (omega arith)
run_begins (b ∷ rest) lt begins first second = rw (begins, first, second) refl

pub quoted_rest : (rest : List ℕ) → 0 < length rest → nat_eq (get_or rest 0 0) quote ≡ true → rest ≡ quote ∷ drop 1 rest
quoted_rest [] lt is = absurd (omega arith)
quoted_rest (b ∷ rest) lt is = ap (λ (n : ℕ). n ∷ rest) (eq_is b quote is)

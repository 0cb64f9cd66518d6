-- A word that is `--name=N`, and its parts.
use Rattle.std.proofs.Common.{◌≡◌, ℕ, suc, ◌+◌, ◌≤◌, Bool, true, false, cond, eqb, ltb, not, ◌&&◌, Option, Some, None, List, [], ◌∷◌, ◌++◌, length, take, drop, refl, sym, ap, ◌∙◌, arith, append_assoc, one-add, add-one}
use Rattle.std.specs.List.{list_all, position, position_or_len}
use Rattle.std.specs.Prelude.{codes}
use Rattle.std.specs.Option.{option_map, option_and_then}
use Rattle.std.specs.Str.{bytes_eq}
use Rattle.std.proofs.lemmas.Bool.Decides.{Decides-eqb, Decides-ltb, Decides-like, same_from_decides}
use Rattle.std.proofs.lemmas.List.{take-append-drop}
use Rattle.std.proofs.lemmas.Slice.Eq.{bytes_eq-Decides}
use Rattle.abc_cli_answers.specs.Commands.{CommandOption, OptionSetting, option_setting}
use Rattle.abc_cli_answers.specs.Grammar.{GivesNumber, IsNumeral, decimal}
use Rattle.abc_cli_answers.specs.Reading.{cut_at_equals, is_option_number, name_and_number, some_if, with_number}
use Rattle.abc_cli_answers.proofs.Digits.{IsNumber-from_test, test_from_IsNumber}

-- no byte of the name is `=`
abbrev pub has_no_sign : List ℕ → Bool
has_no_sign name = list_all (λ byte. not (eqb byte 61)) name

-- what stands before the place and after it
abbrev pub halves : List ℕ → ℕ → List ℕ × List ℕ
halves bytes i = (take i bytes, drop (i + 1) bytes)

abbrev is_sign : ℕ → Bool
is_sign byte = eqb byte 61

abbrev found_at : List ℕ → ℕ → Option (List ℕ × List ℕ)
found_at bytes i = option_map (halves bytes) (cond (ltb i (length bytes)) (Some i) None)

abbrev onto : ℕ → Option (List ℕ × List ℕ) → Option (List ℕ × List ℕ)
onto byte found = option_map (λ p. (byte ∷ p.0, p.1)) found

ltb_suc : (a b : ℕ) → ltb (suc a) (suc b) ≡ ltb a b
ltb_suc a b = same_from_decides _ _ (Decides-like _ (λ lt. omega arith) (λ lt. omega arith) (Decides-ltb (suc a) (suc b))) (Decides-ltb a b)

found_later : (byte : ℕ) (bytes : List ℕ) (i : ℕ) (within : Bool) → within ≡ ltb i (length bytes) → onto byte (option_map (halves bytes) (cond within (Some i) None)) ≡ option_map (halves (byte ∷ bytes)) (cond within (Some (suc i)) None)
found_later byte bytes i true e = simp add-one
found_later byte bytes i false e = refl

cut_by : (byte : ℕ) (bytes : List ℕ) (sign : Bool) → cut_at_equals bytes ≡ found_at bytes (position_or_len is_sign bytes)
    → cond sign (Some ([], bytes)) (onto byte (cut_at_equals bytes)) ≡ found_at (byte ∷ bytes) (cond (not sign) (1 + position_or_len is_sign bytes) 0)
cut_by byte bytes true e = let some : ltb 0 (suc (length bytes)) ≡ true = (Decides-ltb 0 (suc (length bytes))).1 (omega arith) in rw some refl
cut_by byte bytes false e =
    let i : ℕ = position_or_len is_sign bytes in
    rw (e, one-add, ltb_suc) (found_later byte bytes i (ltb i (length bytes)) refl)

pub cut-position : (bytes : List ℕ) → cut_at_equals bytes ≡ option_map (halves bytes) (position is_sign bytes)
cut-position [] = refl
cut-position (byte ∷ bytes) = cut_by byte bytes (is_sign byte) (cut-position bytes)

-- ---- the parts, and the word again

abbrev two : List ℕ → List ℕ → List ℕ × List ℕ
two name digits = (name, digits)

onto_found : (byte : ℕ) (found : Option (List ℕ × List ℕ)) (name digits : List ℕ) → onto byte found ≡ Some (name, digits) → (others : List ℕ) × (name ≡ byte ∷ others) × (found ≡ Some (others, digits))
onto_found byte None name digits e = absurd cc
onto_found byte (Some p) name digits e =
    let both : two (byte ∷ p.0) p.1 ≡ two name digits = cc in
    let last : p.1 ≡ digits = ap (λ x. x.1) both in
    (p.0, sym (ap (λ x. x.0) both), ap (λ (l : List ℕ). Some (p.0, l)) last)

cut_found_by : (byte : ℕ) (bytes : List ℕ) (sign : Bool) (name digits : List ℕ) → sign ≡ is_sign byte → ((others : List ℕ) → cut_at_equals bytes ≡ Some (others, digits) → bytes ≡ others ++ 61 ∷ digits)
    → cond sign (Some ([], bytes)) (onto byte (cut_at_equals bytes)) ≡ Some (name, digits) → byte ∷ bytes ≡ name ++ 61 ∷ digits
cut_found_by byte bytes true name digits is later e =
    let sign : byte ≡ 61 = (Decides-eqb byte 61).0 (sym is) in
    let both : two [] bytes ≡ two name digits = cc in
    let none : name ≡ [] = sym (ap (λ x. x.0) both) in
    let same : bytes ≡ digits = ap (λ x. x.1) both in
    rw (none, sign, same) refl
cut_found_by byte bytes false name digits is later e =
    let o = onto_found byte (cut_at_equals bytes) name digits e in
    rw o.1 (ap (λ (l : List ℕ). byte ∷ l) (later o.0 o.2))

pub cut_found : (bytes name digits : List ℕ) → cut_at_equals bytes ≡ Some (name, digits) → bytes ≡ name ++ 61 ∷ digits
cut_found [] name digits e = absurd cc
cut_found (byte ∷ bytes) name digits e = cut_found_by byte bytes (is_sign byte) name digits refl (λ others. cut_found bytes others digits) e

cut_again_by : (byte : ℕ) (name digits : List ℕ) (sign : Bool) → (not sign && has_no_sign name) ≡ true → (has_no_sign name ≡ true → cut_at_equals (name ++ 61 ∷ digits) ≡ Some (name, digits))
    → cond sign (Some ([], name ++ 61 ∷ digits)) (onto byte (cut_at_equals (name ++ 61 ∷ digits))) ≡ Some (byte ∷ name, digits)
cut_again_by byte name digits true e later = absurd cc
cut_again_by byte name digits false e later = rw (later e) refl

pub cut_again : (name digits : List ℕ) → has_no_sign name ≡ true → cut_at_equals (name ++ 61 ∷ digits) ≡ Some (name, digits)
cut_again [] digits e = refl
cut_again (byte ∷ name) digits e = cut_again_by byte name digits (is_sign byte) e (cut_again name digits)

-- ---- whole words

abbrev dashes : List ℕ
dashes = codes "--"

word_parts : (name digits : List ℕ) → dashes ++ name ++ codes "=" ++ digits ≡ 45 ∷ 45 ∷ (name ++ 61 ∷ digits)
word_parts name digits = ap (λ (l : List ℕ). 45 ∷ 45 ∷ l) (append_assoc name (61 ∷ []) digits)

-- the name and the number of a word that gives an option its number
pub name_and_number-gives : (word : List ℕ) (s : OptionSetting) → has_no_sign s.option.name ≡ true → GivesNumber word s → name_and_number word ≡ Some (s.option.name, s.number)
name_and_number-gives word s plain g =
    let parts : word ≡ 45 ∷ 45 ∷ (s.option.name ++ 61 ∷ g.digits) = g.parts ∙ word_parts s.option.name g.digits in
    let test = test_from_IsNumber g.digits g.decimal_number in
    rw (parts, cut_again s.option.name g.digits plain, test, g.value) refl

some_if_parts : (test : Bool) (x y : List ℕ × ℕ) → some_if test x ≡ Some y → (test ≡ true) × (x ≡ y)
some_if_parts true x y e = (refl, cc)
some_if_parts false x y e = absurd cc

-- a name and a number that were found in a word
pub record IsPair (word name : List ℕ) (number : ℕ) : Type 0 where
  pub digits : List ℕ
  pub parts : word ≡ dashes ++ name ++ codes "=" ++ digits
  pub decimal_number : IsNumeral digits
  pub value : number ≡ decimal digits

pair_after_cut : (bytes name : List ℕ) (n : ℕ) (found : Option (List ℕ × List ℕ)) → cut_at_equals bytes ≡ found → option_and_then with_number found ≡ Some (name, n) → (digits : List ℕ) × (bytes ≡ name ++ 61 ∷ digits) × IsNumeral digits × (n ≡ decimal digits)
pair_after_cut bytes name n None is e = absurd cc
pair_after_cut bytes name n (Some p) is e =
    let t = some_if_parts (is_option_number p.1) (p.0, decimal p.1) (name, n) e in
    let same : p.0 ≡ name = ap (λ (x : List ℕ × ℕ). x.0) t.1 in
    let value : decimal p.1 ≡ n = ap (λ (x : List ℕ × ℕ). x.1) t.1 in
    (p.1, cut_found bytes name p.1 (is ∙ ap (λ (x : List ℕ). Some (x, p.1)) same), IsNumber-from_test p.1 t.0, sym value)

pair_after_dashes : (word name : List ℕ) (n : ℕ) (test : Bool) → bytes_eq (take 2 word) dashes ≡ test → cond test (option_and_then with_number (cut_at_equals (drop 2 word))) None ≡ Some (name, n) → IsPair word name n
pair_after_dashes word name n true is e =
    let begins : take 2 word ≡ dashes = (bytes_eq-Decides (take 2 word) dashes).0 is in
    let c = pair_after_cut (drop 2 word) name n (cut_at_equals (drop 2 word)) refl e in
    let whole : dashes ++ (name ++ 61 ∷ c.0) ≡ word = ap (λ (l : List ℕ). l ++ (name ++ 61 ∷ c.0)) (sym begins) ∙ ap (λ (l : List ℕ). take 2 word ++ l) (sym c.1) ∙ take-append-drop 2 word in
    record { digits = c.0; parts = sym whole ∙ sym (word_parts name c.0); decimal_number = c.2; value = c.3 }
pair_after_dashes word name n false is e = absurd cc

pub IsPair-found : (word name : List ℕ) (n : ℕ) → name_and_number word ≡ Some (name, n) → IsPair word name n
IsPair-found word name n e = pair_after_dashes word name n (bytes_eq (take 2 word) dashes) refl e

pub gives-found : (word name : List ℕ) (n : ℕ) (option : CommandOption) → name_and_number word ≡ Some (name, n) → name ≡ option.name → option.least ≤ n → n ≤ option.greatest → GivesNumber word (option_setting option n)
gives-found word name n option e named least greatest =
    let p = IsPair-found word name n e in
    record { digits = p.digits; parts = p.parts ∙ ap (λ (l : List ℕ). dashes ++ l ++ codes "=" ++ p.digits) named; decimal_number = p.decimal_number; value = p.value; least = least; greatest = greatest }

-- ---- how the code finds the parts

abbrev numbered : List ℕ → ℕ → List ℕ × ℕ
numbered name n = (name, n)

after_dashes : (word rest : List ℕ) → bytes_eq (take 2 word) dashes ≡ true → rest ≡ drop 2 word → name_and_number word ≡ option_and_then with_number (option_map (halves rest) (position is_sign rest))
after_dashes word rest begins is = rw begins (ap (λ (l : List ℕ). option_and_then with_number (cut_at_equals l)) (sym is) ∙ ap (option_and_then with_number) (cut-position rest))

pub without_sign : (word rest : List ℕ) → bytes_eq (take 2 word) dashes ≡ true → rest ≡ drop 2 word → position is_sign rest ≡ None → name_and_number word ≡ None
without_sign word rest begins is none = after_dashes word rest begins is ∙ rw none refl

pub with_sign : (word rest : List ℕ) (i : ℕ) → bytes_eq (take 2 word) dashes ≡ true → rest ≡ drop 2 word → position is_sign rest ≡ Some i → name_and_number word ≡ with_number (halves rest i)
with_sign word rest i begins is some = after_dashes word rest begins is ∙ rw some refl

no_number_by : (test : Bool) (name digits : List ℕ) → some_if test (decimal digits) ≡ None → some_if test (numbered name (decimal digits)) ≡ None
no_number_by true name digits e = absurd cc
no_number_by false name digits e = refl

a_number_by : (test : Bool) (name : List ℕ) (m n : ℕ) → some_if test m ≡ Some n → some_if test (numbered name m) ≡ Some (numbered name n)
a_number_by true name m n e = let same : m ≡ n = cc in ap (λ (k : ℕ). Some (numbered name k)) same
a_number_by false name m n e = absurd cc

-- where the digits are no number, and where they are
pub no_number : (name digits : List ℕ) → some_if (is_option_number digits) (decimal digits) ≡ None → with_number (name, digits) ≡ None
no_number name digits e = no_number_by (is_option_number digits) name digits e

pub a_number : (name digits : List ℕ) (n : ℕ) → some_if (is_option_number digits) (decimal digits) ≡ Some n → with_number (name, digits) ≡ Some (name, n)
a_number name digits n e = a_number_by (is_option_number digits) name (decimal digits) n e

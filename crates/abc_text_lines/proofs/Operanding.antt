-- The laws of each operand and of each way to make a line's operands.
use Rattle.std.proofs.Common.{◌≡◌, ℕ, zero, suc, ℤ, pos, negsuc, inl, inr, Bool, true, false, cond, ◌&&◌, nat_eq, nat_lt, List, [], ◌∷◌, ◌++◌, length, Ok, Err, Some, None, refl, sym, ap, subst, ◌∙◌}
use Rattle.std.specs.declared.option.Option.{Option}
use Rattle.std.specs.declared.result.Result.{Result}
use Rattle.abc_text_lines.specs.declared.reason.AsmReason.{AsmReason}
use Rattle.abc_text_lines.specs.declared.reason.AsmReason.TheVariants as reasons
use Rattle.abc_text_lines.specs.Tokens.{Token, Bare, Quoted, hex_pair, is_hex}
use Rattle.abc_text_lines.proofs.Bools.{and_true, if_is, split_bool}
use Rattle.abc_text_lines.proofs.Scans.{eq_is}
use Rattle.abc_text_lines.specs.Lines.{Label, Number, Signed, Text, Eight, Kind, Target}
use Rattle.abc_text_lines.specs.Operands.{AreHex, AreOperands, AreTokens, EachFits, IsOperand, IsSigned, IsToken, Operand, Operands, any_number, any_signed, by, by_counts, by_faults, by_value, operand_with_test, eight, eight_in, eight_of, found_kind, found_place, hex_bytes, is_digit, is_name, is_numeral, kind, kind_operand, more_hex, negative, none, number_of_digits, numeral, place_of_label, reasons_in, map_operands, several, several_faults, several_items, several_value, signed_of, signed_token, target, target_operand, test_result, text_operand, text_of_token, unseen, value_if_any, value_or}

abbrev yes : {A : Type 0} → A → Result A AsmReason
yes x = Ok x

yes_is : {A : Type 0} (x y : A) → yes x ≡ yes y → x ≡ y
yes_is x y e = cc

-- ---- numbers

tested_ok : {A : Type 0} (test : A → Bool) (reason : AsmReason) (r : Result A AsmReason) (x : A) → test_result test reason r ≡ Ok x → (r ≡ Ok x) × (test x ≡ true)
tested_ok {A} test reason (Ok y) x e =
    elim (if_is (test y) (yes y) (Err reason) (Ok x) e) [
      | inl c ↦ let same = yes_is y x c.1 in (c.1, subst (λ (z : A). test z ≡ true) same c.0)
      | inr c ↦ absurd cc
    ]
tested_ok test reason (Err r) x e = absurd cc

pub checked-is : {A : Type 0} (test : A → Bool) (reason : AsmReason) (p : Operand A) → IsOperand p → IsOperand (operand_with_test test reason p)
checked-is test reason p lp = record {
  found = λ labels token x e. let t = tested_ok test reason (p.reads labels token) x e in let f = lp.found labels token x t.0 in (f.0, (f.1, t.1));
  again = λ labels token x is fit. rw (lp.again labels token x is fit.0) (ap (λ (b : Bool). cond b (yes x) (Err reason)) fit.1);
}

numeral_ok : (token : Token) (labels : List Label) (n : ℕ) → numeral token ≡ Ok n → IsToken labels token (Number n)
numeral_ok (Bare word) labels n e = elim (if_is (is_numeral word) (yes (number_of_digits word)) (Err reasons.Number) (Ok n) e) [ inl c ↦ (c.0, yes_is (number_of_digits word) n c.1) | inr c ↦ absurd cc ]
numeral_ok (Quoted bytes) labels n e = absurd cc

numeral_again : (token : Token) (labels : List Label) (n : ℕ) → IsToken labels token (Number n) → numeral token ≡ Ok n
numeral_again (Bare word) labels n is = let a = is.0 in rw a (ap (λ (m : ℕ). yes m) is.1)
numeral_again (Quoted bytes) labels n is = absurd is

pub any_number-is : IsOperand any_number
unfolding any_number
any_number-is = record { found = λ labels token n e. (numeral_ok token labels n e, tt); again = λ labels token n is fit. numeral_again token labels n is }

pub number_below-is : (bound : ℕ) → IsOperand (Rattle.abc_text_lines.specs.Operands.number_below bound)
number_below-is bound = checked-is (λ n. nat_lt n bound) reasons.Range any_number any_number-is

-- ---- signed numbers

negative_ok : (n : ℕ) (digits : List ℕ) (z : ℤ) → is_numeral digits ≡ true → number_of_digits digits ≡ n → negative n ≡ Ok z → IsSigned (0x2d ∷ digits) z
negative_ok zero digits z yes_ is e = absurd cc
negative_ok (suc n) digits z yes_ is e = let same : negsuc n ≡ z = cc in subst (λ (y : ℤ). IsSigned (0x2d ∷ digits) y) same (digits, refl, yes_, is)

signed_ok : (word : List ℕ) (z : ℤ) → signed_of word ≡ Ok z → IsSigned word z
signed_ok [] z e = absurd cc
signed_ok (byte ∷ digits) z e =
    elim (if_is (nat_eq byte 0x2d) (cond (is_numeral digits) (negative (number_of_digits digits)) (Err reasons.Number)) (cond (is_numeral (byte ∷ digits)) (Ok (pos (number_of_digits (byte ∷ digits)))) (Err reasons.Number)) (Ok z) e) [
      | inl c ↦ elim (if_is (is_numeral digits) (negative (number_of_digits digits)) (Err reasons.Number) (Ok z) c.1) [
        | inl d ↦ subst (λ (b : ℕ). IsSigned (b ∷ digits) z) (sym (eq_is byte 0x2d c.0)) (negative_ok (number_of_digits digits) digits z d.0 refl d.1)
        | inr d ↦ absurd cc
      ]
      | inr c ↦ elim (if_is (is_numeral (byte ∷ digits)) (Ok (pos (number_of_digits (byte ∷ digits)))) (Err reasons.Number) (Ok z) c.1) [
        | inl d ↦ let same : pos (number_of_digits (byte ∷ digits)) ≡ z = yes_is (pos (number_of_digits (byte ∷ digits))) z d.1 in subst (λ (y : ℤ). IsSigned (byte ∷ digits) y) same (d.0, refl)
        | inr d ↦ absurd cc
      ]
    ]

-- `-` is no digit
no_minus : (digits : List ℕ) → is_numeral (0x2d ∷ digits) ≡ true → ⊥
no_minus digits e = let no : false ≡ true = e in cc

signed_again : (word : List ℕ) (z : ℤ) → IsSigned word z → signed_of word ≡ Ok z
signed_again [] (pos n) is = absurd (let no : false ≡ true = is.0 in cc)
signed_again (byte ∷ digits) (pos n) is =
    elim (split_bool (nat_eq byte 0x2d)) [
      | inl c ↦ absurd (no_minus digits (ap (λ (b : ℕ). is_numeral (b ∷ digits)) (sym (eq_is byte 0x2d c)) ∙ is.0))
      | inr c ↦ let a = is.0 in rw (c, a) (ap (λ (m : ℕ). yes (pos m)) is.1)
    ]
signed_again word (negsuc n) is =
    let a = is.2 in
    ap (λ (w : List ℕ). signed_of w) is.1 ∙ ap (λ (b : Bool). cond b (negative (number_of_digits is.0)) (Err reasons.Number)) a ∙ ap (λ (m : ℕ). negative m) is.3

signed_token_ok : (token : Token) (labels : List Label) (z : ℤ) → signed_token token ≡ Ok z → IsToken labels token (Signed z)
signed_token_ok (Bare word) labels z e = signed_ok word z e
signed_token_ok (Quoted bytes) labels z e = absurd cc

signed_token_again : (token : Token) (labels : List Label) (z : ℤ) → IsToken labels token (Signed z) → signed_token token ≡ Ok z
signed_token_again (Bare word) labels z is = signed_again word z is
signed_token_again (Quoted bytes) labels z is = absurd is

pub any_signed-is : IsOperand any_signed
unfolding any_signed
any_signed-is = record { found = λ labels token z e. (signed_token_ok token labels z e, tt); again = λ labels token z is fit. signed_token_again token labels z is }

-- ---- texts and doubles

text_ok : (labels : List Label) (token : Token) (x : List ℕ) → text_of_token token ≡ Ok x → IsToken labels token (Text x)
text_ok labels (Bare word) x e = absurd cc
text_ok labels (Quoted bytes) x e = yes_is bytes x e

text_again : (labels : List Label) (token : Token) (x : List ℕ) → IsToken labels token (Text x) → text_of_token token ≡ Ok x
text_again labels (Bare word) x is = absurd is
text_again labels (Quoted bytes) x is = ap (λ (b : List ℕ). yes b) is

pub text-is : IsOperand text_operand
unfolding text_operand
text-is = record { found = λ labels token x e. (text_ok labels token x e, tt); again = λ labels token x is fit. text_again labels token x is }

abbrev some : {A : Type 0} → A → Option A
some x = Some x

some_is : {A : Type 0} (x y : A) → some x ≡ some y → x ≡ y
some_is x y e = cc

more_hex_ok : (byte : ℕ) (o : Option (List ℕ)) (bytes : List ℕ) → more_hex byte o ≡ Some bytes → (rest : List ℕ) × (o ≡ Some rest) × (byte ∷ rest ≡ bytes)
more_hex_ok byte None bytes e = absurd cc
more_hex_ok byte (Some rest) bytes e = (rest, refl, some_is (byte ∷ rest) bytes e)

pub hex_ok : (word bytes : List ℕ) → hex_bytes word ≡ Some bytes → AreHex word bytes
hex_ok [] bytes e = subst (λ (l : List ℕ). AreHex [] l) (some_is [] bytes e) refl
hex_ok (high ∷ []) bytes e = absurd cc
hex_ok (high ∷ low ∷ rest) bytes e =
    elim (if_is (is_hex high && is_hex low) (more_hex (hex_pair high low) (hex_bytes rest)) None (Some bytes) e) [
      | inr c ↦ absurd cc
      | inl c ↦
          let m = more_hex_ok (hex_pair high low) (hex_bytes rest) bytes c.1 in
          let two = and_true (is_hex high) (is_hex low) c.0 in
          subst (λ (l : List ℕ). AreHex (high ∷ low ∷ rest) l) m.2 (high, low, rest, refl, two.0, two.1, refl, hex_ok rest m.0 m.1)
    ]

pub hex_again : (bytes word : List ℕ) → AreHex word bytes → hex_bytes word ≡ Some bytes
hex_again [] word is = ap hex_bytes is
hex_again (byte ∷ bytes) word is =
    let h = is.4 in
    let l = is.5 in
    let more = hex_again bytes is.2 is.7 in
    ap hex_bytes is.3 ∙ (let cut : hex_bytes (is.0 ∷ is.1 ∷ is.2) ≡ Some (hex_pair is.0 is.1 ∷ bytes) = rw (h, l, more) refl in cut) ∙ ap (λ (b : ℕ). some (b ∷ bytes)) (sym is.6)

eight_in_ok : (o : Option (List ℕ)) (bytes : List ℕ) → eight_in o ≡ Ok bytes → (o ≡ Some bytes) × (nat_eq (length bytes) 8 ≡ true)
eight_in_ok None bytes e = absurd cc
eight_in_ok (Some other) bytes e =
    elim (if_is (nat_eq (length other) 8) (yes other) (Err reasons.Kind) (Ok bytes) e) [
      | inl c ↦ let same = yes_is other bytes c.1 in (ap (λ (l : List ℕ). some l) same, subst (λ (l : List ℕ). nat_eq (length l) 8 ≡ true) same c.0)
      | inr c ↦ absurd cc
    ]

eight_ok : (labels : List Label) (token : Token) (x : List ℕ) → eight_of token ≡ Ok x → IsToken labels token (Eight x) × (nat_eq (length x) 8 ≡ true)
eight_ok labels (Bare word) x e = let h = eight_in_ok (hex_bytes word) x e in (hex_ok word x h.0, h.1)
eight_ok labels (Quoted bytes) x e = absurd cc

eight_again : (labels : List Label) (token : Token) (x : List ℕ) → IsToken labels token (Eight x) → nat_eq (length x) 8 ≡ true → eight_of token ≡ Ok x
eight_again labels (Bare word) x is fit = ap eight_in (hex_again x word is) ∙ ap (λ (b : Bool). cond b (yes x) (Err reasons.Kind)) fit
eight_again labels (Quoted bytes) x is fit = absurd is

pub eight-is : IsOperand eight
unfolding eight
eight-is = record { found = eight_ok; again = eight_again }

-- ---- labels and kinds

place_ok : (o : Option ℕ) (n : ℕ) → found_place o ≡ Ok n → o ≡ Some n
place_ok (Some m) n e = ap (λ (k : ℕ). some k) (yes_is m n e)
place_ok None n e = absurd cc

target_ok : (labels : List Label) (token : Token) (n : ℕ) → target_operand labels token ≡ Ok n → IsToken labels token (Target n)
target_ok labels (Bare word) n e = elim (if_is (is_name word) (found_place (place_of_label labels word)) (Err reasons.Kind) (Ok n) e) [ inl c ↦ (c.0, place_ok (place_of_label labels word) n c.1) | inr c ↦ absurd cc ]
target_ok labels (Quoted bytes) n e = absurd cc

target_again : (labels : List Label) (token : Token) (n : ℕ) → IsToken labels token (Target n) → target_operand labels token ≡ Ok n
target_again labels (Bare word) n is = let a = is.0 in let b = is.1 in rw (a, b) refl
target_again labels (Quoted bytes) n is = absurd is

pub target-is : IsOperand target
unfolding target
target-is = record { found = λ labels token n e. (target_ok labels token n e, tt); again = λ labels token n is fit. target_again labels token n is }

kind_found : {K : Type 0} (o : Option K) (k : K) → found_kind o ≡ Ok k → o ≡ Some k
kind_found {K} (Some j) k e = ap (λ (l : K). some l) (yes_is j k e)
kind_found None k e = absurd cc

module _ {K : Type 0} (name : K → List ℕ) (named : List ℕ → Option K) (default : K) (there : (word : List ℕ) (k : K) → named word ≡ Some k → word ≡ name k) (back : (k : K) → named (name k) ≡ Some k) where
  kind_ok : (labels : List Label) (token : Token) (k : K) → kind_operand named token ≡ Ok k → IsToken labels token (Kind (name k))
  kind_ok labels (Bare word) k e = there word k (kind_found (named word) k e)
  kind_ok labels (Quoted bytes) k e = absurd cc

  kind_again : (labels : List Label) (token : Token) (k : K) → IsToken labels token (Kind (name k)) → kind_operand named token ≡ Ok k
  kind_again labels (Bare word) k is = ap (λ (w : List ℕ). found_kind (named w)) is ∙ ap (λ (o : Option K). found_kind o) (back k)
  kind_again labels (Quoted bytes) k is = absurd is

  pub kind-is : IsOperand (kind name named default)
  kind-is = record { found = λ labels token k e. (kind_ok labels token k e, tt); again = λ labels token k is fit. kind_again labels token k is }

-- ---- operands of a line

none_again : (labels : List Label) (tokens : List Token) → AreTokens labels tokens [] → none.counts labels tokens ≡ true
none_again labels [] is = refl
none_again labels (token ∷ tokens) is = absurd is

none_found : (labels : List Label) (tokens : List Token) → none.counts labels tokens ≡ true → AreTokens labels tokens []
none_found labels [] e = tt
none_found labels (token ∷ tokens) e = absurd cc

pub none-are : AreOperands none
none-are = record { found = λ labels tokens e n. (none_found labels tokens e, tt); again = λ labels tokens x is fit. (none_again labels tokens is, refl, refl) }

-- no fault of a first operand and none of the others
no_reasons : {A : Type 0} (r : Result A AsmReason) (d : A) (others : List AsmReason) → reasons_in r ++ others ≡ [] → (r ≡ Ok (value_or r d)) × (others ≡ [])
no_reasons (Ok x) d others e = (refl, e)
no_reasons (Err s) d others e = absurd cc

module _ {A B : Type 0} (p : Operand A) (rest : Option A → Operands B) (lp : IsOperand p) (lr : (x : A) → AreOperands (rest (Some x))) where
  -- what the operands are where the first has a value
  by_found_at : (labels : List Label) (token : Token) (tokens : List Token) (r : Result A AsmReason) → p.reads labels token ≡ r → (rest (value_if_any r)).counts labels tokens ≡ true → reasons_in r ++ (rest (value_if_any r)).faults labels tokens ≡ [] → AreTokens labels (token ∷ tokens) ((by p rest).items (value_or r p.default, (rest (value_if_any r)).value labels tokens)) × (by p rest).fits (value_or r p.default, (rest (value_if_any r)).value labels tokens)
  by_found_at labels token tokens (Ok x) e counts none_ =
      let one = lp.found labels token x e in
      let two = (lr x).found labels tokens counts none_ in
      ((one.0, two.0), (one.1, two.1))
  by_found_at labels token tokens (Err r) e counts none_ = absurd cc

  by_found : (labels : List Label) (tokens : List Token) → by_counts p rest labels tokens ≡ true → by_faults p rest labels tokens ≡ [] → AreTokens labels tokens ((by p rest).items (by_value p rest labels tokens)) × (by p rest).fits (by_value p rest labels tokens)
  by_found labels [] counts none_ = absurd cc
  by_found labels (token ∷ tokens) counts none_ = by_found_at labels token tokens (p.reads labels token) refl counts none_

  by_again : (labels : List Label) (tokens : List Token) (x : A × B) → AreTokens labels tokens ((by p rest).items x) → (by p rest).fits x → (by_counts p rest labels tokens ≡ true) × (by_faults p rest labels tokens ≡ []) × (by_value p rest labels tokens ≡ x)
  by_again labels [] x is fit = absurd is
  by_again labels (token ∷ tokens) x is fit =
      let one = lp.again labels token x.0 is.0 fit.0 in
      let two = (lr x.0).again labels tokens x.1 is.1 fit.1 in (
        ap (λ (r : Result A AsmReason). (rest (value_if_any r)).counts labels tokens) one ∙ two.0,
        ap (λ (r : Result A AsmReason). reasons_in r ++ (rest (value_if_any r)).faults labels tokens) one ∙ two.1,
        ap (λ (r : Result A AsmReason). (value_or r p.default, (rest (value_if_any r)).value labels tokens)) one ∙ ap (λ (b : B). (x.0, b)) two.2,
      )

  pub by-are : AreOperands (by p rest)
  by-are = record { found = by_found; again = by_again }

pub then-are : {A B : Type 0} (p : Operand A) (rest : Operands B) → IsOperand p → AreOperands rest → AreOperands (by p (λ known. rest))
then-are p rest lp lr = by-are p (λ known. rest) lp (λ x. lr)

module _ {A : Type 0} (p : Operand A) (lp : IsOperand p) where
  several_found : (labels : List Label) (tokens : List Token) → several_faults p labels tokens ≡ [] → AreTokens labels tokens (several_items p (several_value p labels tokens)) × EachFits p (several_value p labels tokens)
  several_found labels [] e = (tt, tt)
  several_found labels (token ∷ tokens) e =
      let n = no_reasons (p.reads labels token) p.default (several_faults p labels tokens) e in
      let one = lp.found labels token (value_or (p.reads labels token) p.default) n.0 in
      let two = several_found labels tokens n.1 in
      ((one.0, two.0), (one.1, two.1))

  several_again : (labels : List Label) (tokens : List Token) (xs : List A) → AreTokens labels tokens (several_items p xs) → EachFits p xs → (several_faults p labels tokens ≡ []) × (several_value p labels tokens ≡ xs)
  several_again labels [] [] is fit = (refl, refl)
  several_again labels [] (x ∷ xs) is fit = absurd is
  several_again labels (token ∷ tokens) [] is fit = absurd is
  several_again labels (token ∷ tokens) (x ∷ xs) is fit =
      let one = lp.again labels token x is.0 fit.0 in
      let two = several_again labels tokens xs is.1 fit.1 in (
        ap (λ (r : Result A AsmReason). reasons_in r ++ several_faults p labels tokens) one ∙ two.0,
        ap (λ (r : Result A AsmReason). value_or r p.default ∷ several_value p labels tokens) one ∙ ap (λ (b : List A). x ∷ b) two.1,
      )

  pub several-are : AreOperands (several p)
  several-are = record { found = λ labels tokens counts e. several_found labels tokens e; again = λ labels tokens xs is fit. let h = several_again labels tokens xs is fit in (refl, h.0, h.1) }

pub seen-are : {A B : Type 0} (f : A → B) (g : B → A) (p : Operands A) → ((x : A) → p.fits x → g (f x) ≡ x) → AreOperands p → AreOperands (map_operands f g p)
seen-are {A} {B} f g p back lp = record {
  found = λ labels tokens counts e.
      let h = lp.found labels tokens counts e in
      let same = back (p.value labels tokens) h.1 in
      (subst (λ (x : A). AreTokens labels tokens (p.items x)) (sym same) h.0, (subst (λ (x : A). p.fits x) (sym same) h.1, ap f same));
  again = λ labels tokens y is fit. let h = lp.again labels tokens (g y) is fit.0 in (h.0, h.1, ap f h.2 ∙ fit.1);
}

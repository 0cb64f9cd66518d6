-- What is written is read.
use Rattle.std.proofs.Common.{◌≡◌, ℕ, ◌+◌, ◌/◌, ◌%◌, ◌<◌, inl, inr, true, false, not, ◌&&◌, nat_eq, nat_le, nat_lt, List, [], ◌∷◌, ◌++◌, refl, sym, ap, subst, append_assoc, arith}
use Rattle.std.specs.List.{AllByRecursion}
use Rattle.std.proofs.lemmas.Bool.{cases_lt}
use Rattle.std.proofs.lemmas.Bool.Decides.{nat_tests}
use Rattle.abc_base.specs.Escapes.{escape_of, with_escapes, hex_digit, is_plain_byte}
use Rattle.abc_text_lines.specs.Tokens.{Token, Bare, Quoted, EndsRun, HasTokens, IsQuoted, backslash, hex_value, is_hex, quote, semicolon}
use Rattle.abc_text_lines.specs.Writing.{AreWritable, IsComment, IsWritable, spaced_tokens, token_bytes, written_line}
use Rattle.abc_text_lines.proofs.Bools.{and_true, not_true, split_bool}
use Rattle.abc_text_lines.proofs.Readings.{quoted_append}

hex_is : (n : ℕ) → n < 16 → (is_hex (hex_digit n) ≡ true) × (hex_value (hex_digit n) ≡ n)
hex_is n lt =
    elim (cases_lt n 10) [
      | inl low ↦
          let a : nat_lt n 10 ≡ true = grind (arith, nat_tests) in
          let b : nat_le 48 (48 + n) ≡ true = grind (arith, nat_tests) in
          let c : nat_le (48 + n) 57 ≡ true = grind (arith, nat_tests) in
          rw (a, b, c) (refl, omega arith)
      | inr high ↦
          let a : nat_lt n 10 ≡ false = grind (arith, nat_tests) in
          let b : nat_le (87 + n) 57 ≡ false = grind (arith, nat_tests) in
          let c : nat_le 97 (87 + n) ≡ true = grind (arith, nat_tests) in
          let d : nat_le (87 + n) 102 ≡ true = grind (arith, nat_tests) in
          let e : nat_le (87 + n) 70 ≡ false = grind (arith, nat_tests) in
          let f : nat_le 48 (87 + n) ≡ true = grind (arith, nat_tests) in
          rw (a, f, b, c, d, e) (refl, omega arith)
    ]

plain_is : (b : ℕ) → is_plain_byte b ≡ true → IsQuoted (b ∷ []) (b ∷ [])
plain_is b e =
    let all = and_true (nat_le 0x20 b && nat_le b 0x7e && not (nat_eq b 0x22)) (not (nat_eq b 0x5c)) e in
    let two = and_true (nat_le 0x20 b && nat_le b 0x7e) (not (nat_eq b 0x22)) all.0 in
    inl ([], refl, not_true (nat_eq b 0x22) two.1, not_true (nat_eq b 0x5c) all.1, refl)

escape_is : (b : ℕ) → b < 256 → IsQuoted (backslash ∷ hex_digit (b / 16) ∷ hex_digit (b % 16) ∷ []) (b ∷ [])
escape_is b lt =
    let h = hex_is (b / 16) (omega arith) in
    let l = hex_is (b % 16) (omega arith) in
    inr (hex_digit (b / 16), hex_digit (b % 16), [], refl, h.0, l.0, omega (arith, h.1, l.1), refl)

byte_is : (b : ℕ) → b < 256 → IsQuoted (escape_of b) (b ∷ [])
byte_is b lt = elim (split_bool (is_plain_byte b)) [ inl e ↦ rw e (plain_is b e) | inr e ↦ rw e (escape_is b lt) ]

pub escaped_is : (text : List ℕ) → AllByRecursion (λ b. b < 256) text → IsQuoted (with_escapes text) text
unfolding with_escapes
escaped_is [] all = refl
escaped_is (b ∷ text) all = quoted_append (escape_of b) (b ∷ []) (with_escapes text) text (byte_is b all.0) (escaped_is text all.1)

-- ---- a line

no_word : (b : ℕ) (bytes : List ℕ) → ¬ (b ∷ bytes ≡ [])
no_word b bytes e = cc

token_has : (token : Token) (rest : List ℕ) (tokens : List Token) → IsWritable token → EndsRun rest → HasTokens false rest tokens → HasTokens false (token_bytes token ++ rest) (token ∷ tokens)
token_has (Bare []) rest tokens is ends has = absurd is
token_has (Bare (b ∷ bytes)) rest tokens is ends has = ([], rest, refl, tt, record { some = no_word b bytes; bytes = is; longest = ends }, has)
token_has (Quoted text) rest tokens is ends has = ([], with_escapes text, rest, ap (λ (l : List ℕ). quote ∷ l) (append_assoc (with_escapes text) (quote ∷ []) rest), tt, escaped_is text is, has)

comment_has : (comment : List ℕ) → IsComment comment → HasTokens false comment [] × EndsRun comment
comment_has comment is =
    elim is [
      | inl e ↦ subst (λ (l : List ℕ). HasTokens false l [] × EndsRun l) (sym e) (([], [], refl, tt, inl refl), tt)
      | inr t ↦ subst (λ (l : List ℕ). HasTokens false l [] × EndsRun l) (sym t.1) ((0x20 ∷ [], semicolon ∷ t.0, refl, (refl, tt), inr (t.0, refl)), refl)
    ]

blank_first : (bytes : List ℕ) (tokens : List Token) → HasTokens false bytes tokens → HasTokens false (0x20 ∷ bytes) tokens
blank_first bytes [] has = (0x20 ∷ has.0, has.1, ap (λ (l : List ℕ). 0x20 ∷ l) has.2, (refl, has.3), has.4)
blank_first bytes (Bare word ∷ tokens) has = (0x20 ∷ has.0, has.1, ap (λ (l : List ℕ). 0x20 ∷ l) has.2, (refl, has.3), has.4, has.5)
blank_first bytes (Quoted text ∷ tokens) has = (0x20 ∷ has.0, has.1, has.2, ap (λ (l : List ℕ). 0x20 ∷ l) has.3, (refl, has.4), has.5, has.6)

spaced_has : (tokens : List Token) (comment : List ℕ) → AreWritable tokens → IsComment comment → HasTokens false (spaced_tokens tokens ++ comment) tokens × EndsRun (spaced_tokens tokens ++ comment)
spaced_has [] comment are is = comment_has comment is
spaced_has (token ∷ tokens) comment are is =
    let more = spaced_has tokens comment are.1 is in
    let here = token_has token (spaced_tokens tokens ++ comment) tokens are.0 more.1 more.0 in
    (subst (λ (l : List ℕ). HasTokens false (0x20 ∷ l) (token ∷ tokens)) (sym (append_assoc (token_bytes token) (spaced_tokens tokens) comment)) (blank_first (token_bytes token ++ (spaced_tokens tokens ++ comment)) (token ∷ tokens) here), refl)

pub line_has : (tokens : List Token) (comment : List ℕ) → AreWritable tokens → IsComment comment → HasTokens false (written_line tokens ++ comment) tokens
line_has [] comment are is = (comment_has comment is).0
line_has (token ∷ tokens) comment are is =
    let more = spaced_has tokens comment are.1 is in
    subst (λ (l : List ℕ). HasTokens false l (token ∷ tokens)) (sym (append_assoc (token_bytes token) (spaced_tokens tokens) comment)) (token_has token (spaced_tokens tokens ++ comment) tokens are.0 more.1 more.0)

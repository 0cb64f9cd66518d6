-- What going over a line finds are its tokens.
use Rattle.std.proofs.Common.{◌≡◌, ℕ, inl, inr, Bool, true, false, nat_eq, List, [], ◌∷◌, ◌++◌, refl, sym, ap, subst, ◌∙◌, append_assoc, append-nil}
use Rattle.std.specs.List.{AllByRecursion}
use Rattle.abc_text_lines.specs.Tokens.{Token, Bare, Quoted, EndsRun, HasTokens, IsQuoted, backslash, hex_pair, is_blank, is_hex, is_run_byte, quote, semicolon}
use Rattle.abc_text_lines.specs.Scanning.{Between, Escape, EscapeLow, InQuote, InRun, Scan, Within, also, scan, scan_of}
use Rattle.abc_text_lines.proofs.Bools.{split_bool}
use Rattle.abc_text_lines.proofs.Scans.{eq_is, not_closed, quote_goes_on}

-- the line that was gone over has these tokens
abbrev Reads : Scan → List ℕ → Type 0
Reads s bytes = HasTokens s.broken bytes s.tokens

blank_more : (tokens : List Token) (broken : Bool) (b : ℕ) (bytes : List ℕ) → is_blank b ≡ true → HasTokens broken bytes tokens → HasTokens broken (b ∷ bytes) tokens
blank_more [] broken b bytes is has = (b ∷ has.0, has.1, ap (λ (l : List ℕ). b ∷ l) has.2, (is, has.3), has.4)
blank_more (Bare word ∷ tokens) broken b bytes is has = (b ∷ has.0, has.1, ap (λ (l : List ℕ). b ∷ l) has.2, (is, has.3), has.4, has.5)
blank_more (Quoted text ∷ tokens) broken b bytes is has = (b ∷ has.0, has.1, has.2, ap (λ (l : List ℕ). b ∷ l) has.3, (is, has.4), has.5, has.6)

-- the bytes of the token that is gone over
abbrev Inside : Within → List ℕ → Type 0
Inside Between done = done ≡ []
Inside (InRun word) done = (done ≡ word) × ¬ (word ≡ []) × AllByRecursion (λ byte. is_run_byte byte ≡ true) word
Inside (InQuote text) done = (inner : List ℕ) × (done ≡ quote ∷ inner) × IsQuoted inner text
Inside (Escape text) done = (inner : List ℕ) × (done ≡ quote ∷ (inner ++ backslash ∷ [])) × IsQuoted inner text
Inside (EscapeLow text high) done = (inner : List ℕ) × (done ≡ quote ∷ (inner ++ backslash ∷ high ∷ [])) × IsQuoted inner text × (is_hex high ≡ true)

pub quoted_append : (a s b t : List ℕ) → IsQuoted a s → IsQuoted b t → IsQuoted (a ++ b) (s ++ t)
quoted_append a [] b t p q = subst (λ (l : List ℕ). IsQuoted (l ++ b) t) (sym p) q
quoted_append a (byte ∷ s) b t p q =
    elim p [
      | inl h ↦ inl (h.0 ++ b, ap (λ (l : List ℕ). l ++ b) h.1, h.2, h.3, quoted_append h.0 s b t h.4 q)
      | inr h ↦ inr (h.0, h.1, h.2 ++ b, ap (λ (l : List ℕ). l ++ b) h.3, h.4, h.5, h.6, quoted_append h.2 s b t h.7 q)
    ]

run_append : (word : List ℕ) (b : ℕ) → AllByRecursion (λ byte. is_run_byte byte ≡ true) word → is_run_byte b ≡ true → AllByRecursion (λ byte. is_run_byte byte ≡ true) (word ++ b ∷ [])
run_append [] b all is = (is, tt)
run_append (c ∷ word) b all is = (all.0, run_append word b all.1 is)

some_append : (word : List ℕ) (b : ℕ) → ¬ (word ++ b ∷ [] ≡ [])
some_append [] b e = cc
some_append (c ∷ word) b e = cc

broken_line : (inner text more : List ℕ) → IsQuoted inner text → scan more (InQuote text) ≡ scan_of true [] → HasTokens true (quote ∷ (inner ++ more)) []
broken_line inner text more is e = ([], quote ∷ (inner ++ more), refl, tt, (inner ++ more, refl, not_closed (inner ++ more) (quote_goes_on inner text more [] is ∙ e)))

quoted_line : (s : Scan) (inner text rest : List ℕ) → IsQuoted inner text → Reads s rest → Reads (also (Quoted text) s) (quote ∷ (inner ++ quote ∷ rest))
quoted_line s inner text rest is has = ([], inner, rest, refl, tt, is, has)

run_line : (s : Scan) (word rest : List ℕ) → ¬ (word ≡ []) → AllByRecursion (λ byte. is_run_byte byte ≡ true) word → EndsRun rest → Reads s rest → Reads (also (Bare word) s) (word ++ rest)
run_line s word rest some all ends has = ([], rest, refl, tt, record { some = some; bytes = all; longest = ends }, has)

-- at another line of the same bytes
moved : (s : Scan) (a b : List ℕ) → a ≡ b → Reads s a → Reads s b
moved s a b e has = subst (λ (l : List ℕ). Reads s l) e has

comment_line : (b : ℕ) (bytes : List ℕ) → nat_eq b semicolon ≡ true → Reads (scan_of false []) (b ∷ bytes)
comment_line b bytes e = ([], b ∷ bytes, refl, tt, inr (bytes, ap (λ (n : ℕ). n ∷ bytes) (eq_is b semicolon e)))

regrouped : (a b : List ℕ) (x : ℕ) (c : List ℕ) → (a ++ x ∷ b) ++ c ≡ a ++ x ∷ (b ++ c)
regrouped a b x c = append_assoc a (x ∷ b) c

reading_run : (b : ℕ) (bytes word : List ℕ) → ((w : Within) (done : List ℕ) → Inside w done → Reads (scan bytes w) (done ++ bytes)) → ¬ (word ≡ []) → AllByRecursion (λ byte. is_run_byte byte ≡ true) word → Reads (scan (b ∷ bytes) (InRun word)) (word ++ b ∷ bytes)
unfolding scan
reading_run b bytes word more some all =
    elim (split_bool (is_blank b)) [
      | inl x ↦ rw x (run_line (scan bytes Between) word (b ∷ bytes) some all (rw x refl) (blank_more (scan bytes Between).tokens (scan bytes Between).broken b bytes x (more Between [] refl)))
      | inr x ↦ elim (split_bool (nat_eq b semicolon)) [
        | inl y ↦ rw (x, y) (run_line (scan_of false []) word (b ∷ bytes) some all (rw (x, y) refl) (comment_line b bytes y))
        | inr y ↦ elim (split_bool (nat_eq b quote)) [
          | inl z ↦
              let same : quote ≡ b = sym (eq_is b quote z) in
              rw (x, y, z) (run_line (scan bytes (InQuote [])) word (b ∷ bytes) some all (rw (x, y, z) refl) (moved (scan bytes (InQuote [])) (quote ∷ bytes) (b ∷ bytes) (ap (λ (n : ℕ). n ∷ bytes) same) (more (InQuote []) (quote ∷ []) ([], refl, refl))))
          | inr z ↦
              let is : is_run_byte b ≡ true = rw (x, y, z) refl in
              rw (x, y, z) (moved (scan bytes (InRun (word ++ b ∷ []))) ((word ++ b ∷ []) ++ bytes) (word ++ b ∷ bytes) (append_assoc word (b ∷ []) bytes) (more (InRun (word ++ b ∷ [])) (word ++ b ∷ []) (refl, some_append word b, run_append word b all is)))
        ]
      ]
    ]

reading_between : (b : ℕ) (bytes : List ℕ) → ((w : Within) (done : List ℕ) → Inside w done → Reads (scan bytes w) (done ++ bytes)) → Reads (scan (b ∷ bytes) Between) (b ∷ bytes)
unfolding scan
reading_between b bytes more =
    elim (split_bool (is_blank b)) [
      | inl x ↦ rw x (blank_more (scan bytes Between).tokens (scan bytes Between).broken b bytes x (more Between [] refl))
      | inr x ↦ elim (split_bool (nat_eq b semicolon)) [
        | inl y ↦ rw (x, y) (comment_line b bytes y)
        | inr y ↦ elim (split_bool (nat_eq b quote)) [
          | inl z ↦
              let same : quote ≡ b = sym (eq_is b quote z) in
              rw (x, y, z) (moved (scan bytes (InQuote [])) (quote ∷ bytes) (b ∷ bytes) (ap (λ (n : ℕ). n ∷ bytes) same) (more (InQuote []) (quote ∷ []) ([], refl, refl)))
          | inr z ↦
              let is : is_run_byte b ≡ true = rw (x, y, z) refl in
              rw (x, y, z) (more (InRun (b ∷ [])) (b ∷ []) (refl, some_append [] b, (is, tt)))
        ]
      ]
    ]

reading_quote : (b : ℕ) (bytes inner text : List ℕ) → IsQuoted inner text → ((w : Within) (done : List ℕ) → Inside w done → Reads (scan bytes w) (done ++ bytes)) → Reads (scan (b ∷ bytes) (InQuote text)) (quote ∷ (inner ++ b ∷ bytes))
unfolding scan
reading_quote b bytes inner text is more =
    elim (split_bool (nat_eq b quote)) [
      | inl x ↦
          let same : quote ≡ b = sym (eq_is b quote x) in
          rw x (moved (also (Quoted text) (scan bytes Between)) (quote ∷ (inner ++ quote ∷ bytes)) (quote ∷ (inner ++ b ∷ bytes)) (ap (λ (n : ℕ). quote ∷ (inner ++ n ∷ bytes)) same) (quoted_line (scan bytes Between) inner text bytes is (more Between [] refl)))
      | inr x ↦ elim (split_bool (nat_eq b backslash)) [
        | inl y ↦
            let same : backslash ≡ b = sym (eq_is b backslash y) in
            rw (x, y) (moved (scan bytes (Escape text)) (quote ∷ ((inner ++ backslash ∷ []) ++ bytes)) (quote ∷ (inner ++ b ∷ bytes))
            (ap (λ (l : List ℕ). quote ∷ l) (append_assoc inner (backslash ∷ []) bytes ∙ ap (λ (n : ℕ). inner ++ n ∷ bytes) same))
            (more (Escape text) (quote ∷ (inner ++ backslash ∷ [])) (inner, refl, is)))
        | inr y ↦
            rw (x, y) (moved (scan bytes (InQuote (text ++ b ∷ []))) (quote ∷ ((inner ++ b ∷ []) ++ bytes)) (quote ∷ (inner ++ b ∷ bytes)) (ap (λ (l : List ℕ). quote ∷ l) (append_assoc inner (b ∷ []) bytes))
            (more (InQuote (text ++ b ∷ [])) (quote ∷ (inner ++ b ∷ [])) (inner ++ b ∷ [], refl, quoted_append inner text (b ∷ []) (b ∷ []) is (inl ([], refl, x, y, refl)))))
      ]
    ]

reading_escape : (b : ℕ) (bytes inner text : List ℕ) → IsQuoted inner text → ((w : Within) (done : List ℕ) → Inside w done → Reads (scan bytes w) (done ++ bytes)) → Reads (scan (b ∷ bytes) (Escape text)) (quote ∷ (inner ++ backslash ∷ b ∷ bytes))
unfolding scan
reading_escape b bytes inner text is more =
    elim (split_bool (is_hex b)) [
      | inl x ↦
          rw x (moved (scan bytes (EscapeLow text b)) (quote ∷ ((inner ++ backslash ∷ b ∷ []) ++ bytes)) (quote ∷ (inner ++ backslash ∷ b ∷ bytes)) (ap (λ (l : List ℕ). quote ∷ l) (append_assoc inner (backslash ∷ b ∷ []) bytes))
          (more (EscapeLow text b) (quote ∷ (inner ++ backslash ∷ b ∷ [])) (inner, refl, is, x)))
      | inr x ↦
          let none : scan (backslash ∷ b ∷ bytes) (InQuote text) ≡ scan_of true [] = rw x refl in
          rw x (broken_line inner text (backslash ∷ b ∷ bytes) is none)
    ]

reading_low : (b high : ℕ) (bytes inner text : List ℕ) → IsQuoted inner text → is_hex high ≡ true → ((w : Within) (done : List ℕ) → Inside w done → Reads (scan bytes w) (done ++ bytes)) → Reads (scan (b ∷ bytes) (EscapeLow text high)) (quote ∷ (inner ++ backslash ∷ high ∷ b ∷ bytes))
unfolding scan
reading_low b high bytes inner text is hex more =
    elim (split_bool (is_hex b)) [
      | inl x ↦
          let byte = hex_pair high b in
          rw x (moved (scan bytes (InQuote (text ++ byte ∷ []))) (quote ∷ ((inner ++ backslash ∷ high ∷ b ∷ []) ++ bytes)) (quote ∷ (inner ++ backslash ∷ high ∷ b ∷ bytes)) (ap (λ (l : List ℕ). quote ∷ l) (append_assoc inner (backslash ∷ high ∷ b ∷ []) bytes))
          (more (InQuote (text ++ byte ∷ [])) (quote ∷ (inner ++ backslash ∷ high ∷ b ∷ [])) (inner ++ backslash ∷ high ∷ b ∷ [], refl, quoted_append inner text (backslash ∷ high ∷ b ∷ []) (byte ∷ []) is (inr (high, b, [], refl, hex, x, refl, refl)))))
      | inr x ↦
          let none : scan (backslash ∷ high ∷ b ∷ bytes) (InQuote text) ≡ scan_of true [] = rw (hex, x) refl in
          rw x (broken_line inner text (backslash ∷ high ∷ b ∷ bytes) is none)
    ]

ended_run : (word : List ℕ) → ¬ (word ≡ []) → AllByRecursion (λ byte. is_run_byte byte ≡ true) word → Reads (scan [] (InRun word)) (word ++ [])
unfolding scan
ended_run word some all = run_line (scan_of false []) word [] some all tt ([], [], refl, tt, inl refl)

ended_quote : (inner text : List ℕ) → IsQuoted inner text → Reads (scan [] (InQuote text)) (quote ∷ (inner ++ []))
unfolding scan
ended_quote inner text is = broken_line inner text [] is refl

ended_escape : (inner text : List ℕ) → IsQuoted inner text → Reads (scan [] (Escape text)) (quote ∷ (inner ++ backslash ∷ []))
unfolding scan
ended_escape inner text is = broken_line inner text (backslash ∷ []) is refl

ended_low : (inner text : List ℕ) (high : ℕ) → IsQuoted inner text → is_hex high ≡ true → Reads (scan [] (EscapeLow text high)) (quote ∷ (inner ++ backslash ∷ high ∷ []))
unfolding scan
ended_low inner text high is hex = broken_line inner text (backslash ∷ high ∷ []) is (rw hex refl)

ended_between : Reads (scan [] Between) []
unfolding scan
ended_between = ([], [], refl, tt, inl refl)

-- where some bytes of a token, and the bytes after them, are a line
reading : (bytes : List ℕ) (w : Within) (done : List ℕ) → Inside w done → Reads (scan bytes w) (done ++ bytes)
reading [] Between done is = moved (scan [] Between) [] (done ++ []) (sym (append-nil done ∙ is)) ended_between
reading [] (InRun word) done is = moved (scan [] (InRun word)) (word ++ []) (done ++ []) (ap (λ (l : List ℕ). l ++ []) (sym is.0)) (ended_run word is.1 is.2)
reading [] (InQuote text) done is = moved (scan [] (InQuote text)) (quote ∷ (is.0 ++ [])) (done ++ []) (ap (λ (l : List ℕ). l ++ []) (sym is.1)) (ended_quote is.0 text is.2)
reading [] (Escape text) done is = moved (scan [] (Escape text)) (quote ∷ (is.0 ++ backslash ∷ [])) (done ++ []) (sym is.1 ∙ sym (append-nil done)) (ended_escape is.0 text is.2)
reading [] (EscapeLow text high) done is = moved (scan [] (EscapeLow text high)) (quote ∷ (is.0 ++ backslash ∷ high ∷ [])) (done ++ []) (sym is.1 ∙ sym (append-nil done)) (ended_low is.0 text high is.2 is.3)
reading (b ∷ bytes) Between done is = moved (scan (b ∷ bytes) Between) (b ∷ bytes) (done ++ b ∷ bytes) (ap (λ (l : List ℕ). l ++ b ∷ bytes) (sym is)) (reading_between b bytes (λ w d i. reading bytes w d i))
reading (b ∷ bytes) (InRun word) done is = moved (scan (b ∷ bytes) (InRun word)) (word ++ b ∷ bytes) (done ++ b ∷ bytes) (ap (λ (l : List ℕ). l ++ b ∷ bytes) (sym is.0)) (reading_run b bytes word (λ w d i. reading bytes w d i) is.1 is.2)
reading (b ∷ bytes) (InQuote text) done is = moved (scan (b ∷ bytes) (InQuote text)) (quote ∷ (is.0 ++ b ∷ bytes)) (done ++ b ∷ bytes) (ap (λ (l : List ℕ). l ++ b ∷ bytes) (sym is.1)) (reading_quote b bytes is.0 text is.2 (λ w d i. reading bytes w d i))
reading (b ∷ bytes) (Escape text) done is =
    moved (scan (b ∷ bytes) (Escape text)) (quote ∷ (is.0 ++ backslash ∷ b ∷ bytes)) (done ++ b ∷ bytes) (ap (λ (l : List ℕ). quote ∷ l) (sym (append_assoc is.0 (backslash ∷ []) (b ∷ bytes))) ∙ ap (λ (l : List ℕ). l ++ b ∷ bytes) (sym is.1)) (reading_escape b bytes is.0 text is.2 (λ w d i. reading bytes w d i))
reading (b ∷ bytes) (EscapeLow text high) done is =
    moved (scan (b ∷ bytes) (EscapeLow text high)) (quote ∷ (is.0 ++ backslash ∷ high ∷ b ∷ bytes)) (done ++ b ∷ bytes) (ap (λ (l : List ℕ). quote ∷ l) (sym (append_assoc is.0 (backslash ∷ high ∷ []) (b ∷ bytes))) ∙ ap (λ (l : List ℕ). l ++ b ∷ bytes) (sym is.1)) (reading_low b high bytes is.0 text is.2 is.3 (λ w d i. reading bytes w d i))

pub scanned_tokens : (bytes : List ℕ) (tokens : List Token) (broken : Bool) → scan bytes Between ≡ scan_of broken tokens → HasTokens broken bytes tokens
scanned_tokens bytes tokens broken e = subst (λ (s : Scan). Reads s bytes) e (reading bytes Between [] refl)

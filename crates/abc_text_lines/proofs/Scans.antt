-- The tokens of a line are found by going over it once.
use Rattle.std.proofs.Common.{◌≡◌, ℕ, ◌⊎◌, inl, inr, Bool, true, false, ◌&&◌, not, nat_eq, List, [], ◌∷◌, ◌++◌, refl, sym, ap, subst, ◌∙◌, append_assoc, append-nil, rules}
use Rattle.std.specs.List.{AllByRecursion}
use Rattle.abc_text_lines.specs.Tokens.{Token, Bare, Quoted, AreBlanks, EndsLine, EndsRun, HasTokens, IsQuoteClosed, IsQuoted, IsRun, backslash, hex_pair, is_blank, is_hex, is_run_byte, quote, semicolon}
use Rattle.abc_text_lines.specs.Scanning.{Between, InQuote, InRun, Scan, also, scan, scan_of}
use Rattle.abc_text_lines.proofs.Bools.{and_true, not_true, split_bool}

-- ---- runs

-- what a byte of a run is not
record RunByte (b : ℕ) : Type 0 where
  blank : is_blank b ≡ false
  comment : nat_eq b semicolon ≡ false
  quoted : nat_eq b quote ≡ false

run_byte : (b : ℕ) → is_run_byte b ≡ true → RunByte b
run_byte b e =
    let all = and_true (not (is_blank b) && not (nat_eq b semicolon)) (not (nat_eq b quote)) e in
    let two = and_true (not (is_blank b)) (not (nat_eq b semicolon)) all.0 in
    record { blank = not_true (is_blank b) two.0; comment = not_true (nat_eq b semicolon) two.1; quoted = not_true (nat_eq b quote) all.1 }

in_run : (b : ℕ) (rest word : List ℕ) → is_run_byte b ≡ true → scan (b ∷ rest) (InRun word) ≡ scan rest (InRun (word ++ b ∷ []))
unfolding scan
in_run b rest word e = let w = run_byte b e in let x = w.blank in let y = w.comment in let z = w.quoted in rw (x, y, z) refl

run_begins : (b : ℕ) (rest : List ℕ) → is_run_byte b ≡ true → scan (b ∷ rest) Between ≡ scan rest (InRun (b ∷ []))
unfolding scan
run_begins b rest e = let w = run_byte b e in let x = w.blank in let y = w.comment in let z = w.quoted in rw (x, y, z) refl

run_goes_on : (bytes rest word : List ℕ) → AllByRecursion (λ b. is_run_byte b ≡ true) bytes → scan (bytes ++ rest) (InRun word) ≡ scan rest (InRun (word ++ bytes))
run_goes_on [] rest word all = ap (λ (w : List ℕ). scan rest (InRun w)) (sym (append-nil word))
run_goes_on (b ∷ bytes) rest word all = in_run b (bytes ++ rest) word all.0 ∙ run_goes_on bytes rest (word ++ b ∷ []) all.1 ∙ ap (λ (w : List ℕ). scan rest (InRun w)) (append_assoc word (b ∷ []) bytes)

-- a byte that can't go on a run is one of three
other_byte : (b : ℕ) → is_run_byte b ≡ false → (is_blank b ≡ true) ⊎ (((is_blank b ≡ false) × (nat_eq b semicolon ≡ true)) ⊎ ((is_blank b ≡ false) × (nat_eq b semicolon ≡ false) × (nat_eq b quote ≡ true)))
other_byte b e =
    elim (split_bool (is_blank b)) [
      | inl x ↦ inl x
      | inr x ↦ elim (split_bool (nat_eq b semicolon)) [
        | inl y ↦ inr (inl (x, y))
        | inr y ↦ elim (split_bool (nat_eq b quote)) [
          | inl z ↦ inr (inr (x, y, z))
          | inr z ↦ let yes : is_run_byte b ≡ true = rw (x, y, z) refl in absurd cc
        ]
      ]
    ]

pub run_ends : (rest word : List ℕ) → EndsRun rest → scan rest (InRun word) ≡ also (Bare word) (scan rest Between)
unfolding scan
run_ends [] word ends = refl
run_ends (b ∷ rest) word ends =
    elim (other_byte b ends) [
      | inl x ↦ rw x refl
      | inr h ↦ elim h [
        | inl p ↦ let x = p.0 in let y = p.1 in rw (x, y) refl
        | inr p ↦ let x = p.0 in let y = p.1 in let z = p.2 in rw (x, y, z) refl
      ]
    ]

pub run_read : (word rest : List ℕ) → IsRun word rest → scan (word ++ rest) Between ≡ also (Bare word) (scan rest Between)
run_read [] rest is = absurd (is.some refl)
run_read (b ∷ bytes) rest is = let all = is.bytes in run_begins b (bytes ++ rest) all.0 ∙ run_goes_on bytes rest (b ∷ []) all.1 ∙ run_ends rest (b ∷ bytes) is.longest

-- ---- blanks

pub blank_read : (b : ℕ) (rest : List ℕ) → is_blank b ≡ true → scan (b ∷ rest) Between ≡ scan rest Between
unfolding scan
blank_read b rest e = rw e refl

pub blanks_read : (blanks rest : List ℕ) → AreBlanks blanks → scan (blanks ++ rest) Between ≡ scan rest Between
blanks_read [] rest all = refl
blanks_read (b ∷ blanks) rest all = blank_read b (blanks ++ rest) all.0 ∙ blanks_read blanks rest all.1

-- ---- quoted texts

plain_byte : (b : ℕ) (rest text : List ℕ) → nat_eq b quote ≡ false → nat_eq b backslash ≡ false → scan (b ∷ rest) (InQuote text) ≡ scan rest (InQuote (text ++ b ∷ []))
unfolding scan
plain_byte b rest text x y = rw (x, y) refl

escaped_byte : (high low : ℕ) (rest text : List ℕ) → is_hex high ≡ true → is_hex low ≡ true → scan (backslash ∷ high ∷ low ∷ rest) (InQuote text) ≡ scan rest (InQuote (text ++ hex_pair high low ∷ []))
unfolding scan
escaped_byte high low rest text x y = rw (x, y) refl

pub quote_begins : (rest : List ℕ) → scan (quote ∷ rest) Between ≡ scan rest (InQuote [])
unfolding scan
quote_begins rest = refl

pub quote_ends : (rest text : List ℕ) → scan (quote ∷ rest) (InQuote text) ≡ also (Quoted text) (scan rest Between)
unfolding scan
quote_ends rest text = refl

pub quote_goes_on : (inner text rest front : List ℕ) → IsQuoted inner text → scan (inner ++ rest) (InQuote front) ≡ scan rest (InQuote (front ++ text))
quote_goes_on inner [] rest front is = ap (λ (l : List ℕ). scan (l ++ rest) (InQuote front)) is ∙ ap (λ (w : List ℕ). scan rest (InQuote w)) (sym (append-nil front))
quote_goes_on inner (byte ∷ text) rest front is =
    elim is [
      | inl p ↦
          ap (λ (l : List ℕ). scan (l ++ rest) (InQuote front)) p.1
          ∙ plain_byte byte (p.0 ++ rest) front p.2 p.3
          ∙ quote_goes_on p.0 text rest (front ++ byte ∷ []) p.4
          ∙ ap (λ (w : List ℕ). scan rest (InQuote w)) (append_assoc front (byte ∷ []) text)
      | inr p ↦
          ap (λ (l : List ℕ). scan (l ++ rest) (InQuote front)) p.3
          ∙ escaped_byte p.0 p.1 (p.2 ++ rest) front p.4 p.5
          ∙ quote_goes_on p.2 text rest (front ++ hex_pair p.0 p.1 ∷ []) p.7
          ∙ ap (λ (w : List ℕ). scan rest (InQuote w)) (append_assoc front (hex_pair p.0 p.1 ∷ []) text ∙ ap (λ (b : ℕ). front ++ b ∷ text) (sym p.6))
    ]

pub quoted_read : (inner text rest : List ℕ) → IsQuoted inner text → scan (quote ∷ (inner ++ quote ∷ rest)) Between ≡ also (Quoted text) (scan rest Between)
quoted_read inner text rest is = quote_begins (inner ++ quote ∷ rest) ∙ quote_goes_on inner text (quote ∷ rest) [] is ∙ quote_ends rest text

-- a front that is closed is read, so what is broken isn't closed
pub not_closed : (others : List ℕ) → scan others (InQuote []) ≡ scan_of true [] → IsQuoteClosed others → ⊥
not_closed others e c =
    let inner = c.0 in
    let text = c.1 in
    let rest = c.2 in
    let is : scan_of true [] ≡ also (Quoted text) (scan rest Between) = sym e ∙ ap (λ (l : List ℕ). scan l (InQuote [])) c.3 ∙ quote_goes_on inner text (quote ∷ rest) [] c.4 ∙ quote_ends rest text in
    let none : [] ≡ Quoted text ∷ (scan rest Between).tokens = ap (λ (s : Scan). s.tokens) is in
    cc

-- ---- what isn't closed

closed_more : (b : ℕ) (rest : List ℕ) → nat_eq b quote ≡ false → nat_eq b backslash ≡ false → IsQuoteClosed rest → IsQuoteClosed (b ∷ rest)
closed_more b rest x y c = (b ∷ c.0, b ∷ c.1, c.2, ap (λ (l : List ℕ). b ∷ l) c.3, inl (c.0, refl, x, y, c.4))

closed_escape : (high low : ℕ) (rest : List ℕ) → is_hex high ≡ true → is_hex low ≡ true → IsQuoteClosed rest → IsQuoteClosed (backslash ∷ high ∷ low ∷ rest)
closed_escape high low rest x y c = (backslash ∷ high ∷ low ∷ c.0, hex_pair high low ∷ c.1, c.2, ap (λ (l : List ℕ). backslash ∷ high ∷ low ∷ l) c.3, inr (high, low, c.0, refl, x, y, refl, c.4))

pub eq_is : (b n : ℕ) → nat_eq b n ≡ true → b ≡ n
eq_is b n e = search rules

open_low : (high low : ℕ) (rest front : List ℕ) (t : Bool) → is_hex low ≡ t → is_hex high ≡ true → (t ≡ true → scan rest (InQuote (front ++ hex_pair high low ∷ [])) ≡ scan_of true []) → scan (backslash ∷ high ∷ low ∷ rest) (InQuote front) ≡ scan_of true []
unfolding scan
open_low high low rest front true e h more = rw (h, e) (more refl)
open_low high low rest front false e h more = rw (h, e) refl

open_high : (high : ℕ) (rest front : List ℕ) → is_hex high ≡ false → scan (backslash ∷ high ∷ rest) (InQuote front) ≡ scan_of true []
unfolding scan
open_high high rest front h = rw h refl

open_one : (high : ℕ) (front : List ℕ) (t : Bool) → is_hex high ≡ t → scan (backslash ∷ high ∷ []) (InQuote front) ≡ scan_of true []
unfolding scan
open_one high front true e = rw e refl
open_one high front false e = rw e refl

open_none : (front : List ℕ) → scan (backslash ∷ []) (InQuote front) ≡ scan_of true []
unfolding scan
open_none front = refl

empty_open : (front : List ℕ) → scan [] (InQuote front) ≡ scan_of true []
unfolding scan
empty_open front = refl

-- one step of a text that isn't closed, by its first byte
open_step : (b : ℕ) (rest front : List ℕ) → (IsQuoteClosed (b ∷ rest) → ⊥) → (nat_eq b backslash ≡ false → (IsQuoteClosed rest → ⊥) → scan rest (InQuote (front ++ b ∷ [])) ≡ scan_of true []) → (nat_eq b backslash ≡ true → scan (b ∷ rest) (InQuote front) ≡ scan_of true []) → scan (b ∷ rest) (InQuote front) ≡ scan_of true []
open_step b rest front not_ plain escape =
    elim (split_bool (nat_eq b quote)) [
      | inl x ↦ absurd (not_ ([], [], rest, ap (λ (n : ℕ). n ∷ rest) (eq_is b quote x), refl))
      | inr x ↦ elim (split_bool (nat_eq b backslash)) [
        | inl y ↦ escape y
        | inr y ↦ plain_byte b rest front x y ∙ plain y (λ c. not_ (closed_more b rest x y c))
      ]
    ]

pub stays_open : (bytes front : List ℕ) → (IsQuoteClosed bytes → ⊥) → scan bytes (InQuote front) ≡ scan_of true []
stays_open [] front not_ = empty_open front
stays_open (b ∷ []) front not_ =
    open_step b [] front not_ (λ y n. empty_open (front ++ b ∷ [])) (λ y. ap (λ (n : ℕ). scan (n ∷ []) (InQuote front)) (eq_is b backslash y) ∙ open_none front)
stays_open (b ∷ high ∷ []) front not_ =
    open_step b (high ∷ []) front not_ (λ y n. stays_open (high ∷ []) (front ++ b ∷ []) n) (λ y. ap (λ (n : ℕ). scan (n ∷ high ∷ []) (InQuote front)) (eq_is b backslash y) ∙ open_one high front (is_hex high) refl)
stays_open (b ∷ high ∷ low ∷ rest) front not_ =
    open_step b (high ∷ low ∷ rest) front not_ (λ y n. stays_open (high ∷ low ∷ rest) (front ++ b ∷ []) n)
    (λ y.
    let same : b ≡ backslash = eq_is b backslash y in
    ap (λ (n : ℕ). scan (n ∷ high ∷ low ∷ rest) (InQuote front)) same
    ∙ elim (split_bool (is_hex high)) [
      | inr h ↦ open_high high (low ∷ rest) front h
      | inl h ↦ open_low high low rest front (is_hex low) refl h (λ l. stays_open rest (front ++ hex_pair high low ∷ []) (λ c. not_ (subst (λ (n : ℕ). IsQuoteClosed (n ∷ high ∷ low ∷ rest)) (sym same) (closed_escape high low rest h l c))))
    ])

-- ---- whole lines

ends_read : (broken : Bool) (bytes : List ℕ) → EndsLine broken bytes → scan bytes Between ≡ scan_of broken []
unfolding scan
ends_read false bytes ends =
    elim ends [
      | inl e ↦ ap (λ (l : List ℕ). scan l Between) e
      | inr c ↦ ap (λ (l : List ℕ). scan l Between) c.1
    ]
ends_read true bytes ends = ap (λ (l : List ℕ). scan l Between) ends.1 ∙ stays_open ends.0 [] ends.2

pub tokens_scanned : (tokens : List Token) (broken : Bool) (bytes : List ℕ) → HasTokens broken bytes tokens → scan bytes Between ≡ scan_of broken tokens
tokens_scanned [] broken bytes has = ap (λ (l : List ℕ). scan l Between) has.2 ∙ blanks_read has.0 has.1 has.3 ∙ ends_read broken has.1 has.4
tokens_scanned (Bare word ∷ tokens) broken bytes has =
    ap (λ (l : List ℕ). scan l Between) has.2 ∙ blanks_read has.0 (word ++ has.1) has.3 ∙ run_read word has.1 has.4 ∙ ap (λ (s : Scan). also (Bare word) s) (tokens_scanned tokens broken has.1 has.5)
tokens_scanned (Quoted text ∷ tokens) broken bytes has =
    ap (λ (l : List ℕ). scan l Between) has.3 ∙ blanks_read has.0 (quote ∷ (has.1 ++ quote ∷ has.2)) has.4 ∙ quoted_read has.1 text has.2 has.5 ∙ ap (λ (s : Scan). also (Quoted text) s) (tokens_scanned tokens broken has.2 has.6)

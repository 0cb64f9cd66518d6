-- Going over a quoted text.
use Rattle.std.proofs.Common.{◌≡◌, ℕ, zero, suc, ◌+◌, ◌<◌, ◌≤◌, ◌⊎◌, inl, inr, Bool, true, false, ◌&&◌, nat_eq, List, [], ◌∷◌, ◌++◌, length, take, drop, get_or, refl, sym, ap, subst, ◌∙◌, append-nil, append_assoc, arith}
use Rattle.std.proofs.lemmas.List.{take-append-drop, take_all}
use Rattle.abc_text_lines.specs.Tokens.{Quoted, IsQuoted, backslash, hex_pair, is_hex, quote}
use Rattle.abc_text_lines.specs.Scanning.{Between, InQuote, also, scan, scan_of}
use Rattle.abc_text_lines.proofs.Bools.{and_true, split_bool}
use Rattle.abc_text_lines.proofs.Scans.{eq_is, quote_ends, quote_goes_on}
use Rattle.abc_text_lines.proofs.Readings.{quoted_append}
use Rattle.abc_text_tokens.specs.Walks.{begins_escape, quoted_text}
use Rattle.abc_text_tokens.proofs.Walking.{drop_at, take_at}

and_false : (a : Bool) → (a && false) ≡ false
and_false true = refl
and_false false = refl

pub escape_long : (bytes : List ℕ) → 2 < length bytes → begins_escape bytes ≡ (nat_eq (get_or bytes 0 0) backslash && (is_hex (get_or bytes 1 0) && is_hex (get_or bytes 2 0)))
escape_long [] lt = absurd (omega arith)
escape_long (a ∷ []) lt = absurd (omega arith)
escape_long (a ∷ b ∷ []) lt = absurd (omega arith)
escape_long (a ∷ b ∷ c ∷ rest) lt = refl

pub escape_short : (bytes : List ℕ) → length bytes ≤ 2 → begins_escape bytes ≡ false
escape_short [] le = refl
escape_short (a ∷ []) le = refl
escape_short (a ∷ b ∷ []) le = refl
escape_short (a ∷ b ∷ c ∷ rest) le = absurd (omega arith)

-- the three bytes of an escape
pub record EscapeAt (bytes : List ℕ) : Type 0 where
  pub high : ℕ
  pub low : ℕ
  pub rest : List ℕ
  pub is : bytes ≡ backslash ∷ high ∷ low ∷ rest
  pub is_high : is_hex high ≡ true
  pub is_low : is_hex low ≡ true

pub escape_at : (bytes : List ℕ) → begins_escape bytes ≡ true → EscapeAt bytes
escape_at [] e = absurd cc
escape_at (a ∷ []) e = absurd cc
escape_at (a ∷ b ∷ []) e = absurd cc
escape_at (a ∷ b ∷ c ∷ rest) e =
    let all = and_true (nat_eq a backslash) (is_hex b && is_hex c) e in
    let two = and_true (is_hex b) (is_hex c) all.1 in
    record { high = b; low = c; rest = rest; is = ap (λ (n : ℕ). n ∷ b ∷ c ∷ rest) (eq_is a backslash all.0); is_high = two.0; is_low = two.1 }

-- ---- what is meant

pub meant_empty : quoted_text [] ≡ []
unfolding quoted_text
meant_empty = refl

pub meant_plain : (b : ℕ) (rest : List ℕ) → begins_escape (b ∷ rest) ≡ false → quoted_text (b ∷ rest) ≡ b ∷ quoted_text rest
unfolding quoted_text
meant_plain b [] e = refl
meant_plain b (c ∷ []) e = refl
meant_plain b (c ∷ d ∷ rest) e = rw e refl

pub meant_escape : (high low : ℕ) (rest : List ℕ) → is_hex high ≡ true → is_hex low ≡ true → quoted_text (backslash ∷ high ∷ low ∷ rest) ≡ hex_pair high low ∷ quoted_text rest
unfolding quoted_text
meant_escape high low rest h l = rw (h, l) refl

no_escape : (b : ℕ) (rest : List ℕ) → nat_eq b backslash ≡ false → begins_escape (b ∷ rest) ≡ false
no_escape b [] e = refl
no_escape b (c ∷ []) e = refl
no_escape b (c ∷ d ∷ rest) e = rw e refl

pub meant_is : (inner text : List ℕ) → IsQuoted inner text → quoted_text inner ≡ text
meant_is inner [] is = ap quoted_text is ∙ meant_empty
meant_is inner (byte ∷ text) is =
    elim is [
      | inl p ↦ ap quoted_text p.1 ∙ meant_plain byte p.0 (no_escape byte p.0 p.3) ∙ ap (λ (l : List ℕ). byte ∷ l) (meant_is p.0 text p.4)
      | inr p ↦ ap quoted_text p.3 ∙ meant_escape p.0 p.1 p.2 p.4 p.5 ∙ ap (λ (l : List ℕ). hex_pair p.0 p.1 ∷ l) (meant_is p.2 text p.7) ∙ ap (λ (b : ℕ). b ∷ text) (sym p.6)
    ]

-- ---- how far a quoted text has been gone over

-- the front is a quoted text, of some text
abbrev pub Opened : List ℕ → ℕ → Type 0
Opened bytes i = (text : List ℕ) × IsQuoted (take i bytes) text

pub opened_plain : (bytes : List ℕ) (i : ℕ) → i < length bytes → nat_eq (get_or bytes i 0) quote ≡ false → nat_eq (get_or bytes i 0) backslash ≡ false → Opened bytes i → Opened bytes (i + 1)
opened_plain bytes i lt q b o =
    let byte = get_or bytes i 0 in
    let one : IsQuoted (byte ∷ []) (byte ∷ []) = inl ([], refl, q, b, refl) in
    (o.0 ++ byte ∷ [], subst (λ (l : List ℕ). IsQuoted l (o.0 ++ byte ∷ [])) (sym (take_at bytes i lt)) (quoted_append (take i bytes) o.0 (byte ∷ []) (byte ∷ []) o.1 one))

take_three : (bytes : List ℕ) (i a b c : ℕ) (rest : List ℕ) → drop i bytes ≡ a ∷ b ∷ c ∷ rest → i ≤ length bytes → take (i + 3) bytes ≡ take i bytes ++ a ∷ b ∷ c ∷ []
take_three bytes zero a b c rest e le = ap (take 3) e
take_three [] (suc i) a b c rest e le = absurd (omega arith)
take_three (x ∷ bytes) (suc i) a b c rest e le = let k : suc i + 3 ≡ suc (i + 3) = omega arith in ap (λ (n : ℕ). take n (x ∷ bytes)) k ∙ ap (λ (l : List ℕ). x ∷ l) (take_three bytes i a b c rest e (omega arith))

drop_three : (bytes : List ℕ) (i a b c : ℕ) (rest : List ℕ) → drop i bytes ≡ a ∷ b ∷ c ∷ rest → drop (i + 3) bytes ≡ rest
drop_three bytes zero a b c rest e = ap (drop 3) e
drop_three [] (suc i) a b c rest e = absurd cc
drop_three (x ∷ bytes) (suc i) a b c rest e = let k : suc i + 3 ≡ suc (i + 3) = omega arith in ap (λ (n : ℕ). drop n (x ∷ bytes)) k ∙ drop_three bytes i a b c rest e

pub opened_escape : (bytes : List ℕ) (i : ℕ) → i ≤ length bytes → begins_escape (drop i bytes) ≡ true → Opened bytes i → Opened bytes (i + 3)
opened_escape bytes i le is o =
    let e = escape_at (drop i bytes) is in
    let byte = hex_pair e.high e.low in
    let one : IsQuoted (backslash ∷ e.high ∷ e.low ∷ []) (byte ∷ []) = inr (e.high, e.low, [], refl, e.is_high, e.is_low, refl, refl) in
    (o.0 ++ byte ∷ [], subst (λ (l : List ℕ). IsQuoted l (o.0 ++ byte ∷ [])) (sym (take_three bytes i backslash e.high e.low e.rest e.is le)) (quoted_append (take i bytes) o.0 (backslash ∷ e.high ∷ e.low ∷ []) (byte ∷ []) o.1 one))

pub within_escape : (bytes : List ℕ) (i : ℕ) → begins_escape (drop i bytes) ≡ true → 2 < length (drop i bytes)
within_escape bytes i is = let e = escape_at (drop i bytes) is in let n : length (drop i bytes) ≡ suc (suc (suc (length e.rest))) = ap length e.is in omega arith

pub closed_at : (bytes : List ℕ) (i : ℕ) → i < length bytes → nat_eq (get_or bytes i 0) quote ≡ true → Opened bytes i → scan bytes (InQuote []) ≡ also (Quoted (quoted_text (take i bytes))) (scan (drop (i + 1) bytes) Between)
closed_at bytes i lt is o =
    let rest = drop (i + 1) bytes in
    let cut : bytes ≡ take i bytes ++ quote ∷ rest = sym (take-append-drop i bytes) ∙ ap (λ (l : List ℕ). take i bytes ++ l) (drop_at bytes i lt ∙ ap (λ (n : ℕ). n ∷ rest) (eq_is (get_or bytes i 0) quote is)) in
    ap (λ (l : List ℕ). scan l (InQuote [])) cut ∙ quote_goes_on (take i bytes) o.0 (quote ∷ rest) [] o.1 ∙ quote_ends rest o.0 ∙ ap (λ (t : List ℕ). also (Quoted t) (scan rest Between)) (sym (meant_is (take i bytes) o.0 o.1))

none_left : (front : List ℕ) → scan [] (InQuote front) ≡ scan_of true []
unfolding scan
none_left front = refl

pub open_at_end : (bytes : List ℕ) (i : ℕ) → length bytes ≤ i → Opened bytes i → scan bytes (InQuote []) ≡ scan_of true []
open_at_end bytes i le o =
    let whole : bytes ≡ take i bytes ++ [] = sym (take_all i bytes le) ∙ sym (append-nil (take i bytes)) in
    ap (λ (l : List ℕ). scan l (InQuote [])) whole ∙ quote_goes_on (take i bytes) o.0 [] [] o.1 ∙ none_left o.0

bad_hex : (a b : Bool) → (a && b) ≡ false → (a ≡ false) ⊎ ((a ≡ true) × (b ≡ false))
bad_hex true b e = inr (refl, e)
bad_hex false b e = inl refl

bad_escape : (rest front : List ℕ) → begins_escape (backslash ∷ rest) ≡ false → scan (backslash ∷ rest) (InQuote front) ≡ scan_of true []
unfolding scan
bad_escape [] front e = refl
bad_escape (a ∷ []) front e = elim (split_bool (is_hex a)) [ inl x ↦ rw x refl | inr x ↦ rw x refl ]
bad_escape (a ∷ b ∷ rest) front e =
    elim (bad_hex (is_hex a) (is_hex b) e) [
      | inl x ↦ rw x refl
      | inr p ↦ let x = p.0 in let y = p.1 in rw (x, y) refl
    ]

pub open_at_escape : (bytes : List ℕ) (i : ℕ) → i < length bytes → nat_eq (get_or bytes i 0) backslash ≡ true → begins_escape (drop i bytes) ≡ false → Opened bytes i → scan bytes (InQuote []) ≡ scan_of true []
open_at_escape bytes i lt is bad o =
    let rest = drop (i + 1) bytes in
    let cut : drop i bytes ≡ backslash ∷ rest = drop_at bytes i lt ∙ ap (λ (n : ℕ). n ∷ rest) (eq_is (get_or bytes i 0) backslash is) in
    let none : begins_escape (backslash ∷ rest) ≡ false = ap begins_escape (sym cut) ∙ bad in
    ap (λ (l : List ℕ). scan l (InQuote [])) (sym (take-append-drop i bytes)) ∙ quote_goes_on (take i bytes) o.0 (drop i bytes) [] o.1 ∙ ap (λ (l : List ℕ). scan l (InQuote o.0)) cut ∙ bad_escape rest o.0 none

-- ---- what was made of it

pub made_plain : (bytes text : List ℕ) (i : ℕ) → i < length bytes → begins_escape (drop i bytes) ≡ false → text ++ quoted_text (drop i bytes) ≡ quoted_text bytes → (text ++ get_or bytes i 0 ∷ []) ++ quoted_text (drop (i + 1) bytes) ≡ quoted_text bytes
made_plain bytes text i lt bad e =
    let byte = get_or bytes i 0 in
    let cut = drop_at bytes i lt in
    let none : begins_escape (byte ∷ drop (i + 1) bytes) ≡ false = ap begins_escape (sym cut) ∙ bad in
    append_assoc text (byte ∷ []) (quoted_text (drop (i + 1) bytes)) ∙ ap (λ (l : List ℕ). text ++ l) (sym (ap quoted_text cut ∙ meant_plain byte (drop (i + 1) bytes) none)) ∙ e

three_at : (bytes : List ℕ) (i a b c : ℕ) (rest : List ℕ) → drop i bytes ≡ a ∷ b ∷ c ∷ rest → (get_or bytes (i + 1) 0 ≡ b) × (get_or bytes (i + 2) 0 ≡ c)
three_at bytes zero a b c rest e = (ap (λ (l : List ℕ). get_or l 1 0) e, ap (λ (l : List ℕ). get_or l 2 0) e)
three_at [] (suc i) a b c rest e = absurd cc
three_at (x ∷ bytes) (suc i) a b c rest e =
    let k : suc i + 1 ≡ suc (i + 1) = omega arith in
    let m : suc i + 2 ≡ suc (i + 2) = omega arith in
    let more = three_at bytes i a b c rest e in
    (ap (λ (n : ℕ). get_or (x ∷ bytes) n 0) k ∙ more.0, ap (λ (n : ℕ). get_or (x ∷ bytes) n 0) m ∙ more.1)

pub escape_hex : (bytes : List ℕ) (i : ℕ) → begins_escape (drop i bytes) ≡ true → (is_hex (get_or bytes (i + 1) 0) ≡ true) × (is_hex (get_or bytes (i + 2) 0) ≡ true)
escape_hex bytes i is =
    let e = escape_at (drop i bytes) is in
    let at = three_at bytes i backslash e.high e.low e.rest e.is in
    (ap is_hex at.0 ∙ e.is_high, ap is_hex at.1 ∙ e.is_low)

pub made_escape : (bytes text : List ℕ) (i : ℕ) → begins_escape (drop i bytes) ≡ true → text ++ quoted_text (drop i bytes) ≡ quoted_text bytes → (text ++ hex_pair (get_or bytes (i + 1) 0) (get_or bytes (i + 2) 0) ∷ []) ++ quoted_text (drop (i + 3) bytes) ≡ quoted_text bytes
made_escape bytes text i is was =
    let e = escape_at (drop i bytes) is in
    let at = three_at bytes i backslash e.high e.low e.rest e.is in
    let pair : hex_pair (get_or bytes (i + 1) 0) (get_or bytes (i + 2) 0) ≡ hex_pair e.high e.low = ap (λ (n : ℕ). hex_pair n (get_or bytes (i + 2) 0)) at.0 ∙ ap (λ (n : ℕ). hex_pair e.high n) at.1 in
    let more : quoted_text (drop i bytes) ≡ hex_pair e.high e.low ∷ quoted_text (drop (i + 3) bytes) = ap quoted_text e.is ∙ meant_escape e.high e.low e.rest e.is_high e.is_low ∙ ap (λ (l : List ℕ). hex_pair e.high e.low ∷ quoted_text l) (sym (drop_three bytes i backslash e.high e.low e.rest e.is)) in
    ap (λ (n : ℕ). (text ++ n ∷ []) ++ quoted_text (drop (i + 3) bytes)) pair ∙ append_assoc text (hex_pair e.high e.low ∷ []) (quoted_text (drop (i + 3) bytes)) ∙ ap (λ (l : List ℕ). text ++ l) (sym more) ∙ was

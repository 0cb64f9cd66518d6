-- Dividing a text into its lines.
use Rattle.std.proofs.Common.{◌≡◌, ℕ, zero, suc, Bool, ◌+◌, ◌<◌, ◌≤◌, true, false, nat_eq, List, [], ◌∷◌, ◌++◌, length, take, drop, get_or, ◌==◌, refl, sym, ap, ◌∙◌, append-nil, append_assoc, arith, inl, inr}
use Rattle.std.proofs.lemmas.List.{drop_all, take_all}
use Rattle.abc_text_lines.proofs.Bools.{split_bool}
use Rattle.abc_text_lines.specs.Scanning.{Between, Scan, scan, scan_of}
use Rattle.abc_text_lines.specs.declared.word.Word.TheVariants as words
use Rattle.abc_text_lines.specs.Texts.{Raw, lines_in, onto_first, raws_of_scan, raws_from}
use Rattle.abc_text_tokens.specs.Cursor.{Splits}
use Rattle.abc_text_tokens.proofs.Walking.{drop_at, take_at, zero_is}

-- bytes at the front of the first line
abbrev pub led : List ℕ → List (List ℕ) → List (List ℕ)
led front [] = front ∷ []
led front (line ∷ lines) = (front ++ line) ∷ lines

led_first : (front : List ℕ) (byte : ℕ) (lines : List (List ℕ)) → led front (onto_first byte lines) ≡ led (front ++ byte ∷ []) lines
led_first front byte [] = refl
led_first front byte (line ∷ lines) = ap (λ (l : List ℕ). l ∷ lines) (sym (append_assoc front (byte ∷ []) line))

led_none : (byte : ℕ) (lines : List (List ℕ)) → led [] (onto_first byte lines) ≡ onto_first byte lines
led_none byte [] = refl
led_none byte (line ∷ lines) = refl

pub lines_begin : (text : List ℕ) → lines_in text ≡ led [] (lines_in text)
lines_begin [] = refl
lines_begin (byte ∷ text) =
    elim (split_bool (nat_eq byte 0x0a)) [
      | inl e ↦ rw e refl
      | inr e ↦ rw e (sym (led_none byte (lines_in text)))
    ]

pub lines_step : (text : List ℕ) (i : ℕ) → i < length text → nat_eq (get_or text i 0) 0x0a ≡ false → led (take i text) (lines_in (drop i text)) ≡ led (take (i + 1) text) (lines_in (drop (i + 1) text))
lines_step text i lt other =
    ap (λ (l : List ℕ). led (take i text) (lines_in l)) (drop_at text i lt)
    ∙ (let n = other in rw n (led_first (take i text) (get_or text i 0) (lines_in (drop (i + 1) text))))
    ∙ ap (λ (l : List ℕ). led l (lines_in (drop (i + 1) text))) (sym (take_at text i lt))

not_true : (b : Bool) → (b ≡ true → ⊥) → b ≡ false
not_true true never = absurd (never refl)
not_true false never = refl

-- no line feed stands before a place
pub no_feed : (text : List ℕ) (i : ℕ) → i ≤ length text → ((k : ℕ) → k < i → nat_eq (get_or text k 0) 0x0a ≡ true → ⊥) → lines_in text ≡ led (take i text) (lines_in (drop i text))
no_feed text zero le none = lines_begin text
no_feed text (suc i) le none =
    let lt : i < length text = omega arith in
    let other : nat_eq (get_or text i 0) 0x0a ≡ false = not_true (nat_eq (get_or text i 0) 0x0a) (none i (omega arith)) in
    let s : i + 1 ≡ suc i = omega arith in
    no_feed text i (omega arith) (λ k less. none k (omega arith)) ∙ lines_step text i lt other ∙ ap (λ (n : ℕ). led (take n text) (lines_in (drop n text))) s

pub splits_at : (text : List ℕ) (i : ℕ) → i < length text → nat_eq (get_or text i 0) 0x0a ≡ true → lines_in text ≡ led (take i text) (lines_in (drop i text)) → Splits text (take i text) (drop (i + 1) text)
splits_at text i lt is e number =
    let first : lines_in (drop i text) ≡ [] ∷ lines_in (drop (i + 1) text) = ap lines_in (drop_at text i lt) ∙ (let n = is in rw n refl) in
    let all : lines_in text ≡ take i text ∷ lines_in (drop (i + 1) text) = e ∙ ap (led (take i text)) first ∙ ap (λ (l : List ℕ). l ∷ lines_in (drop (i + 1) text)) (append-nil (take i text)) in
    ap (raws_from number) all

no_more : (number : ℕ) → raws_from number [] ≡ raws_from number (lines_in [])
unfolding scan
no_more number = refl

pub splits_end : (text : List ℕ) (i : ℕ) → length text ≤ i → lines_in text ≡ led (take i text) (lines_in (drop i text)) → Splits text text []
splits_end text i le e number =
    let last : lines_in (drop i text) ≡ [] ∷ [] = ap lines_in (drop_all i text le) in
    let all : lines_in text ≡ text ∷ [] = e ∙ ap (led (take i text)) last ∙ ap (λ (l : List ℕ). l ∷ []) (append-nil (take i text) ∙ take_all i text le) in
    ap (raws_from number) all ∙ ap (λ (raws : List Raw). raws_of_scan number (scan text Between) raws) (no_more (number + 1))

-- ---- lines that come

pub none_come : (number : ℕ) (rest : List ℕ) → (length rest == 0) ≡ true → raws_from number (lines_in rest) ≡ []
unfolding scan
none_come number [] e = refl
none_come number (b ∷ rest) e = let z = zero_is (length (b ∷ rest)) e in absurd (omega arith)

pub broken_comes : (number : ℕ) (s : Scan) (raws : List Raw) → s ≡ scan_of true [] → raws_of_scan number s raws ≡ record { number = number; broken = true; word = words.Unknown; name = []; operands = (scan [] Between).tokens } ∷ raws
unfolding scan
broken_comes number s raws e = ap (λ (t : Scan). raws_of_scan number t raws) e

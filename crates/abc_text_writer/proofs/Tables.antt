-- The tables of how bytes are shown.
use Rattle.std.proofs.Common.{◌≡◌, ℕ, ◌+◌, ◌<◌, ◌≤◌, ◌/◌, ◌%◌, Bool, true, false, List, [], ◌∷◌, ◌++◌, length, take, set, get_or, if◌then◌else◌, map, refl, ap, ◌∙◌, append_assoc, arith}
use Rattle.std.specs.List.{range_with_len}
use Rattle.std.proofs.lemmas.List.{length-set, take-set-le, take_more_set}
use Rattle.std.proofs.lemmas.Grind.{take-set_at}
use Rattle.std.proofs.lemmas.List.FromFn.{get_or-map-range_with_len}
use Rattle.abc_text_writer.specs.declared.escaping.TheConstants.{DIGITS, ESCAPES}
use Rattle.abc_base.specs.Escapes.{escape_of, hex_digit, is_plain_byte}

abbrev row_of : ℕ → List ℕ
row_of byte = (if is_plain_byte byte then byte else 0x5c) ∷ hex_digit (byte / 16) ∷ hex_digit (byte % 16) ∷ (if is_plain_byte byte then 1 else 3) ∷ []

same_digits : DIGITS ≡ map hex_digit (range_with_len 0 16)
same_digits = refl

same_rows : ESCAPES ≡ map row_of (range_with_len 0 256)
same_rows = refl

pub digit_is : (n : ℕ) → n < 16 → get_or DIGITS n 0 ≡ hex_digit n
digit_is n less = ap (λ (l : List ℕ). get_or l n 0) same_digits ∙ get_or-map-range_with_len hex_digit 0 16 n n 0 less (omega arith)

pub row_is : (byte : ℕ) (none : List ℕ) → byte < 256 → get_or ESCAPES byte none ≡ row_of byte
row_is byte none less = ap (λ (l : List (List ℕ)). get_or l byte none) same_rows ∙ get_or-map-range_with_len row_of 0 256 byte byte none less (omega arith)

-- ---- a row behind others

abbrev four_set : List ℕ → ℕ → ℕ → ℕ → ℕ → ℕ → List ℕ
four_set piece at a b c d = set (set (set (set piece at a) (at + 1) b) (at + 2) c) (at + 3) d

one_left : (piece : List ℕ) (at a b c d : ℕ) → at + 4 ≤ length piece → take (at + 1) (four_set piece at a b c d) ≡ take at piece ++ a ∷ []
one_left piece at a b c d room =
    take-set-le (at + 1) (set (set (set piece at a) (at + 1) b) (at + 2) c) (at + 3) d (omega arith)
    ∙ take-set-le (at + 1) (set (set piece at a) (at + 1) b) (at + 2) c (omega arith)
    ∙ take-set-le (at + 1) (set piece at a) (at + 1) b (omega arith)
    ∙ take_more_set piece at a (omega arith)

three_left : (piece : List ℕ) (at a b c d : ℕ) → at + 4 ≤ length piece → take (at + 3) (four_set piece at a b c d) ≡ take at piece ++ a ∷ b ∷ c ∷ []
three_left piece at a b c d room =
    let one = set piece at a in
    let two = set one (at + 1) b in
    let m : length one ≡ length piece = length-set piece at a in
    let n : length two ≡ length one = length-set one (at + 1) b in
    take-set-le (at + 3) (set two (at + 2) c) (at + 3) d (omega arith)
    ∙ take-set_at two (at + 2) (at + 3) c (omega arith) (omega arith)
    ∙ ap (λ (l : List ℕ). l ++ c ∷ []) (take-set_at one (at + 1) (at + 2) b (omega arith) (omega arith) ∙ ap (λ (l : List ℕ). l ++ b ∷ []) (take_more_set piece at a (omega arith)))
    ∙ append_assoc (take at piece ++ a ∷ []) (b ∷ []) (c ∷ [])
    ∙ append_assoc (take at piece) (a ∷ []) (b ∷ c ∷ [])

shows_when : (piece : List ℕ) (at byte high low : ℕ) (plain : Bool) → at + 4 ≤ length piece
    → take (at + (if plain then 1 else 3)) (four_set piece at (if plain then byte else 0x5c) high low (if plain then 1 else 3)) ≡ take at piece ++ (if plain then byte ∷ [] else 0x5c ∷ high ∷ low ∷ [])
shows_when piece at byte high low true room = one_left piece at byte high low 1 room
shows_when piece at byte high low false room = three_left piece at 0x5c high low 3 room

pub row_shows : (piece row : List ℕ) (at byte : ℕ) → row ≡ row_of byte → at + 4 ≤ length piece
    → take (at + get_or row 3 0) (four_set piece at (get_or row 0 0) (get_or row 1 0) (get_or row 2 0) (get_or row 3 0)) ≡ take at piece ++ escape_of byte
row_shows piece row at byte e room =
    ap (λ (r : List ℕ). take (at + get_or r 3 0) (four_set piece at (get_or r 0 0) (get_or r 1 0) (get_or r 2 0) (get_or r 3 0))) e
    ∙ shows_when piece at byte (hex_digit (byte / 16)) (hex_digit (byte % 16)) (is_plain_byte byte) room

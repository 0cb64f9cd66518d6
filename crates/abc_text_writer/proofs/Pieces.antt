-- Pieces that are appended whole, and cut then.
use Rattle.std.proofs.Common.{◌≡◌, ℕ, ◌+◌, ◌<◌, ◌≤◌, List, [], ◌∷◌, ◌++◌, length, take, drop, set, refl, sym, ap, ◌∙◌, append_assoc, arith}
use Rattle.std.proofs.Math.Seq.{take-append-add}
use Rattle.std.proofs.lemmas.Grind.{take-set_at}
use Rattle.std.proofs.lemmas.List.{length-take-le, take-append-drop, take-append-le, take_at}

-- what is left of a piece behind others
pub cut : (old piece : List ℕ) (n count : ℕ) → n ≡ length old + count → take n (old ++ piece) ≡ old ++ take count piece
cut old piece n count e = ap (λ m. take m (old ++ piece)) e ∙ take-append-add old piece count

-- a quote behind others
pub closed : (piece front shown : List ℕ) (at : ℕ) → at < length piece → take at piece ≡ front ++ shown → take (at + 1) (set piece at 0x22) ≡ front ++ (shown ++ 0x22 ∷ [])
closed piece front shown at less e =
    take-set_at piece at (at + 1) 0x22 refl less ∙ ap (λ (l : List ℕ). l ++ 0x22 ∷ []) e ∙ append_assoc front shown (0x22 ∷ [])

-- fewer of some first bytes
fewer : (xs : List ℕ) (n m : ℕ) → n ≤ m → m ≤ length xs → take n (take m xs) ≡ take n xs
fewer xs n m less within =
    sym (take-append-le n (take m xs) (drop m xs) (omega (arith, length-take-le m xs within))) ∙ ap (take n) (take-append-drop m xs)

-- a text that begins at a place of a piece, of some bytes from there
pub window : (piece text rest : List ℕ) (at room count : ℕ) → drop at piece ≡ text ++ rest → length text ≡ count → count ≤ room → room ≤ length (drop at piece) → take count (take room (drop at piece)) ≡ text
window piece text rest at room count e n less within = fewer (drop at piece) count room less within ∙ ap (take count) e ∙ take_at text rest count n

-- The entries of metadata, two strings each.
use Rattle.std.proofs.Common.{◌≡◌, ℕ, zero, suc, ◌+◌, ◌*◌, ◌<◌, List, [], ◌∷◌, ◌++◌, length, take, get_or, refl, sym, ap, ◌∙◌, append-nil, append_assoc, add-one, arith}
use Rattle.std.specs.List.{flat_map}
use Rattle.abc_text_lines.specs.Answers.{pairs}

pub pairs_all : (xs : List ℕ) (i : ℕ) → length xs < 2 * i + 2 → take i (pairs xs) ≡ pairs xs
pairs_all [] zero few = refl
pairs_all [] (suc i) few = refl
pairs_all (a ∷ []) zero few = refl
pairs_all (a ∷ []) (suc i) few = refl
pairs_all (a ∷ b ∷ xs) zero few = absurd (omega arith)
pairs_all (a ∷ b ∷ xs) (suc i) few = ap (λ (l : List (ℕ × ℕ)). (a, b) ∷ l) (pairs_all xs i (omega arith))

more_at : (f : ℕ × ℕ → List ℕ) (xs : List ℕ) (i : ℕ) → 2 * i + 1 < length xs → flat_map f (take (suc i) (pairs xs)) ≡ flat_map f (take i (pairs xs)) ++ f (get_or xs (2 * i) 0, get_or xs (2 * i + 1) 0)
more_at f [] i lt = absurd (omega arith)
more_at f (a ∷ []) i lt = absurd (omega arith)
more_at f (a ∷ b ∷ xs) zero lt = append-nil (f (a, b))
more_at f (a ∷ b ∷ xs) (suc i) lt =
    let more = more_at f xs i (omega arith) in
    let e : 2 * suc i ≡ suc (suc (2 * i)) = omega arith in
    let d : 2 * suc i + 1 ≡ suc (suc (2 * i + 1)) = omega arith in
    ap (λ (l : List ℕ). f (a, b) ++ l) more
    ∙ sym (append_assoc (f (a, b)) (flat_map f (take i (pairs xs))) (f (get_or xs (2 * i) 0, get_or xs (2 * i + 1) 0)))
    ∙ ap (λ (n : ℕ). (f (a, b) ++ flat_map f (take i (pairs xs))) ++ f (get_or (a ∷ b ∷ xs) n 0, get_or xs (2 * i + 1) 0)) (sym e)
    ∙ ap (λ (n : ℕ). (f (a, b) ++ flat_map f (take i (pairs xs))) ++ f (get_or (a ∷ b ∷ xs) (2 * suc i) 0, get_or (a ∷ b ∷ xs) n 0)) (sym d)

pub pairs_more : (f : ℕ × ℕ → List ℕ) (xs : List ℕ) (i : ℕ) → 2 * i + 1 < length xs → flat_map f (take (i + 1) (pairs xs)) ≡ flat_map f (take i (pairs xs)) ++ f (get_or xs (2 * i) 0, get_or xs (2 * i + 1) 0)
pairs_more f xs i lt = ap (λ (n : ℕ). flat_map f (take n (pairs xs))) (add-one i) ∙ more_at f xs i lt

-- Lists of what is made of the numbers from 1 on.
use Rattle.std.proofs.Common.{◌≡◌, ℕ, suc, zero, ◌+◌, ◌*◌, List, [], ◌∷◌, ◌++◌, map, sym, ap, ap₂, ◌∙◌, append_assoc, append-nil, arith}
use Rattle.std.specs.List.{flat_map, range_with_len}
use Rattle.std.proofs.lemmas.List.FromFn.{map-range_with_len_more}
use Rattle.abc_cli_answers.specs.Draws.{draws_after}

-- one more number, behind other values
pub one_more : {A : Type 0} (f : ℕ → A) (n : ℕ) (front xs ys : List A) (x : A) → ys ≡ xs ++ x ∷ [] → xs ≡ front ++ map f (range_with_len 1 n) → x ≡ f (n + 1) → ys ≡ front ++ map f (range_with_len 1 (n + 1))
one_more f n front xs ys x e i l =
    e ∙ ap₂ (λ zs z. zs ++ z ∷ []) i l ∙ append_assoc front (map f (range_with_len 1 n)) (f (n + 1) ∷ [])
    ∙ ap (λ zs. front ++ zs) (sym (map-range_with_len_more f 1 n (n + 1) (omega arith)))

joined_more : {A : Type 0} (f : ℕ → List A) (a n j : ℕ) → a + n ≡ j → flat_map f (range_with_len a (suc n)) ≡ flat_map f (range_with_len a n) ++ f j
joined_more f a zero j e = append-nil (f a) ∙ ap f (omega arith)
joined_more f a (suc n) j e = ap (λ xs. f a ++ xs) (joined_more f (a + 1) n j (omega arith)) ∙ sym (append_assoc (f a) (flat_map f (range_with_len (a + 1) n)) (f j))

-- the same for lists that are joined
pub one_joined : {A : Type 0} (f : ℕ → List A) (n : ℕ) (front xs ys : List A) → ys ≡ xs ++ f (n + 1) → xs ≡ front ++ flat_map f (range_with_len 1 n) → ys ≡ front ++ flat_map f (range_with_len 1 (n + 1))
one_joined f n front xs ys e i =
    e ∙ ap (λ zs. zs ++ f (n + 1)) i ∙ append_assoc front (flat_map f (range_with_len 1 n)) (f (n + 1))
    ∙ ap (λ zs. front ++ zs) (sym (joined_more f 1 n (n + 1) (omega arith)) ∙ ap (λ k. flat_map f (range_with_len 1 k)) {x = suc n} {y = n + 1} (omega arith))

-- three more draws
pub three_more : (seed n : ℕ) → draws_after (draws_after seed (3 * n)) 3 ≡ draws_after seed (3 * (n + 1))
three_more seed n = ap (draws_after seed) {x = suc (suc (suc (3 * n)))} {y = 3 * (n + 1)} (omega arith)

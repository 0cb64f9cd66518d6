-- Texts that are copied while the texts made grow.
use Rattle.std.proofs.Common.{◌≡◌, ℕ, zero, suc, ◌+◌, ◌<◌, List, [], ◌∷◌, ◌++◌, Some, None, length, take, drop, refl, sym, ap, ◌∙◌, subst, arith, append_assoc}
use Rattle.std.specs.Prelude.{slice_get, get_or}
use Rattle.abc_heap_values.specs.Filling.{Filling}
use Rattle.abc_heap_values.specs.declared.values.Span.{Span}
use Rattle.abc_heap_values.proofs.Parts.{slice_get_left}
use Rattle.abc_heap_store.specs.Texts.{part_of_text, text_in, IsTextIn}

part_grown : (fixed made more : List ℕ) (pool : List (List ℕ)) (p i : ℕ) → i < length (part_of_text fixed made pool p) → slice_get (part_of_text fixed (made ++ more) pool p) i ≡ slice_get (part_of_text fixed made pool p) i
part_grown fixed made more pool zero i b = refl
part_grown fixed made more pool (suc zero) i b = slice_get_left made more i b
part_grown fixed made more pool (suc (suc p)) i b = refl

slice_get_part : (n s j : ℕ) (xs : List ℕ) → j < n → slice_get (take n (drop s xs)) j ≡ slice_get xs (s + j)
slice_get_part n zero j xs b = let e : 0 + j ≡ j = omega arith in front n j xs b ∙ ap (slice_get xs) (sym e)
  where
    front : (n j : ℕ) (xs : List ℕ) → j < n → slice_get (take n xs) j ≡ slice_get xs j
    front zero j xs b = absurd (omega arith)
    front (suc n) j [] b = refl
    front (suc n) zero (x ∷ xs) b = refl
    front (suc n) (suc j) (x ∷ xs) b = front n j xs (omega arith)
slice_get_part zero (suc s) j [] b = absurd (omega arith)
slice_get_part (suc n) (suc s) j [] b = refl
slice_get_part n (suc s) j (x ∷ xs) b = let e : suc s + j ≡ suc (s + j) = omega arith in slice_get_part n s j xs b ∙ ap (slice_get (x ∷ xs)) (sym e)

pub take_next : {X : Type 0} (xs : List X) (k : ℕ) (b : X) → slice_get xs k ≡ Some b → take k xs ++ b ∷ [] ≡ take (suc k) xs
take_next (x ∷ xs) zero b e = let q : x ≡ b = cc in ap (λ y. y ∷ []) (sym q)
take_next (x ∷ xs) (suc k) b e = ap (λ r. x ∷ r) (take_next xs k b e)
take_next [] k b e = absurd cc

pub take_next_or : {X : Type 0} (xs : List X) (k : ℕ) (d : X) → k < length xs → take k xs ++ get_or xs k d ∷ [] ≡ take (k + 1) xs
take_next_or xs k d b = let n : suc k ≡ k + 1 = omega arith in take_next xs k (get_or xs k d) (there xs k d b) ∙ ap (λ m. take m xs) n
  where
    there : {X : Type 0} (xs : List X) (k : ℕ) (d : X) → k < length xs → slice_get xs k ≡ Some (get_or xs k d)
    there (x ∷ xs) zero d b = refl
    there (x ∷ xs) (suc k) d b = there xs k d (omega arith)
    there [] k d b = absurd (omega arith)

pub byte_copied : (fixed : List ℕ) (old now new : Filling ℕ) (pool : List (List ℕ)) (s : Span) (k b : ℕ) → IsTextIn fixed old.items pool s → k < s.len → now ≡ record { items = old.items ++ take k (text_in fixed old.items pool s); limit = old.limit } → slice_get (part_of_text fixed now.items pool s.part) (s.start + k) ≡ Some b → new ≡ record { items = now.items ++ b ∷ []; limit = now.limit } → new ≡ record { items = old.items ++ take (k + 1) (text_in fixed old.items pool s); limit = old.limit }
byte_copied fixed old now new pool s k b t r e f g =
    let text = text_in fixed old.items pool s in
    let p : slice_get (part_of_text fixed (old.items ++ take k text) pool s.part) (s.start + k) ≡ Some b = subst (λ (x : Filling ℕ). slice_get (part_of_text fixed x.items pool s.part) (s.start + k) ≡ Some b) e f in
    let q : slice_get text k ≡ Some b = slice_get_part s.len s.start k (part_of_text fixed old.items pool s.part) r ∙ (sym (part_grown fixed old.items (take k text) pool s.part (s.start + k) (omega arith)) ∙ p) in
    let n : suc k ≡ k + 1 = omega arith in
    let P : Filling ℕ → Type 0 = λ x. ◌≡◌ {A = Filling ℕ} (record { items = x.items ++ b ∷ []; limit = x.limit }) (record { items = old.items ++ take (k + 1) text; limit = old.limit }) in
    g ∙ subst P (sym e) (ap (λ ys. record { items = ys; limit = old.limit }) (append_assoc old.items (take k text) (b ∷ []) ∙ ap (λ ys. old.items ++ ys) (take_next text k b q ∙ ap (λ m. take m text) n)))

-- past the end of the pool
pub past_pool : (pool : List (List ℕ)) (i : ℕ) → slice_get pool i ≡ None → get_or pool i [] ≡ []
past_pool [] i e = refl
past_pool (x ∷ pool) zero e = absurd cc
past_pool (x ∷ pool) (suc i) e = past_pool pool i e

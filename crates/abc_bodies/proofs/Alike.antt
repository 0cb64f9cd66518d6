-- Bodies read alike over tables whose sizes an index cannot tell apart, and with flags in place of the methods taken.
use Rattle.std.proofs.Common.{◌≡◌, ℕ, zero, suc, ◌<◌, inl, inr, Bool, true, false, cond, List, [], ◌∷◌, ◌++◌, length, set, get_or, Ok, Err, refl, sym, ap, subst, ◌∙◌, length-set, arith}
use Rattle.std.specs.Prelude.{IfOk, nat_eq, nat_lt, not, replicate, ◌||◌}
use Rattle.std.specs.List.{list_any}
use Rattle.std.proofs.lemmas.Bool.{cases_eq, ltb-true}
use Rattle.std.proofs.lemmas.Bool.Decides.{nat_tests}
use Rattle.std.proofs.lemmas.Grind.{get_or-set_at}
use Rattle.std.proofs.lemmas.List.{get_or-replicate, get_or-set_other, length-replicate}
use Rattle.std.proofs.lemmas.List.Folds.{list_any-append}
use Rattle.std.proofs.lemmas.Option.{unwrap_or-slice_get}
use Rattle.abc_file_types.specs.declared.reason.Reason.{Reason}
use Rattle.abc_file_types.specs.Lists.{chain}
use Rattle.abc_file_types.specs.Numbers.{index_below, u30}
use Rattle.abc_file_types.specs.Part.{At, Part, Refusal, with_test, image, ◌>>=◌}
use Rattle.std.specs.declared.result.Result.{Result}
use Rattle.abc_file_types.proofs.Exact.{bind_ok, ok_is}
use Rattle.abc_file_types.specs.declared.code.Body.{Body}
use Rattle.abc_file_types.specs.declared.tables.Sizes.{Sizes}
use Rattle.abc_file_types.specs.Bodies.{body, body_list, body_method, body_with, handler, methods_of}
use Rattle.abc_file_types.specs.Sizes.{capped_sizes}
use Rattle.abc_traits.proofs.Alike.{Alike, alike_refl, alike_trans, checked-alike, counted-alike, image-alike, then-alike}
use Rattle.abc_traits.proofs.Capped.{index_below-capped, pool_index-capped, trait_info-capped}
use Rattle.abc_bodies.specs.Places.{ArePlaces, KeepPlaces}
use Rattle.abc_bodies.specs.Reading.{IsFlagged, free_body, free_method, keeping}

-- ---- sizes

tested-alike : {A : Type 0} (test : A → Bool) (reason : Reason) (p q : Part A) → Alike p q → Alike (with_test test reason p) (with_test test reason q)
tested-alike test reason p q h = record { same = λ from. rw (h.same from) refl }

handler-capped : (v : Sizes) (starts : List ℕ) → Alike (handler v starts) (handler (capped_sizes v) starts)
unfolding handler
handler-capped v starts =
    image-alike _ _ _ (then-alike _ _ _ _ (alike_refl _) (λ _. then-alike _ _ _ _ (alike_refl _) (λ _. then-alike _ _ _ _ (alike_refl _) (λ _.
    then-alike _ _ _ _ (pool_index-capped v.names) (λ _. pool_index-capped v.names)))))

body_with-alike : (v : Sizes) (p q : Part ℕ) → Alike p q → Alike (body_with v p) (body_with v q)
unfolding body_with
body_with-alike v p q h = image-alike _ _ _ (then-alike _ _ _ _ h (λ _. alike_refl _))

body_with-capped : (v : Sizes) (p : Part ℕ) → Alike (body_with v p) (body_with (capped_sizes v) p)
unfolding body_with
body_with-capped v p =
    image-alike _ _ _ (then-alike _ _ _ _ (alike_refl _) (λ _. then-alike _ _ _ _ (alike_refl _) (λ _. then-alike _ _ _ _ (alike_refl _) (λ _. then-alike _ _ _ _ (alike_refl _) (λ _.
    then-alike _ _ _ _ (alike_refl _) (λ _. then-alike _ _ _ _ (alike_refl _) (λ c.
    then-alike _ _ _ _ (counted-alike _ _ (handler-capped v c.offsets)) (λ _. counted-alike _ _ (trait_info-capped v)))))))))

body-capped : (v : Sizes) (taken : List ℕ) → Alike (body v taken) (body (capped_sizes v) taken)
unfolding body body_method
body-capped v taken =
    alike_trans _ _ _ (body_with-alike v (body_method v taken) (body_method (capped_sizes v) taken) (tested-alike _ _ _ _ (index_below-capped v.methods))) (body_with-capped v (body_method (capped_sizes v) taken))

chain-alike : {A : Type 0} (n : ℕ) (p q : List A → Part A) (before : List A) → ((xs : List A) → Alike (p xs) (q xs)) → Alike (chain n p before) (chain n q before)
chain-alike zero p q before h = alike_refl (chain zero p before)
chain-alike (suc n) p q before h = image-alike _ _ _ (then-alike (p before) (q before) _ _ (h before) (λ x. chain-alike n p q (before ++ x ∷ []) h))

pub body_list-capped : (v : Sizes) → Alike (body_list v) (body_list (capped_sizes v))
unfolding body_list
body_list-capped v = image-alike _ _ _ (then-alike _ _ _ _ (alike_refl u30) (λ n. chain-alike n _ _ [] (λ before. body-capped v (methods_of before))))

-- ---- flags

passed : {A : Type 0} (b : Bool) (x y : A × At) (e : Refusal) → cond b (Ok x) (Err e) ≡ Ok y → (b ≡ true) × (x ≡ y)
passed true x y e h = (refl, ok_is x y h)
passed false x y e h = absurd cc

index_read : (n : ℕ) (from : At) (x : ℕ) (after : At) → (index_below n).reads from ≡ Ok (x, after) → x < n
unfolding index_below
index_read n from x after h =
    let a = bind_ok (u30.reads from) _ (x, after) h in
    let b = passed (nat_lt a.0.0 n) a.0 (x, after) _ a.2 in
    let same : a.0.0 ≡ x = ap (λ (z : ℕ × At). z.0) b.1 in
    rw (← same) (ltb-true a.0.0 n b.0)

free_method-alike : (v : Sizes) (flags : List Bool) (taken : List ℕ) → length flags ≡ v.methods → IsFlagged flags taken → Alike (free_method v flags) (body_method v taken)
unfolding free_method body_method
free_method-alike v flags taken count flagged =
    checked-alike _ _ _ _ (λ from x after h.
    let lt = index_read v.methods from x after h in
    ap not (unwrap_or-slice_get flags x true ∙ flagged.each x (omega arith)))

pub free_body-alike : (v : Sizes) (flags : List Bool) (taken : List ℕ) → length flags ≡ v.methods → IsFlagged flags taken → Alike (free_body v flags) (body v taken)
unfolding free_body body
free_body-alike v flags taken count flagged = body_with-alike v (free_method v flags) (body_method v taken) (free_method-alike v flags taken count flagged)

pub no_flags : (n : ℕ) → IsFlagged (replicate n false) []
no_flags n = record { each = λ m lt. get_or-replicate n m false true (omega (arith, length-replicate n false)) }

or_true : (b : Bool) → (b || true) ≡ true
or_true true = refl
or_true false = refl

or_false : (b : Bool) → (b || false) ≡ b
or_false true = refl
or_false false = refl

one_more : (m n : ℕ) (taken : List ℕ) → list_any (nat_eq m) (taken ++ n ∷ []) ≡ (list_any (nat_eq m) taken || (nat_eq m n || false))
one_more m n taken = list_any-append (nat_eq m) taken (n ∷ [])

pub flags_up : (flags : List Bool) (taken : List ℕ) (n : ℕ) → n < length flags → IsFlagged flags taken → IsFlagged (set flags n true) (taken ++ n ∷ [])
flags_up flags taken n lt flagged = record { each = up } where
  up : (m : ℕ) → m < length (set flags n true) → get_or (set flags n true) m true ≡ list_any (nat_eq m) (taken ++ n ∷ [])
  up m h = elim (cases_eq m n) [
    | inl e ↦ let yes : nat_eq m n ≡ true = grind (arith, nat_tests) in get_or-set_at flags n m true true e lt ∙ sym (one_more m n taken ∙ rw yes (or_true (list_any (nat_eq m) taken)))
    | inr d ↦ let no : nat_eq m n ≡ false = grind (arith, nat_tests) in get_or-set_other flags n m true true d ∙ flagged.each m (omega (arith, h, length-set flags n true)) ∙ sym (one_more m n taken ∙ rw no (or_false (list_any (nat_eq m) taken)))
  ]

-- ---- the places themselves are kept

whole : {A B : Type 0} (r : Result ((A × B) × At) Refusal) → (r >>= λ x. Ok ((x.0.0, x.0.1), x.1)) ≡ r
whole (Ok x) = refl
whole (Err e) = refl

pub kept-alike : {A : Type 0} (p : Part (A × List (List ℕ))) → Alike (image (keeping (λ places. places)) p) p
kept-alike p = record { same = λ from. whole (p.reads from) }

pub places_kept : {E : Type 0} (r : Result (List (List ℕ)) E) (bodies : List Body) → IfOk r (λ x. KeepPlaces (λ (places : List (List ℕ)). places) bodies x) → IfOk r (λ x. ArePlaces bodies x)
places_kept (Ok x) bodies p = subst (ArePlaces bodies) (sym p.is) p.each
places_kept (Err e) bodies p = tt

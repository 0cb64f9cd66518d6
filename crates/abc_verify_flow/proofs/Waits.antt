-- Places that wait for a walk, and lists of nothing.
use Rattle.std.proofs.Common.{◌≡◌, ◌<◌, ◌≤◌, ℕ, suc, List, [], ◌∷◌, length, refl, sym, subst, arith, ◌⊎◌, inl, inr}
use Rattle.std.specs.Prelude.{Option, Some, None, IfSome, IsSome, MatchOption, ◌↔◌}
use Rattle.std.specs.BTreeSet.{insert_key}
use Rattle.std.specs.BTreeMap.Range.{IsLtBy}
use Rattle.std.specs.List.{All}
use Rattle.std.specs.Ordering.{match_ordering, nat_cmp}
use Rattle.std.specs.declared.cmp.Ordering.{Ordering}
use Rattle.std.specs.declared.cmp.Ordering.TheVariants.{Less, Equal, Greater}
use Rattle.std.proofs.lemmas.Cmp.{ranked}
use Rattle.std.proofs.lemmas.List.Elements.{All-head, All-tail}
use Rattle.std.proofs.lemmas.Map.Lookups.{exact_unsigned}
use Rattle.abc_verify_typing.specs.Typing.{In}
use Rattle.abc_verify_flow.specs.Waits.{IsPlaceAdded, IsLowestTaken}

-- ---- a place is put among others

key_in : (x : ℕ) (xs : List ℕ) → In x (insert_key nat_cmp xs x)
key_in x [] = inl refl
key_in x (y ∷ xs) = go (key_in x xs) (nat_cmp x y) refl
  where
    go : In x (insert_key nat_cmp xs x) → (o : Ordering) → nat_cmp x y ≡ o → In x (match_ordering o (x ∷ y ∷ xs) (y ∷ xs) (y ∷ insert_key nat_cmp xs x))
    go rec Less e = inl refl
    go rec Equal e = inl (exact_unsigned x y e)
    go rec Greater e = inr rec

key_keeps : (x : ℕ) (xs : List ℕ) (i : ℕ) → In i xs → In i (insert_key nat_cmp xs x)
key_keeps x [] i h = absurd h
key_keeps x (y ∷ xs) i h = go (λ k. key_keeps x xs i k) (nat_cmp x y) h
  where
    go : (In i xs → In i (insert_key nat_cmp xs x)) → (o : Ordering) → In i (y ∷ xs) → In i (match_ordering o (x ∷ y ∷ xs) (y ∷ xs) (y ∷ insert_key nat_cmp xs x))
    go rec Less k = inr k
    go rec Equal k = k
    go rec Greater (inl q) = inl q
    go rec Greater (inr k) = inr (rec k)

key_only : (x : ℕ) (xs : List ℕ) (i : ℕ) → In i (insert_key nat_cmp xs x) → (i ≡ x) ⊎ In i xs
key_only x [] i (inl q) = inl q
key_only x [] i (inr h) = absurd h
key_only x (y ∷ xs) i h = go (λ k. key_only x xs i k) (nat_cmp x y) h
  where
    go : (In i (insert_key nat_cmp xs x) → (i ≡ x) ⊎ In i xs) → (o : Ordering) → In i (match_ordering o (x ∷ y ∷ xs) (y ∷ xs) (y ∷ insert_key nat_cmp xs x)) → (i ≡ x) ⊎ In i (y ∷ xs)
    go rec Less (inl q) = inl q
    go rec Less (inr k) = inr k
    go rec Equal k = inr k
    go rec Greater (inl q) = inr (inl q)
    go rec Greater (inr k) = elim (rec k) [ inl q ↦ inl q | inr j ↦ inr (inr j) ]

key_most : (x : ℕ) (xs : List ℕ) → length (insert_key nat_cmp xs x) ≤ suc (length xs)
key_most x [] = omega arith
key_most x (y ∷ xs) = go (key_most x xs) (nat_cmp x y)
  where
    go : length (insert_key nat_cmp xs x) ≤ suc (length xs) → (o : Ordering) → length (match_ordering o (x ∷ y ∷ xs) (y ∷ xs) (y ∷ insert_key nat_cmp xs x)) ≤ suc (suc (length xs))
    go rec Less = omega arith
    go rec Equal = omega arith
    go rec Greater = omega (arith, rec)

pub added : (place : ℕ) (xs ys : List ℕ) → ys ≡ insert_key nat_cmp xs place → IsPlaceAdded place xs ys
added place xs ys e =
    subst (λ (zs : List ℕ). IsPlaceAdded place xs zs) (sym e)
    (record { has = key_in place xs; keeps = λ i h. key_keeps place xs i h; only = λ i h. key_only place xs i h; most = key_most place xs })

-- ---- the lowest is taken

all_in : (P : ℕ → Type 0) (xs : List ℕ) → All P xs → (i : ℕ) → In i xs → P i
all_in P [] a i h = absurd h
all_in P (x ∷ xs) a i (inl q) = subst P (sym q) (All-head P x xs a)
all_in P (x ∷ xs) a i (inr h) = all_in P xs (All-tail P x xs a) i h

pub taken : (place : ℕ) (xs ys : List ℕ) → xs ≡ place ∷ ys → All (IsLtBy nat_cmp place) ys → IsLowestTaken place xs ys
taken place xs ys e above = record { is = e; lowest = λ i h. ranked place i Less (sym (all_in (IsLtBy nat_cmp place) ys above i h)) }

pub nothing : {X : Type 0} (xs : List X) → length xs ≡ 0 → [] ≡ xs
nothing [] e = refl
nothing (x ∷ xs) e = absurd (omega arith)

none_waits : (xs : List ℕ) → (0 < length xs → ⊥) → xs ≡ []
none_waits [] h = refl
none_waits (x ∷ xs) h = absurd (h (omega arith))

pub popped : (r : Option ℕ) (xs ys : List ℕ) → IfSome r (λ k. xs ≡ k ∷ ys) → IfSome r (λ k. All (IsLtBy nat_cmp k) ys) → (IsSome r ↔ (0 < length xs)) → MatchOption r (xs ≡ []) (λ k. IsLowestTaken k xs ys)
popped (Some k) xs ys e above some = taken k xs ys e above
popped None xs ys e above some = none_waits xs (λ lt. let z : IsSome {T = ℕ} None = some.1 lt in absurd cc)

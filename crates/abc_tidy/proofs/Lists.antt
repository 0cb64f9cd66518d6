-- What stands in a list, and lists whose elements are related one by one.
use Rattle.std.proofs.Common.{◌≡◌, ℕ, zero, suc, ◌<◌, ◌⊎◌, inl, inr, List, [], ◌∷◌, ◌++◌, map, length, get_or, Bool, true, false, if◌then◌else◌, refl, sym, ap, subst, ◌∙◌, arith, true≢false}
use Rattle.abc_base_trees.specs.Orders.{StandsIn}

pub in_left : {A : Type 0} (xs ys : List A) (x : A) → StandsIn x xs → StandsIn x (xs ++ ys)
in_left [] ys x h = absurd h
in_left (y ∷ xs) ys x (inl e) = inl e
in_left (y ∷ xs) ys x (inr h) = inr (in_left xs ys x h)

pub in_right : {A : Type 0} (xs ys : List A) (x : A) → StandsIn x ys → StandsIn x (xs ++ ys)
in_right [] ys x h = h
in_right (y ∷ xs) ys x h = inr (in_right xs ys x h)

pub in_cases : {A : Type 0} (xs ys : List A) (x : A) → StandsIn x (xs ++ ys) → StandsIn x xs ⊎ StandsIn x ys
in_cases [] ys x h = inr h
in_cases (y ∷ xs) ys x (inl e) = inl (inl e)
in_cases {A} (y ∷ xs) ys x (inr h) = go (in_cases xs ys x h)
  where
    go : StandsIn x xs ⊎ StandsIn x ys → StandsIn x (y ∷ xs) ⊎ StandsIn x ys
    go (inl k) = inl (inr k)
    go (inr k) = inr k

pub in_at : {A : Type 0} (xs : List A) (i : ℕ) (d : A) → i < length xs → StandsIn (get_or xs i d) xs
in_at [] i d lt = absurd (none i lt)
  where
    none : (i : ℕ) → i < 0 → ⊥
    none i l = omega arith
in_at (x ∷ xs) zero d lt = inl refl
in_at (x ∷ xs) (suc i) d lt = inr (in_at xs i d (omega arith))

-- where a value stands
pub in_place : {A : Type 0} (xs : List A) (x d : A) → StandsIn x xs → (i : ℕ) × (i < length xs) × (get_or xs i d ≡ x)
in_place [] x d h = absurd h
in_place (y ∷ xs) x d (inl e) = (zero, omega arith, sym e)
in_place (y ∷ xs) x d (inr h) = let r = in_place xs x d h in (suc r.0, omega (arith, r.1), r.2)

-- ---- related one by one

abbrev pub Pairs : {A B : Type 0} → (A → B → Type 0) → List A → List B → Type 0
Pairs R [] [] = Unit {0}
Pairs R [] (y ∷ ys) = ⊥
Pairs R (x ∷ xs) [] = ⊥
Pairs R (x ∷ xs) (y ∷ ys) = R x y × Pairs R xs ys

pub pairs_append : {A B : Type 0} (R : A → B → Type 0) (xs : List A) (ys : List B) (us : List A) (vs : List B) → Pairs R xs ys → Pairs R us vs → Pairs R (xs ++ us) (ys ++ vs)
pairs_append R [] [] us vs p q = q
pairs_append R [] (y ∷ ys) us vs p q = absurd p
pairs_append R (x ∷ xs) [] us vs p q = absurd p
pairs_append R (x ∷ xs) (y ∷ ys) us vs p q = (p.0, pairs_append R xs ys us vs p.1 q)

pub pairs_if : {A B : Type 0} (R : A → B → Type 0) (b c : Bool) (xs : List A) (ys : List B) (us : List A) (vs : List B) → b ≡ c → Pairs R xs ys → Pairs R us vs → Pairs R (if b then xs else us) (if c then ys else vs)
pairs_if R true true xs ys us vs e p q = p
pairs_if R true false xs ys us vs e p q = absurd (true≢false e)
pairs_if R false true xs ys us vs e p q = absurd (true≢false (sym e))
pairs_if R false false xs ys us vs e p q = q

pub pairs_many : {A B : Type 0} (R : A → B → Type 0) (xs : List A) (ys : List B) → Pairs R xs ys → length xs ≡ length ys
pairs_many R [] [] p = refl
pairs_many R [] (y ∷ ys) p = absurd p
pairs_many R (x ∷ xs) [] p = absurd p
pairs_many R (x ∷ xs) (y ∷ ys) p = ap suc (pairs_many R xs ys p.1)

pub pairs_at : {A B : Type 0} (R : A → B → Type 0) (xs : List A) (ys : List B) (i : ℕ) (d : A) (e : B) → i < length xs → Pairs R xs ys → R (get_or xs i d) (get_or ys i e)
pairs_at R [] ys i d e lt p = absurd (none i lt)
  where
    none : (i : ℕ) → i < 0 → ⊥
    none i l = omega arith
pairs_at R (x ∷ xs) [] i d e lt p = absurd p
pairs_at R (x ∷ xs) (y ∷ ys) zero d e lt p = p.0
pairs_at R (x ∷ xs) (y ∷ ys) (suc i) d e lt p = pairs_at R xs ys i d e (omega arith) p.1

-- ---- maps

pub get_map : {A B : Type 0} (f : A → B) (xs : List A) (i : ℕ) (d : A) (e : B) → f d ≡ e → get_or (map f xs) i e ≡ f (get_or xs i d)
get_map f [] i d e is = sym is
get_map f (x ∷ xs) zero d e is = refl
get_map f (x ∷ xs) (suc i) d e is = get_map f xs i d e is

pub same_maps : {A B C D : Type 0} (f : B → D) (g : A → B) (h : C → D) (k : A → C) (xs : List A) → ((x : A) → f (g x) ≡ h (k x)) → map f (map g xs) ≡ map h (map k xs)
same_maps f g h k [] e = refl
same_maps f g h k (x ∷ xs) e = λ i. e x i ∷ same_maps f g h k xs e i

pub two_maps : {A B C : Type 0} (f : B → C) (g : A → B) (h : A → C) (xs : List A) → ((x : A) → f (g x) ≡ h x) → map f (map g xs) ≡ map h xs
two_maps f g h [] e = refl
two_maps f g h (x ∷ xs) e = λ i. e x i ∷ two_maps f g h xs e i

-- a property of each element
abbrev pub Each : {A : Type 0} → (A → Type 0) → List A → Type 0
Each P [] = Unit {0}
Each P (x ∷ xs) = P x × Each P xs

pub each_append : {A : Type 0} (P : A → Type 0) (xs ys : List A) → Each P xs → Each P ys → Each P (xs ++ ys)
each_append P [] ys p q = q
each_append P (x ∷ xs) ys p q = (p.0, each_append P xs ys p.1 q)

pub each_map : {A B : Type 0} (P : B → Type 0) (f : A → B) (xs : List A) → ((x : A) → StandsIn x xs → P (f x)) → Each P (map f xs)
each_map P f [] h = tt
each_map P f (x ∷ xs) h = (h x (inl refl), each_map P f xs (λ y l. h y (inr l)))

pub each_at : {A : Type 0} (P : A → Type 0) (xs : List A) (i : ℕ) (d : A) → P d → Each P xs → P (get_or xs i d)
each_at P [] i d h p = h
each_at P (x ∷ xs) zero d h p = p.0
each_at P (x ∷ xs) (suc i) d h p = each_at P xs i d h p.1

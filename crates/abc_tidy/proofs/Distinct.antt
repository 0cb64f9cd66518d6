-- No tree is met twice, and no two places of one pool have one number.
use Rattle.std.proofs.Common.{◌≡◌, ℕ, zero, suc, ◌+◌, ◌<◌, ◌≤◌, ◌⊎◌, inl, inr, List, [], ◌∷◌, ◌++◌, length, get_or, take, count_by, cond, nat_eq, Bool, true, false, ◌||◌, if◌then◌else◌, refl, sym, ap, subst, ◌∙◌, arith, true≢false}
use Rattle.std.proofs.lemmas.Bool.{cases_lt}
use Rattle.abc_base_trees.specs.Trees.{Tree, Leaf, Apply, tree_eq}
use Rattle.abc_base_trees.specs.Visits.{is_met, visit, visit_all, visit_parts}
use Rattle.abc_base_trees.proofs.TreeLaws.{trees_refl}
use Rattle.abc_base_trees.specs.Orders.{StandsIn}
use Rattle.abc_tidy.proofs.Lists.{in_at, in_cases}
use Rattle.abc_tidy.proofs.Rows.{count_cons, number_among_pools}

below_zero : (i : ℕ) → i < 0 → ⊥
below_zero i l = omega arith

abbrev pub Distinct : List Tree → Type 0
Distinct [] = Unit {0}
Distinct (x ∷ xs) = (StandsIn x xs → ⊥) × Distinct xs

distinct_push : (xs : List Tree) (x : Tree) → Distinct xs → (StandsIn x xs → ⊥) → Distinct (xs ++ x ∷ [])
distinct_push [] x d fresh = (λ h. h, tt)
distinct_push (y ∷ ys) x d fresh = (λ h. go (in_cases ys (x ∷ []) y h), distinct_push ys x d.1 (λ h. fresh (inr h)))
  where
    go : StandsIn y ys ⊎ StandsIn y (x ∷ []) → ⊥
    go (inl k) = d.0 k
    go (inr (inl e)) = fresh (inl (sym e))
    go (inr (inr k)) = k

pub distinct_at : (xs : List Tree) (i j : ℕ) (d : Tree) → Distinct xs → i < length xs → j < length xs → get_or xs i d ≡ get_or xs j d → i ≡ j
distinct_at [] i j d s l m e = absurd (below_zero i l)
distinct_at (x ∷ xs) zero zero d s l m e = refl
distinct_at (x ∷ xs) zero (suc j) d s l m e = absurd (s.0 (subst (λ y. StandsIn y xs) (sym e) (in_at xs j d (omega arith))))
distinct_at (x ∷ xs) (suc i) zero d s l m e = absurd (s.0 (subst (λ y. StandsIn y xs) e (in_at xs i d (omega arith))))
distinct_at (x ∷ xs) (suc i) (suc j) d s l m e = ap suc (distinct_at xs i j d s.1 (omega arith) (omega arith) e)

or_some : (b : Bool) → (b || true) ≡ true
or_some true = refl
or_some false = refl

met_of : (t : Tree) (met : List Tree) → StandsIn t met → is_met t met ≡ true
met_of t [] h = absurd h
met_of t (m ∷ met) (inl e) = ap (λ b. b || is_met t met) (subst (λ u. tree_eq t u ≡ true) e (trees_refl t))
met_of t (m ∷ met) (inr h) = ap (λ b. tree_eq t m || b) (met_of t met h) ∙ or_some (tree_eq t m)

not_met : (t : Tree) (met : List Tree) → is_met t met ≡ false → StandsIn t met → ⊥
not_met t met e h = true≢false (sym (met_of t met h) ∙ e)

parts_distinct : (t : Tree) (met : List Tree) → Distinct met → Distinct (visit_parts t met)
parts_distinct (Leaf h) met d = d
parts_distinct (Apply t part) met d = go (is_met part (visit_parts t met)) refl (parts_distinct t met d) (parts_distinct part (visit_parts t met ++ part ∷ []))
  where
    go : (b : Bool) → is_met part (visit_parts t met) ≡ b → Distinct (visit_parts t met) → (Distinct (visit_parts t met ++ part ∷ []) → Distinct (visit_parts part (visit_parts t met ++ part ∷ []))) → Distinct (if b then visit_parts t met else visit_parts part (visit_parts t met ++ part ∷ []))
    go true e s k = s
    go false e s k = k (distinct_push (visit_parts t met) part s (not_met part (visit_parts t met) e))

visit_distinct : (t : Tree) (met : List Tree) → Distinct met → Distinct (visit t met)
visit_distinct t met d = go (is_met t met) refl
  where
    go : (b : Bool) → is_met t met ≡ b → Distinct (if b then met else visit_parts t (met ++ t ∷ []))
    go true e = d
    go false e = parts_distinct t (met ++ t ∷ []) (distinct_push met t d (not_met t met e))

pub all_distinct : (ts met : List Tree) → Distinct met → Distinct (visit_all ts met)
all_distinct [] met d = d
all_distinct (t ∷ ts) met d = all_distinct ts (visit t met) (visit_distinct t met d)

-- ---- numbers

count_some : (test : ℕ → Bool) (xs : List ℕ) (j : ℕ) → j < length xs → test (get_or xs j 0) ≡ true → 0 < count_by test (take (suc j) xs)
count_some test [] j lt e = absurd (below_zero j lt)
count_some test (x ∷ xs) zero lt e =
    let f : cond {A = ℕ} (test x) 1 0 ≡ 1 = ap (λ b. cond {A = ℕ} b 1 0) e in
    let c : count_by test (take (suc zero) (x ∷ xs)) ≡ cond {A = ℕ} (test x) 1 0 + count_by test (take zero xs) = count_cons test x (take zero xs) in
    omega (arith, f, c)
count_some test (x ∷ xs) (suc j) lt e =
    let h = count_some test xs j (omega arith) e in
    let c : count_by test (take (suc (suc j)) (x ∷ xs)) ≡ cond {A = ℕ} (test x) 1 0 + count_by test (take (suc j) xs) = count_cons test x (take (suc j) xs) in
    omega (arith, h, c)

count_less : (test : ℕ → Bool) (xs : List ℕ) (i j : ℕ) → i < j → j < length xs → test (get_or xs j 0) ≡ true → count_by test (take (suc i) xs) < count_by test (take (suc j) xs)
count_less test [] i j l lt e = absurd (below_zero j lt)
count_less test (x ∷ xs) zero zero l lt e = absurd (below_zero 0 l)
count_less test (x ∷ xs) zero (suc j) l lt e =
    let h = count_some test xs j (omega arith) e in
    let a : count_by test (take (suc zero) (x ∷ xs)) ≡ cond {A = ℕ} (test x) 1 0 + 0 = count_cons test x (take zero xs) in
    let b : count_by test (take (suc (suc j)) (x ∷ xs)) ≡ cond {A = ℕ} (test x) 1 0 + count_by test (take (suc j) xs) = count_cons test x (take (suc j) xs) in
    omega (arith, h, a, b)
count_less test (x ∷ xs) (suc i) zero l lt e = absurd (below_zero (suc i) l)
count_less test (x ∷ xs) (suc i) (suc j) l lt e =
    let h = count_less test xs i j (omega arith) (omega arith) e in
    let a : count_by test (take (suc (suc i)) (x ∷ xs)) ≡ cond {A = ℕ} (test x) 1 0 + count_by test (take (suc i) xs) = count_cons test x (take (suc i) xs) in
    let b : count_by test (take (suc (suc j)) (x ∷ xs)) ≡ cond {A = ℕ} (test x) 1 0 + count_by test (take (suc j) xs) = count_cons test x (take (suc j) xs) in
    omega (arith, h, a, b)

-- what is the number of a place whose pool is known
pub number_in_pool : (pools : List ℕ) (i q : ℕ) → get_or pools i 0 ≡ q → nat_eq q 0 ≡ false → number_among_pools pools i ≡ count_by (λ p. nat_eq p q) (take (suc i) pools)
number_in_pool pools i q at z =
    let one : i + 1 ≡ suc i = omega arith in
    ap (λ k. if nat_eq k 0 then 0 else count_by (λ p. nat_eq p k) (take (i + 1) pools)) at
    ∙ ap (λ b. if b then 0 else count_by (λ p. nat_eq p q) (take (i + 1) pools)) z
    ∙ ap (λ n. count_by (λ p. nat_eq p q) (take n pools)) one

-- it is not 0
pub some_number : (pools : List ℕ) (i q : ℕ) → i < length pools → get_or pools i 0 ≡ q → nat_eq q 0 ≡ false → nat_eq q q ≡ true → 0 < number_among_pools pools i
some_number pools i q lt at z r =
    let h = count_some (λ p. nat_eq p q) pools i lt (ap (λ p. nat_eq p q) at ∙ r) in
    subst (λ n. 0 < n) (sym (number_in_pool pools i q at z)) h

pub one_number : (pools : List ℕ) (i j q : ℕ) → i < length pools → j < length pools → get_or pools i 0 ≡ q → get_or pools j 0 ≡ q → nat_eq q 0 ≡ false → nat_eq q q ≡ true → number_among_pools pools i ≡ number_among_pools pools j → i ≡ j
one_number pools i j q l m at at2 z r e = go (cases_lt i j) (cases_lt j i)
  where
    same : count_by (λ p. nat_eq p q) (take (suc i) pools) ≡ count_by (λ p. nat_eq p q) (take (suc j) pools)
    same = sym (number_in_pool pools i q at z) ∙ e ∙ number_in_pool pools j q at2 z

    less : i < j → ⊥
    less lt = let h = count_less (λ p. nat_eq p q) pools i j lt m (ap (λ p. nat_eq p q) at2 ∙ r) in omega (arith, same, h)

    more : j < i → ⊥
    more lt = let h = count_less (λ p. nat_eq p q) pools j i lt l (ap (λ p. nat_eq p q) at ∙ r) in omega (arith, same, h)

    go : (i < j) ⊎ (j ≤ i) → (j < i) ⊎ (i ≤ j) → i ≡ j
    go (inl lt) k = absurd (less lt)
    go (inr le) (inl lt) = absurd (more lt)
    go (inr le) (inr ge) = omega arith

-- Pairs of values of a list that clash, and the first place of a key.
use Rattle.std.proofs.Common.{◌≡◌, ℕ, zero, suc, ◌+◌, ◌<◌, ◌≤◌, Bool, true, false, List, [], ◌∷◌, ◌||◌, Some, cond, map, length, get_or, refl, ap, ◌∙◌, arith}
use Rattle.std.specs.List.{list_any}
use Rattle.std.proofs.lemmas.Bool.{false≢true}
use Rattle.abc_base_graphs.specs.Index.{first_from, first}
use Rattle.abc_link_names.specs.ItemTypes.{any_pair}

-- ---- some value passes a test

pub any_found : {A : Type 0} (p : A → Bool) (xs : List A) (d : A) → list_any p xs ≡ true → (j : ℕ) × (j < length xs) × (p (get_or xs j d) ≡ true)
any_found p [] d e = absurd (false≢true e)
any_found p (x ∷ xs) d e = go (any_found p xs d) (p x) refl e
  where
    go : (list_any p xs ≡ true → (j : ℕ) × (j < length xs) × (p (get_or xs j d) ≡ true)) → (b : Bool) → p x ≡ b → (b || list_any p xs) ≡ true → (j : ℕ) × (j < length (x ∷ xs)) × (p (get_or (x ∷ xs) j d) ≡ true)
    go more true is f = (0, omega arith, is)
    go more false is f = let m = more f in (suc m.0, let h = m.1 in omega arith, m.2)

pub any_makes : {A : Type 0} (p : A → Bool) (xs : List A) (d : A) (j : ℕ) → j < length xs → p (get_or xs j d) ≡ true → list_any p xs ≡ true
any_makes p [] d j lt e = absurd (omega arith)
any_makes p (x ∷ xs) d zero lt e = ap (λ b. b || list_any p xs) e
any_makes p (x ∷ xs) d (suc j) lt e = go (p x) (any_makes p xs d j (omega arith) e)
  where
    go : (b : Bool) → list_any p xs ≡ true → (b || list_any p xs) ≡ true
    go true f = refl
    go false f = f

pub any_map : {A B : Type 0} (p : B → Bool) (q : A → Bool) (f : A → B) → ((x : A) → p (f x) ≡ q x) → (xs : List A) → list_any p (map f xs) ≡ list_any q xs
any_map p q f same [] = refl
any_map p q f same (x ∷ xs) = ap (λ b. b || list_any p (map f xs)) (same x) ∙ ap (λ b. q x || b) (any_map p q f same xs)

-- ---- some pair clashes

pub pair_found : {A : Type 0} (clash : A → A → Bool) (xs : List A) (d : A) → any_pair clash xs ≡ true → (a : ℕ) × (b : ℕ) × (a < b) × (b < length xs) × (clash (get_or xs a d) (get_or xs b d) ≡ true)
pair_found clash [] d e = absurd (false≢true e)
pair_found clash (x ∷ xs) d e = go (any_found (clash x) xs d) (pair_found clash xs d) (list_any (clash x) xs) refl e
  where
    go : (list_any (clash x) xs ≡ true → (j : ℕ) × (j < length xs) × (clash x (get_or xs j d) ≡ true))
        → (any_pair clash xs ≡ true → (a : ℕ) × (b : ℕ) × (a < b) × (b < length xs) × (clash (get_or xs a d) (get_or xs b d) ≡ true))
        → (c : Bool) → list_any (clash x) xs ≡ c → (c || any_pair clash xs) ≡ true
        → (a : ℕ) × (b : ℕ) × (a < b) × (b < length (x ∷ xs)) × (clash (get_or (x ∷ xs) a d) (get_or (x ∷ xs) b d) ≡ true)
    go here more true is f = let m = here is in (0, suc m.0, omega arith, let h = m.1 in omega arith, m.2)
    go here more false is f = let m = more f in (suc m.0, suc m.1, let h = m.2 in omega arith, let h = m.3 in omega arith, m.4)

pub pair_makes : {A : Type 0} (clash : A → A → Bool) (xs : List A) (d : A) (a b : ℕ) → a < b → b < length xs → clash (get_or xs a d) (get_or xs b d) ≡ true → any_pair clash xs ≡ true
pair_makes clash [] d a b lt within e = absurd (omega arith)
pair_makes clash (x ∷ xs) d a zero lt within e = absurd (omega arith)
pair_makes clash (x ∷ xs) d zero (suc b) lt within e = ap (λ c. c || any_pair clash xs) (any_makes (clash x) xs d b (omega arith) e)
pair_makes clash (x ∷ xs) d (suc a) (suc b) lt within e = go (list_any (clash x) xs) (pair_makes clash xs d a b (omega arith) (omega arith) e)
  where
    go : (c : Bool) → any_pair clash xs ≡ true → (c || any_pair clash xs) ≡ true
    go true f = refl
    go false f = f

pub pair_map : {A B : Type 0} (g : B → B → Bool) (h : A → A → Bool) (f : A → B) → ((x y : A) → g (f x) (f y) ≡ h x y) → (xs : List A) → any_pair g (map f xs) ≡ any_pair h xs
pair_map g h f same [] = refl
pair_map g h f same (x ∷ xs) =
    ap (λ b. b || any_pair g (map f xs)) (any_map (g (f x)) (h x) f (same x) xs)
    ∙ ap (λ b. list_any (h x) xs || b) (pair_map g h f same xs)

-- ---- the first place that passes

from_hit : {K : Type 0} (test : K → Bool) (n : ℕ) (xs : List K) (d : K) (j : ℕ) → first_from test n xs ≡ Some j → (p : ℕ) × (j ≡ n + p) × (p < length xs) × (test (get_or xs p d) ≡ true)
from_hit test n [] d j e = cc
from_hit test n (x ∷ xs) d j e = go (from_hit test (n + 1) xs d j) (test x) refl e
  where
    go : (first_from test (n + 1) xs ≡ Some j → (p : ℕ) × (j ≡ n + 1 + p) × (p < length xs) × (test (get_or xs p d) ≡ true))
        → (b : Bool) → test x ≡ b → cond b (Some n) (first_from test (n + 1) xs) ≡ Some j → (p : ℕ) × (j ≡ n + p) × (p < length (x ∷ xs)) × (test (get_or (x ∷ xs) p d) ≡ true)
    go more true is f = let q : n ≡ j = cc in (0, omega arith, omega arith, is)
    go more false is f = let m = more f in (suc m.0, let h = m.1 in omega arith, let h = m.2 in omega arith, m.3)

pub first_hit : {K : Type 0} (test : K → Bool) (xs : List K) (d : K) (j : ℕ) → first test xs ≡ Some j → (j < length xs) × (test (get_or xs j d) ≡ true)
first_hit test xs d j e =
    let m = from_hit test 0 xs d j e in
    let q : j ≡ m.0 = let h = m.1 in omega arith in
    (let h = m.2 in omega arith, ap (λ i. test (get_or xs i d)) q ∙ m.3)

from_found : {K : Type 0} (test : K → Bool) (n : ℕ) (xs : List K) (d : K) (i : ℕ) → i < length xs → test (get_or xs i d) ≡ true → (j : ℕ) × (first_from test n xs ≡ Some j) × (j ≤ n + i)
from_found test n [] d i lt e = absurd (omega arith)
from_found test n (x ∷ xs) d zero lt e = (n, ap (λ b. cond b (Some n) (first_from test (n + 1) xs)) e, omega arith)
from_found test n (x ∷ xs) d (suc i) lt e = go (from_found test (n + 1) xs d i (omega arith) e) (test x)
  where
    go : (j : ℕ) × (first_from test (n + 1) xs ≡ Some j) × (j ≤ n + 1 + i) → (b : Bool) → (j : ℕ) × (cond b (Some n) (first_from test (n + 1) xs) ≡ Some j) × (j ≤ n + suc i)
    go m true = (n, refl, omega arith)
    go m false = (m.0, m.1, let h = m.2 in omega arith)

-- where some place passes, the first is found, and stands no later
pub first_found : {K : Type 0} (test : K → Bool) (xs : List K) (d : K) (i : ℕ) → i < length xs → test (get_or xs i d) ≡ true → (j : ℕ) × (first test xs ≡ Some j) × (j ≤ i)
first_found test xs d i lt e = let m = from_found test 0 xs d i lt e in (m.0, m.1, let h = m.2 in omega arith)

pub first_low : {K : Type 0} (test : K → Bool) (xs : List K) (d : K) (i j : ℕ) → i < length xs → test (get_or xs i d) ≡ true → first test xs ≡ Some j → j ≤ i
first_low test xs d i j lt e f = let m = first_found test xs d i lt e in let q : m.0 ≡ j = let h = m.1 in cc in let h = m.2 in omega arith

pub few_pairs : {A : Type 0} (clash : A → A → Bool) (xs : List A) → length xs < 2 → any_pair clash xs ≡ false
few_pairs clash [] h = refl
few_pairs clash (x ∷ []) h = refl
few_pairs clash (x ∷ y ∷ xs) h = absurd (omega arith)

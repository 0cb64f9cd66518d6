-- Equal texts have equal numbers, and unequal ones unequal numbers.
use Rattle.std.proofs.Common.{◌≡◌, ℕ, zero, suc, ◌+◌, ◌<◌, ◌≤◌, ◌⊎◌, inl, inr, Bool, true, false, ◌&&◌, List, [], ◌∷◌, Some, nat_eq, eq-eqb, eqb-true, cond, unwrap_or, map, length, get_or, take, refl, sym, ap, subst, ◌∙◌, arith}
use Rattle.std.specs.Str.{bytes_eq}
use Rattle.std.proofs.lemmas.Bool.{cases_lt, false≢true}
use Rattle.std.proofs.lemmas.List.{get_or-map, get_or_past, length-map, take_all}
use Rattle.abc_base_graphs.specs.Index.{first_from, first}
use Rattle.abc_base_graphs.specs.Texts.{HasTexts, AreNumbersOf, number_in, number_among, numbers_in, texts_of}
use Rattle.abc_base_graphs.specs.declared.texts.Texts.{Texts}

pub same_bytes : (a b : List ℕ) → bytes_eq a b ≡ true → a ≡ b
same_bytes [] [] e = refl
same_bytes [] (y ∷ ys) e = absurd (false≢true e)
same_bytes (x ∷ xs) [] e = absurd (false≢true e)
same_bytes (x ∷ xs) (y ∷ ys) e = go (same_bytes xs ys) (nat_eq x y) refl e
  where
    go : (bytes_eq xs ys ≡ true → xs ≡ ys) → (b : Bool) → nat_eq x y ≡ b → (b && bytes_eq xs ys) ≡ true → (x ∷ xs) ≡ (y ∷ ys)
    go more true is f = let p = eqb-true x y is in let q = more f in cc
    go more false is f = absurd (false≢true f)

pub bytes_self : (a : List ℕ) → bytes_eq a a ≡ true
bytes_self [] = refl
bytes_self (x ∷ xs) = ap (λ b. b && bytes_eq xs xs) (eq-eqb x x refl) ∙ bytes_self xs

pub both_ways : (a b : Bool) → (a ≡ true → b ≡ true) → (b ≡ true → a ≡ true) → a ≡ b
both_ways true true f g = refl
both_ways false false f g = refl
both_ways true false f g = sym (f refl)
both_ways false true f g = g refl

-- where some text passes, the first that passes is found
pub first_finds : (test : List ℕ → Bool) (n : ℕ) (xs : List (List ℕ)) (j : ℕ) → j < length xs → test (get_or xs j []) ≡ true → (p : ℕ) × (first_from test n xs ≡ Some (n + p)) × (test (get_or xs p []) ≡ true)
first_finds test n [] j lt e = absurd (omega arith)
first_finds test n (x ∷ xs) zero lt e = (0, ap (λ b. cond b (Some n) (first_from test (n + 1) xs)) e ∙ ap Some (omega arith), e)
first_finds test n (x ∷ xs) (suc j) lt e = go (first_finds test (n + 1) xs j (omega arith) e) (test x) refl
  where
    go : (p : ℕ) × (first_from test (n + 1) xs ≡ Some (n + 1 + p)) × (test (get_or xs p []) ≡ true) → (b : Bool) → test x ≡ b → (p : ℕ) × (cond b (Some n) (first_from test (n + 1) xs) ≡ Some (n + p)) × (test (get_or (x ∷ xs) p []) ≡ true)
    go m true is = (0, ap Some (omega arith), is)
    go m false is = (suc m.0, m.1 ∙ ap Some (omega arith), m.2)

-- the number of a text leads back to it
pub leads_back : (strings : List (List ℕ)) (i : ℕ) → get_or (texts_of strings) i [] ≡ get_or (texts_of strings) (number_among (texts_of strings) (get_or (texts_of strings) i [])) []
leads_back strings i = go (cases_lt i (length (texts_of strings)))
  where
    t : List ℕ
    t = get_or (texts_of strings) i []

    at : (j : ℕ) → j < length (texts_of strings) → bytes_eq t (get_or (texts_of strings) j []) ≡ true → t ≡ get_or (texts_of strings) (number_among (texts_of strings) t) []
    at j lt e =
        let f = first_finds (bytes_eq t) 0 (texts_of strings) j lt e in
        let n : number_among (texts_of strings) t ≡ f.0 = ap (λ o. unwrap_or o 0) f.1 ∙ omega arith in
        same_bytes t (get_or (texts_of strings) f.0 []) f.2 ∙ sym (ap (λ m. get_or (texts_of strings) m []) n)

    go : (i < length (texts_of strings)) ⊎ (length (texts_of strings) ≤ i) → t ≡ get_or (texts_of strings) (number_among (texts_of strings) t) []
    go (inl lt) = at i lt (bytes_self t)
    go (inr le) = let e : t ≡ [] = get_or_past (texts_of strings) i [] le in at 0 (omega arith) (ap (λ a. bytes_eq a []) e)

law : (strings : List (List ℕ)) (i j : ℕ) → nat_eq (number_among (texts_of strings) (get_or (texts_of strings) i [])) (number_among (texts_of strings) (get_or (texts_of strings) j [])) ≡ bytes_eq (get_or (texts_of strings) i []) (get_or (texts_of strings) j [])
law strings i j = both_ways _ _
    (λ e.
    let n = eqb-true (number_among (texts_of strings) (get_or (texts_of strings) i [])) (number_among (texts_of strings) (get_or (texts_of strings) j [])) e in
    let q : get_or (texts_of strings) i [] ≡ get_or (texts_of strings) j [] = leads_back strings i ∙ ap (λ m. get_or (texts_of strings) m []) n ∙ sym (leads_back strings j) in
    subst (λ (b : List ℕ). bytes_eq (get_or (texts_of strings) i []) b ≡ true) q (bytes_self (get_or (texts_of strings) i [])))
    (λ e.
    let q = same_bytes (get_or (texts_of strings) i []) (get_or (texts_of strings) j []) e in
    eq-eqb _ _ (ap (number_among (texts_of strings)) q))

-- the number at an index, past the end too
number_at_index : (t : Texts) (strings : List (List ℕ)) (i : ℕ) → HasTexts t (texts_of strings)
    → get_or (numbers_in t strings) i 0 ≡ number_among (texts_of strings) (get_or (texts_of strings) i [])
number_at_index t strings zero h = refl
number_at_index t strings (suc i) h = go (cases_lt i (length strings))
  where
    go : (i < length strings) ⊎ (length strings ≤ i) → get_or (map (λ s. unwrap_or (number_in t s) 0) strings) i 0 ≡ number_among (texts_of strings) (get_or strings i [])
    go (inl lt) = get_or-map (λ (s : List ℕ). unwrap_or (number_in t s) 0) strings i [] 0 lt ∙ ap (λ o. unwrap_or o 0) (h.has (get_or strings i []))
    go (inr le) =
        let long : length (map (λ (s : List ℕ). unwrap_or (number_in t s) 0) strings) ≤ i = omega (arith, length-map strings (λ (s : List ℕ). unwrap_or (number_in t s) 0)) in
        let e : get_or strings i [] ≡ [] = get_or_past strings i [] le in
        get_or_past (map (λ (s : List ℕ). unwrap_or (number_in t s) 0) strings) i 0 long ∙ sym (ap (number_among (texts_of strings)) e)

pub numbers_law : (t : Texts) (strings : List (List ℕ)) (numbers : List ℕ) → HasTexts t (texts_of strings) → numbers ≡ numbers_in t strings → AreNumbersOf numbers strings
numbers_law t strings numbers h e = record {
  same = λ i j.
      ap (λ (l : List ℕ). nat_eq (get_or l i 0) (get_or l j 0)) e
      ∙ ap (λ n. nat_eq n (get_or (numbers_in t strings) j 0)) (number_at_index t strings i h)
      ∙ ap (nat_eq (number_among (texts_of strings) (get_or (texts_of strings) i []))) (number_at_index t strings j h)
      ∙ law strings i j;
}

-- the same, at the end of the loop
pub numbers_whole : (t : Texts) (strings items : List (List ℕ)) (numbers : List ℕ) (n : ℕ) → numbers ≡ numbers_in t (take n items) → items ≡ strings → length items ≤ n → numbers ≡ numbers_in t strings
numbers_whole t strings items numbers n e same le = e ∙ ap (numbers_in t) (take_all n items le ∙ same)

-- what is found first passes
found_from : (test : List ℕ → Bool) (n : ℕ) (xs : List (List ℕ)) (k : ℕ) → first_from test n xs ≡ Some k → (p : ℕ) × (k ≡ n + p) × (test (get_or xs p []) ≡ true)
found_from test n [] k e = cc
found_from test n (x ∷ xs) k e = go (found_from test (n + 1) xs k) (test x) refl e
  where
    go : (first_from test (n + 1) xs ≡ Some k → (p : ℕ) × (k ≡ n + 1 + p) × (test (get_or xs p []) ≡ true)) → (b : Bool) → test x ≡ b → cond b (Some n) (first_from test (n + 1) xs) ≡ Some k → (p : ℕ) × (k ≡ n + p) × (test (get_or (x ∷ xs) p []) ≡ true)
    go more true is f = let q : n ≡ k = cc in (0, omega arith, is)
    go more false is f = let m = more f in (suc m.0, let h = m.1 in omega arith, m.2)

pub found_at : (test : List ℕ → Bool) (xs : List (List ℕ)) (k : ℕ) → first test xs ≡ Some k → test (get_or xs k []) ≡ true
found_at test xs k e = let f = found_from test 0 xs k e in let q : k ≡ f.0 = let h = f.1 in omega arith in ap (λ m. test (get_or xs m [])) q ∙ f.2

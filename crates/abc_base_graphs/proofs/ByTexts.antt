-- The places of a text, by its number.
use Rattle.std.proofs.Common.{◌≡◌, ℕ, ◌+◌, Bool, true, false, List, [], ◌∷◌, Some, None, nat_eq, eq-eqb, eqb-true, cond, unwrap_or, map, get_or, refl, sym, ap, ◌∙◌, length, ◌<◌, ◌≤◌, ◌⊎◌, inl, inr, arith}
use Rattle.std.specs.Str.{bytes_eq}
use Rattle.std.proofs.lemmas.Bool.{cases_lt}
use Rattle.std.proofs.lemmas.List.{get_or_past}
use Rattle.indexmap.specs.IndexMap.{get}
use Rattle.abc_base_graphs.specs.Index.{first}
use Rattle.abc_base_graphs.specs.Groups.{places_from, places_of, some_places, GroupMap}
use Rattle.abc_base_graphs.specs.Texts.{HasTexts, number_in, number_among, texts_of}
use Rattle.abc_base_graphs.specs.ByText.{GroupsTexts, names_of}
use Rattle.abc_base_graphs.specs.declared.texts.Texts.{Texts}
use Rattle.abc_base_graphs.proofs.Numbering.{same_bytes, bytes_self, leads_back, both_ways, found_at, first_finds}

-- two tests that agree on each string of a list find the same places
places_agree : (strings : List (List ℕ)) (p : ℕ → Bool) (q : List ℕ → Bool) → ((i : ℕ) → p (number_among (texts_of strings) (get_or (texts_of strings) i [])) ≡ q (get_or (texts_of strings) i []))
    → (n : ℕ) (names : List ℕ) → places_from p n (map (number_among (texts_of strings)) (names_of strings names)) ≡ places_from q n (names_of strings names)
places_agree strings p q agree n [] = refl
places_agree strings p q agree n (i ∷ names) =
    let t = get_or (texts_of strings) i [] in
    let rest = places_agree strings p q agree (n + 1) names in
    ap (λ (l : List ℕ). cond (p (number_among (texts_of strings) t)) (n ∷ l) l) rest
    ∙ ap (λ b. cond b (n ∷ places_from q (n + 1) (names_of strings names)) (places_from q (n + 1) (names_of strings names))) (agree i)

-- a text that has a number is equal to just those strings that have it too
agrees : (t : Texts) (strings : List (List ℕ)) (text : List ℕ) (k : ℕ) → HasTexts t (texts_of strings) → number_in t text ≡ Some k → (i : ℕ) → nat_eq k (number_among (texts_of strings) (get_or (texts_of strings) i [])) ≡ bytes_eq text (get_or (texts_of strings) i [])
agrees t strings text k h e i =
    let f : first (bytes_eq text) (texts_of strings) ≡ Some k = sym (h.has text) ∙ e in
    let at : text ≡ get_or (texts_of strings) k [] = same_bytes text (get_or (texts_of strings) k []) (found_at (bytes_eq text) (texts_of strings) k f) in
    let mine : number_among (texts_of strings) text ≡ k = ap (λ o. unwrap_or o 0) f in
    both_ways _ _
    (λ s. let n = eqb-true k (number_among (texts_of strings) (get_or (texts_of strings) i [])) s in
    let q : text ≡ get_or (texts_of strings) i [] = at ∙ ap (λ m. get_or (texts_of strings) m []) n ∙ sym (leads_back strings i) in
    ap (bytes_eq text) (sym q) ∙ bytes_self text)
    (λ s. let q = same_bytes text (get_or (texts_of strings) i []) s in eq-eqb _ _ (sym mine ∙ ap (number_among (texts_of strings)) q))

pub same_places : (t : Texts) (strings : List (List ℕ)) (groups : GroupMap) (names text : List ℕ) (k : ℕ) → GroupsTexts t strings groups names → number_in t text ≡ Some k → get nat_eq groups k ≡ some_places (places_of (bytes_eq text) (names_of strings names))
same_places t strings groups names text k g e = g.grouped.groups k ∙ ap some_places (places_agree strings (nat_eq k) (bytes_eq text) (agrees t strings text k g.texts e) 0 names)

-- a text without a number is equal to no string
differs : (t : Texts) (strings : List (List ℕ)) (text : List ℕ) → HasTexts t (texts_of strings) → number_in t text ≡ None → (i : ℕ) → bytes_eq text (get_or (texts_of strings) i []) ≡ false
differs t strings text h e i = go (bytes_eq text (get_or (texts_of strings) i [])) refl (cases_lt i (length (texts_of strings)))
  where
    none : first (bytes_eq text) (texts_of strings) ≡ None
    none = sym (h.has text) ∙ e

    never : (j : ℕ) → j < length (texts_of strings) → bytes_eq text (get_or (texts_of strings) j []) ≡ true → ⊥
    never j lt is = let f = first_finds (bytes_eq text) 0 (texts_of strings) j lt is in let g : Some (0 + f.0) ≡ None = sym f.1 ∙ none in cc

    go : (b : Bool) → bytes_eq text (get_or (texts_of strings) i []) ≡ b → (i < length (texts_of strings)) ⊎ (length (texts_of strings) ≤ i) → bytes_eq text (get_or (texts_of strings) i []) ≡ false
    go false is c = is
    go true is (inl lt) = absurd (never i lt is)
    go true is (inr le) = absurd (never 0 (omega arith) (ap (bytes_eq text) (sym (get_or_past (texts_of strings) i [] le)) ∙ is))

places_none : (strings : List (List ℕ)) (text : List ℕ) → ((i : ℕ) → bytes_eq text (get_or (texts_of strings) i []) ≡ false) → (n : ℕ) (names : List ℕ) → places_from (bytes_eq text) n (names_of strings names) ≡ []
places_none strings text unlike n [] = refl
places_none strings text unlike n (i ∷ names) =
    ap (λ b. cond b (n ∷ places_from (bytes_eq text) (n + 1) (names_of strings names)) (places_from (bytes_eq text) (n + 1) (names_of strings names))) (unlike i)
    ∙ places_none strings text unlike (n + 1) names

pub no_places : (t : Texts) (strings : List (List ℕ)) (groups : GroupMap) (names text : List ℕ) → GroupsTexts t strings groups names → number_in t text ≡ None → None ≡ some_places (places_of (bytes_eq text) (names_of strings names))
no_places t strings groups names text g e = ap some_places (sym (places_none strings text (differs t strings text g.texts e) 0 names))

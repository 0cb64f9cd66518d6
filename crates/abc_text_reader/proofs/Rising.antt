-- Methods whose numbers rise.
use Rattle.std.proofs.Common.{◌≡◌, ℕ, ◌+◌, ◌<◌, ◌≤◌, ◌⊎◌, inl, inr, Bool, true, false, cond, List, [], ◌∷◌, ◌++◌, length, get_or, map, take, refl, sym, ap, ◌∙◌, arith}
use Rattle.std.specs.Borrow.{Bor}
use Rattle.std.specs.Str.{bytes_eq}
use Rattle.std.proofs.lemmas.List.{map-append, take_more}
use Rattle.std.proofs.lemmas.Slice.Eq.{bytes_eq-Decides}
use Rattle.abc_text_lines.proofs.Bools.{split_bool}
use Rattle.abc_text_lines.specs.Operands.{number_of_digits}
use Rattle.abc_text_lines.specs.Texts.{is_text_among}
use Rattle.abc_text_tokens.specs.Names.{NameMap}
use Rattle.abc_text_reader.specs.Names.{AreBelow, Same, key_of_entry, names_in, texts_of_names}
use Rattle.abc_text_reader.proofs.Seen.{among_append, among_last, none_there, same_behind}
use Rattle.abc_text_reader.proofs.SetLines.{same_one}

-- one of two
either_true : (a b : Bool) → cond a true b ≡ true → (a ≡ true) ⊎ (b ≡ true)
either_true true b e = inl refl
either_true false b e = inr e

-- one more behind some
one_more : (names : List (Bor (List ℕ))) (k : Bor (List ℕ)) (new : List (Bor (List ℕ))) → new ≡ names ++ k ∷ [] → texts_of_names new ≡ texts_of_names names ++ k.now ∷ []
one_more names k new e = ap texts_of_names e ∙ map-append (λ (name : Bor (List ℕ)). name.now) names (k ∷ [])

-- ---- a method whose number is above those of all before it

-- it is not among them
apart : (bound : ℕ) (names : List (List ℕ)) (name : List ℕ) → AreBelow bound names → bound ≤ number_of_digits name → is_text_among name names ≡ false
apart bound names name below above =
    elim (split_bool (is_text_among name names)) [
      | inl is ↦ (let lt = below name is in absurd (omega (arith, lt, above)))
      | inr none ↦ none
    ]

pub was_none : (rising : List (Bor (List ℕ))) (bound : ℕ) (others : NameMap Bool) (all : List (List ℕ)) (name : List ℕ) → AreBelow bound (texts_of_names rising) → length others.entries ≡ 0 → texts_of_names rising ++ names_in others ≡ all → bound ≤ number_of_digits name → false ≡ is_text_among name all
was_none rising bound others all name below none view above =
    let first : is_text_among name (texts_of_names rising) ≡ false = apart bound (texts_of_names rising) name below above in
    let rest : is_text_among name (names_in others) ≡ false = ap (is_text_among name) (none_there others none) in
    let both : is_text_among name (texts_of_names rising ++ names_in others) ≡ false = among_append name (texts_of_names rising) (names_in others) ∙ ap (λ (b : Bool). cond b true (is_text_among name (names_in others))) first ∙ rest in
    sym both ∙ ap (is_text_among name) view

pub is_more : (rising new : List (Bor (List ℕ))) (others : NameMap Bool) (all : List (List ℕ)) (k : Bor (List ℕ)) → new ≡ rising ++ k ∷ [] → texts_of_names rising ++ names_in others ≡ all → Same (texts_of_names new ++ names_in others) (k.now ∷ all)
is_more rising new others all k e view name =
    ap (λ (front : List (List ℕ)). is_text_among name (front ++ names_in others)) (one_more rising k new e)
    ∙ same_behind (texts_of_names rising ++ k.now ∷ []) (k.now ∷ texts_of_names rising) (names_in others) (among_last k.now (texts_of_names rising)) name
    ∙ ap (λ (names : List (List ℕ)). is_text_among name (k.now ∷ names)) view

pub still_below : (rising new : List (Bor (List ℕ))) (bound after : ℕ) (k : Bor (List ℕ)) → new ≡ rising ++ k ∷ [] → AreBelow bound (texts_of_names rising) → bound ≤ number_of_digits k.now → number_of_digits k.now < after → AreBelow after (texts_of_names new)
still_below rising new bound after k e below above lt name is =
    let one : cond (bytes_eq k.now name) true (is_text_among name (texts_of_names rising)) ≡ true = sym (among_last k.now (texts_of_names rising) name) ∙ sym (ap (is_text_among name) (one_more rising k new e)) ∙ is in
    elim (either_true (bytes_eq k.now name) (is_text_among name (texts_of_names rising)) one) [
      | inl same ↦ (let number : number_of_digits k.now ≡ number_of_digits name = ap number_of_digits ((bytes_eq-Decides k.now name).0 same) in omega (arith, number, lt))
      | inr there ↦ (let less = below name there in omega (arith, less, above, lt))
    ]

pub none_below : (bound : ℕ) (names : List (Bor (List ℕ))) → names ≡ [] → AreBelow bound (texts_of_names names)
none_below bound names e name is = let some : is_text_among name [] ≡ true = sym (ap (λ (l : List (Bor (List ℕ))). is_text_among name (texts_of_names l)) e) ∙ is in absurd cc

pub none_yet : (names : List (Bor (List ℕ))) (others : NameMap Bool) → names ≡ [] → others.entries ≡ [] → texts_of_names names ++ names_in others ≡ []
none_yet names others e f = ap (λ (l : List (Bor (List ℕ))). texts_of_names l ++ names_in others) e ∙ ap (λ (es : List (Bor (List ℕ) × Bool)). map key_of_entry es) f

-- ---- names that are added to others

pub added_more : (names : List (Bor (List ℕ))) (i : ℕ) (d : Bor (List ℕ)) (old mid new : List (List ℕ)) → i < length names → Same mid (texts_of_names (take i names) ++ old) → Same new ((get_or names i d).now ∷ mid) → Same new (texts_of_names (take (i + 1) names) ++ old)
added_more names i d old mid new lt before one name =
    let k : Bor (List ℕ) = get_or names i d in
    one name
    ∙ same_one k.now mid (texts_of_names (take i names) ++ old) before name
    ∙ sym (same_behind (texts_of_names (take i names) ++ k.now ∷ []) (k.now ∷ texts_of_names (take i names)) old (among_last k.now (texts_of_names (take i names))) name)
    ∙ ap (λ (l : List (List ℕ)). is_text_among name (l ++ old)) (sym (one_more (take i names) k (take (i + 1) names) (take_more names i d lt)))

-- ---- a method that comes late

pub late_was : (names rising : List (Bor (List ℕ))) (old mid all : List (List ℕ)) (name : List ℕ) (known : Bool) → names ≡ rising → texts_of_names rising ++ old ≡ all → Same mid (texts_of_names names ++ old) → known ≡ is_text_among name mid → known ≡ is_text_among name all
late_was names rising old mid all name known e view same is =
    is ∙ same name ∙ ap (λ (l : List (Bor (List ℕ))). is_text_among name (texts_of_names l ++ old)) e ∙ ap (is_text_among name) view

pub late_is : (names rising none : List (Bor (List ℕ))) (old mid new all : List (List ℕ)) (name : List ℕ) → names ≡ rising → none ≡ [] → texts_of_names rising ++ old ≡ all → Same mid (texts_of_names names ++ old) → Same new (name ∷ mid) → Same (texts_of_names none ++ new) (name ∷ all)
late_is names rising none old mid new all name e gone view same one other =
    ap (λ (l : List (Bor (List ℕ))). is_text_among other (texts_of_names l ++ new)) gone
    ∙ one other
    ∙ same_one name mid (texts_of_names names ++ old) same other
    ∙ ap (λ (l : List (Bor (List ℕ))). is_text_among other (name ∷ (texts_of_names l ++ old))) e
    ∙ ap (λ (l : List (List ℕ)). is_text_among other (name ∷ l)) view

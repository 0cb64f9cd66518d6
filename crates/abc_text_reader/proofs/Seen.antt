-- Names that were added to others.
use Rattle.std.proofs.Common.{◌≡◌, ℕ, zero, suc, ◌+◌, ◌<◌, ◌≤◌, ◌^◌, ◌⊎◌, inl, inr, Bool, true, false, cond, not, nat_lt, List, [], ◌∷◌, ◌++◌, length, get_or, map, take, slice_get, position, option_map, Some, None, refl, sym, ap, ◌∙◌, arith, ltb-true, ltb-false}
use Rattle.std.specs.Borrow.{Bor}
use Rattle.std.specs.List.{AllByRecursion, IsDistinct, position_or_len}
use Rattle.std.specs.Map.{keys_of, lookup}
use Rattle.std.specs.Option.{is_some}
use Rattle.std.specs.Str.{bytes_eq}
use Rattle.std.specs.declared.option.Option.{Option}
use Rattle.std.proofs.lemmas.List.{take_more}
use Rattle.std.proofs.lemmas.Option.{get_or_from_slice_get, slice_get-map, slice_get_within}
use Rattle.std.proofs.lemmas.Slice.Eq.{bytes_eq-Decides}
use Rattle.indexmap.specs.IndexMap.{insert_entry}
use Rattle.abc_text_lines.proofs.Bools.{split_bool}
use Rattle.abc_text_lines.specs.Texts.{is_text_among}
use Rattle.abc_text_tokens.specs.Names.{NameMap, is_name_equal}
use Rattle.abc_text_tokens.proofs.Keeping.{same_key, same_lookup}
use Rattle.abc_text_reader.specs.Names.{IsFirstAt, Same, key_of_entry, names_in, names_in_body}

-- ---- names among some

or_first : (b x a y : Bool) → x ≡ cond a true y → cond b true x ≡ cond (cond b true a) true y
or_first true x a y e = refl
or_first false x a y e = e

or_swap : (a b x : Bool) → cond a true (cond b true x) ≡ cond b true (cond a true x)
or_swap true true x = refl
or_swap true false x = refl
or_swap false b x = refl

or_twice : (b x : Bool) → cond b true x ≡ cond b true (cond b true x)
or_twice true x = refl
or_twice false x = refl

or_true : (b : Bool) → cond b true true ≡ true
or_true true = refl
or_true false = refl

pub among_append : (name : List ℕ) (xs ys : List (List ℕ)) → is_text_among name (xs ++ ys) ≡ cond (is_text_among name xs) true (is_text_among name ys)
among_append name [] ys = refl
among_append name (x ∷ xs) ys = or_first (bytes_eq x name) (is_text_among name (xs ++ ys)) (is_text_among name xs) (is_text_among name ys) (among_append name xs ys)

-- one more behind some
pub among_last : (x : List ℕ) (xs : List (List ℕ)) → Same (xs ++ x ∷ []) (x ∷ xs)
among_last x [] name = refl
among_last x (y ∷ xs) name = ap (λ (b : Bool). cond (bytes_eq y name) true b) (among_last x xs name) ∙ or_swap (bytes_eq y name) (bytes_eq x name) (is_text_among name xs)

pub same_behind : (xs ys zs : List (List ℕ)) → Same xs ys → Same (xs ++ zs) (ys ++ zs)
same_behind xs ys zs same name = among_append name xs zs ∙ ap (λ (b : Bool). cond b true (is_text_among name zs)) (same name) ∙ sym (among_append name ys zs)

-- ---- names that are added

cond_some : {V : Type 0} (t : Bool) (v : V) (o : Option V) (b : Bool) → b ≡ is_some o → cond t true b ≡ is_some (cond t (Some v) o)
cond_some true v o b e = refl
cond_some false v o b e = e

among_is : {V : Type 0} (es : List (Bor (List ℕ) × V)) (name : List ℕ) → is_text_among name (map key_of_entry es) ≡ is_some (lookup (is_name_equal name) es)
among_is [] name = refl
among_is (e ∷ es) name = cond_some (bytes_eq e.0.now name) e.1 (lookup (is_name_equal name) es) (is_text_among name (map key_of_entry es)) (among_is es name)

pub was_among : {V : Type 0} (old : NameMap V) (k : Bor (List ℕ)) (o : Option V) (known : Bool) → known ≡ is_some o → o ≡ lookup (same_key k) old.entries → known ≡ is_text_among k.now (names_in old)
was_among {V} old k o known e f =
    e
    ∙ ap (λ (p : Option V). is_some p) f
    ∙ sym (ap (λ (p : Option V). is_some p) (same_lookup old.entries k k.now refl))
    ∙ sym (among_is old.entries k.now)

inserted : {V : Type 0} (es : List (Bor (List ℕ) × V)) (k : Bor (List ℕ)) (v : V) → Same (map key_of_entry (insert_entry same_key es k v)) (k.now ∷ map key_of_entry es)
inserted [] k v name = refl
inserted (e ∷ es) k v name =
    elim (split_bool (same_key k e.0)) [
      | inl hit ↦ (let same : e.0.now ≡ k.now = sym ((bytes_eq-Decides k.now e.0.now).0 hit) in
          rw hit (or_twice (bytes_eq e.0.now name) (is_text_among name (map key_of_entry es)) ∙ ap (λ (n : List ℕ). cond (bytes_eq n name) true (cond (bytes_eq e.0.now name) true (is_text_among name (map key_of_entry es)))) same))
      | inr miss ↦ rw miss (ap (λ (b : Bool). cond (bytes_eq e.0.now name) true b) (inserted es k v name) ∙ or_swap (bytes_eq e.0.now name) (bytes_eq k.now name) (is_text_among name (map key_of_entry es)))
    ]

pub added : {V : Type 0} (old new : NameMap V) (k : Bor (List ℕ)) (v : V) → new.entries ≡ insert_entry same_key old.entries k v → Same (names_in new) (k.now ∷ names_in old)
added {V} old new k v e name = ap (λ (es : List (Bor (List ℕ) × V)). is_text_among name (map key_of_entry es)) e ∙ inserted old.entries k v name

-- ---- the first place of a name

apart_later : {V : Type 0} (k : Bor (List ℕ)) (es : List (Bor (List ℕ) × V)) (place : ℕ) (p : Bor (List ℕ) × V) → AllByRecursion (λ y. same_key k y ≡ false) (keys_of es) → slice_get es place ≡ Some p → same_key k p.0 ≡ false
apart_later k [] place p all at = absurd cc
apart_later {V} k (e ∷ es) zero p all at = let same : p ≡ e = cc in ap (λ (q : Bor (List ℕ) × V). same_key k q.0) same ∙ all.0
apart_later k (e ∷ es) (suc place) p all at = apart_later k es place p all.1 at

not_before : {V : Type 0} (es : List (Bor (List ℕ) × V)) (place : ℕ) (p : Bor (List ℕ) × V) → IsDistinct same_key (keys_of es) → slice_get es place ≡ Some p → is_text_among p.0.now (take place (map key_of_entry es)) ≡ false
unfolding IsDistinct
not_before [] place p apart at = absurd cc
not_before (e ∷ es) zero p apart at = refl
not_before (e ∷ es) (suc place) p apart at = let differs : bytes_eq e.0.now p.0.now ≡ false = apart_later e.0 es place p apart.0 at in rw differs (not_before es place p apart.1 at)

pub first_at : (m : NameMap ℕ) (place : ℕ) (p : Bor (List ℕ) × ℕ) (name : List ℕ) → IsDistinct same_key (keys_of m.entries) → slice_get m.entries place ≡ Some p → bytes_eq p.0.now name ≡ true → place < 2 ^ 63 → IsFirstAt (names_in m) place name
first_at m place p name apart at is few =
    let same : p.0.now ≡ name = (bytes_eq-Decides p.0.now name).0 is in
    let there : slice_get (names_in m) place ≡ Some name = slice_get-map key_of_entry m.entries place ∙ ap (λ (o : Option (Bor (List ℕ) × ℕ)). option_map key_of_entry o) at ∙ ap (λ (n : List ℕ). Some n) same in
    (there, ap (λ (n : List ℕ). is_text_among n (take place (names_in m))) (sym same) ∙ not_before m.entries place p apart at, few)

-- ---- names before a place

module _ (k : Bor (List ℕ)) where
  abbrev place_in : {V : Type 0} → List (Bor (List ℕ) × V) → ℕ
  place_in es = position_or_len (same_key k) (keys_of es)

  further : {V : Type 0} (e : Bor (List ℕ) × V) (es : List (Bor (List ℕ) × V)) → same_key k e.0 ≡ false → place_in (e ∷ es) ≡ 1 + place_in es
  further e es miss = ap (λ (b : Bool). cond (not b) (1 + place_in es) 0) miss

  here : {V : Type 0} (e : Bor (List ℕ) × V) (es : List (Bor (List ℕ) × V)) → same_key k e.0 ≡ true → place_in (e ∷ es) ≡ 0
  here e es hit = ap (λ (b : Bool). cond (not b) (1 + place_in es) 0) hit

  flips : (e : Bor (List ℕ)) (b : Bool) → same_key k e ≡ b → bytes_eq e.now k.now ≡ b
  flips e true hit = (bytes_eq-Decides e.now k.now).1 (sym ((bytes_eq-Decides k.now e.now).0 hit))
  flips e false miss =
      elim (split_bool (bytes_eq e.now k.now)) [
        | inl hit ↦ (let back : same_key k e ≡ true = (bytes_eq-Decides k.now e.now).1 (sym ((bytes_eq-Decides e.now k.now).0 hit)) in absurd cc)
        | inr differs ↦ differs
      ]

  before : {V : Type 0} (es : List (Bor (List ℕ) × V)) (n : ℕ) → place_in es < length (keys_of es) → place_in es < n → is_text_among k.now (take n (map key_of_entry es)) ≡ true
  before [] n within lt = absurd (omega arith)
  before (e ∷ es) zero within lt = absurd (omega arith)
  before (e ∷ es) (suc n) within lt =
      elim (split_bool (same_key k e.0)) [
        | inl hit ↦ (let is = flips e.0 true hit in rw is refl)
        | inr miss ↦ (let p = further e es miss in ap (λ (b : Bool). cond (bytes_eq e.0.now k.now) true b) (before es n (omega arith) (omega arith)) ∙ or_true (bytes_eq e.0.now k.now))
      ]

  absent : {V : Type 0} (es : List (Bor (List ℕ) × V)) (n : ℕ) → (n ≤ place_in es) ⊎ (length (keys_of es) ≤ place_in es) → is_text_among k.now (take n (map key_of_entry es)) ≡ false
  absent [] zero le = refl
  absent [] (suc n) le = refl
  absent (e ∷ es) zero le = refl
  absent (e ∷ es) (suc n) le =
      elim (split_bool (same_key k e.0)) [
        | inl hit ↦ (let p = here e es hit in elim le [ inl a ↦ absurd (omega arith) | inr a ↦ absurd (omega arith) ])
        | inr miss ↦ (let p = further e es miss in let is = flips e.0 false miss in
            rw is (absent es n (elim le [ inl a ↦ inl (omega arith) | inr a ↦ inr (omega arith) ])))
      ]

  some_place : (within : Bool) (p found : ℕ) → cond within (Some p) None ≡ Some found → (within ≡ true) × (p ≡ found)
  some_place true p found e = (refl, cc)
  some_place false p found e = absurd cc

  no_place : (within : Bool) (p : ℕ) → cond within (Some p) None ≡ None → within ≡ false
  no_place true p e = absurd cc
  no_place false p e = refl

  pub is_before : {V : Type 0} (es : List (Bor (List ℕ) × V)) (found n : ℕ) → Some found ≡ position (same_key k) (keys_of es) → nat_lt found n ≡ is_text_among k.now (take n (map key_of_entry es))
  is_before es found n e =
      let at = some_place (nat_lt (place_in es) (length (keys_of es))) (place_in es) found (sym e) in
      let within = ltb-true (place_in es) (length (keys_of es)) at.0 in
      let same = at.1 in
      elim (split_bool (nat_lt found n)) [
        | inl hit ↦ (let lt = ltb-true found n hit in hit ∙ sym (before es n within (omega arith)))
        | inr miss ↦ (let le = ltb-false found n miss in miss ∙ sym (absent es n (inl (omega arith))))
      ]

  pub is_absent : {V : Type 0} (es : List (Bor (List ℕ) × V)) (n : ℕ) → None ≡ position (same_key k) (keys_of es) → false ≡ is_text_among k.now (take n (map key_of_entry es))
  is_absent es n e =
      let le = ltb-false (place_in es) (length (keys_of es)) (no_place (nat_lt (place_in es) (length (keys_of es))) (place_in es) (sym e)) in
      sym (absent es n (inr (omega arith)))

-- ---- labels that stood in a body

-- one of the others
pub among_others : (labels : NameMap ℕ) (met : ℕ) (others : NameMap Bool) (name : List ℕ) (known : Bool) → known ≡ is_text_among name (names_in others) → known ≡ true → true ≡ is_text_among name (names_in_body labels met others)
among_others labels met others name known is hit =
    sym (among_append name (names_in others) (take met (names_in labels)) ∙ ap (λ (b : Bool). cond b true (is_text_among name (take met (names_in labels)))) (sym is ∙ hit))

pub among_labels : (labels : NameMap ℕ) (met : ℕ) (others : NameMap Bool) (name : List ℕ) (known before : Bool) → known ≡ is_text_among name (names_in others) → known ≡ false → before ≡ is_text_among name (take met (names_in labels)) → before ≡ is_text_among name (names_in_body labels met others)
among_labels labels met others name known before is miss e =
    e ∙ sym (among_append name (names_in others) (take met (names_in labels)) ∙ ap (λ (b : Bool). cond b true (is_text_among name (take met (names_in labels)))) (sym is ∙ miss))

pub more_others : (labels : NameMap ℕ) (met : ℕ) (old new : NameMap Bool) (name : List ℕ) → Same (names_in new) (name ∷ names_in old) → Same (names_in_body labels met new) (name ∷ names_in_body labels met old)
more_others labels met old new name same = same_behind (names_in new) (name ∷ names_in old) (take met (names_in labels)) same

pub none_there : (others : NameMap Bool) → length others.entries ≡ 0 → names_in others ≡ []
none_there others e = none others.entries e
  where
    none : (es : List (Bor (List ℕ) × Bool)) → length es ≡ 0 → map key_of_entry es ≡ []
    none [] e = refl
    none (x ∷ es) e = absurd (omega arith)

-- the next of the labels
pub next_was : (labels : NameMap ℕ) (met : ℕ) (others : NameMap Bool) (name : List ℕ) → length others.entries ≡ 0 → IsFirstAt (names_in labels) met name → false ≡ is_text_among name (names_in_body labels met others)
next_was labels met others name none first = sym first.1 ∙ ap (λ (names : List (List ℕ)). is_text_among name (names ++ take met (names_in labels))) (sym (none_there others none))

pub next_is : (labels : NameMap ℕ) (met : ℕ) (others : NameMap Bool) (name : List ℕ) → length others.entries ≡ 0 → IsFirstAt (names_in labels) met name → Same (names_in_body labels (met + 1) others) (name ∷ names_in_body labels met others)
next_is labels met others name none first other =
    let names = names_in labels in
    let within : met < length names = slice_get_within names met name first.0 in
    let one : get_or names met name ≡ name = get_or_from_slice_get names met name name first.0 in
    let more : take (met + 1) names ≡ take met names ++ name ∷ [] = take_more names met name within ∙ ap (λ (n : List ℕ). take met names ++ n ∷ []) one in
    let e = none_there others none in
    ap (λ (front : List (List ℕ)). is_text_among other (front ++ take (met + 1) names)) e
    ∙ ap (λ (l : List (List ℕ)). is_text_among other l) more
    ∙ among_last name (take met names) other
    ∙ ap (λ (front : List (List ℕ)). is_text_among other (name ∷ (front ++ take met names))) (sym e)

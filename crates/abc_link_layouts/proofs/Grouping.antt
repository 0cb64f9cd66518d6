-- The traits of one layout more, by the texts of their names.
use Rattle.std.proofs.Common.{◌≡◌, ℕ, zero, suc, ◌+◌, ◌-◌, ◌<◌, ◌≤◌, ◌⊎◌, inl, inr, Bool, true, false, List, [], ◌∷◌, ◌++◌, Some, None, cond, eqb-true, get_or, length, map, nat_eq, slice_get, unwrap_or, refl, sym, ap, subst, ◌∙◌, arith, length-append}
use Rattle.std.specs.declared.option.Option.{Option}
use Rattle.std.specs.Option.{option_copied}
use Rattle.std.specs.Str.{bytes_eq}
use Rattle.std.proofs.lemmas.Bool.{cases_lt}
use Rattle.std.proofs.lemmas.List.{get_or_past}
use Rattle.indexmap.specs.IndexMap.{get}
use Rattle.abc_base_graphs.specs.Groups.{GroupMap, Groups, places_of, some_places}
use Rattle.abc_base_graphs.specs.ByText.{GroupsTexts, names_of}
use Rattle.abc_base_graphs.specs.Texts.{HasTexts, number_among, number_in, numbers_in, texts_of}
use Rattle.abc_base_graphs.specs.declared.texts.Texts.{Texts}
use Rattle.abc_base_graphs.proofs.Numbering.{bytes_self, first_finds}
use Rattle.abc_base_graphs.specs.Index.{first}
use Rattle.abc_base_graphs.proofs.ByTexts.{no_places, same_places}
use Rattle.abc_link_names.specs.Pool.{text}
use Rattle.abc_file_types.specs.declared.tables.Abc.{Abc}
use Rattle.abc_file_types.specs.declared.traits.TraitInfo.{TraitInfo}
use Rattle.abc_link_layouts.specs.Grouped.{HasGroups}
use Rattle.abc_link_layouts.specs.Strings.{trait_strings}
use Rattle.abc_link_names.specs.Linked.{LinkedFile}
use Rattle.abc_link_names.specs.Numbering.{part_at}
use Rattle.abc_link_names.specs.Slots.{traits_of}
use Rattle.abc_link_names.specs.Traits.{own_table_of, own_traits, trait_name, trait_texts}

-- ---- numbers of texts

-- each text of the pool has one
has_number : (strings : List (List ℕ)) (i : ℕ) → (n : ℕ) × (first (bytes_eq (get_or (texts_of strings) i [])) (texts_of strings) ≡ Some n)
has_number strings i = go (cases_lt i (length (texts_of strings)))
  where
    t : List ℕ
    t = get_or (texts_of strings) i []

    at : (j : ℕ) → j < length (texts_of strings) → bytes_eq t (get_or (texts_of strings) j []) ≡ true → (n : ℕ) × (first (bytes_eq t) (texts_of strings) ≡ Some n)
    at j lt e = let f = first_finds (bytes_eq t) 0 (texts_of strings) j lt e in (0 + f.0, f.1)

    go : (i < length (texts_of strings)) ⊎ (length (texts_of strings) ≤ i) → (n : ℕ) × (first (bytes_eq t) (texts_of strings) ≡ Some n)
    go (inl lt) = at i lt (bytes_self t)
    go (inr le) = at 0 (omega arith) (ap (λ (a : List ℕ). bytes_eq a []) (get_or_past (texts_of strings) i [] le))

number_rest : (t : Texts) (all strings : List (List ℕ)) → HasTexts t (texts_of all) → (i : ℕ) → get_or (map (λ s. unwrap_or (number_in t s) 0) strings) i 0 ≡ number_among (texts_of all) (get_or strings i [])
number_rest t all [] h i = refl
number_rest t all (s ∷ ss) h zero = ap (λ o. unwrap_or o 0) (h.has s)
number_rest t all (s ∷ ss) h (suc i) = number_rest t all ss h i

number_entry : (t : Texts) (strings : List (List ℕ)) → HasTexts t (texts_of strings) → (i : ℕ) → get_or (numbers_in t strings) i 0 ≡ number_among (texts_of strings) (get_or (texts_of strings) i [])
number_entry t strings h zero = refl
number_entry t strings h (suc i) = number_rest t strings strings h i

-- the text of each string has a number: that which the table of numbers says
pub string_numbered : (t : Texts) (strings : List (List ℕ)) → HasTexts t (texts_of strings) → (i : ℕ) → first (bytes_eq (get_or (texts_of strings) i [])) (texts_of strings) ≡ Some (get_or (numbers_in t strings) i 0)
string_numbered t strings h i =
    let some = has_number strings i in
    some.1 ∙ ap (λ n. Some n) (sym (ap (λ o. unwrap_or o 0) some.1) ∙ sym (number_entry t strings h i))

keys_are : (v : Abc) (t : Texts) → HasTexts t (texts_of v.strings) → (ts : List TraitInfo)
    → map (λ (x : TraitInfo). get_or (numbers_in t v.strings) (trait_name v x).string 0) ts ≡ map (number_among (texts_of v.strings)) (names_of v.strings (trait_strings v ts))
keys_are v t h [] = refl
keys_are v t h (x ∷ ts) =
    ap (λ n. n ∷ map (λ (y : TraitInfo). get_or (numbers_in t v.strings) (trait_name v y).string 0) ts) (number_entry t v.strings h (trait_name v x).string)
    ∙ ap (λ (ns : List ℕ). number_among (texts_of v.strings) (get_or (texts_of v.strings) (trait_name v x).string []) ∷ ns) (keys_are v t h ts)

pub groups_texts : (v : Abc) (t : Texts) (numbers keys given : List ℕ) (ts : List TraitInfo) (g : GroupMap) → HasTexts t (texts_of v.strings) → numbers ≡ numbers_in t v.strings
    → keys ≡ map (λ (x : TraitInfo). get_or numbers (trait_name v x).string 0) ts → given ≡ keys → Groups g given → GroupsTexts t v.strings g (trait_strings v ts)
groups_texts v t numbers keys given ts g h is_numbers is_keys is_given groups = record {
  texts = h;
  grouped = subst (Groups g) (is_given ∙ is_keys ∙ ap (λ (ns : List ℕ). map (λ (x : TraitInfo). get_or ns (trait_name v x).string 0) ts) is_numbers ∙ keys_are v t h ts) groups;
}

-- ---- layouts

pub groups_none : (l : LinkedFile) (t : Texts) → HasGroups l t [] 0
groups_none l t = record { len = refl; grouped = λ x g e. cc }

pushed : {A : Type 0} (xs : List A) (y : A) (i : ℕ) (z : A) → slice_get (xs ++ y ∷ []) i ≡ Some z → (slice_get xs i ≡ Some z) ⊎ ((i ≡ length xs) × (y ≡ z))
pushed [] y zero z e = inr (refl, cc)
pushed [] y (suc i) z e = cc
pushed (x ∷ xs) y zero z e = inl e
pushed (x ∷ xs) y (suc i) z e = go (pushed xs y i z e)
  where
    go : (slice_get xs i ≡ Some z) ⊎ ((i ≡ length xs) × (y ≡ z)) → (slice_get (x ∷ xs) (suc i) ≡ Some z) ⊎ ((suc i ≡ length (x ∷ xs)) × (y ≡ z))
    go (inl h) = inl h
    go (inr h) = inr (omega (arith, h.0), h.1)

pub groups_next : (l : LinkedFile) (t : Texts) (old new : List GroupMap) (x : ℕ) (ts : List TraitInfo) (m : GroupMap) → HasGroups l t old x → ts ≡ traits_of l.file (part_at l.parts x)
    → GroupsTexts t l.file.strings m (trait_strings l.file ts) → new ≡ old ++ m ∷ [] → HasGroups l t new (x + 1)
groups_next l t old new x ts m h is_ts g is = record {
  len = ap length is ∙ length-append old (m ∷ []) ∙ ap (λ n. n + 1) h.len;
  grouped = λ y z e. go y z (pushed old m y z (ap (λ (gs : List GroupMap). slice_get gs y) (sym is) ∙ e));
}
  where
    go : (y : ℕ) (z : GroupMap) → (slice_get old y ≡ Some z) ⊎ ((y ≡ length old) × (m ≡ z)) → GroupsTexts t l.file.strings z (trait_strings l.file (own_table_of l y))
    go y z (inl e) = h.grouped y z e
    go y z (inr e) =
        let at : x ≡ y = sym h.len ∙ sym e.0 in
        let here : GroupsTexts t l.file.strings m (trait_strings l.file (own_table_of l x)) = subst (λ (us : List TraitInfo). GroupsTexts t l.file.strings m (trait_strings l.file us)) is_ts g in
        subst (λ n. GroupsTexts t l.file.strings z (trait_strings l.file (own_table_of l n))) at (subst (λ (q : GroupMap). GroupsTexts t l.file.strings q (trait_strings l.file (own_table_of l x))) e.1 here)

-- ---- look-ups

text_entry : (v : Abc) (i : ℕ) → get_or (texts_of v.strings) i [] ≡ text v i
text_entry v zero = refl
text_entry v (suc i) = sym (go (nat_eq (suc i) 0) refl)
  where
    go : (b : Bool) → nat_eq (suc i) 0 ≡ b → cond b [] (get_or v.strings (suc i - 1) []) ≡ get_or v.strings i []
    go true e = let q = eqb-true (suc i) 0 e in absurd (omega arith)
    go false e = let q : suc i - 1 ≡ i = omega arith in ap (λ m. get_or v.strings m []) q

texts_are : (v : Abc) (ts : List TraitInfo) → names_of v.strings (trait_strings v ts) ≡ trait_texts v ts
texts_are v [] = refl
texts_are v (x ∷ ts) =
    ap (λ (t : List ℕ). t ∷ names_of v.strings (trait_strings v ts)) (text_entry v (trait_name v x).string) ∙ ap (λ (us : List (List ℕ)). text v (trait_name v x).string ∷ us) (texts_are v ts)

pub numbered : (l : LinkedFile) (t : Texts) (groups : List GroupMap) (n x k : ℕ) (g : GroupMap) (s : List ℕ) → HasGroups l t groups n → slice_get groups x ≡ Some g → number_in t s ≡ Some k → get nat_eq g k ≡ own_traits l x s
numbered l t groups n x k g s h e is =
    same_places t l.file.strings g (trait_strings l.file (own_table_of l x)) s k (h.grouped x g e) is
    ∙ ap (λ (us : List (List ℕ)). some_places (places_of (bytes_eq s) us)) (texts_are l.file (own_table_of l x))

pub unnumbered : (l : LinkedFile) (t : Texts) (groups : List GroupMap) (n x : ℕ) (g : GroupMap) (s : List ℕ) → HasGroups l t groups n → slice_get groups x ≡ Some g → number_in t s ≡ None → None ≡ own_traits l x s
unnumbered l t groups n x g s h e is =
    no_places t l.file.strings g (trait_strings l.file (own_table_of l x)) s (h.grouped x g e) is
    ∙ ap (λ (us : List (List ℕ)). some_places (places_of (bytes_eq s) us)) (texts_are l.file (own_table_of l x))

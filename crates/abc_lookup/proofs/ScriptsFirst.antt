-- Asking the scripts that have a trait of the text finds what asking all scripts does.
use Rattle.std.proofs.Common.{◌≡◌, ℕ, zero, suc, ◌+◌, ◌<◌, Bool, true, false, ◌&&◌, ◌||◌, List, [], ◌∷◌, ◌++◌, length, map, cond, get_or, drop, drop-cons, add-one, refl, sym, ap, ◌∙◌, arith, append_assoc}
use Rattle.std.proofs.lemmas.List.{length-append, length-map}
use Rattle.std.specs.Prelude.{Some, None, slice_get}
use Rattle.std.specs.declared.option.Option.{Option}
use Rattle.std.specs.List.{find, list_any, range_with_len}
use Rattle.std.specs.Str.{bytes_eq}
use Rattle.abc_base.specs.declared.names.HostClass.TheVariants as hosts
use Rattle.abc_base_graphs.proofs.Walks.{way_none, way_some}
use Rattle.abc_base_graphs.specs.Ways.{before, way}
use Rattle.abc_heap_store.specs.Heap.{Heap}
use Rattle.abc_base_graphs.specs.Groups.{places_from, places_of}
use Rattle.abc_link_names.specs.PartsByNumber.{no_script, script_at}
use Rattle.abc_link_names.specs.Pool.{text}
use Rattle.abc_link_names.specs.declared.named.DefiniteName.{DefiniteName}
use Rattle.abc_objects.proofs.Opened.{global_made}
use Rattle.abc_objects.specs.Stands.{StandsOver}
use Rattle.abc_link_names.proofs.Finding.{falling, found}
use Rattle.abc_link_names.specs.Linked.{IsLinkedFile, LinkedFile, base_layout}
use Rattle.abc_link_names.specs.Numbering.{part_at}
use Rattle.abc_link_names.specs.Parts.{parent}
use Rattle.abc_link_names.specs.Places.{place_of_part, place_under}
use Rattle.abc_link_names.specs.Slots.{slots_in}
use Rattle.abc_link_names.specs.Traits.{trait_name, trait_texts}
use Rattle.abc_link_names.specs.declared.part.Part.{Part}
use Rattle.abc_link_names.specs.declared.part.Part.TheVariants as parts
use Rattle.abc_objects.specs.Candidates.{OfTrait, fits, fits_space, layout_at, text_of_span, traits_after}
use Rattle.abc_objects.specs.Objects.{global_number}
use Rattle.abc_objects.specs.Scopes.{InScript, ScopePlace, has}
use Rattle.abc_objects.specs.Traits.{Trait, members_in, own, own_traits_of, slots_under, traits_from, traits_named}
use Rattle.abc_objects.specs.declared.name.Name.{Name}
use Rattle.abc_objects.specs.declared.traits.Member.{Member}
use Rattle.abc_link.specs.ScriptTraits.{owners_from, owners_of, script_traits, traits_of_scripts}
use Rattle.abc_file_types.specs.declared.classes.Script.{Script}
use Rattle.abc_file_types.specs.declared.traits.TraitInfo.{TraitInfo}
use Rattle.abc_lookup.specs.Scripts.{HasNot}
use Rattle.abc_lookup.proofs.TextFirst.{none_none, places_below, some_at, some_some}

-- ---- the owners of the traits whose texts pass a test

abbrev picked : (List ℕ → Bool) → List (List ℕ) → List ℕ → List ℕ
picked test [] os = []
picked test (t ∷ ts) [] = []
picked test (t ∷ ts) (o ∷ os) = cond (test t) (o ∷ picked test ts os) (picked test ts os)

here : (pre : List ℕ) (o : ℕ) (os : List ℕ) → get_or (pre ++ o ∷ os) (length pre) 0 ≡ o
here [] o os = refl
here (x ∷ pre) o os = here pre o os

-- what stands at the places that pass
picked_places : (test : List ℕ → Bool) (ts : List (List ℕ)) (pre os : List ℕ) → length os ≡ length ts → map (λ p. get_or (pre ++ os) p 0) (places_from test (length pre) ts) ≡ picked test ts os
picked_places test [] pre os e = refl
picked_places test (t ∷ ts) pre [] e = absurd (omega (arith, e))
picked_places test (t ∷ ts) pre (o ∷ os) e =
    go
    (test t)
    (ap (λ (all : List ℕ). map (λ p. get_or all p 0) (places_from test (length pre + 1) ts)) (sym (append_assoc pre (o ∷ []) os))
    ∙ ap (λ n. map (λ p. get_or ((pre ++ o ∷ []) ++ os) p 0) (places_from test n ts)) (sym (length-append pre (o ∷ [])))
    ∙ picked_places test ts (pre ++ o ∷ []) os (omega (arith, e)))
  where
    go : (b : Bool) → map (λ p. get_or (pre ++ o ∷ os) p 0) (places_from test (length pre + 1) ts) ≡ picked test ts os
        → map (λ p. get_or (pre ++ o ∷ os) p 0) (cond b (length pre ∷ places_from test (length pre + 1) ts) (places_from test (length pre + 1) ts)) ≡ cond b (o ∷ picked test ts os) (picked test ts os)
    go true rest = ap (λ x. x ∷ map (λ p. get_or (pre ++ o ∷ os) p 0) (places_from test (length pre + 1) ts)) (here pre o os) ∙ ap (λ (xs : List ℕ). o ∷ xs) rest
    go false rest = rest

-- those of one script, and then those of the others
picked_append : (test : List ℕ → Bool) (g : TraitInfo → List ℕ) (n : ℕ) (ts us : List TraitInfo) (os : List ℕ)
    → picked test (map g (ts ++ us)) (map (λ (t : TraitInfo). n) ts ++ os) ≡ picked test (map g ts) (map (λ (t : TraitInfo). n) ts) ++ picked test (map g us) os
picked_append test g n [] us os = refl
picked_append test g n (t ∷ ts) us os = go (test (g t)) (picked_append test g n ts us os)
  where
    go : (b : Bool) → picked test (map g (ts ++ us)) (map (λ (t : TraitInfo). n) ts ++ os) ≡ picked test (map g ts) (map (λ (t : TraitInfo). n) ts) ++ picked test (map g us) os
        → cond b (n ∷ picked test (map g (ts ++ us)) (map (λ (t : TraitInfo). n) ts ++ os)) (picked test (map g (ts ++ us)) (map (λ (t : TraitInfo). n) ts ++ os))
        ≡ cond b (n ∷ picked test (map g ts) (map (λ (t : TraitInfo). n) ts)) (picked test (map g ts) (map (λ (t : TraitInfo). n) ts)) ++ picked test (map g us) os
    go true ih = ap (λ (xs : List ℕ). n ∷ xs) ih
    go false ih = ih

settle : (c q : Bool) (x m r : Option ScopePlace) → r ≡ cond (c && q) x m → cond c x r ≡ cond (c && true) x m
settle true q x m r e = refl
settle false q x m r e = e

-- a script is the first where it has the name and a trait that passes
one_script : (p : ScopePlace → Bool) (test : List ℕ → Bool) (g : TraitInfo → List ℕ) (n : ℕ) (ts : List TraitInfo) (ys : List ℕ)
    → find p (map InScript (picked test (map g ts) (map (λ (t : TraitInfo). n) ts) ++ ys)) ≡ cond (p (InScript n) && list_any test (map g ts)) (Some (InScript n)) (find p (map InScript ys))
one_script p test g n [] ys = go (p (InScript n))
  where
    go : (b : Bool) → find p (map InScript ys) ≡ cond (b && false) (Some (InScript n)) (find p (map InScript ys))
    go true = refl
    go false = refl
one_script p test g n (t ∷ ts) ys = go (test (g t)) (one_script p test g n ts ys)
  where
    go : (b : Bool) → find p (map InScript (picked test (map g ts) (map (λ (t : TraitInfo). n) ts) ++ ys)) ≡ cond (p (InScript n) && list_any test (map g ts)) (Some (InScript n)) (find p (map InScript ys))
        → find p (map InScript (cond b (n ∷ picked test (map g ts) (map (λ (t : TraitInfo). n) ts)) (picked test (map g ts) (map (λ (t : TraitInfo). n) ts)) ++ ys)) ≡ cond (p (InScript n) && (b || list_any test (map g ts))) (Some (InScript n)) (find p (map InScript ys))
    go true ih =
        settle (p (InScript n)) (list_any test (map g ts)) (Some (InScript n)) (find p (map InScript ys)) (find p (map InScript (picked test (map g ts) (map (λ (t : TraitInfo). n) ts) ++ ys))) ih
    go false ih = ih

-- a place that has the name only where a trait passes
both : (b q : Bool) (x m : Option ScopePlace) → (b ≡ true → q ≡ true) → cond (b && q) x m ≡ cond b x m
both true q x m h = ap (λ c. cond c x m) (h refl)
both false q x m h = refl

-- the first script among the owners is the first of all
first_owner : (p : ScopePlace → Bool) (test : List ℕ → Bool) (g : TraitInfo → List ℕ) (n : ℕ) (ss : List Script)
    → ((i : ℕ) → i < length ss → p (InScript (n + i)) ≡ true → list_any test (map g (get_or ss i no_script).traits) ≡ true)
    → find p (map InScript (picked test (map g (traits_of_scripts ss)) (owners_from n ss))) ≡ find p (map InScript (range_with_len n (length ss)))
first_owner p test g n [] h = refl
first_owner p test g n (s ∷ ss) h =
    let here : p (InScript n) ≡ true → list_any test (map g s.traits) ≡ true = λ e. let z : n ≡ n + 0 = omega arith in h 0 (omega arith) (ap (λ k. p (InScript k)) (sym z) ∙ e) in
    let there : (i : ℕ) → i < length ss → p (InScript (n + 1 + i)) ≡ true → list_any test (map g (get_or ss i no_script).traits) ≡ true =
    λ i lt e. let z : n + suc i ≡ n + 1 + i = omega arith in h (suc i) (omega arith) (ap (λ k. p (InScript k)) z ∙ e) in
    ap (λ xs. find p (map InScript xs)) (picked_append test g n s.traits (traits_of_scripts ss) (owners_from (n + 1) ss))
    ∙ one_script p test g n s.traits (picked test (map g (traits_of_scripts ss)) (owners_from (n + 1) ss))
    ∙ both (p (InScript n)) (list_any test (map g s.traits)) (Some (InScript n)) (find p (map InScript (picked test (map g (traits_of_scripts ss)) (owners_from (n + 1) ss)))) here
    ∙ ap (λ m. cond (p (InScript n)) (Some (InScript n)) m) (first_owner p test g (n + 1) ss there)

owners_length : (n : ℕ) (ss : List Script) → length (owners_from n ss) ≡ length (traits_of_scripts ss)
owners_length n [] = refl
owners_length n (s ∷ ss) =
    let ih = owners_length (n + 1) ss in
    omega (arith, ih, length-append (map (λ (t : TraitInfo). n) s.traits) (owners_from (n + 1) ss), length-append s.traits (traits_of_scripts ss), length-map s.traits (λ (t : TraitInfo). n))

-- each owner is a script
pub owner_below : (n : ℕ) (ss : List Script) (i o : ℕ) → slice_get (owners_from n ss) i ≡ Some o → o < n + length ss
owner_below n [] i o e = cc
owner_below n (s ∷ ss) i o e = go s.traits i (λ j f. owner_below (n + 1) ss j o f) e
  where
    go : (ts : List TraitInfo) (i : ℕ) → ((j : ℕ) → slice_get (owners_from (n + 1) ss) j ≡ Some o → o < n + 1 + length ss) → slice_get (map (λ (t : TraitInfo). n) ts ++ owners_from (n + 1) ss) i ≡ Some o → o < n + length (s ∷ ss)
    go [] i ih e = let h = ih i e in omega (arith, h)
    go (t ∷ ts) zero ih e = let q : n ≡ o = cc in omega (arith, q)
    go (t ∷ ts) (suc i) ih e = go ts i ih e

-- ---- the traits of a global object

-- a trait that fits has the text
text_fits : (l : LinkedFile) (h : Heap) (n : Name) (x : ℕ) (passed : List ℕ) (ts : List Trait) → list_any (fits l h n) (map (OfTrait x passed) ts) ≡ true → list_any (λ (t : Trait). bytes_eq (text_of_span l h n.text) t.text) ts ≡ true
text_fits l h n x passed [] e = e
text_fits l h n x passed (t ∷ ts) e = go (bytes_eq (text_of_span l h n.text) t.text) (fits_space l n x passed t.declared) e (text_fits l h n x passed ts)
  where
    go : (b c : Bool) → ((b && c) || list_any (fits l h n) (map (OfTrait x passed) ts)) ≡ true → (list_any (fits l h n) (map (OfTrait x passed) ts) ≡ true → list_any (λ (t : Trait). bytes_eq (text_of_span l h n.text) t.text) ts ≡ true)
        → (b || list_any (λ (t : Trait). bytes_eq (text_of_span l h n.text) t.text) ts) ≡ true
    go true c e ih = refl
    go false c e ih = ih e

-- so does one of the table
text_named : (l : LinkedFile) (test : List ℕ → Bool) (d : DefiniteName) (ms : List Member) (us : List Trait) → list_any (λ (t : Trait). test t.text) (traits_named l d ms ++ us) ≡ true
    → (test (text l.file d.string) || list_any (λ (t : Trait). test t.text) us) ≡ true
text_named l test d [] us e = go (test (text l.file d.string)) e
  where
    go : (b : Bool) → list_any (λ (t : Trait). test t.text) us ≡ true → (b || list_any (λ (t : Trait). test t.text) us) ≡ true
    go true e = refl
    go false e = e
text_named l test d (m ∷ ms) us e = go (test (text l.file d.string)) e (text_named l test d ms us)
  where
    go : (b : Bool) → (b || list_any (λ (t : Trait). test t.text) (traits_named l d ms ++ us)) ≡ true
        → (list_any (λ (t : Trait). test t.text) (traits_named l d ms ++ us) ≡ true → (b || list_any (λ (t : Trait). test t.text) us) ≡ true) → (b || list_any (λ (t : Trait). test t.text) us) ≡ true
    go true e ih = refl
    go false e ih = ih e

text_in_table : (l : LinkedFile) (test : List ℕ → Bool) (slot : ℕ) (ts : List TraitInfo) → list_any (λ (t : Trait). test t.text) (traits_from l slot ts) ≡ true → list_any test (trait_texts l.file ts) ≡ true
text_in_table l test slot [] e = e
text_in_table l test slot (t ∷ ts) e =
    go (test (text l.file (trait_name l.file t).string)) (text_named l test (trait_name l.file t) (members_in slot t.body) (traits_from l (slot + length (slots_in l t.body)) ts) e) (text_in_table l test (slot + length (slots_in l t.body)) ts)
  where
    go : (b : Bool) → (b || list_any (λ (t : Trait). test t.text) (traits_from l (slot + length (slots_in l t.body)) ts)) ≡ true
        → (list_any (λ (t : Trait). test t.text) (traits_from l (slot + length (slots_in l t.body)) ts) ≡ true → list_any test (trait_texts l.file ts) ≡ true) → (b || list_any test (trait_texts l.file ts)) ≡ true
    go true e ih = refl
    go false e ih = ih e

any_nothing : (b : Bool) → (b || false) ≡ b
any_nothing true = refl
any_nothing false = refl

any_append : {A : Type 0} (p : A → Bool) (xs ys : List A) → list_any p (xs ++ ys) ≡ (list_any p xs || list_any p ys)
any_append p [] ys = refl
any_append p (x ∷ xs) ys = go (p x) (any_append p xs ys)
  where
    go : (b : Bool) → list_any p (xs ++ ys) ≡ (list_any p xs || list_any p ys) → (b || list_any p (xs ++ ys)) ≡ ((b || list_any p xs) || list_any p ys)
    go true ih = refl
    go false ih = ih

-- a global object has the traits of its script alone
global_traits : (l : LinkedFile) (h : Heap) (n : Name) (x s : ℕ) (passed : List ℕ) → IsLinkedFile l → part_at l.parts x ≡ parts.Global s
    → list_any (fits l h n) (traits_after l passed (way (base_layout l) (Some x))) ≡ list_any (fits l h n) (map (OfTrait x (passed ++ x ∷ [])) (traits_from l (slots_under l (base_layout l x)) (script_at l.file s).traits))
global_traits l h n x s passed f is =
    let top : Part = parts.Host hosts.Object in
    let y = place_of_part l.parts top in
    let fall = falling l.file l.parts f.numbering in
    let up : base_layout l x ≡ Some y = ap (λ q. place_under l.parts (parent l.file q)) is in
    let at : part_at l.parts y ≡ top = found l.file l.parts f.numbering top tt in
    let end : base_layout l y ≡ None = ap (λ q. place_under l.parts (parent l.file q)) at in
    let steps : way (base_layout l) (Some x) ≡ x ∷ y ∷ [] =
    way_some (base_layout l) fall x ∙ ap (λ o. x ∷ way (base_layout l) o) up ∙ ap (λ ys. x ∷ ys) (way_some (base_layout l) fall y) ∙ ap (λ o. x ∷ y ∷ way (base_layout l) o) end ∙ ap (λ ys. x ∷ y ∷ ys) (way_none (base_layout l)) in
    let own_x : own l x ≡ traits_from l (slots_under l (base_layout l x)) (script_at l.file s).traits = ap (own_traits_of l (slots_under l (base_layout l x))) is in
    let own_y : own l y ≡ [] = ap (own_traits_of l (slots_under l (base_layout l y))) at in
    let ps = passed ++ x ∷ [] in
    ap (λ ys. list_any (fits l h n) (traits_after l passed ys)) steps
    ∙ ap (λ ts. list_any (fits l h n) (map (OfTrait x ps) (own l x) ++ (map (OfTrait y (ps ++ y ∷ [])) ts ++ []))) own_y
    ∙ any_append (fits l h n) (map (OfTrait x ps) (own l x)) []
    ∙ any_nothing (list_any (fits l h n) (map (OfTrait x ps) (own l x)))
    ∙ ap (λ ts. list_any (fits l h n) (map (OfTrait x ps) ts)) own_x

-- a script that has the name has a trait of the text
script_tells : (l : LinkedFile) (h : Heap) (n : Name) (t : List ℕ) (s : ℕ) → StandsOver l h → t ≡ text_of_span l h n.text → s < length l.file.scripts → has l h n (InScript s) ≡ true
    → list_any (bytes_eq t) (trait_texts l.file (script_at l.file s).traits) ≡ true
script_tells l h n t s st is lt e =
    let x = layout_at h (global_number h s) in
    let made = (global_made l h s st lt).1 in
    let at : part_at l.parts x ≡ parts.Global s = ap (part_at l.parts) made.layout ∙ found l.file l.parts st.linked.numbering (parts.Global s) lt in
    let ps = before x (way (base_layout l) (Some x)) in
    let some = sym (global_traits l h n x s ps st.linked at) ∙ e in
    let with_text = text_fits l h n x (ps ++ x ∷ []) (traits_from l (slots_under l (base_layout l x)) (script_at l.file s).traits) some in
    text_in_table l (bytes_eq t) (slots_under l (base_layout l x)) (script_at l.file s).traits (ap (λ (u : List ℕ). list_any (λ (v : Trait). bytes_eq u v.text) (traits_from l (slots_under l (base_layout l x)) (script_at l.file s).traits)) is ∙ with_text)

-- ---- the scripts that have a trait of the text

abbrev pub owner_at : LinkedFile → ℕ → ℕ
owner_at l p = get_or (owners_of l.file) p 0

all_owners : (l : LinkedFile) (h : Heap) (n : Name) (t : List ℕ) → StandsOver l h → t ≡ text_of_span l h n.text
    → find (has l h n) (map InScript (map (owner_at l) (places_of (bytes_eq t) (trait_texts l.file (traits_of_scripts l.file.scripts))))) ≡ find (has l h n) (map InScript (range_with_len 0 (length l.file.scripts)))
all_owners l h n t st is =
    let ss = l.file.scripts in
    let g : TraitInfo → List ℕ = λ u. text l.file (trait_name l.file u).string in
    let len : length (owners_from 0 ss) ≡ length (map g (traits_of_scripts ss)) = owners_length 0 ss ∙ sym (length-map (traits_of_scripts ss) g) in
    ap (λ os. find (has l h n) (map InScript os)) (picked_places (bytes_eq t) (map g (traits_of_scripts ss)) [] (owners_from 0 ss) len)
    ∙ first_owner (has l h n) (bytes_eq t) g 0 ss (λ i lt e. let z : 0 + i ≡ i = omega arith in script_tells l h n t i st is lt (ap (λ k. has l h n (InScript k)) (sym z) ∙ e))

pub some_owners : (l : LinkedFile) (h : Heap) (n : Name) (t ps : List ℕ) → StandsOver l h → t ≡ text_of_span l h n.text → Some ps ≡ script_traits l.file t
    → find (has l h n) (map InScript (map (owner_at l) ps)) ≡ find (has l h n) (map InScript (range_with_len 0 (length l.file.scripts)))
some_owners l h n t ps st is e = ap (λ qs. find (has l h n) (map InScript (map (owner_at l) qs))) (some_some ps _ e) ∙ all_owners l h n t st is

pub no_owners : (l : LinkedFile) (h : Heap) (n : Name) (t : List ℕ) → StandsOver l h → t ≡ text_of_span l h n.text → None ≡ script_traits l.file t
    → None ≡ find (has l h n) (map InScript (range_with_len 0 (length l.file.scripts)))
no_owners l h n t st is e = ap (λ qs. find (has l h n) (map InScript (map (owner_at l) qs))) (sym (none_none _ e)) ∙ all_owners l h n t st is

-- each place is one of a trait of a script
pub owners_there : (l : LinkedFile) (t ps : List ℕ) → Some ps ≡ script_traits l.file t → (i : ℕ) → i < length ps → get_or ps i 0 < length (owners_of l.file)
owners_there l t ps e i lt =
    let ss = l.file.scripts in
    let ts = trait_texts l.file (traits_of_scripts ss) in
    let at : slice_get (places_of (bytes_eq t) ts) i ≡ Some (get_or ps i 0) = ap (λ (qs : List ℕ). slice_get qs i) (sym (some_some ps _ e)) ∙ some_at ps i lt in
    let h = places_below (bytes_eq t) 0 ts i (get_or ps i 0) at in
    omega (arith, h, owners_length 0 ss, length-map (traits_of_scripts ss) (λ (u : TraitInfo). text l.file (trait_name l.file u).string))

-- ---- the loop over places

pub owner_is : (l : LinkedFile) (p o : ℕ) → slice_get (owners_of l.file) p ≡ Some o → owner_at l p ≡ o
owner_is l p o e = go (owners_of l.file) p e
  where
    go : (xs : List ℕ) (i : ℕ) → slice_get xs i ≡ Some o → get_or xs i 0 ≡ o
    go [] i e = cc
    go (x ∷ xs) zero e = cc
    go (x ∷ xs) (suc i) e = go xs i e

owner_next : (p : ScopePlace → Bool) (at : ℕ → ℕ) (ps : List ℕ) (i o : ℕ) → i < length ps → at (get_or ps i 0) ≡ o
    → find p (map InScript (map at (drop i ps))) ≡ cond (p (InScript o)) (Some (InScript o)) (find p (map InScript (map at (drop (i + 1) ps))))
owner_next p at ps i o h is =
    let split : drop i ps ≡ get_or ps i 0 ∷ drop (i + 1) ps = rw (add-one, drop-cons ps i 0) refl in
    ap (λ qs. find p (map InScript (map at qs))) split
    ∙ ap (λ k. cond (p (InScript k)) (Some (InScript k)) (find p (map InScript (map at (drop (i + 1) ps))))) is

pub owner_has : (p : ScopePlace → Bool) (at : ℕ → ℕ) (ps : List ℕ) (i o : ℕ) (whole : Option ScopePlace) → i < length ps → at (get_or ps i 0) ≡ o → find p (map InScript (map at (drop i ps))) ≡ whole → p (InScript o) ≡ true
    → Some (InScript o) ≡ whole
owner_has p at ps i o whole h is e hit =
    sym (ap (λ b. cond b (Some (InScript o)) (find p (map InScript (map at (drop (i + 1) ps))))) hit) ∙ sym (owner_next p at ps i o h is) ∙ e

pub owner_has_not : (p : ScopePlace → Bool) (at : ℕ → ℕ) (ps : List ℕ) (i o : ℕ) (whole : Option ScopePlace) → i < length ps → at (get_or ps i 0) ≡ o → find p (map InScript (map at (drop i ps))) ≡ whole → p (InScript o) ≡ false
    → find p (map InScript (map at (drop (i + 1) ps))) ≡ whole
owner_has_not p at ps i o whole h is e miss =
    sym (ap (λ b. cond b (Some (InScript o)) (find p (map InScript (map at (drop (i + 1) ps))))) miss) ∙ sym (owner_next p at ps i o h is) ∙ e

pub tried_not : (p : ScopePlace → Bool) (tried : Option ℕ) (o : ℕ) → HasNot p tried → tried ≡ Some o → p (InScript o) ≡ false
tried_not p None o h e = cc
tried_not p (Some s) o h e = let q : s ≡ o = cc in ap (λ k. p (InScript k)) (sym q) ∙ h

-- Asking the traits of a text finds what asking all traits does.
use Rattle.std.proofs.Common.{◌≡◌, ℕ, zero, suc, ◌+◌, ◌<◌, Bool, true, false, not, ne_eqb, ◌&&◌, ◌||◌, List, [], ◌∷◌, ◌++◌, length, map, cond, refl, sym, ap, subst, ◌∙◌, arith, get_or, take, drop, add-one, drop-cons}
use Rattle.std.proofs.lemmas.List.{append-nil, length-append, length-map}
use Rattle.std.proofs.lemmas.List.Elements.{filter-append}
use Rattle.std.specs.Prelude.{Some, None, codes, slice_get}
use Rattle.std.specs.List.{flat_map, list_any}
use Rattle.std.specs.Str.{bytes_eq}
use Rattle.abc_base.specs.declared.names.HostClass.{HostClass}
use Rattle.abc_base.specs.declared.names.HostClass.TheVariants as hosts
use Rattle.abc_heap_store.specs.Heap.{Heap}
use Rattle.abc_base_graphs.specs.Groups.{places_from, places_of, some_places}
use Rattle.abc_link_names.specs.Pool.{name, qname, text}
use Rattle.abc_link_names.specs.declared.named.DefiniteName.{DefiniteName}
use Rattle.abc_link_names.specs.Linked.{LinkedFile, base_layout}
use Rattle.abc_link_names.specs.Numbering.{part_at}
use Rattle.abc_link_names.specs.Slots.{handler_at, slots_in, traits_of}
use Rattle.abc_link_names.specs.declared.part.Part.{Part}
use Rattle.abc_link_names.specs.declared.part.Part.TheVariants as parts
use Rattle.abc_link_names.specs.Traits.{own_table_of, own_traits, trait_texts}
use Rattle.abc_objects.specs.Candidates.{OfTrait, answer_of_search, text_of_span}
use Rattle.abc_objects.specs.Results.{or_next}
use Rattle.abc_objects.specs.Spaces.{holds_trait_space, holds_protected, is_protected}
use Rattle.abc_objects.specs.Traits.{Trait, caught_trait, members_in, own, own_traits_of, slots_under, trait_named, traits_from, traits_named}
use Rattle.abc_objects.specs.declared.found.Found.{Found}
use Rattle.abc_objects.specs.declared.found.Found.TheVariants.{Missing}
use Rattle.abc_objects.specs.declared.found.Skip.{Skip}
use Rattle.abc_objects.specs.declared.name.Name.{Name}
use Rattle.abc_objects.specs.declared.traits.Declared.{Declared}
use Rattle.abc_objects.specs.declared.traits.Member.{Member}
use Rattle.abc_objects.specs.declared.traits.Member.TheVariants as members
use Rattle.abc_objects.specs.declared.traits.TraitSpace.TheVariants as spaces
use Rattle.abc_objects.proofs.Joins.{one, answer_none, answer_more, or_assoc, or_missing}
use Rattle.abc_lookup.specs.Slots.{members_of, own_at, slots_in_traits, slot_of, trait_at}
use Rattle.abc_lookup.specs.Steps.{fits_held, layout_result, gives_found, member_found, trait_result, with_text}
use Rattle.abc_file_types.specs.declared.traits.TraitInfo.{TraitInfo}

-- ---- the traits with a text, one after the other

pub gives_append : (l : LinkedFile) (n : Name) (s : Skip) (x : ℕ) (held : Bool) (ts us : List Trait) → gives_found l n s x held (ts ++ us) ≡ or_next (gives_found l n s x held ts) (gives_found l n s x held us)
gives_append l n s x held [] us = refl
gives_append l n s x held (t ∷ ts) us =
    ap (or_next (trait_result l n s x held t.declared)) (gives_append l n s x held ts us)
    ∙ sym (or_assoc (trait_result l n s x held t.declared) (gives_found l n s x held ts) (gives_found l n s x held us))

-- a trait among the candidates
one_tried : (l : LinkedFile) (h : Heap) (n : Name) (s : Skip) (x : ℕ) (passed : List ℕ) (held : Bool) (t : Trait) → list_any (holds_protected l n.spaces) passed ≡ held
    → one l h n s (OfTrait x passed t) ≡ cond (bytes_eq (text_of_span l h n.text) t.text) (trait_result l n s x held t.declared) Missing
one_tried l h n s x passed held t e =
    ap (λ b. cond (bytes_eq (text_of_span l h n.text) t.text && (holds_trait_space l n.spaces t.declared.space || (is_protected l x t.declared.space && b))) (member_found l s t.declared.member) Missing) e
    ∙ go (bytes_eq (text_of_span l h n.text) t.text)
  where
    go : (b : Bool) → cond (b && fits_held l n x held t.declared.space) (member_found l s t.declared.member) Missing ≡ cond b (trait_result l n s x held t.declared) Missing
    go true = refl
    go false = refl

text_first : (l : LinkedFile) (h : Heap) (n : Name) (s : Skip) (x : ℕ) (passed : List ℕ) (held : Bool) (ts : List Trait) → list_any (holds_protected l n.spaces) passed ≡ held
    → answer_of_search l h n s (map (OfTrait x passed) ts) ≡ gives_found l n s x held (with_text (text_of_span l h n.text) ts)
text_first l h n s x passed held [] e = answer_none l h n s
text_first l h n s x passed held (t ∷ ts) e =
    answer_more l h n s (OfTrait x passed t) (map (OfTrait x passed) ts)
    ∙ ap (or_next (one l h n s (OfTrait x passed t))) (text_first l h n s x passed held ts e)
    ∙ ap (λ f. or_next f (gives_found l n s x held (with_text (text_of_span l h n.text) ts))) (one_tried l h n s x passed held t e)
    ∙ go (bytes_eq (text_of_span l h n.text) t.text)
  where
    go : (b : Bool) → or_next (cond b (trait_result l n s x held t.declared) Missing) (gives_found l n s x held (with_text (text_of_span l h n.text) ts)) ≡ gives_found l n s x held (cond b (t ∷ with_text (text_of_span l h n.text) ts) (with_text (text_of_span l h n.text) ts))
    go true = refl
    go false = refl

pub text_first_of : (l : LinkedFile) (h : Heap) (n : Name) (s : Skip) (x : ℕ) (passed : List ℕ) (held : Bool) → list_any (holds_protected l n.spaces) passed ≡ held
    → answer_of_search l h n s (map (OfTrait x passed) (own l x)) ≡ layout_result l (text_of_span l h n.text) n s x held
unfolding layout_result
text_first_of l h n s x passed held e = text_first l h n s x passed held (own l x) e

-- ---- the traits of a table, by their places

-- what a name has is all of its text
named_text : (l : LinkedFile) (t : List ℕ) (d : DefiniteName) (ms : List Member) → with_text t (traits_named l d ms) ≡ cond (bytes_eq t (text l.file d.string)) (traits_named l d ms) []
named_text l t d [] = go (bytes_eq t (text l.file d.string))
  where
    go : (b : Bool) → traits_named l d [] ≡ cond b (traits_named l d []) []
    go true = refl
    go false = refl
named_text l t d (m ∷ ms) = ap (λ us. cond (bytes_eq t (text l.file d.string)) (trait_named l d m ∷ us) us) (named_text l t d ms) ∙ go (bytes_eq t (text l.file d.string))
  where
    go : (b : Bool) → cond b (trait_named l d m ∷ cond b (traits_named l d ms) []) (cond b (traits_named l d ms) []) ≡ cond b (trait_named l d m ∷ traits_named l d ms) []
    go true = refl
    go false = refl

placed : (l : LinkedFile) (t : List ℕ) (at : ℕ → List Trait) (i slot : ℕ) (ts : List TraitInfo) → ((j : ℕ) → at (i + j) ≡ trait_at l slot ts j)
    → flat_map at (places_from (bytes_eq t) i (trait_texts l.file ts)) ≡ with_text t (traits_from l slot ts)
placed l t at i slot [] h = refl
placed l t at i slot (u ∷ ts) h =
    go (placed l t at (i + 1) (slot + length (slots_in l u.body)) ts (λ j. let e : i + 1 + j ≡ i + suc j = omega arith in ap at e ∙ h (suc j))) (bytes_eq t (text l.file (qname (name l.file u.name)).string))
    ∙ ap (λ us. us ++ with_text t later) (sym (named_text l t (qname (name l.file u.name)) (members_in slot u.body)))
    ∙ sym (filter-append (λ (d : Trait). bytes_eq t d.text) here later)
  where
    here : List Trait
    here = traits_named l (qname (name l.file u.name)) (members_in slot u.body)

    later : List Trait
    later = traits_from l (slot + length (slots_in l u.body)) ts

    first : at i ≡ traits_named l (qname (name l.file u.name)) (members_in slot u.body)
    first = let e : i ≡ i + 0 = omega arith in ap at e ∙ h 0

    go : flat_map at (places_from (bytes_eq t) (i + 1) (trait_texts l.file ts)) ≡ with_text t (traits_from l (slot + length (slots_in l u.body)) ts)
        → (b : Bool) → flat_map at (cond b (i ∷ places_from (bytes_eq t) (i + 1) (trait_texts l.file ts)) (places_from (bytes_eq t) (i + 1) (trait_texts l.file ts))) ≡ cond b (traits_named l (qname (name l.file u.name)) (members_in slot u.body)) [] ++ with_text t (traits_from l (slot + length (slots_in l u.body)) ts)
    go rest true = ap (λ us. us ++ flat_map at (places_from (bytes_eq t) (i + 1) (trait_texts l.file ts))) first ∙ ap (λ us. traits_named l (qname (name l.file u.name)) (members_in slot u.body) ++ us) rest
    go rest false = rest

placed_all : (l : LinkedFile) (t : List ℕ) (x : ℕ) → flat_map (own_at l x) (places_of (bytes_eq t) (trait_texts l.file (own_table_of l x))) ≡ with_text t (traits_from l (slots_under l (base_layout l x)) (own_table_of l x))
placed_all l t x = placed l t (own_at l x) 0 (slots_under l (base_layout l x)) (own_table_of l x) (λ j. let e : 0 + j ≡ j = omega arith in ap (own_at l x) e)

pub some_some : (ps qs : List ℕ) → Some ps ≡ some_places qs → ps ≡ qs
some_some ps [] e = cc
some_some ps (q ∷ qs) e = cc

pub none_none : (qs : List ℕ) → None ≡ some_places qs → qs ≡ []
none_none [] e = refl
none_none (q ∷ qs) e = cc

-- what the linker answers for a text
pub some_there : (l : LinkedFile) (n : Name) (s : Skip) (x : ℕ) (held : Bool) (t ps : List ℕ) → Some ps ≡ own_traits l x t
    → gives_found l n s x held (flat_map (own_at l x) ps) ≡ gives_found l n s x held (with_text t (traits_from l (slots_under l (base_layout l x)) (own_table_of l x)))
some_there l n s x held t ps e = ap (λ qs. gives_found l n s x held (flat_map (own_at l x) qs)) (some_some ps _ e) ∙ ap (gives_found l n s x held) (placed_all l t x)

pub none_there : (l : LinkedFile) (n : Name) (s : Skip) (x : ℕ) (held : Bool) (t : List ℕ) → None ≡ own_traits l x t
    → Missing ≡ gives_found l n s x held (with_text t (traits_from l (slots_under l (base_layout l x)) (own_table_of l x)))
none_there l n s x held t e = ap (λ qs. gives_found l n s x held (flat_map (own_at l x) qs)) (sym (none_none _ e)) ∙ ap (gives_found l n s x held) (placed_all l t x)

-- each place is one of a trait
pub places_below : {K : Type 0} (t : K → Bool) (n : ℕ) (ks : List K) (i p : ℕ) → slice_get (places_from t n ks) i ≡ Some p → p < n + length ks
places_below t n [] i p e = cc
places_below t n (k ∷ ks) i p e = go (λ j h. let lt = places_below t (n + 1) ks j p h in omega (arith, lt)) (t k) i e
  where
    go : ((j : ℕ) → slice_get (places_from t (n + 1) ks) j ≡ Some p → p < n + length (k ∷ ks))
        → (b : Bool) (i : ℕ) → slice_get (cond b (n ∷ places_from t (n + 1) ks) (places_from t (n + 1) ks)) i ≡ Some p → p < n + length (k ∷ ks)
    go more true zero e = let q : n ≡ p = cc in omega (arith, q)
    go more true (suc i) e = more i e
    go more false i e = more i e

pub some_at : (xs : List ℕ) (i : ℕ) → i < length xs → slice_get xs i ≡ Some (get_or xs i 0)
some_at [] i h = absurd (omega arith)
some_at (x ∷ xs) zero h = refl
some_at (x ∷ xs) (suc i) h = some_at xs i (omega arith)

pub places_there : (l : LinkedFile) (x : ℕ) (t ps : List ℕ) → Some ps ≡ own_traits l x t → (i : ℕ) → i < length ps → get_or ps i 0 < length (own_table_of l x)
places_there l x t ps e i h =
    let q = some_some ps _ e in
    let at : slice_get (places_of (bytes_eq t) (trait_texts l.file (own_table_of l x))) i ≡ Some (get_or ps i 0) = ap (λ (zs : List ℕ). slice_get zs i) (sym q) ∙ some_at ps i h in
    let lt = places_below (bytes_eq t) 0 (trait_texts l.file (own_table_of l x)) i (get_or ps i 0) at in
    omega (arith, lt, length-map (own_table_of l x) (λ (t : TraitInfo). text l.file (qname (name l.file t.name)).string))

-- ---- the trait at a place

pub at_place : (l : LinkedFile) (slot : ℕ) (ts : List TraitInfo) (p : ℕ) (t : TraitInfo) → p < length ts → get_or ts p t ≡ t
    → trait_at l slot ts p ≡ traits_named l (qname (name l.file t.name)) (members_in (slot + slots_in_traits l (take p ts)) t.body)
at_place l slot [] p t h e = absurd (omega arith)
at_place l slot (u ∷ ts) zero t h e =
    let z : slot ≡ slot + 0 = omega arith in
    ap (λ (v : TraitInfo). traits_named l (qname (name l.file v.name)) (members_in slot v.body)) e ∙ ap (λ k. traits_named l (qname (name l.file t.name)) (members_in k t.body)) z
at_place l slot (u ∷ ts) (suc p) t h e =
    let z : slot + length (slots_in l u.body) + slots_in_traits l (take p ts) ≡ slot + slots_in_traits l (take (suc p) (u ∷ ts)) = omega (arith, length-append (slots_in l u.body) (flat_map (λ (v : TraitInfo). slots_in l v.body) (take p ts))) in
    at_place l (slot + length (slots_in l u.body)) ts p t (omega arith) e ∙ ap (λ k. traits_named l (qname (name l.file t.name)) (members_in k t.body)) z

pub place_is : (l : LinkedFile) (x p : ℕ) (ts : List TraitInfo) (t : TraitInfo) (d : DefiniteName) → ts ≡ own_table_of l x → p < length (own_table_of l x) → t ≡ get_or ts p t → d ≡ qname (name l.file t.name)
    → own_at l x p ≡ traits_named l d (members_in (slot_of l x p) t.body)
place_is l x p ts t d is h e ed =
    at_place l (slots_under l (base_layout l x)) (own_table_of l x) p t h (sym (e ∙ ap (λ (us : List TraitInfo). get_or us p t) is))
    ∙ ap (λ c. traits_named l c (members_in (slot_of l x p) t.body)) (sym ed)

-- a trait whose namespace doesn't fit, one that fits, and none
pub unfit : (l : LinkedFile) (n : Name) (s : Skip) (x : ℕ) (held : Bool) (d : DefiniteName) (ms : List Member) → fits_held l n x held (spaces.Pool d.ns) ≡ false → Missing ≡ gives_found l n s x held (traits_named l d ms)
unfit l n s x held d [] e = refl
unfit l n s x held d (m ∷ ms) e = unfit l n s x held d ms e ∙ ap (λ b. or_next (cond b (member_found l s m) Missing) (gives_found l n s x held (traits_named l d ms))) (sym e)

pub fit : (l : LinkedFile) (n : Name) (s : Skip) (x : ℕ) (held : Bool) (d : DefiniteName) (m : Member) (ms : List Member) → fits_held l n x held (spaces.Pool d.ns) ≡ true → members_of (Some m) ≡ ms → member_found l s m ≡ gives_found l n s x held (traits_named l d ms)
fit l n s x held d m ms e is =
    sym (or_missing (member_found l s m)) ∙ ap (λ b. or_next (cond b (member_found l s m) Missing) Missing) (sym e) ∙ ap (λ us. gives_found l n s x held (traits_named l d us)) is

pub unlisted : (l : LinkedFile) (n : Name) (s : Skip) (x : ℕ) (held : Bool) (d : DefiniteName) (ms : List Member) → members_of None ≡ ms → Missing ≡ gives_found l n s x held (traits_named l d ms)
unlisted l n s x held d ms is = ap (λ us. gives_found l n s x held (traits_named l d us)) is

-- ---- one trait of a text

pub named_hit : (l : LinkedFile) (n : Name) (s : Skip) (x : ℕ) (held : Bool) (t named : List ℕ) (d : Declared) → bytes_eq t named ≡ true → trait_result l n s x held d ≡ gives_found l n s x held (with_text t (record { text = named; declared = d } ∷ []))
named_hit l n s x held t named d e = sym (or_missing (trait_result l n s x held d)) ∙ ap (λ b. gives_found l n s x held (cond b (record { text = named; declared = d } ∷ []) [])) (sym e)

pub not_false : (b : Bool) → not b ≡ false → b ≡ true
not_false true e = refl
not_false false e = cc

-- ---- the layouts without a table

pub prototype_given : (l : LinkedFile) (t : List ℕ) (n : Name) (s : Skip) (x : ℕ) (held : Bool) (slot : ℕ) (f : Found) → part_at l.parts x ≡ parts.Host hosts.Class → slot ≡ slots_under l (base_layout l x)
    → f ≡ gives_found l n s x held (with_text t (record { text = codes "prototype"; declared = record { space = spaces.Public; member = members.Slot slot true } } ∷ [])) → f ≡ layout_result l t n s x held
unfolding layout_result
prototype_given l t n s x held slot f part is e =
    e
    ∙ ap (λ k. gives_found l n s x held (with_text t (own_traits_of l k (parts.Host hosts.Class)))) is
    ∙ ap (λ p. gives_found l n s x held (with_text t (own_traits_of l (slots_under l (base_layout l x)) p))) (sym part)

pub caught_none : (l : LinkedFile) (t : List ℕ) (n : Name) (s : Skip) (x : ℕ) (held : Bool) (b e var : ℕ) → part_at l.parts x ≡ parts.Catch b e → var ≡ (handler_at l.file b e).var_name → var ≡ 0 → Missing ≡ layout_result l t n s x held
unfolding layout_result
caught_none l t n s x held b e var part is none =
    ap (λ k. gives_found l n s x held (with_text t (caught_trait l (slots_under l (base_layout l x)) k))) (sym none ∙ is)
    ∙ ap (λ p. gives_found l n s x held (with_text t (own_traits_of l (slots_under l (base_layout l x)) p))) (sym part)

pub caught_given : (l : LinkedFile) (t : List ℕ) (n : Name) (s : Skip) (x : ℕ) (held : Bool) (b e var slot : ℕ) (d : DefiniteName) (named : List ℕ) (f : Found)
    → part_at l.parts x ≡ parts.Catch b e → var ≡ (handler_at l.file b e).var_name → (var ≡ 0 → ⊥) → slot ≡ slots_under l (base_layout l x) → d ≡ qname (name l.file var) → named ≡ text l.file d.string
    → f ≡ gives_found l n s x held (with_text t (record { text = named; declared = record { space = spaces.Pool d.ns; member = members.Slot slot false } } ∷ [])) → f ≡ layout_result l t n s x held
unfolding layout_result
caught_given l t n s x held b e var slot d named f part is some is_slot is_name is_text ef =
    ef
    ∙ ap (λ u. gives_found l n s x held (with_text t (record { text = u; declared = record { space = spaces.Pool d.ns; member = members.Slot slot false } } ∷ []))) is_text
    ∙ ap (λ c. gives_found l n s x held (with_text t (trait_named l c (members.Slot slot false) ∷ []))) is_name
    ∙ ap (λ k. gives_found l n s x held (with_text t (trait_named l (qname (name l.file var)) (members.Slot k false) ∷ []))) is_slot
    ∙ ap (λ q. gives_found l n s x held (with_text t (cond q [] (trait_named l (qname (name l.file var)) (members.Slot (slots_under l (base_layout l x)) false) ∷ [])))) (sym (ne_eqb var 0 some))
    ∙ ap (λ k. gives_found l n s x held (with_text t (caught_trait l (slots_under l (base_layout l x)) k))) is
    ∙ ap (λ p. gives_found l n s x held (with_text t (own_traits_of l (slots_under l (base_layout l x)) p))) (sym part)

-- those with one
is_table : (l : LinkedFile) (slot : ℕ) (p : Part) → (p ≡ parts.Host hosts.Class → ⊥) → ((b e : ℕ) → p ≡ parts.Catch b e → ⊥) → own_traits_of l slot p ≡ traits_from l slot (traits_of l.file p)
is_table l slot (parts.Host hosts.Class) no_class no_catch = absurd (no_class refl)
is_table l slot (parts.Catch b e) no_class no_catch = absurd (no_catch b e refl)
is_table l slot p no_class no_catch = refl

pub table_given : (l : LinkedFile) (t : List ℕ) (n : Name) (s : Skip) (x : ℕ) (held : Bool) (f : Found) → (part_at l.parts x ≡ parts.Host hosts.Class → ⊥) → ((b e : ℕ) → part_at l.parts x ≡ parts.Catch b e → ⊥)
    → f ≡ gives_found l n s x held (with_text t (traits_from l (slots_under l (base_layout l x)) (own_table_of l x))) → f ≡ layout_result l t n s x held
unfolding layout_result
table_given l t n s x held f no_class no_catch e = e ∙ ap (λ us. gives_found l n s x held (with_text t us)) (sym (is_table l (slots_under l (base_layout l x)) (part_at l.parts x) no_class no_catch))

pub host_table : (l : LinkedFile) (t : List ℕ) (n : Name) (s : Skip) (x : ℕ) (held : Bool) (c : HostClass) (f : Found) → part_at l.parts x ≡ parts.Host c → (c ≡ hosts.Class → ⊥)
    → f ≡ gives_found l n s x held (with_text t (traits_from l (slots_under l (base_layout l x)) (own_table_of l x))) → f ≡ layout_result l t n s x held
host_table l t n s x held c f is other e = table_given l t n s x held f (λ q. let r : parts.Host c ≡ parts.Host hosts.Class = sym is ∙ q in let k : c ≡ hosts.Class = cc in other k) (λ b h q. let r : parts.Host c ≡ parts.Catch b h = sym is ∙ q in cc) e

-- ---- the loop over places

-- the only place of a list
pub only_inside : (ps : List ℕ) (p n : ℕ) → ps ≡ p ∷ [] → ((i : ℕ) → i < length ps → get_or ps i 0 < n) → p < n
only_inside ps p n e h = subst (λ (qs : List ℕ). get_or qs 0 0 < n) e (h 0 (omega (arith, ap length e)))

pub only_given : (l : LinkedFile) (n : Name) (s : Skip) (x : ℕ) (held : Bool) (at : ℕ → List Trait) (ps : List ℕ) (p : ℕ) → ps ≡ p ∷ [] → gives_found l n s x held (at p) ≡ gives_found l n s x held (flat_map at ps)
only_given l n s x held at ps p e = ap (gives_found l n s x held) (sym (append-nil (at p))) ∙ sym (ap (λ (qs : List ℕ). gives_found l n s x held (flat_map at qs)) e)

-- what was found, and then what the place gives and the rest gives, is what all give
pub place_next : (l : LinkedFile) (n : Name) (s : Skip) (x : ℕ) (held : Bool) (at : ℕ → List Trait) (ps : List ℕ) (i : ℕ) (so_far found next whole : Found) → i < length ps
    → or_next so_far (gives_found l n s x held (flat_map at (drop i ps))) ≡ whole → found ≡ gives_found l n s x held (at (get_or ps i 0)) → next ≡ or_next so_far found
    → or_next next (gives_found l n s x held (flat_map at (drop (i + 1) ps))) ≡ whole
place_next l n s x held at ps i so_far found next whole h e is ns =
    let r = gives_found l n s x held (flat_map at (drop (i + 1) ps)) in
    let split : drop i ps ≡ get_or ps i 0 ∷ drop (i + 1) ps = rw (add-one, drop-cons ps i 0) refl in
    ap (λ f. or_next f r) ns ∙ or_assoc so_far found r
    ∙ ap (λ f. or_next so_far (or_next f r)) is
    ∙ ap (or_next so_far) (sym (gives_append l n s x held (at (get_or ps i 0)) (flat_map at (drop (i + 1) ps))))
    ∙ ap (λ qs. or_next so_far (gives_found l n s x held (flat_map at qs))) (sym split)
    ∙ e

-- What an object has of its own.
use Rattle.std.proofs.Common.{◌≡◌, ℕ, zero, suc, ◌+◌, ◌<◌, ◌≤◌, ◌⊎◌, inl, inr, Bool, true, false, List, [], ◌∷◌, ◌++◌, length, take, reverse, cond, nat_eq, eq-eqb, ne_eqb, get_or, refl, sym, ap, ◌∙◌, arith}
use Rattle.std.specs.Prelude.{Some, None, slice_get}
use Rattle.std.specs.declared.option.Option.{Option}
use Rattle.std.specs.List.{flat_map}
use Rattle.std.specs.Str.{bytes_eq}
use Rattle.std.proofs.lemmas.Bool.{cases_eq}
use Rattle.std.proofs.lemmas.List.{reverse-append, take_all, take_more}
use Rattle.abc_heap_values.specs.declared.values.ObjId.{ObjId}
use Rattle.abc_heap_values.specs.declared.values.Span.{Span}
use Rattle.abc_heap_values.specs.declared.values.Value.{Value}
use Rattle.abc_heap_values.specs.declared.values.Value.TheVariants as values
use Rattle.abc_base_graphs.specs.Ways.{IsFalling}
use Rattle.abc_base_graphs.proofs.Walks.{way_none, way_some}
use Rattle.abc_heap_store.specs.Heap.{Heap, Object, obj_id, object_at, properties_of}
use Rattle.abc_heap_store.specs.Properties.{present_property, found_property as property_at_place, is_property_named, place_below, property_in_heap, the_value}
use Rattle.abc_heap_store.specs.What.{is_array}
use Rattle.abc_base_graphs.proofs.Numbering.{same_bytes}
use Rattle.abc_link_names.specs.Linked.{LinkedFile}
use Rattle.abc_objects.specs.Candidates.{Candidate, OfElement, OfLength, OfProperty, answer_of_search, element_candidates, elements_from, own_things, property_candidates, property_at, text_of_span, things_along, traits_on, where_public}
use Rattle.abc_objects.specs.ElementNames.{element_number, is_length, is_element_named, names_element}
use Rattle.abc_objects.specs.Objects.{delegate_at}
use Rattle.abc_objects.specs.Results.{or_next}
use Rattle.abc_objects.specs.Spaces.{name_holds_public}
use Rattle.abc_objects.specs.declared.found.Found.{Found}
use Rattle.abc_objects.specs.declared.found.Found.TheVariants as founds
use Rattle.abc_objects.specs.declared.found.Skip.{Skip}
use Rattle.abc_objects.specs.declared.name.Name.{Name}
use Rattle.abc_objects.proofs.Joins.{answer_none, answer_more, answer_append, or_assoc}

-- ---- properties

abbrev pub property_found : ℕ → Option Value → Found
property_found o None = founds.Missing
property_found o (Some v) = founds.Property (obj_id o) v

bytes_swap : (a b : List ℕ) → bytes_eq a b ≡ bytes_eq b a
bytes_swap a b = go (bytes_eq a b) (bytes_eq b a) refl refl
  where
    go : (x y : Bool) → bytes_eq a b ≡ x → bytes_eq b a ≡ y → bytes_eq a b ≡ bytes_eq b a
    go true y e f = ap (λ (c : List ℕ). bytes_eq c b) (same_bytes a b e) ∙ ap (bytes_eq b) (sym (same_bytes a b e))
    go false true e f = ap (bytes_eq a) (same_bytes b a f) ∙ ap (λ (c : List ℕ). bytes_eq c a) (sym (same_bytes b a f))
    go false false e f = e ∙ sym f

here : (ps : List (Option (Span × Value))) (k : ℕ) → k < length ps → (x : Option (Span × Value)) × (slice_get ps k ≡ Some x) × (take (k + 1) ps ≡ take k ps ++ x ∷ [])
here ps k h = (get_or ps k None, some_at ps k h, take_more ps k None h)
  where
    some_at : (xs : List (Option (Span × Value))) (i : ℕ) → i < length xs → slice_get xs i ≡ Some (get_or xs i None)
    some_at [] i h = absurd (omega arith)
    some_at (x ∷ xs) zero h = refl
    some_at (x ∷ xs) (suc i) h = some_at xs i (omega arith)

-- the first of those that are listed youngest first is the last that stands in the list
module _ (l : LinkedFile) (h : Heap) (n : Name) (s : Skip) (o : ℕ) (ps : List (Option (Span × Value))) where
  below : (k : ℕ) → k ≤ length ps → answer_of_search l h n s (flat_map (property_at o) (reverse (take k ps))) ≡ property_found o (property_at_place ps (place_below (text_of_span l h) (text_of_span l h n.text) ps k))
  below zero le = answer_none l h n s
  below (suc k) le = go (here ps k (omega arith)).0 (here ps k (omega arith)).1 (here ps k (omega arith)).2 (below k (omega arith))
    where
      split : (x : Option (Span × Value)) → take (k + 1) ps ≡ take k ps ++ x ∷ [] → reverse (take (suc k) ps) ≡ x ∷ reverse (take k ps)
      split x more = let one : suc k ≡ k + 1 = omega arith in ap (λ m. reverse (take m ps)) one ∙ ap reverse more ∙ reverse-append (take k ps) (x ∷ [])

      named : (p : Span × Value) (b : Bool) → slice_get ps k ≡ Some (Some p) → answer_of_search l h n s (flat_map (property_at o) (reverse (take k ps))) ≡ property_found o (property_at_place ps (place_below (text_of_span l h) (text_of_span l h n.text) ps k))
          → or_next (cond b (founds.Property (obj_id o) p.1) founds.Missing) (answer_of_search l h n s (flat_map (property_at o) (reverse (take k ps)))) ≡ property_found o (property_at_place ps (cond b (Some k) (place_below (text_of_span l h) (text_of_span l h n.text) ps k)))
      named p true is ih = ap (λ x. property_found o (the_value (present_property x))) (sym is)
      named p false is ih = ih

      go : (x : Option (Span × Value)) → slice_get ps k ≡ Some x → take (k + 1) ps ≡ take k ps ++ x ∷ [] → answer_of_search l h n s (flat_map (property_at o) (reverse (take k ps))) ≡ property_found o (property_at_place ps (place_below (text_of_span l h) (text_of_span l h n.text) ps k))
          → answer_of_search l h n s (flat_map (property_at o) (reverse (take (suc k) ps))) ≡ property_found o (property_at_place ps (place_below (text_of_span l h) (text_of_span l h n.text) ps (suc k)))
      go None is more ih =
          ap (λ xs. answer_of_search l h n s (flat_map (property_at o) xs)) (split None more) ∙ ih
          ∙ ap (λ x. property_found o (property_at_place ps (cond (is_property_named (text_of_span l h) (text_of_span l h n.text) x) (Some k) (place_below (text_of_span l h) (text_of_span l h n.text) ps k)))) (sym is)
      go (Some p) is more ih =
          ap (λ xs. answer_of_search l h n s (flat_map (property_at o) xs)) (split (Some p) more)
          ∙ answer_more l h n s (OfProperty o p.0 p.1) (flat_map (property_at o) (reverse (take k ps)))
          ∙ ap (λ b. or_next (cond b (founds.Property (obj_id o) p.1) founds.Missing) (answer_of_search l h n s (flat_map (property_at o) (reverse (take k ps))))) (bytes_swap (text_of_span l h n.text) (text_of_span l h p.0))
          ∙ named p (bytes_eq (text_of_span l h p.0) (text_of_span l h n.text)) is ih
          ∙ ap (λ x. property_found o (property_at_place ps (cond (is_property_named (text_of_span l h) (text_of_span l h n.text) x) (Some k) (place_below (text_of_span l h) (text_of_span l h n.text) ps k)))) (sym is)

pub properties_all : (l : LinkedFile) (h : Heap) (n : Name) (s : Skip) (o : ℕ) → answer_of_search l h n s (property_candidates o (object_at h.objects o)) ≡ property_found o (property_in_heap l.file.strings h o n.text)
properties_all l h n s o =
    let ps = properties_of h.objects o in
    let le : length ps ≤ length ps = omega arith in
    ap (λ (xs : List (Option (Span × Value))). answer_of_search l h n s (flat_map (property_at o) (reverse xs))) (sym (take_all (length ps) ps le))
    ∙ below l h n s o ps (length ps) le

-- ---- elements

-- none has the number
elements_miss : (l : LinkedFile) (h : Heap) (n : Name) (s : Skip) (o k : ℕ) (vs : List Value) → ((i : ℕ) → i < k + length vs → names_element i (text_of_span l h n.text) ≡ false)
    → answer_of_search l h n s (elements_from o k vs) ≡ founds.Missing
elements_miss l h n s o k [] never = answer_none l h n s
elements_miss l h n s o k (v ∷ vs) never =
    answer_more l h n s (OfElement o k) (elements_from o (k + 1) vs)
    ∙ ap (λ b. or_next (cond b (founds.Element (obj_id o) k) founds.Missing) (answer_of_search l h n s (elements_from o (k + 1) vs))) (never k (omega arith))
    ∙ elements_miss l h n s o (k + 1) vs (λ i lt. never i (omega arith))

-- one has it
elements_hit : (l : LinkedFile) (h : Heap) (n : Name) (s : Skip) (o k j : ℕ) (vs : List Value) → k ≤ j → j < k + length vs → ((i : ℕ) → names_element i (text_of_span l h n.text) ≡ nat_eq i j)
    → answer_of_search l h n s (elements_from o k vs) ≡ founds.Element (obj_id o) j
elements_hit l h n s o k j [] low high is = absurd (omega arith)
elements_hit l h n s o k j (v ∷ vs) low high is =
    answer_more l h n s (OfElement o k) (elements_from o (k + 1) vs)
    ∙ ap (λ b. or_next (cond b (founds.Element (obj_id o) k) founds.Missing) (answer_of_search l h n s (elements_from o (k + 1) vs))) (is k)
    ∙ go (cases_eq k j) (λ ne. elements_hit l h n s o (k + 1) j vs (omega arith) (omega arith) is)
  where
    go : (k ≡ j) ⊎ (k ≡ j → ⊥) → ((k ≡ j → ⊥) → answer_of_search l h n s (elements_from o (k + 1) vs) ≡ founds.Element (obj_id o) j)
        → or_next (cond (nat_eq k j) (founds.Element (obj_id o) k) founds.Missing) (answer_of_search l h n s (elements_from o (k + 1) vs)) ≡ founds.Element (obj_id o) j
    go (inl e) rest =
        ap (λ b. or_next (cond b (founds.Element (obj_id o) k) founds.Missing) (answer_of_search l h n s (elements_from o (k + 1) vs))) (eq-eqb k j e)
        ∙ ap (λ i. founds.Element (obj_id o) i) e
    go (inr ne) rest =
        ap (λ b. or_next (cond b (founds.Element (obj_id o) k) founds.Missing) (answer_of_search l h n s (elements_from o (k + 1) vs))) (ne_eqb k j ne)
        ∙ rest ne

-- where the text names no element, one past the end, or one that is there
pub no_number : (l : LinkedFile) (h : Heap) (n : Name) (s : Skip) (o : ℕ) (vs : List Value) → element_number (text_of_span l h n.text) ≡ None → answer_of_search l h n s (elements_from o 0 vs) ≡ founds.Missing
no_number l h n s o vs e = elements_miss l h n s o 0 vs (λ i lt. ap (is_element_named i) e)

pub number_past : (l : LinkedFile) (h : Heap) (n : Name) (s : Skip) (o j : ℕ) (vs : List Value) → element_number (text_of_span l h n.text) ≡ Some j → length vs ≤ j → answer_of_search l h n s (elements_from o 0 vs) ≡ founds.Missing
number_past l h n s o j vs e le = elements_miss l h n s o 0 vs (λ i lt. ap (is_element_named i) e ∙ ne_eqb i j (λ q. omega (arith, q)))

pub number_hit : (l : LinkedFile) (h : Heap) (n : Name) (s : Skip) (o j : ℕ) (vs : List Value) → element_number (text_of_span l h n.text) ≡ Some j → j < length vs → answer_of_search l h n s (elements_from o 0 vs) ≡ founds.Element (obj_id o) j
number_hit l h n s o j vs e lt = elements_hit l h n s o 0 j vs (omega arith) (omega arith) (λ i. ap (is_element_named i) e)

-- the length of an array, and then its elements
pub length_hit : (l : LinkedFile) (h : Heap) (n : Name) (s : Skip) (o : ℕ) (cs : List Candidate) → is_length (text_of_span l h n.text) ≡ true → answer_of_search l h n s (OfLength o ∷ cs) ≡ founds.Length (obj_id o)
length_hit l h n s o cs e = answer_more l h n s (OfLength o) cs ∙ ap (λ b. or_next (cond b (founds.Length (obj_id o)) founds.Missing) (answer_of_search l h n s cs)) e

pub length_miss : (l : LinkedFile) (h : Heap) (n : Name) (s : Skip) (o : ℕ) (cs : List Candidate) → is_length (text_of_span l h n.text) ≡ false → answer_of_search l h n s (OfLength o ∷ cs) ≡ answer_of_search l h n s cs
length_miss l h n s o cs e = answer_more l h n s (OfLength o) cs ∙ ap (λ b. or_next (cond b (founds.Length (obj_id o)) founds.Missing) (answer_of_search l h n s cs)) e

-- only arrays have elements
pub no_array : (l : LinkedFile) (h : Heap) (n : Name) (s : Skip) (o : ℕ) (ob : Object) → is_array ob.what ≡ false → answer_of_search l h n s (element_candidates o ob) ≡ founds.Missing
no_array l h n s o ob e = ap (λ b. answer_of_search l h n s (cond b (OfLength o ∷ elements_from o 0 ob.elements) [])) e ∙ answer_none l h n s

pub an_array : (l : LinkedFile) (h : Heap) (n : Name) (s : Skip) (o : ℕ) (ob : Object) → is_array ob.what ≡ true → answer_of_search l h n s (element_candidates o ob) ≡ answer_of_search l h n s (OfLength o ∷ elements_from o 0 ob.elements)
an_array l h n s o ob e = ap (λ b. answer_of_search l h n s (cond b (OfLength o ∷ elements_from o 0 ob.elements) [])) e

-- ---- an object and its delegates

pub things_step : (l : LinkedFile) (h : Heap) (n : Name) (s : Skip) (x : ℕ) → IsFalling (delegate_at h)
    → answer_of_search l h n s (things_along h (Some x)) ≡ or_next (answer_of_search l h n s (own_things h x)) (answer_of_search l h n s (things_along h (delegate_at h x)))
things_step l h n s x f =
    ap (λ xs. answer_of_search l h n s (flat_map (own_things h) xs)) (way_some (delegate_at h) f x)
    ∙ answer_append l h n s (own_things h x) (things_along h (delegate_at h x))

pub things_end : (l : LinkedFile) (h : Heap) (n : Name) (s : Skip) → answer_of_search l h n s (things_along h None) ≡ founds.Missing
things_end l h n s = ap (λ xs. answer_of_search l h n s (flat_map (own_things h) xs)) (way_none (delegate_at h)) ∙ answer_none l h n s

pub things_next : (l : LinkedFile) (h : Heap) (n : Name) (s : Skip) (x : ℕ) (at : Option ℕ) (so_far found next whole : Found) → IsFalling (delegate_at h) → at ≡ Some x
    → or_next so_far (answer_of_search l h n s (things_along h at)) ≡ whole → found ≡ answer_of_search l h n s (own_things h x) → next ≡ or_next so_far found
    → or_next next (answer_of_search l h n s (things_along h (delegate_at h x))) ≡ whole
things_next l h n s x at so_far found next whole f is e gs ns =
    let r = answer_of_search l h n s (things_along h (delegate_at h x)) in
    ap (λ g. or_next g r) ns ∙ or_assoc so_far found r
    ∙ ap (λ g. or_next so_far (or_next g r)) gs
    ∙ ap (or_next so_far) (sym (things_step l h n s x f))
    ∙ ap (λ o. or_next so_far (answer_of_search l h n s (things_along h o))) (sym is)
    ∙ e

-- ---- values, and names that hold the public namespace

pub no_traits : (l : LinkedFile) (h : Heap) (n : Name) (s : Skip) (v : Value) → ((o : ObjId) → v ≡ values.Obj o → ⊥) → answer_of_search l h n s (traits_on l h v) ≡ founds.Missing
no_traits l h n s (values.Obj o) never = absurd (never o refl)
no_traits l h n s values.Undefined never = answer_none l h n s
no_traits l h n s values.Null never = answer_none l h n s
no_traits l h n s (values.Num k) never = answer_none l h n s
no_traits l h n s (values.Bool b) never = answer_none l h n s
no_traits l h n s (values.Text t) never = answer_none l h n s
no_traits l h n s (values.Space k) never = answer_none l h n s

pub public_all : (l : LinkedFile) (h : Heap) (n : Name) (s : Skip) (cs : List Candidate) → name_holds_public l n.spaces ≡ true → answer_of_search l h n s (where_public l n cs) ≡ answer_of_search l h n s cs
public_all l h n s cs e = ap (λ b. answer_of_search l h n s (cond b cs [])) e

pub not_public_all : (l : LinkedFile) (h : Heap) (n : Name) (s : Skip) (cs : List Candidate) → name_holds_public l n.spaces ≡ false → answer_of_search l h n s (where_public l n cs) ≡ founds.Missing
not_public_all l h n s cs e = ap (λ b. answer_of_search l h n s (cond b cs [])) e ∙ answer_none l h n s

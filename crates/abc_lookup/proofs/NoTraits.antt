-- Objects that have no declared traits.
use Rattle.std.proofs.Common.{◌≡◌, ℕ, ◌<◌, Bool, true, false, List, [], ◌∷◌, ◌++◌, codes, length, map, refl, sym, ap, ◌∙◌}
use Rattle.std.specs.Prelude.{Some, None}
use Rattle.std.specs.declared.option.Option.{Option}
use Rattle.std.proofs.lemmas.Bool.{false≢true}
use Rattle.abc_base.specs.declared.names.HostClass.{HostClass}
use Rattle.abc_base.specs.declared.names.HostClass.TheVariants as hosts
use Rattle.abc_heap_values.specs.declared.values.ObjId.{ObjId}
use Rattle.abc_heap_values.specs.declared.values.Value.{Value}
use Rattle.abc_heap_values.specs.declared.values.Value.TheVariants as values
use Rattle.abc_base_graphs.proofs.Walks.{way_none, way_some}
use Rattle.abc_base_graphs.specs.Ways.{IsFalling, before, way}
use Rattle.abc_heap_store.specs.Heap.{Heap, elements_of, obj_id, object_at}
use Rattle.abc_heap_store.specs.Properties.{property_in_heap}
use Rattle.abc_heap_store.specs.What.{is_array}
use Rattle.abc_base_graphs.proofs.Numbering.{same_bytes}
use Rattle.abc_link_names.proofs.Finding.{falling, found}
use Rattle.abc_link_names.specs.Linked.{IsLinkedFile, LinkedFile, base_layout}
use Rattle.abc_link_names.specs.Numbering.{part_at}
use Rattle.abc_link_names.specs.Parts.{parent}
use Rattle.abc_link_names.specs.Places.{place_of_part, place_under}
use Rattle.abc_link_names.specs.declared.part.Part.{Part}
use Rattle.abc_link_names.specs.declared.part.Part.TheVariants as parts
use Rattle.abc_objects.proofs.Joins.{answer_none, ends, goes_on, hit_first}
use Rattle.abc_objects.specs.Candidates.{OfTrait, answer_of_search, element_candidates, elements_from, layout_at, own_things, property_candidates, text_of_span, things_along, traits, traits_after, where_public}
use Rattle.abc_objects.specs.ElementNames.{element_number, is_length}
use Rattle.abc_objects.specs.Objects.{delegate_at}
use Rattle.abc_objects.specs.Results.{is_hit, or_next, skip_for}
use Rattle.abc_objects.specs.Searches.{declared_found, found_on}
use Rattle.abc_objects.specs.Traits.{own, own_traits_of, slots_under}
use Rattle.abc_objects.specs.declared.found.Found.{Found}
use Rattle.abc_objects.specs.declared.found.Found.TheVariants as founds
use Rattle.abc_objects.specs.declared.found.Skip.{Skip}
use Rattle.abc_objects.specs.declared.found.Want.{Want}
use Rattle.abc_objects.specs.declared.name.Name.{Name}
use Rattle.abc_lookup.specs.NoTraits.{HasNoTraits, IsFoundFirst, IsWithoutTraits, class_is_bare, part_is_bare}
use Rattle.abc_lookup.proofs.Things.{an_array, length_miss, no_array, number_hit, properties_all, property_found, public_all, things_step}

-- ---- the layouts of Object's instances and of arrays

one_bare : (l : LinkedFile) (passed : List ℕ) (x : ℕ) → own l x ≡ [] → traits_after l passed (x ∷ []) ≡ []
one_bare l passed x e = ap (λ ts. map (OfTrait x (passed ++ x ∷ [])) ts ++ []) e

two_bare : (l : LinkedFile) (passed : List ℕ) (x y : ℕ) → own l x ≡ [] → own l y ≡ [] → traits_after l passed (x ∷ y ∷ []) ≡ []
two_bare l passed x y e f =
    ap (λ ts. map (OfTrait x (passed ++ x ∷ [])) ts ++ traits_after l (passed ++ x ∷ []) (y ∷ [])) e
    ∙ one_bare l (passed ++ x ∷ []) y f

top_way : (l : LinkedFile) → IsLinkedFile l → (x : ℕ) → part_at l.parts x ≡ parts.Host hosts.Object → way (base_layout l) (Some x) ≡ x ∷ []
top_way l f x at =
    let end : base_layout l x ≡ None = ap (λ q. place_under l.parts (parent l.file q)) at in
    way_some (base_layout l) (falling l.file l.parts f.numbering) x ∙ ap (λ o. x ∷ way (base_layout l) o) end ∙ ap (λ ys. x ∷ ys) (way_none (base_layout l))

no_own : (l : LinkedFile) (x : ℕ) → part_at l.parts x ≡ parts.Host hosts.Object → own l x ≡ []
no_own l x at = ap (own_traits_of l (slots_under l (base_layout l x))) at

no_own_array : (l : LinkedFile) (x : ℕ) → part_at l.parts x ≡ parts.Host hosts.Array → own l x ≡ []
no_own_array l x at = ap (own_traits_of l (slots_under l (base_layout l x))) at

pub object_bare : (l : LinkedFile) → IsLinkedFile l → (x : ℕ) → part_at l.parts x ≡ parts.Host hosts.Object → HasNoTraits l x
object_bare l f x at object = let ps = before x (way (base_layout l) (Some object)) in ap (traits_after l ps) (top_way l f x at) ∙ one_bare l ps x (no_own l x at)

pub array_bare : (l : LinkedFile) → IsLinkedFile l → (x : ℕ) → part_at l.parts x ≡ parts.Host hosts.Array → HasNoTraits l x
array_bare l f x at object =
    let top : Part = parts.Host hosts.Object in
    let y = place_of_part l.parts top in
    let ps = before x (way (base_layout l) (Some object)) in
    let up : base_layout l x ≡ Some y = ap (λ q. place_under l.parts (parent l.file q)) at in
    let top_at : part_at l.parts y ≡ top = found l.file l.parts f.numbering top tt in
    let steps : way (base_layout l) (Some x) ≡ x ∷ y ∷ [] =
    way_some (base_layout l) (falling l.file l.parts f.numbering) x ∙ ap (λ o. x ∷ way (base_layout l) o) up ∙ ap (λ ys. x ∷ ys) (top_way l f y top_at) in
    ap (traits_after l ps) steps ∙ two_bare l ps x y (no_own_array l x at) (no_own l y top_at)

pub bare_part : (l : LinkedFile) → IsLinkedFile l → (x : ℕ) → part_is_bare (part_at l.parts x) ≡ true → HasNoTraits l x
bare_part l f x e = go (part_at l.parts x) refl e
  where
    host : (c : HostClass) → part_at l.parts x ≡ parts.Host c → class_is_bare c ≡ true → HasNoTraits l x
    host hosts.Object at e = object_bare l f x at
    host hosts.Array at e = array_bare l f x at
    host hosts.Class at e = absurd (false≢true e)
    host hosts.Function at e = absurd (false≢true e)
    host hosts.Namespace at e = absurd (false≢true e)
    host hosts.Str at e = absurd (false≢true e)
    host hosts.Int at e = absurd (false≢true e)
    host hosts.UInt at e = absurd (false≢true e)
    host hosts.Number at e = absurd (false≢true e)
    host hosts.Boolean at e = absurd (false≢true e)
    host hosts.Error at e = absurd (false≢true e)
    host hosts.TypeError at e = absurd (false≢true e)
    host hosts.ReferenceError at e = absurd (false≢true e)
    host hosts.ArgumentError at e = absurd (false≢true e)

    go : (p : Part) → part_at l.parts x ≡ p → part_is_bare p ≡ true → HasNoTraits l x
    go (parts.Host c) at e = host c at e
    go (parts.HostClassObject c) at e = absurd (false≢true e)
    go (parts.Instance k) at e = absurd (false≢true e)
    go (parts.ClassObject k) at e = absurd (false≢true e)
    go (parts.Global s) at e = absurd (false≢true e)
    go (parts.Activation b) at e = absurd (false≢true e)
    go (parts.Catch b h) at e = absurd (false≢true e)

-- ---- searches

pub none_declared : (l : LinkedFile) (h : Heap) (object from : ℕ) (n : Name) (want : Want) → HasNoTraits l from → founds.Missing ≡ declared_found l h object from n want
unfolding declared_found
none_declared l h object from n want bare = sym (ap (answer_of_search l h n (skip_for want)) (bare object) ∙ answer_none l h n (skip_for want))

-- what the object has of its own is found
pub own_first : (l : LinkedFile) (h : Heap) (o : ObjId) (n : Name) (want : Want) (x : Found) → IsWithoutTraits l h o n → IsFalling (delegate_at h) → x ≡ answer_of_search l h n (skip_for want) (own_things h o.0) → is_hit x ≡ true
    → x ≡ found_on l h (values.Obj o) n want
unfolding found_on
own_first l h o n want x p f e hit =
    let s = skip_for want in
    let rest = answer_of_search l h n s (things_along h (delegate_at h o.0)) in
    let all = where_public l n (things_along h (Some o.0)) in
    sym (hit_first x rest hit)
    ∙ ap (λ g. or_next g rest) e
    ∙ sym (things_step l h n s o.0 f)
    ∙ sym (public_all l h n s (things_along h (Some o.0)) p.public)
    ∙ sym (ap (λ ts. answer_of_search l h n s (ts ++ all)) (p.bare (layout_at h o.0)))

-- a property of an object that is no array
pub own_property : (l : LinkedFile) (h : Heap) (o : ObjId) (n : Name) (want : Want) (v : Value) → IsWithoutTraits l h o n → IsFalling (delegate_at h) → is_array (object_at h.objects o.0).what ≡ false → property_in_heap l.file.strings h o.0 n.text ≡ Some v
    → founds.Property o v ≡ found_on l h (values.Obj o) n want
own_property l h o n want v p f other e =
    let s = skip_for want in
    let ob = object_at h.objects o.0 in
    let got : founds.Property o v ≡ answer_of_search l h n s (property_candidates o.0 ob) = sym (properties_all l h n s o.0 ∙ ap (property_found o.0) e) in
    own_first l h o n want (founds.Property o v) p f (goes_on l h n s (element_candidates o.0 ob) (property_candidates o.0 ob) founds.Missing (founds.Property o v) (founds.Property o v) (sym (no_array l h n s o.0 ob other)) got refl) refl

-- no number is `length`
not_length : (t : List ℕ) (k : ℕ) → element_number t ≡ Some k → is_length t ≡ false
not_length t k e = go (is_length t) refl
  where
    go : (b : Bool) → is_length t ≡ b → is_length t ≡ false
    go false q = q
    go true q = let none : element_number t ≡ None = ap element_number (same_bytes t (codes "length") q) in absurd (some_none (sym e ∙ none))
      where
        some_none : Some k ≡ None → ⊥
        some_none r = cc

-- an element of an array
pub own_element : (l : LinkedFile) (h : Heap) (o : ObjId) (n : Name) (want : Want) (k : ℕ) → IsWithoutTraits l h o n → IsFalling (delegate_at h) → is_array (object_at h.objects o.0).what ≡ true → element_number (text_of_span l h n.text) ≡ Some k → k < length (elements_of h.objects o.0)
    → founds.Element o k ≡ found_on l h (values.Obj o) n want
own_element l h o n want k p f is e lt =
    let s = skip_for want in
    let ob = object_at h.objects o.0 in
    let got : founds.Element o k ≡ answer_of_search l h n s (element_candidates o.0 ob) =
    sym (an_array l h n s o.0 ob is ∙ length_miss l h n s o.0 (elements_from o.0 0 ob.elements) (not_length (text_of_span l h n.text) k e) ∙ number_hit l h n s o.0 k ob.elements e lt) in
    own_first l h o n want (founds.Element o k) p f (ends l h n s (element_candidates o.0 ob) (property_candidates o.0 ob) (founds.Element o k) got refl) refl

-- what is found at once is what the search finds
pub first_found : (l : LinkedFile) (h : Heap) (o : ObjId) (n : Name) (x : Found) (want : Want) → IsFoundFirst l h o n x → true ≡ is_hit x → x ≡ found_on l h (values.Obj o) n want
first_found l h o n (founds.Slot k c) want f e = f want
first_found l h o n (founds.Method owner m) want f e = f want
first_found l h o n (founds.Getter m) want f e = f want
first_found l h o n (founds.Setter m) want f e = f want
first_found l h o n (founds.Property holder x) want f e = f want
first_found l h o n (founds.Element holder k) want f e = f want
first_found l h o n (founds.Length holder) want f e = f want
first_found l h o n founds.WrongSide want f e = absurd (false≢true (sym e))
first_found l h o n founds.Missing want f e = absurd (false≢true (sym e))

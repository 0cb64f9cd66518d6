-- A slot that is found is one of the layout.
use Rattle.std.proofs.Common.{◌≡◌, ℕ, zero, suc, ◌+◌, ◌<◌, ◌≤◌, ◌⊎◌, inl, inr, Bool, true, false, List, [], ◌∷◌, ◌++◌, cond, length, map, nat_eq, reverse, refl, sym, subst, ap, ◌∙◌, arith, length-append}
use Rattle.std.specs.Prelude.{Some, None}
use Rattle.std.specs.declared.option.Option.{Option}
use Rattle.std.specs.List.{flat_map, list_any}
use Rattle.abc_base.specs.declared.names.HostClass.TheVariants as hosts
use Rattle.abc_heap_values.specs.declared.values.ObjId.{ObjId}
use Rattle.abc_heap_values.specs.declared.values.Span.{Span}
use Rattle.abc_heap_values.specs.declared.values.Value.{Value}
use Rattle.abc_heap_values.specs.declared.values.Value.TheVariants as values
use Rattle.abc_base_graphs.specs.Ways.{before, places_along, way}
use Rattle.abc_heap_store.specs.Heap.{Heap, Object, object_at}
use Rattle.abc_heap_store.specs.What.{is_array}
use Rattle.abc_base_graphs.specs.Heirs.{heritage}
use Rattle.abc_base_graphs.proofs.Laid.{heritage_none, heritage_some}
use Rattle.abc_link_names.specs.Pool.{name, qname}
use Rattle.abc_link_names.specs.declared.named.DefiniteName.{DefiniteName}
use Rattle.abc_link_names.specs.Linked.{IsLinkedFile, LinkedFile, base_layout}
use Rattle.abc_link_names.specs.Numbering.{part_at}
use Rattle.abc_link_names.specs.Slots.{handler_at, own_slots, slots_in, slots_of, traits_of}
use Rattle.abc_link_names.specs.declared.part.Part.{Part}
use Rattle.abc_link_names.specs.declared.part.Part.TheVariants as parts
use Rattle.abc_link_names.proofs.Finding.{falling}
use Rattle.abc_objects.specs.Candidates.{Candidate, OfElement, OfLength, OfProperty, OfTrait, answer_of_search, candidates_on, element_candidates, elements_from, fits, found_candidate, found_as, layout_at, own_things, property_candidates, property_at, things_along, traits_after, traits_on, where_public}
use Rattle.abc_objects.specs.Laws.{FindsASlot, FindsOwnSlots, IsSlotOf}
use Rattle.abc_objects.specs.Objects.{delegate_at}
use Rattle.abc_objects.specs.Spaces.{name_holds_public}
use Rattle.abc_objects.specs.Results.{skip_for}
use Rattle.abc_objects.specs.Searches.{declared_found, found_on}
use Rattle.abc_objects.specs.Traits.{Trait, caught_trait, members_in, own, own_traits_of, slots_under, traits_from, traits_named}
use Rattle.abc_objects.specs.declared.found.Found.{Found}
use Rattle.abc_objects.specs.declared.found.Found.TheVariants as founds
use Rattle.abc_objects.specs.declared.found.Skip.{Skip}
use Rattle.abc_objects.specs.declared.name.Name.{Name}
use Rattle.abc_objects.specs.declared.traits.Member.{Member}
use Rattle.abc_objects.specs.declared.traits.Member.TheVariants as members
use Rattle.abc_objects.proofs.Firsts.{answers_the_first}
use Rattle.abc_objects.proofs.There.{Each, each_append, each_flat, each_unit, each_within}
use Rattle.abc_file_types.specs.declared.traits.TraitBody.{TraitBody}
use Rattle.abc_file_types.specs.declared.traits.TraitBody.TheVariants as bodies
use Rattle.abc_file_types.specs.declared.traits.TraitInfo.{TraitInfo}

-- ---- a trait's slot is below a number

abbrev IsBelow : ℕ → Member → Type 0
IsBelow n (members.Slot k constant) = k < n
IsBelow n other = Unit {0}

abbrev AreBelow : ℕ → List Trait → Type 0
AreBelow n ts = Each (λ (t : Trait). IsBelow n t.declared.member) ts

members_below : (l : LinkedFile) (n slot : ℕ) (d : DefiniteName) (b : TraitBody) → slot + length (slots_in l b) ≤ n → AreBelow n (traits_named l d (members_in slot b))
members_below l n slot d (bodies.Slot id ty value constant) h = (omega arith, tt)
members_below l n slot d (bodies.Class id k) h = (omega arith, tt)
members_below l n slot d (bodies.Method i m) h = (tt, tt)
members_below l n slot d (bodies.Getter i m) h = (tt, tt)
members_below l n slot d (bodies.Setter i m) h = (tt, tt)
members_below l n slot d (bodies.Function id m) h = tt

table_below : (l : LinkedFile) (n slot : ℕ) (ts : List TraitInfo) → slot + length (flat_map (λ (t : TraitInfo). slots_in l t.body) ts) ≤ n → AreBelow n (traits_from l slot ts)
table_below l n slot [] h = tt
table_below l n slot (t ∷ ts) h =
    let e = length-append (slots_in l t.body) (flat_map (λ (u : TraitInfo). slots_in l u.body) ts) in
    each_append (λ (u : Trait). IsBelow n u.declared.member) (traits_named l (qname (name l.file t.name)) (members_in slot t.body)) (traits_from l (slot + length (slots_in l t.body)) ts)
    (members_below l n slot (qname (name l.file t.name)) t.body (omega (arith, e, h)))
    (table_below l n (slot + length (slots_in l t.body)) ts (omega (arith, e, h)))

caught_below : (l : LinkedFile) (n slot var : ℕ) → slot < n → AreBelow n (caught_trait l slot var)
caught_below l n slot var h = go (nat_eq var 0)
  where
    go : (b : Bool) → AreBelow n (cond b [] (traits_named l (qname (name l.file var)) (members.Slot slot false ∷ [])))
    go true = tt
    go false = (h, tt)

own_below : (l : LinkedFile) (n slot : ℕ) (p : Part) → slot + length (own_slots l p) ≤ n → AreBelow n (own_traits_of l slot p)
own_below l n slot (parts.Host hosts.Class) h = (omega arith, tt)
own_below l n slot (parts.Catch b e) h = caught_below l n slot (handler_at l.file b e).var_name (omega arith)
own_below l n slot p h = table_below l n slot (traits_of l.file p) h

-- ---- a layout has the slots of what it stands under

under : (l : LinkedFile) → IsLinkedFile l → (x : ℕ) → length (slots_of l x) ≡ slots_under l (base_layout l x) + length (own_slots l (part_at l.parts x))
under l f x =
    ap length (heritage_some (base_layout l) (λ y. own_slots l (part_at l.parts y)) (falling l.file l.parts f.numbering) x)
    ∙ go (base_layout l x)
  where
    go : (o : Option ℕ) → length (heritage (base_layout l) (λ y. own_slots l (part_at l.parts y)) o ++ own_slots l (part_at l.parts x)) ≡ slots_under l o + length (own_slots l (part_at l.parts x))
    go None = length-append (heritage (base_layout l) (λ y. own_slots l (part_at l.parts y)) None) (own_slots l (part_at l.parts x)) ∙ ap (λ xs. length xs + length (own_slots l (part_at l.parts x))) (heritage_none (base_layout l) (λ y. own_slots l (part_at l.parts y)))
    go (Some b) = length-append (slots_of l b) (own_slots l (part_at l.parts x))

layout_below : (l : LinkedFile) → IsLinkedFile l → (n x : ℕ) → length (slots_of l x) ≤ n → AreBelow n (own l x)
layout_below l f n x h = let e = under l f x in own_below l n (slots_under l (base_layout l x)) (part_at l.parts x) (omega (arith, e, h))

-- the layouts of a way have no more slots than the first
abbrev HasUpTo : LinkedFile → ℕ → ℕ → Type 0
HasUpTo l n x = length (slots_of l x) ≤ n

steps_up : (l : LinkedFile) → IsLinkedFile l → (n m : ℕ) (at : Option ℕ) → slots_under l at ≤ n → Each (HasUpTo l n) (places_along (base_layout l) m at)
steps_up l f n zero at h = tt
steps_up l f n (suc m) None h = tt
steps_up l f n (suc m) (Some x) h = let e = under l f x in (h, steps_up l f n m (base_layout l x) (omega (arith, e, h)))

way_up : (l : LinkedFile) → IsLinkedFile l → (x : ℕ) → Each (HasUpTo l (length (slots_of l x))) (way (base_layout l) (Some x))
unfolding way
way_up l f x = steps_up l f (length (slots_of l x)) (suc x) (Some x) (omega arith)

-- ---- candidates

abbrev IsSlot : ℕ → Candidate → Type 0
IsSlot n (OfTrait x p t) = IsBelow n t.declared.member
IsSlot n other = Unit {0}

traits_slots : (n x : ℕ) (p : List ℕ) (ts : List Trait) → AreBelow n ts → Each (IsSlot n) (map (OfTrait x p) ts)
traits_slots n x p [] a = tt
traits_slots n x p (t ∷ ts) (h, a) = (h, traits_slots n x p ts a)

after_slots : (l : LinkedFile) → IsLinkedFile l → (n : ℕ) (p xs : List ℕ) → Each (HasUpTo l n) xs → Each (IsSlot n) (traits_after l p xs)
after_slots l f n p [] a = tt
after_slots l f n p (x ∷ xs) (h, a) =
    each_append (IsSlot n) (map (OfTrait x (p ++ x ∷ [])) (own l x)) (traits_after l (p ++ x ∷ []) xs) (traits_slots n x (p ++ x ∷ []) (own l x) (layout_below l f n x h)) (after_slots l f n (p ++ x ∷ []) xs a)

-- ---- what is found

member_slot : (l : LinkedFile) (x : ℕ) (m : Member) → IsBelow (length (slots_of l x)) m → IsSlotOf l x (found_as l m)
member_slot l x (members.Slot k c) h = h
member_slot l x (members.Method m) h = tt
member_slot l x (members.Getter m) h = tt
member_slot l x (members.Setter m) h = tt

candidate_slot : (l : LinkedFile) (x : ℕ) (c : Candidate) → IsSlot (length (slots_of l x)) c → IsSlotOf l x (found_candidate l c)
candidate_slot l x (OfTrait y p t) h = member_slot l x t.declared.member h
candidate_slot l x (OfLength o) h = tt
candidate_slot l x (OfElement o k) h = tt
candidate_slot l x (OfProperty o n v) h = tt

none_slot : (l : LinkedFile) (x : ℕ) (b : Bool) → IsSlotOf l x (cond b founds.WrongSide founds.Missing)
none_slot l x true = tt
none_slot l x false = tt

answer_slot : (l : LinkedFile) (h : Heap) (n : Name) (s : Skip) (x : ℕ) (cs : List Candidate) → Each (IsSlot (length (slots_of l x))) cs → IsSlotOf l x (answer_of_search l h n s cs)
answer_slot l h n s x cs a = elim (answers_the_first l h n s cs) [
  | inl hit ↦
      let is = each_within (IsSlot (length (slots_of l x))) hit.1.before hit.1.after hit.0 (subst (λ ds. Each (IsSlot (length (slots_of l x))) ds) hit.1.parts a) in
      subst (λ f. IsSlotOf l x f) (sym hit.2) (candidate_slot l x hit.0 is)
  | inr miss ↦ subst (λ f. IsSlotOf l x f) (sym miss.1) (none_slot l x (list_any (fits l h n) cs))
]

pub finds_a_slot : FindsASlot
unfolding declared_found
finds_a_slot l f h object from n want =
    answer_slot l h n (skip_for want) from (traits_after l (before from (way (base_layout l) (Some object))) (way (base_layout l) (Some from)))
    (after_slots l f (length (slots_of l from)) (before from (way (base_layout l) (Some object))) (way (base_layout l) (Some from)) (way_up l f from))

-- ---- on an object

elements_slots : (n o k : ℕ) (vs : List Value) → Each (IsSlot n) (elements_from o k vs)
elements_slots n o k [] = tt
elements_slots n o k (v ∷ vs) = (tt, elements_slots n o (k + 1) vs)

array_slots : (n o : ℕ) (ob : Object) → Each (IsSlot n) (element_candidates o ob)
array_slots n o ob = go (is_array ob.what)
  where
    go : (b : Bool) → Each (IsSlot n) (cond b (OfLength o ∷ elements_from o 0 ob.elements) [])
    go true = (tt, elements_slots n o 0 ob.elements)
    go false = tt

property_slots : (n o : ℕ) (p : Option (Span × Value)) → Each (IsSlot n) (property_at o p)
property_slots n o None = tt
property_slots n o (Some p) = (tt, tt)

things_slots : (n : ℕ) (h : Heap) (o : ℕ) → Each (IsSlot n) (own_things h o)
things_slots n h o =
    let ob = object_at h.objects o in
    each_append (IsSlot n) (element_candidates o ob) (property_candidates o ob) (array_slots n o ob) (each_flat (λ p. Unit {0}) (IsSlot n) (property_at o) (reverse ob.properties) (each_unit (reverse ob.properties)) (λ p u. property_slots n o p))

along_slots : (n : ℕ) (h : Heap) (at : Option ℕ) → Each (IsSlot n) (things_along h at)
along_slots n h at = each_flat (λ o. Unit {0}) (IsSlot n) (own_things h) (way (delegate_at h) at) (each_unit (way (delegate_at h) at)) (λ o u. things_slots n h o)

pub finds_own_slots : FindsOwnSlots
unfolding found_on
finds_own_slots l f h o n want =
    let x = layout_at h o.0 in
    answer_slot l h n (skip_for want) x (candidates_on l h n (values.Obj o))
    (each_append (IsSlot (length (slots_of l x))) (traits_on l h (values.Obj o)) (where_public l n (things_along h (Some o.0)))
    (after_slots l f (length (slots_of l x)) (before x (way (base_layout l) (Some x))) (way (base_layout l) (Some x)) (way_up l f x)) (public (name_holds_public l n.spaces)))
  where
    public : (b : Bool) → Each (IsSlot (length (slots_of l (layout_at h o.0)))) (cond b (things_along h (Some o.0)) [])
    public true = along_slots (length (slots_of l (layout_at h o.0))) h (Some o.0)
    public false = tt

-- A method that is found is named by a trait on the way.
use Rattle.std.proofs.Common.{◌≡◌, ℕ, zero, suc, ◌+◌, Bool, true, false, List, [], ◌∷◌, ◌++◌, cond, inl, inr, length, map, nat_eq, reverse, unwrap_or, refl, sym, subst, ap, ◌∙◌, arith}
use Rattle.std.specs.Prelude.{Some, None, slice_get}
use Rattle.std.specs.declared.option.Option.{Option}
use Rattle.std.specs.List.{list_any}
use Rattle.abc_base.specs.declared.names.HostClass.TheVariants as hosts
use Rattle.abc_heap_values.specs.declared.values.Span.{Span}
use Rattle.abc_heap_values.specs.declared.values.Value.{Value}
use Rattle.abc_heap_values.specs.declared.values.Value.TheVariants as values
use Rattle.abc_base_graphs.specs.Ways.{before, places_along, way}
use Rattle.abc_heap_store.specs.Heap.{Heap, Object, object_at}
use Rattle.abc_heap_store.specs.What.{is_array}
use Rattle.abc_link_names.specs.Pool.{name, qname}
use Rattle.abc_link_names.specs.declared.named.DefiniteName.{DefiniteName}
use Rattle.abc_link_names.specs.Linked.{LinkedFile, base_layout}
use Rattle.abc_link_names.specs.Numbering.{part_at}
use Rattle.abc_link_names.specs.Slots.{handler_at, slots_in, traits_of}
use Rattle.abc_link_names.specs.Traits.{own_table_of}
use Rattle.abc_link_names.specs.Tree.{IsBelow}
use Rattle.abc_link_names.specs.declared.part.Part.{Part}
use Rattle.abc_link_names.specs.declared.part.Part.TheVariants as parts
use Rattle.abc_link_names.proofs.Tree.{below_self, below_trans}
use Rattle.abc_objects.specs.Candidates.{Candidate, OfElement, OfLength, OfProperty, OfTrait, answer_of_search, candidates_on, element_candidates, elements_from, fits, found_candidate, found_as, layout_at, own_things, property_candidates, property_at, things_along, traits_after, traits_on, where_public}
use Rattle.abc_objects.specs.Laws.{FindsAMethod, FindsOwnMethods, HasMethod, IsMethodOf, method_when_run}
use Rattle.abc_objects.specs.Objects.{delegate_at}
use Rattle.abc_objects.specs.Results.{skip_for}
use Rattle.abc_objects.specs.Searches.{declared_found, found_on}
use Rattle.abc_objects.specs.Spaces.{name_holds_public}
use Rattle.abc_objects.specs.Traits.{Trait, caught_trait, members_in, own, own_traits_of, slots_under, traits_from, traits_named}
use Rattle.abc_objects.specs.declared.found.Found.{Found}
use Rattle.abc_objects.specs.declared.found.Found.TheVariants as founds
use Rattle.abc_objects.specs.declared.found.Skip.{Skip}
use Rattle.abc_objects.specs.declared.name.Name.{Name}
use Rattle.abc_objects.specs.declared.traits.Member.{Member}
use Rattle.abc_objects.specs.declared.traits.Member.TheVariants as members
use Rattle.abc_objects.proofs.Firsts.{answers_the_first}
use Rattle.abc_objects.proofs.There.{Each, each_append, each_flat, each_unit, each_within}
use Rattle.abc_file_types.specs.declared.traits.TraitBody.{TraitBody}
use Rattle.abc_file_types.specs.declared.traits.TraitBody.TheVariants as bodies
use Rattle.abc_file_types.specs.declared.traits.TraitInfo.{TraitInfo}

-- ---- a trait of a table

abbrev IsNamed : LinkedFile → ℕ → Member → Type 0
IsNamed l x (members.Slot k c) = Unit {0}
IsNamed l x (members.Method m) = HasMethod l x m
IsNamed l x (members.Getter m) = HasMethod l x m
IsNamed l x (members.Setter m) = HasMethod l x m

abbrev AreNamed : LinkedFile → ℕ → List Trait → Type 0
AreNamed l x ts = Each (λ (t : Trait). IsNamed l x t.declared.member) ts

members_named : (l : LinkedFile) (x k slot : ℕ) (t : TraitInfo) (d : DefiniteName) → slice_get (own_table_of l x) k ≡ Some t → (b : TraitBody) → t.body ≡ b → AreNamed l x (traits_named l d (members_in slot b))
members_named l x k slot t d at (bodies.Slot id ty value constant) e = (tt, tt)
members_named l x k slot t d at (bodies.Class id c) e = (tt, tt)
members_named l x k slot t d at (bodies.Method i m) e = (record { place = k; trait = t; at = at; names = ap method_when_run e }, tt)
members_named l x k slot t d at (bodies.Getter i m) e = (record { place = k; trait = t; at = at; names = ap method_when_run e }, tt)
members_named l x k slot t d at (bodies.Setter i m) e = (record { place = k; trait = t; at = at; names = ap method_when_run e }, tt)
members_named l x k slot t d at (bodies.Function id m) e = tt

table_named : (l : LinkedFile) (x k slot : ℕ) (ts : List TraitInfo) → ((j : ℕ) (u : TraitInfo) → slice_get ts j ≡ Some u → slice_get (own_table_of l x) (k + j) ≡ Some u) → AreNamed l x (traits_from l slot ts)
table_named l x k slot [] at = tt
table_named l x k slot (t ∷ ts) at =
    let here : k + 0 ≡ k = omega arith in
    each_append (λ (u : Trait). IsNamed l x u.declared.member) (traits_named l (qname (name l.file t.name)) (members_in slot t.body)) (traits_from l (slot + length (slots_in l t.body)) ts)
    (members_named l x k slot t (qname (name l.file t.name)) (subst (λ i. slice_get (own_table_of l x) i ≡ Some t) here (at 0 t refl)) t.body refl)
    (table_named l x (k + 1) (slot + length (slots_in l t.body)) ts (λ j u e. let same : k + suc j ≡ k + 1 + j = omega arith in subst (λ i. slice_get (own_table_of l x) i ≡ Some u) same (at (suc j) u e)))

caught_named : (l : LinkedFile) (x slot var : ℕ) → AreNamed l x (caught_trait l slot var)
caught_named l x slot var = go (nat_eq var 0)
  where
    go : (b : Bool) → AreNamed l x (cond b [] (traits_named l (qname (name l.file var)) (members.Slot slot false ∷ [])))
    go true = tt
    go false = (tt, tt)

part_named : (l : LinkedFile) (x slot : ℕ) (p : Part) → part_at l.parts x ≡ p → AreNamed l x (own_traits_of l slot p)
part_named l x slot (parts.Host hosts.Class) e = (tt, tt)
part_named l x slot (parts.Catch b h) e = caught_named l x slot (handler_at l.file b h).var_name
part_named l x slot p e =
    table_named l x 0 slot (traits_of l.file p)
    (λ j u at. let same : j ≡ 0 + j = omega arith in subst (λ i. slice_get (own_table_of l x) i ≡ Some u) same (ap (λ q. slice_get (traits_of l.file q) j) e ∙ at))

own_named : (l : LinkedFile) (x : ℕ) → AreNamed l x (own l x)
own_named l x = part_named l x (slots_under l (base_layout l x)) (part_at l.parts x) refl

-- ---- the layouts of a way stand above the first

steps_above : (l : LinkedFile) (from n : ℕ) (at : Option ℕ) → ((x : ℕ) → at ≡ Some x → IsBelow l from x) → Each (IsBelow l from) (places_along (base_layout l) n at)
steps_above l from zero at h = tt
steps_above l from (suc n) None h = tt
steps_above l from (suc n) (Some x) h =
    (h x refl, steps_above l from n (base_layout l x) (λ y e. below_trans l from x y (h x refl) (record { steps = 1; climb = ap (λ o. unwrap_or o 0) e })))

way_above : (l : LinkedFile) (from : ℕ) → Each (IsBelow l from) (way (base_layout l) (Some from))
unfolding way
way_above l from = steps_above l from (suc from) (Some from) (λ x e. let q : from ≡ x = cc in subst (IsBelow l from) q (below_self l from))

-- ---- candidates

abbrev IsAbove : LinkedFile → ℕ → Candidate → Type 0
IsAbove l from (OfTrait x p t) = IsBelow l from x × IsNamed l x t.declared.member
IsAbove l from other = Unit {0}

traits_above : (l : LinkedFile) (from x : ℕ) (p : List ℕ) (ts : List Trait) → IsBelow l from x → AreNamed l x ts → Each (IsAbove l from) (map (OfTrait x p) ts)
traits_above l from x p [] b a = tt
traits_above l from x p (t ∷ ts) b (h, a) = ((b, h), traits_above l from x p ts b a)

after_above : (l : LinkedFile) (from : ℕ) (p xs : List ℕ) → Each (IsBelow l from) xs → Each (IsAbove l from) (traits_after l p xs)
after_above l from p [] a = tt
after_above l from p (x ∷ xs) (b, a) =
    each_append (IsAbove l from) (map (OfTrait x (p ++ x ∷ [])) (own l x)) (traits_after l (p ++ x ∷ []) xs) (traits_above l from x (p ++ x ∷ []) (own l x) b (own_named l x)) (after_above l from (p ++ x ∷ []) xs a)

-- ---- what is found

member_method : (l : LinkedFile) (from x : ℕ) (m : Member) → IsBelow l from x → IsNamed l x m → IsMethodOf l from (found_as l m)
member_method l from x (members.Slot k c) b h = tt
member_method l from x (members.Method m) b h = (refl, (x, b, h))
member_method l from x (members.Getter m) b h = (x, b, h)
member_method l from x (members.Setter m) b h = (x, b, h)

candidate_method : (l : LinkedFile) (from : ℕ) (c : Candidate) → IsAbove l from c → IsMethodOf l from (found_candidate l c)
candidate_method l from (OfTrait x p t) h = member_method l from x t.declared.member h.0 h.1
candidate_method l from (OfLength o) h = tt
candidate_method l from (OfElement o k) h = tt
candidate_method l from (OfProperty o n v) h = tt

none_method : (l : LinkedFile) (from : ℕ) (b : Bool) → IsMethodOf l from (cond b founds.WrongSide founds.Missing)
none_method l from true = tt
none_method l from false = tt

answer_method : (l : LinkedFile) (h : Heap) (n : Name) (s : Skip) (from : ℕ) (cs : List Candidate) → Each (IsAbove l from) cs → IsMethodOf l from (answer_of_search l h n s cs)
answer_method l h n s from cs a = elim (answers_the_first l h n s cs) [
  | inl hit ↦
      let is = each_within (IsAbove l from) hit.1.before hit.1.after hit.0 (subst (λ ds. Each (IsAbove l from) ds) hit.1.parts a) in
      subst (λ f. IsMethodOf l from f) (sym hit.2) (candidate_method l from hit.0 is)
  | inr miss ↦ subst (λ f. IsMethodOf l from f) (sym miss.1) (none_method l from (list_any (fits l h n) cs))
]

pub finds_a_method : FindsAMethod
unfolding declared_found
finds_a_method l h object from n want =
    answer_method l h n (skip_for want) from (traits_after l (before from (way (base_layout l) (Some object))) (way (base_layout l) (Some from)))
    (after_above l from (before from (way (base_layout l) (Some object))) (way (base_layout l) (Some from)) (way_above l from))

-- ---- on an object

elements_above : (l : LinkedFile) (from o k : ℕ) (vs : List Value) → Each (IsAbove l from) (elements_from o k vs)
elements_above l from o k [] = tt
elements_above l from o k (v ∷ vs) = (tt, elements_above l from o (k + 1) vs)

array_above : (l : LinkedFile) (from o : ℕ) (ob : Object) → Each (IsAbove l from) (element_candidates o ob)
array_above l from o ob = go (is_array ob.what)
  where
    go : (b : Bool) → Each (IsAbove l from) (cond b (OfLength o ∷ elements_from o 0 ob.elements) [])
    go true = (tt, elements_above l from o 0 ob.elements)
    go false = tt

property_above : (l : LinkedFile) (from o : ℕ) (p : Option (Span × Value)) → Each (IsAbove l from) (property_at o p)
property_above l from o None = tt
property_above l from o (Some p) = (tt, tt)

things_above : (l : LinkedFile) (from : ℕ) (h : Heap) (o : ℕ) → Each (IsAbove l from) (own_things h o)
things_above l from h o =
    let ob = object_at h.objects o in
    each_append (IsAbove l from) (element_candidates o ob) (property_candidates o ob) (array_above l from o ob) (each_flat (λ p. Unit {0}) (IsAbove l from) (property_at o) (reverse ob.properties) (each_unit (reverse ob.properties)) (λ p u. property_above l from o p))

along_above : (l : LinkedFile) (from : ℕ) (h : Heap) (at : Option ℕ) → Each (IsAbove l from) (things_along h at)
along_above l from h at = each_flat (λ o. Unit {0}) (IsAbove l from) (own_things h) (way (delegate_at h) at) (each_unit (way (delegate_at h) at)) (λ o u. things_above l from h o)

pub finds_own_methods : FindsOwnMethods
unfolding found_on
finds_own_methods l h o n want =
    let x = layout_at h o.0 in
    answer_method l h n (skip_for want) x (candidates_on l h n (values.Obj o))
    (each_append (IsAbove l x) (traits_on l h (values.Obj o)) (where_public l n (things_along h (Some o.0)))
    (after_above l x (before x (way (base_layout l) (Some x))) (way (base_layout l) (Some x)) (way_above l x)) (public (name_holds_public l n.spaces)))
  where
    public : (b : Bool) → Each (IsAbove l (layout_at h o.0)) (cond b (things_along h (Some o.0)) [])
    public true = along_above l (layout_at h o.0) h (Some o.0)
    public false = tt

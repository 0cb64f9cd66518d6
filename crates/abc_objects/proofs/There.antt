-- What is found is its holder's.
use Rattle.std.proofs.Common.{◌≡◌, ℕ, suc, ◌+◌, List, [], ◌∷◌, ◌++◌, Bool, true, false, cond, map, reverse, inl, inr, refl, sym, subst, arith}
use Rattle.std.specs.Prelude.{Some, None, slice_get}
use Rattle.std.specs.declared.option.Option.{Option}
use Rattle.std.specs.List.{flat_map, list_any}
use Rattle.std.proofs.lemmas.Grind.{reverse_onto}
use Rattle.abc_heap_values.specs.declared.values.Span.{Span}
use Rattle.abc_heap_values.specs.declared.values.Value.{Value}
use Rattle.abc_heap_values.specs.declared.values.Value.TheVariants as values
use Rattle.abc_base_graphs.specs.Ways.{way, before}
use Rattle.abc_heap_store.specs.Heap.{Heap, elements_of, object_at, properties_of}
use Rattle.abc_heap_store.specs.What.{is_array}
use Rattle.abc_link_names.specs.Linked.{LinkedFile, base_layout}
use Rattle.abc_objects.specs.Candidates.{Candidate, OfElement, OfLength, OfProperty, OfTrait, candidates_on, element_candidates, elements_from, fits, found_candidate, found_as, holder_of, layout_at, own_things, property_candidates, property_at, things_along, traits_after, traits_on, where_public}
use Rattle.abc_objects.specs.Laws.{FindsWhatIsThere, IsFoundPresent}
use Rattle.abc_objects.specs.Objects.{delegate_at}
use Rattle.abc_objects.specs.Results.{skip_for}
use Rattle.abc_objects.specs.Searches.{found_on}
use Rattle.abc_objects.specs.Spaces.{name_holds_public}
use Rattle.abc_objects.specs.Traits.{Trait, own}
use Rattle.abc_objects.specs.declared.found.Found.TheVariants as founds
use Rattle.abc_objects.specs.declared.name.Name.{Name}
use Rattle.abc_objects.specs.declared.traits.Member.{Member}
use Rattle.abc_objects.specs.declared.traits.Member.TheVariants as members
use Rattle.abc_objects.proofs.Firsts.{answers_the_first}

-- ---- lists

abbrev pub Each : {X : Type 0} → (X → Type 0) → List X → Type 0
Each P [] = Unit {0}
Each P (x ∷ xs) = P x × Each P xs

pub each_append : {X : Type 0} (P : X → Type 0) (xs ys : List X) → Each P xs → Each P ys → Each P (xs ++ ys)
each_append P [] ys a b = b
each_append P (x ∷ xs) ys (p, a) b = (p, each_append P xs ys a b)

pub each_within : {X : Type 0} (P : X → Type 0) (xs ys : List X) (x : X) → Each P (xs ++ x ∷ ys) → P x
each_within P [] ys x (p, a) = p
each_within P (w ∷ ws) ys x (p, a) = each_within P ws ys x a

pub each_flat : {X Y : Type 0} (Q : X → Type 0) (P : Y → Type 0) (f : X → List Y) (xs : List X) → Each Q xs → ((x : X) → Q x → Each P (f x)) → Each P (flat_map f xs)
each_flat Q P f [] a g = tt
each_flat Q P f (x ∷ xs) (q, a) g = each_append P (f x) (flat_map f xs) (g x q) (each_flat Q P f xs a g)

pub each_unit : {X : Type 0} (xs : List X) → Each (λ x. Unit {0}) xs
each_unit [] = tt
each_unit (x ∷ xs) = (tt, each_unit xs)

each_reverse : {X : Type 0} (P : X → Type 0) (xs : List X) → Each P xs → Each P (reverse xs)
each_reverse P [] a = tt
each_reverse P (x ∷ xs) (p, a) = subst (λ ys. Each P ys) (sym (reverse_onto xs x [])) (each_append P (reverse xs) (x ∷ []) (each_reverse P xs a) (p, tt))

-- each element stands at some place
abbrev StandsIn : {X : Type 0} → List X → X → Type 0
StandsIn all x = (k : ℕ) × (slice_get all k ≡ Some x)

each_stands : {X : Type 0} (all xs : List X) (n : ℕ) → ((i : ℕ) (x : X) → slice_get xs i ≡ Some x → slice_get all (n + i) ≡ Some x) → Each (StandsIn all) xs
each_stands all [] n f = tt
each_stands all (x ∷ xs) n f =
    ((n + 0, f 0 x refl), each_stands all xs (n + 1) (λ i y e. let same : n + suc i ≡ n + 1 + i = omega arith in subst (λ k. slice_get all k ≡ Some y) same (f (suc i) y e)))

-- ---- candidates

abbrev IsOwn : Heap → Candidate → Type 0
IsOwn h (OfTrait x passed t) = Unit {0}
IsOwn h (OfLength o) = is_array (object_at h.objects o).what ≡ true
IsOwn h (OfElement o k) = (x : Value) × (slice_get (elements_of h.objects o) k ≡ Some x)
IsOwn h (OfProperty o n x) = (k : ℕ) × (slice_get (properties_of h.objects o) k ≡ Some (Some (n, x)))

traits_own : (h : Heap) (x : ℕ) (passed : List ℕ) (ts : List Trait) → Each (IsOwn h) (map (OfTrait x passed) ts)
traits_own h x passed [] = tt
traits_own h x passed (t ∷ ts) = (tt, traits_own h x passed ts)

after_own : (l : LinkedFile) (h : Heap) (passed xs : List ℕ) → Each (IsOwn h) (traits_after l passed xs)
after_own l h passed [] = tt
after_own l h passed (x ∷ xs) = each_append (IsOwn h) (map (OfTrait x (passed ++ x ∷ [])) (own l x)) (traits_after l (passed ++ x ∷ []) xs) (traits_own h x (passed ++ x ∷ []) (own l x)) (after_own l h (passed ++ x ∷ []) xs)

traits_on_own : (l : LinkedFile) (h : Heap) (v : Value) → Each (IsOwn h) (traits_on l h v)
traits_on_own l h (values.Obj o) = after_own l h (before (layout_at h o.0) (way (base_layout l) (Some (layout_at h o.0)))) (way (base_layout l) (Some (layout_at h o.0)))
traits_on_own l h values.Undefined = tt
traits_on_own l h values.Null = tt
traits_on_own l h (values.Num n) = tt
traits_on_own l h (values.Bool b) = tt
traits_on_own l h (values.Text s) = tt
traits_on_own l h (values.Space n) = tt

elements_own : (h : Heap) (o : ℕ) (vs : List Value) (k : ℕ) → ((i : ℕ) (x : Value) → slice_get vs i ≡ Some x → slice_get (elements_of h.objects o) (k + i) ≡ Some x) → Each (IsOwn h) (elements_from o k vs)
elements_own h o [] k f = tt
elements_own h o (v ∷ vs) k f =
    let here : k + 0 ≡ k = omega arith in
    ((v, subst (λ j. slice_get (elements_of h.objects o) j ≡ Some v) here (f 0 v refl)), elements_own h o vs (k + 1) (λ i y e. let same : k + suc i ≡ k + 1 + i = omega arith in subst (λ j. slice_get (elements_of h.objects o) j ≡ Some y) same (f (suc i) y e)))

array_own : (h : Heap) (o : ℕ) → Each (IsOwn h) (element_candidates o (object_at h.objects o))
array_own h o = go (is_array (object_at h.objects o).what) refl
  where
    zero_first : (i : ℕ) (x : Value) → slice_get (elements_of h.objects o) i ≡ Some x → slice_get (elements_of h.objects o) (0 + i) ≡ Some x
    zero_first i x e = let same : i ≡ 0 + i = omega arith in subst (λ j. slice_get (elements_of h.objects o) j ≡ Some x) same e

    go : (b : Bool) → is_array (object_at h.objects o).what ≡ b → Each (IsOwn h) (cond b (OfLength o ∷ elements_from o 0 (elements_of h.objects o)) [])
    go true is = (is, elements_own h o (elements_of h.objects o) 0 zero_first)
    go false is = tt

property_own : (h : Heap) (o : ℕ) (p : Option (Span × Value)) → StandsIn (properties_of h.objects o) p → Each (IsOwn h) (property_at o p)
property_own h o None s = tt
property_own h o (Some p) s = (s, tt)

properties_own : (h : Heap) (o : ℕ) → Each (IsOwn h) (property_candidates o (object_at h.objects o))
properties_own h o =
    let ps = properties_of h.objects o in
    let stand = each_stands ps ps 0 (λ i x e. let same : i ≡ 0 + i = omega arith in subst (λ j. slice_get ps j ≡ Some x) same e) in
    each_flat (StandsIn ps) (IsOwn h) (property_at o) (reverse ps) (each_reverse (StandsIn ps) ps stand) (property_own h o)

things_own : (h : Heap) (o : ℕ) → Each (IsOwn h) (own_things h o)
things_own h o = each_append (IsOwn h) (element_candidates o (object_at h.objects o)) (property_candidates o (object_at h.objects o)) (array_own h o) (properties_own h o)

along_own : (h : Heap) (at : Option ℕ) → Each (IsOwn h) (things_along h at)
along_own h at = each_flat (λ o. Unit {0}) (IsOwn h) (own_things h) (way (delegate_at h) at) (each_unit (way (delegate_at h) at)) (λ o u. things_own h o)

candidates_own : (l : LinkedFile) (h : Heap) (n : Name) (v : Value) → Each (IsOwn h) (candidates_on l h n v)
candidates_own l h n v = each_append (IsOwn h) (traits_on l h v) (where_public l n (things_along h (holder_of h v))) (traits_on_own l h v) (go (name_holds_public l n.spaces))
  where
    go : (b : Bool) → Each (IsOwn h) (cond b (things_along h (holder_of h v)) [])
    go true = along_own h (holder_of h v)
    go false = tt

-- ---- what is found

member_there : (l : LinkedFile) (h : Heap) (m : Member) → IsFoundPresent h (found_as l m)
member_there l h (members.Slot slot constant) = tt
member_there l h (members.Method m) = tt
member_there l h (members.Getter m) = tt
member_there l h (members.Setter m) = tt

candidate_there : (l : LinkedFile) (h : Heap) (c : Candidate) → IsOwn h c → IsFoundPresent h (found_candidate l c)
candidate_there l h (OfTrait x passed t) own = member_there l h t.declared.member
candidate_there l h (OfLength o) own = own
candidate_there l h (OfElement o k) own = own
candidate_there l h (OfProperty o n x) own = (own.0, n, own.1)

none_there : (h : Heap) (b : Bool) → IsFoundPresent h (cond b founds.WrongSide founds.Missing)
none_there h true = tt
none_there h false = tt

pub finds_what_is_there : FindsWhatIsThere
unfolding found_on
finds_what_is_there l h v n want = elim (answers_the_first l h n (skip_for want) (candidates_on l h n v)) [
  | inl hit ↦
      let own = each_within (IsOwn h) hit.1.before hit.1.after hit.0 (subst (λ cs. Each (IsOwn h) cs) hit.1.parts (candidates_own l h n v)) in
      subst (λ f. IsFoundPresent h f) (sym hit.2) (candidate_there l h hit.0 own)
  | inr miss ↦ subst (λ f. IsFoundPresent h f) (sym miss.1) (none_there h (list_any (fits l h n) (candidates_on l h n v)))
]

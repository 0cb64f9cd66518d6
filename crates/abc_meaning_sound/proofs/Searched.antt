-- What the searches find is there.
use Rattle.std.proofs.Common.{◌≡◌, inl, inr, ℕ, zero, suc, ◌+◌, ◌<◌, ◌≤◌, List, [], ◌∷◌, ◌++◌, length, map, reverse, refl, sym, ap, subst, arith}
use Rattle.std.proofs.lemmas.Bool.{cases_lt}
use Rattle.std.proofs.lemmas.List.{get_or_past}
use Rattle.std.specs.Prelude.{Bool, true, false, not, cond, get_or, slice_get, Some, None, if◌then◌else◌}
use Rattle.std.specs.List.{find, flat_map, list_any, range_with_len}
use Rattle.std.specs.declared.option.Option.{Option}
use Rattle.abc_heap_values.specs.declared.values.ObjId.{ObjId}
use Rattle.abc_heap_values.specs.declared.values.Span.{Span}
use Rattle.abc_heap_values.specs.declared.values.Value.{Value}
use Rattle.abc_heap_values.specs.declared.values.Value.TheVariants as values
use Rattle.abc_base_graphs.specs.Ways.{IsFalling, way}
use Rattle.abc_base_graphs.proofs.Walks.{way_none, way_some}
use Rattle.abc_heap_store.specs.Heap.{Object, object_at, obj_id}
use Rattle.abc_heap_store.specs.What.{is_array}
use Rattle.abc_heap_store.specs.declared.records.ScopeEntry.{ScopeEntry}
use Rattle.abc_heap_store.specs.declared.records.ScopeId.{ScopeId}
use Rattle.abc_heap_store.specs.declared.records.ScopeNode.{ScopeNode}
use Rattle.abc_objects.specs.Stands.{IsBeneath, IsProperty, IsScope, ScopeStands}
use Rattle.abc_objects.specs.Values.{Exists, IsObject}
use Rattle.abc_objects.proofs.Opened.{global_made, host_made}
use Rattle.abc_link_names.specs.Linked.{LinkedFile}
use Rattle.abc_link_names.specs.Tree.{IsBelow}
use Rattle.abc_link_names.proofs.Tree.{below_self}
use Rattle.abc_objects.specs.Candidates.{Candidate, OfElement, OfLength, OfProperty, OfTrait, answer_of_search, candidates_on, element_candidates, elements_from, fits, found_candidate, found_as, holder_of, is_answer, found_or_not, own_things, property_candidates, property_at, things_along, traits, where_public}
use Rattle.abc_objects.specs.Objects.{delegate_at, global_number}
use Rattle.abc_objects.specs.Results.{passes_over, skip_for}
use Rattle.abc_objects.specs.Scopes.{InHost, InScope, InScript, ScopePlace, has, no_node, node_at, parent_at, scope_places, saved_places, scope_named, scope_number}
use Rattle.abc_objects.specs.Searches.{declared_found, found_in_scopes, found_on}
use Rattle.abc_objects.specs.Spaces.{name_holds_public}
use Rattle.abc_objects.specs.declared.found.Found.TheVariants as founds
use Rattle.abc_objects.specs.declared.found.ScopeFound.TheVariants as results
use Rattle.abc_objects.specs.declared.found.Want.{Want}
use Rattle.abc_objects.specs.declared.found.Want.TheVariants as wants
use Rattle.abc_objects.specs.declared.name.Name.{Name}
use Rattle.abc_objects.specs.declared.traits.Member.{Member}
use Rattle.abc_objects.specs.declared.traits.Member.TheVariants as members
use Rattle.abc_verify_typing.specs.Lists.{Each}
use Rattle.abc_verify_typing.proofs.Lists.{Each-append, Each-map, Each-reverse}
use Rattle.abc_verify_typing.proofs.Member.{and_right}
use Rattle.abc_meaning.specs.Setting.{Setting}
use Rattle.abc_meaning.specs.World.{World}
use Rattle.abc_meaning.specs.Sound.{WorldSound}
use Rattle.abc_meaning_sound.specs.Given.{FileGiven, FoundSound, ScopeFoundSound, ScopesGiven, SearchGiven}
use Rattle.abc_meaning_sound.proofs.Lists.{there}
use Rattle.abc_meaning_sound.proofs.Holders.{CandidateSound, MemberSound, traits_sound}
use Rattle.abc_meaning_sound.proofs.Indexed.{is_at}

-- ---- the first of a list that passes a test

find_passes : {X : Type 0} (P : X → Type 0) (test : X → Bool) (xs : List X) (x : X) → Each P xs → find test xs ≡ Some x → P x × (test x ≡ true)
find_passes P test [] x a e = absurd cc
find_passes {X = X} P test (y ∷ ys) x a e = go (λ q. find_passes P test ys x a.1 q) (test y) refl e
  where
    go : (find test ys ≡ Some x → P x × (test x ≡ true)) → (b : Bool) → test y ≡ b → cond b (Some y) (find test ys) ≡ Some x → P x × (test x ≡ true)
    go more true t q = let same : y ≡ x = cc in (subst P same a.0, subst (λ (z : X). test z ≡ true) same t)
    go more false t q = more q

each_flat : {X Y : Type 0} (P : Y → Type 0) (f : X → List Y) (xs : List X) → ((x : X) → Each P (f x)) → Each P (flat_map f xs)
each_flat P f [] g = tt
each_flat P f (x ∷ xs) g = Each-append P (f x) (flat_map f xs) (g x) (each_flat P f xs g)

each_mapped : {X Y : Type 0} (P : X → Type 0) (Q : Y → Type 0) (f : X → Y) (xs : List X) → ((x : X) → P x → Q (f x)) → Each P xs → Each Q (map f xs)
each_mapped P Q f [] g a = tt
each_mapped P Q f (x ∷ xs) g a = (g x a.0, each_mapped P Q f xs g a.1)

each_ranged : (a n : ℕ) → Each (λ (x : ℕ). x < a + n) (range_with_len a n)
each_ranged a zero = tt
each_ranged a (suc n) = (omega arith, Each-map (λ (x : ℕ). x < (a + 1) + n) (λ (x : ℕ). x < a + suc n) (λ x b. omega (arith, b)) (range_with_len (a + 1) n) (each_ranged (a + 1) n))

-- an object past the end has nothing
past_end : (obs : List Object) (o : ℕ) → length obs ≤ o → object_at obs o ≡ object_at [] o
past_end [] o b = refl
past_end (x ∷ xs) zero b = absurd (omega (arith, b))
past_end (x ∷ xs) (suc o) b = past_end xs o (omega (arith, b))

module _ (p : Setting) (file : FileGiven p) (scopes : ScopesGiven p) where
  abbrev l : LinkedFile
  l = p.linked

  -- ---- among declared traits

  member_found : (w : World) (z : WorldSound p w) (o : ObjId) (inner : IsObject w.heap o) (want : Want) (m : Member) → MemberSound p file scopes w z o inner m → not (passes_over (skip_for want) m) ≡ true → FoundSound p w want (found_as l m) (values.Obj o)
  member_found w z o inner wants.Read (members.Slot k constant) h e = (inner, h)
  member_found w z o inner wants.Write (members.Slot k constant) h e = (inner, h)
  member_found w z o inner wants.Read (members.Method m) h e = (h, refl)
  member_found w z o inner wants.Write (members.Method m) h e = (h, refl)
  member_found w z o inner wants.Read (members.Getter m) h e = h
  member_found w z o inner wants.Read (members.Setter m) h e = absurd cc
  member_found w z o inner wants.Write (members.Getter m) h e = absurd cc
  member_found w z o inner wants.Write (members.Setter m) h e = h

  missing_found : (w : World) (want : Want) (v : Value) (b : Bool) → FoundSound p w want (if b then founds.WrongSide else founds.Missing) v
  missing_found w want v true = tt
  missing_found w want v false = tt

  declared_sound : (w : World) (o : ObjId) (from : ℕ) (name : Name) (want : Want) → WorldSound p w → IsObject w.heap o → IsBelow l (object_at w.heap.objects o.0).layout from → FoundSound p w want (declared_found l w.heap (object_at w.heap.objects o.0).layout from name want) (values.Obj o)
  unfolding declared_found answer_of_search
  declared_sound w o from name want z inner below = go (find (is_answer l w.heap name (skip_for want)) (traits l (object_at w.heap.objects o.0).layout from)) refl
    where
      of : (c : Candidate) → CandidateSound p file scopes w z o inner c → is_answer l w.heap name (skip_for want) c ≡ true → FoundSound p w want (found_candidate l c) (values.Obj o)
      of (OfTrait x passed t) h e = member_found w z o inner want t.declared.member h (and_right (fits l w.heap name (OfTrait x passed t)) (not (passes_over (skip_for want) t.declared.member)) e)
      of (OfLength k) h e = absurd h
      of (OfElement k i) h e = absurd h
      of (OfProperty k s v) h e = absurd h

      go : (r : Option Candidate) → find (is_answer l w.heap name (skip_for want)) (traits l (object_at w.heap.objects o.0).layout from) ≡ r → FoundSound p w want (found_or_not l r (list_any (fits l w.heap name) (traits l (object_at w.heap.objects o.0).layout from))) (values.Obj o)
      go None e = missing_found w want (values.Obj o) (list_any (fits l w.heap name) (traits l (object_at w.heap.objects o.0).layout from))
      go (Some c) e = let f = find_passes (CandidateSound p file scopes w z o inner) (is_answer l w.heap name (skip_for want)) (traits l (object_at w.heap.objects o.0).layout from) c (traits_sound p file scopes w z o inner from below) e in of c f.0 f.1

  -- ---- on values

  module _ (w : World) (z : WorldSound p w) where
    -- a thing that an object has of its own
    abbrev ThingSound : Candidate → Type 0
    ThingSound (OfTrait x passed t) = ⊥
    ThingSound (OfLength o) = IsObject w.heap (obj_id o)
    ThingSound (OfElement o k) = (x : Value) × (slice_get (object_at w.heap.objects o).elements k ≡ Some x) × IsObject w.heap (obj_id o)
    ThingSound (OfProperty o s v) = Exists l w.heap v

    elements_sound : (o k : ℕ) (vs : List Value) → IsObject w.heap (obj_id o) → ((j : ℕ) (x : Value) → slice_get vs j ≡ Some x → slice_get (object_at w.heap.objects o).elements (k + j) ≡ Some x) → Each ThingSound (elements_from o k vs)
    elements_sound o k [] inner g = tt
    elements_sound o k (v ∷ vs) inner g =
        let here : k + 0 ≡ k = omega arith in (
          (v, subst (λ (i : ℕ). slice_get (object_at w.heap.objects o).elements i ≡ Some v) here (g 0 v refl), inner),
          elements_sound o (k + 1) vs inner (λ j x e. let next : k + suc j ≡ (k + 1) + j = omega arith in subst (λ (i : ℕ). slice_get (object_at w.heap.objects o).elements i ≡ Some x) next (g (suc j) x e)),
        )

    all_elements : (o : ℕ) → IsObject w.heap (obj_id o) → Each ThingSound (element_candidates o (object_at w.heap.objects o))
    all_elements o inner = go (is_array (object_at w.heap.objects o).what)
      where
        go : (b : Bool) → Each ThingSound (if b then OfLength o ∷ elements_from o 0 (object_at w.heap.objects o).elements else [])
        go true = (inner, elements_sound o 0 (object_at w.heap.objects o).elements inner (λ j x e. let same : j ≡ 0 + j = omega arith in subst (λ (i : ℕ). slice_get (object_at w.heap.objects o).elements i ≡ Some x) same e))
        go false = tt

    abbrev Held : Option (Span × Value) → Type 0
    Held None = Unit {0}
    Held (Some q) = Exists l w.heap q.1

    each_held : (qs : List (Option (Span × Value))) → ((k : ℕ) (q : Option (Span × Value)) → slice_get qs k ≡ Some q → IsProperty l w.heap q) → Each Held qs
    each_held [] g = tt
    each_held (q ∷ qs) g = (of q (g 0 q refl), each_held qs (λ k r e. g (suc k) r e))
      where
        of : (q : Option (Span × Value)) → IsProperty l w.heap q → Held q
        of None h = tt
        of (Some r) h = h.1

    held_found : (o : ℕ) (qs : List (Option (Span × Value))) → Each Held qs → Each ThingSound (flat_map (property_at o) qs)
    held_found o [] a = tt
    held_found o (None ∷ qs) a = held_found o qs a.1
    held_found o (Some q ∷ qs) a = (a.0, held_found o qs a.1)

    things_sound : (o : ℕ) → Each ThingSound (own_things w.heap o)
    things_sound o = elim (cases_lt o (length w.heap.objects)) [
      | inl low ↦
          let ob = object_at w.heap.objects o in
          let stands = z.stands.objects o ob (there w.heap.objects o low) in
          Each-append ThingSound (element_candidates o ob) (property_candidates o ob) (all_elements o low) (held_found o (reverse ob.properties) (Each-reverse Held ob.properties (each_held ob.properties stands.properties)))
      | inr past ↦ subst (λ (ob : Object). Each ThingSound (element_candidates o ob ++ property_candidates o ob)) (sym (past_end w.heap.objects o past)) tt
    ]

    along_sound : (at : Option ℕ) → Each ThingSound (things_along w.heap at)
    along_sound at = each_flat ThingSound (own_things w.heap) (way (delegate_at w.heap) at) things_sound

    public_sound : (name : Name) (cs : List Candidate) → Each ThingSound cs → Each ThingSound (where_public l name cs)
    public_sound name cs a = go (name_holds_public l name.spaces)
      where
        go : (b : Bool) → Each ThingSound (if b then cs else [])
        go true = a
        go false = tt

    thing_found : (v : Value) (c : Candidate) → ThingSound c → FoundSound p w wants.Read (found_candidate l c) v
    thing_found v (OfTrait x passed t) h = absurd h
    thing_found v (OfLength o) h = h
    thing_found v (OfElement o k) h = h
    thing_found v (OfProperty o s x) h = h

    module _ (name : Name) where
      abbrev Fine : Value → Candidate → Type 0
      Fine v c = is_answer l w.heap name (skip_for wants.Read) c ≡ true → FoundSound p w wants.Read (found_candidate l c) v

      things_fine : (v : Value) → Each (Fine v) (where_public l name (things_along w.heap (holder_of w.heap v)))
      things_fine v = Each-map ThingSound (Fine v) (λ c h e. thing_found v c h) (where_public l name (things_along w.heap (holder_of w.heap v))) (public_sound name (things_along w.heap (holder_of w.heap v)) (along_sound (holder_of w.heap v)))

      trait_fine : (o : ObjId) (inner : IsObject w.heap o) (c : Candidate) → CandidateSound p file scopes w z o inner c → Fine (values.Obj o) c
      trait_fine o inner (OfTrait x passed t) h e = member_found w z o inner wants.Read t.declared.member h (and_right (fits l w.heap name (OfTrait x passed t)) (not (passes_over (skip_for wants.Read) t.declared.member)) e)
      trait_fine o inner (OfLength k) h e = absurd h
      trait_fine o inner (OfElement k i) h e = absurd h
      trait_fine o inner (OfProperty k s v) h e = absurd h

      all_fine : (v : Value) → Exists l w.heap v → Each (Fine v) (candidates_on l w.heap name v)
      all_fine (values.Obj o) x =
          let y = (object_at w.heap.objects o.0).layout in
          Each-append (Fine (values.Obj o)) (traits l y y) (where_public l name (things_along w.heap (holder_of w.heap (values.Obj o))))
          (Each-map (CandidateSound p file scopes w z o x) (Fine (values.Obj o)) (trait_fine o x) (traits l y y) (traits_sound p file scopes w z o x y (below_self l y))) (things_fine (values.Obj o))
      all_fine values.Undefined x = things_fine values.Undefined
      all_fine values.Null x = things_fine values.Null
      all_fine (values.Num n) x = things_fine (values.Num n)
      all_fine (values.Bool b) x = things_fine (values.Bool b)
      all_fine (values.Text s) x = things_fine (values.Text s)
      all_fine (values.Space n) x = things_fine (values.Space n)

      on_sound : (v : Value) → Exists l w.heap v → FoundSound p w wants.Read (found_on l w.heap v name wants.Read) v
      unfolding found_on answer_of_search
      on_sound v x = go (find (is_answer l w.heap name (skip_for wants.Read)) (candidates_on l w.heap name v)) refl
        where
          go : (r : Option Candidate) → find (is_answer l w.heap name (skip_for wants.Read)) (candidates_on l w.heap name v) ≡ r → FoundSound p w wants.Read (found_or_not l r (list_any (fits l w.heap name) (candidates_on l w.heap name v))) v
          go None e = missing_found w wants.Read v (list_any (fits l w.heap name) (candidates_on l w.heap name v))
          go (Some c) e = let f = find_passes (Fine v) (is_answer l w.heap name (skip_for wants.Read)) (candidates_on l w.heap name v) c (all_fine v x) e in f.0 f.1

    -- ---- in scopes

    abbrev PlaceSound : ScopePlace → Type 0
    PlaceSound (InScope e) = IsObject w.heap e.object
    PlaceSound (InScript s) = s < length l.file.scripts
    PlaceSound InHost = Unit {0}

    abbrev node : ℕ → ScopeNode
    node s = node_at w.heap s

    node_stands : (s : ℕ) → s < length w.heap.scopes → ScopeStands w.heap s (node s)
    node_stands s low = z.stands.scopes s (node s) (is_at w.heap.scopes s no_node low)

    scopes_fall : IsFalling (parent_at w.heap)
    scopes_fall = record {
      falls = λ s q e. elim (cases_lt s (length w.heap.scopes)) [
        | inl low ↦ below s (node s).parent q (node_stands s low).parent e
        | inr past ↦ let none : parent_at w.heap s ≡ None = ap (λ (n : ScopeNode). scope_number n.parent) (get_or_past w.heap.scopes s no_node past) in absurd cc
      ];
    }
      where
        below : (s : ℕ) (q : Option ScopeId) (t : ℕ) → IsBeneath s q → scope_number q ≡ Some t → t < s
        below s None t b e = absurd cc
        below s (Some q) t b e = let same : q.0 ≡ t = cc in subst (λ (x : ℕ). x < s) same b

    saved_low : (n s : ℕ) → s < n → s < length w.heap.scopes → Each (λ (x : ℕ). x < length w.heap.scopes) (way (parent_at w.heap) (Some s))
    saved_low zero s b low = absurd (omega (arith, b))
    saved_low (suc n) s b low =
        subst (Each (λ (x : ℕ). x < length w.heap.scopes)) (sym (way_some (parent_at w.heap) scopes_fall s)) (low, go (λ t less. saved_low n t (omega (arith, less, b)) (omega (arith, less, low))) (parent_at w.heap s) (λ t e. scopes_fall.falls s t e))
      where
        go : ((t : ℕ) → t < s → Each (λ (x : ℕ). x < length w.heap.scopes) (way (parent_at w.heap) (Some t))) → (q : Option ℕ) → ((t : ℕ) → q ≡ Some t → t < s) → Each (λ (x : ℕ). x < length w.heap.scopes) (way (parent_at w.heap) q)
        go more None g = subst (Each (λ (x : ℕ). x < length w.heap.scopes)) (sym (way_none (parent_at w.heap))) tt
        go more (Some t) g = more t (g t refl)

    saved_sound : (saved : Option ScopeId) → IsScope w.heap saved → Each PlaceSound (saved_places w.heap saved)
    saved_sound saved h = each_mapped (λ (x : ℕ). x < length w.heap.scopes) PlaceSound (λ s. InScope (node_at w.heap s).entry) (way (parent_at w.heap) (scope_number saved)) (λ s low. (node_stands s low).object) (low_way saved h)
      where
        low_way : (saved : Option ScopeId) → IsScope w.heap saved → Each (λ (x : ℕ). x < length w.heap.scopes) (way (parent_at w.heap) (scope_number saved))
        low_way None h = subst (Each (λ (x : ℕ). x < length w.heap.scopes)) (sym (way_none (parent_at w.heap))) tt
        low_way (Some s) h = saved_low (suc s.0) s.0 (omega arith) h

    places_sound : (es : List ScopeEntry) (saved : Option ScopeId) → Each (λ (e : ScopeEntry). IsObject w.heap e.object) es → IsScope w.heap saved → Each PlaceSound (scope_places l w.heap es saved)
    places_sound es saved a h =
        let n = length l.file.scripts in
        Each-append PlaceSound (map InScope (reverse es)) (saved_places w.heap saved ++ (map InScript (range_with_len 0 n) ++ InHost ∷ []))
        (each_mapped (λ (e : ScopeEntry). IsObject w.heap e.object) PlaceSound InScope (reverse es) (λ e i. i) (Each-reverse (λ (e : ScopeEntry). IsObject w.heap e.object) es a))
        (Each-append PlaceSound (saved_places w.heap saved) (map InScript (range_with_len 0 n) ++ InHost ∷ []) (saved_sound saved h)
        (Each-append PlaceSound (map InScript (range_with_len 0 n)) (InHost ∷ []) (each_mapped (λ (s : ℕ). s < 0 + n) PlaceSound InScript (range_with_len 0 n) (λ s b. let low : s < n = omega (arith, b) in low) (each_ranged 0 n)) (tt, tt)))

    place_found : (q : ScopePlace) → PlaceSound q → ScopeFoundSound p w (scope_named w.heap w.started (Some q))
    place_found (InScope e) h = h
    place_found (InScript s) h = go (get_or w.started s false)
      where
        go : (b : Bool) → ScopeFoundSound p w (if b then results.Object (obj_id (global_number w.heap s)) else results.Start s)
        go true = (global_made l w.heap s z.stands h).0
        go false = h
    place_found InHost h = (host_made l w.heap z.stands).0

    in_scopes_sound : (es : List ScopeEntry) (saved : Option ScopeId) (name : Name) → Each (λ (e : ScopeEntry). IsObject w.heap e.object) es → IsScope w.heap saved → ScopeFoundSound p w (found_in_scopes l w.heap es saved w.started name)
    unfolding found_in_scopes
    in_scopes_sound es saved name a h = go (find (has l w.heap name) (scope_places l w.heap es saved)) refl
      where
        go : (r : Option ScopePlace) → find (has l w.heap name) (scope_places l w.heap es saved) ≡ r → ScopeFoundSound p w (scope_named w.heap w.started r)
        go None e = tt
        go (Some q) e = place_found q (find_passes PlaceSound (has l w.heap name) (scope_places l w.heap es saved) q (places_sound es saved a h) e).0

  pub search_given : SearchGiven p
  search_given = record {
    on = λ w v name z x. on_sound w z name v x;
    declared = declared_sound;
    in_scopes = λ w es saved name z a h. in_scopes_sound w z es saved name a h;
  }

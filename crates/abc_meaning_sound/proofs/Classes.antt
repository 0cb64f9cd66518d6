-- A class that is made.
use Rattle.std.proofs.Common.{◌≡◌, inl, inr, ℕ, zero, suc, ◌+◌, ◌≤◌, ◌<◌, List, [], ◌∷◌, ◌++◌, length, get_or, set, refl, sym, ap, ◌∙◌, subst, arith, length-append, length-set}
use Rattle.std.specs.Prelude.{true, false, nat_eq, slice_get, Some, None}
use Rattle.std.specs.declared.option.Option.{Option}
use Rattle.abc_base.specs.declared.names.HostClass.TheVariants as hosts
use Rattle.abc_heap_values.specs.declared.values.ObjId.{ObjId}
use Rattle.abc_heap_values.specs.declared.values.Value.{Value}
use Rattle.abc_heap_values.specs.declared.values.Value.TheVariants.{Undefined, Null, Num, Bool as Truth, Text, Space, Obj}
use Rattle.abc_base_graphs.specs.Graph.{Leads}
use Rattle.abc_heap_store.specs.Changes.{bare_object, change, with_class, with_made, with_more_slots, with_scopes, with_slot}
use Rattle.abc_heap_store.specs.Heap.{Heap, Object, cells_used, object_at, obj_id}
use Rattle.abc_heap_store.specs.Scopes.{nodes, scope_id, top_of_scopes}
use Rattle.abc_heap_store.specs.declared.records.ScopeEntry.{ScopeEntry}
use Rattle.abc_heap_store.specs.declared.records.ScopeId.{ScopeId}
use Rattle.abc_heap_store.specs.declared.records.What.{What}
use Rattle.abc_heap_store.specs.declared.records.What.TheVariants as whats
use Rattle.abc_heap_store.proofs.Makes.{nodes_length}
use Rattle.abc_link_names.specs.declared.named.Named.{Named}
use Rattle.abc_link_names.specs.declared.named.Named.TheVariants as named
use Rattle.abc_objects.specs.Growing.{Grows}
use Rattle.abc_objects.specs.Stands.{AreEntries, IsObjectOrNone, IsScope, StandsOver, class_parts, host_layout}
use Rattle.abc_objects.specs.Starts.{start_values}
use Rattle.abc_objects.specs.Values.{IsObject}
use Rattle.abc_objects.proofs.Classes.{over_class}
use Rattle.abc_objects.proofs.Kept.{added_grows, changed_grows, scopes_grow}
use Rattle.abc_objects.proofs.Made.{host_found, object_slots, part_found, prototype_is, slots_are}
use Rattle.abc_objects.proofs.Reshaped.{object_there}
use Rattle.abc_link_names.specs.Linked.{layout_of}
use Rattle.abc_link_names.specs.Numbering.{part_at}
use Rattle.abc_link_names.specs.Slots.{own_slots, slots_of}
use Rattle.abc_link_names.specs.declared.part.Part.TheVariants as parts
use Rattle.abc_link_names.specs.declared.types.Ty.TheVariants as types
use Rattle.abc_link_names.specs.Bases.{base_graph}
use Rattle.abc_verify_typing.proofs.Lists.{slice_get-pushed, slice_get-last}
use Rattle.abc_meaning.specs.Objects.{Place, class_object, flat_value, place_kept_by, new_class, prototype_for}
use Rattle.abc_meaning.specs.Setting.{Setting}
use Rattle.abc_meaning.specs.World.{Errs, Went, World, and_then, object_named, some}
use Rattle.abc_meaning.specs.Newing.{base_prototype, is_none, is_same_object}
use Rattle.abc_meaning.specs.Sound.{AreClassesMade, HasClassMade, IsHeapWithin, ObjectSound, PartSound, SlotHolds, WhatSound, WorldSound}
use Rattle.abc_meaning_sound.specs.Given.{FileGiven, ScopesGiven}
use Rattle.abc_link_names.specs.ClassBases.{BaseKnown}
use Rattle.abc_meaning_sound.specs.Keeping.{Evolves, Fares, LeavesSound}
use Rattle.abc_meaning_sound.proofs.Faring.{cells_then, done_fares, if_fares, objects_then, stop_fares, went_fares}
use Rattle.abc_meaning_sound.proofs.Growing.{any_kind, first_is, object_on}
use Rattle.abc_meaning_sound.proofs.Lists.{cells_append, change_at, change_cells, change_long, each2_put}
use Rattle.abc_meaning_sound.proofs.Made.{heap_leaves, prototype_there}

set_here : {X : Type 0} (xs : List X) (k : ℕ) (x : X) → k < length xs → slice_get (set xs k x) k ≡ Some x
set_here [] k x b = absurd (omega (arith, b))
set_here (y ∷ xs) zero x b = refl
set_here (y ∷ xs) (suc k) x b = set_here xs k x (omega (arith, b))

set_elsewhere : {X : Type 0} (xs : List X) (k i : ℕ) (x : X) → (i ≡ k → ⊥) → slice_get (set xs k x) i ≡ slice_get xs i
set_elsewhere [] k i x ne = refl
set_elsewhere (y ∷ xs) zero zero x ne = absurd (ne refl)
set_elsewhere (y ∷ xs) zero (suc i) x ne = refl
set_elsewhere (y ∷ xs) (suc k) zero x ne = refl
set_elsewhere (y ∷ xs) (suc k) (suc i) x ne = set_elsewhere xs k i x (λ e. ne (ap suc e))

-- what is flat is the entry, or none
flat_or : {X : Type 0} (xs : List (Option X)) (k : ℕ) → flat_value (slice_get xs k) ≡ None → get_or xs k None ≡ None
flat_or [] k e = refl
flat_or (None ∷ xs) zero e = refl
flat_or (Some x ∷ xs) zero e = e
flat_or (x ∷ xs) (suc k) e = flat_or xs k e

taken : {X : Type 0} (xs : List (Option X)) (k : ℕ) (o : X) → get_or xs k None ≡ None → slice_get xs k ≡ Some (Some o) → ⊥
taken [] k o f e = absurd cc
taken (x ∷ xs) zero o f e = let p : x ≡ Some o = cc in absurd (let q : ◌≡◌ {A = Option _} (Some o) None = sym p ∙ f in cc)
taken (x ∷ xs) (suc k) o f e = taken xs k o f e

flat_is : {X : Type 0} (xs : List (Option X)) (k : ℕ) (o : X) → flat_value (slice_get xs k) ≡ Some o → slice_get xs k ≡ Some (Some o)
flat_is [] k o e = absurd cc
flat_is (None ∷ xs) zero o e = absurd cc
flat_is (Some x ∷ xs) zero o e = ap Some e
flat_is (x ∷ xs) (suc k) o e = flat_is xs k o e

-- where a class object keeps a place
pub kept_is : (which : What → Option Place) (k : ℕ) (w : World) (o : ObjId) (ob : Object) (at : Place) → class_object k w ≡ Some o → object_named o w ≡ Some ob → which ob.what ≡ Some at → place_kept_by which k w ≡ Went w at
kept_is which k w o ob at e f g =
    ap (λ q. and_then (some q w) (λ x w'. and_then (some (object_named x w') w') (λ y w''. some (which y.what) w''))) e
    ∙ ap (λ q. and_then (some q w) (λ y w''. some (which y.what) w'')) f
    ∙ ap (λ q. some q w) g

module _ (p : Setting) (file : FileGiven p) (scopes : ScopesGiven p) where
  -- a class object that is there
  pub record ClassThere (w : World) (k : ℕ) (o : ObjId) : Type 0 where
    pub inside : IsObject w.heap o
    pub home : ℕ
    pub statics : Option ScopeId
    pub instances : ScopeId
    pub what : (object_at w.heap.objects o.0).what ≡ whats.ClassObject k home statics instances
    pub made : AreClassesMade p.linked w.heap k

  pub class_there : (w : World) (k : ℕ) (o : ObjId) → WorldSound p w → k < length p.linked.file.instances → class_object k w ≡ Some o → ClassThere w k o
  class_there w k o z b e =
      let c = z.stands.named k o.0 (flat_is w.heap.classes k o e) in
      let same = object_there w.heap.objects o.0 c.object c.at in
      let sound = z.objects o.0 c.object c.at in
      let layout : c.object.layout ≡ (layout_of p.linked (parts.ClassObject k)).0 = subst (WhatSound p w.heap c.object.layout) c.is sound.what in
      let part : part_at p.linked.parts c.object.layout ≡ parts.ClassObject k = ap (part_at p.linked.parts) layout ∙ (part_found p.linked file.linked (parts.ClassObject k) b).1 in
      record { inside = Rattle.abc_meaning_sound.proofs.Lists.inside w.heap.objects o.0 c.object c.at; home = c.home; statics = c.statics; instances = c.instances; what = ap (λ (x : Object). x.what) same ∙ c.is; made = subst (PartSound p.linked w.heap) part sound.part }

  -- ---- the base

  abbrev pub BaseMade : World → Option Named → Type 0
  BaseMade n (Some (named.Class j)) = AreClassesMade p.linked n.heap j
  BaseMade n other = Unit {0}

  abbrev pub BaseFound : Heap → Option Named → World → Option ObjId → Type 0
  BaseFound h b n o = IsObjectOrNone n.heap o × BaseMade n b × (n.heap ≡ h)

  that_fares : (w : World) (o : ObjId) (v : Value) (b : Option Named) → WorldSound p w → BaseMade w b → Fares p w (is_same_object (Some o) v w) (BaseFound w.heap b)
  that_fares w o (Obj c) b z made = if_fares p w (nat_eq o.0 c.0) _ _ _ (λ q. done_fares p w _ _ z (prototype_is p.linked w.heap o.0 z.stands, made, refl)) (λ q. stop_fares p w (Errs hosts.TypeError) _ z tt)
  that_fares w o Undefined b z made = stop_fares p w (Errs hosts.TypeError) _ z tt
  that_fares w o Null b z made = stop_fares p w (Errs hosts.TypeError) _ z tt
  that_fares w o (Num n) b z made = stop_fares p w (Errs hosts.TypeError) _ z tt
  that_fares w o (Truth n) b z made = stop_fares p w (Errs hosts.TypeError) _ z tt
  that_fares w o (Text n) b z made = stop_fares p w (Errs hosts.TypeError) _ z tt
  that_fares w o (Space n) b z made = stop_fares p w (Errs hosts.TypeError) _ z tt

  none_fares : (w : World) (v : Value) → WorldSound p w → Fares p w (is_none v w) (BaseFound w.heap None)
  none_fares w Null z = done_fares p w None _ z (tt, tt, refl)
  none_fares w Undefined z = stop_fares p w (Errs hosts.TypeError) _ z tt
  none_fares w (Num n) z = stop_fares p w (Errs hosts.TypeError) _ z tt
  none_fares w (Truth n) z = stop_fares p w (Errs hosts.TypeError) _ z tt
  none_fares w (Text n) z = stop_fares p w (Errs hosts.TypeError) _ z tt
  none_fares w (Space n) z = stop_fares p w (Errs hosts.TypeError) _ z tt
  none_fares w (Obj n) z = stop_fares p w (Errs hosts.TypeError) _ z tt

  pub base_fares : (w : World) (b : Option Named) (v : Value) → WorldSound p w → BaseKnown p.linked b → Fares p w (base_prototype b v w) (BaseFound w.heap b)
  base_fares w None v z known = none_fares w v z
  base_fares w (Some (named.Host c)) v z known = that_fares w (obj_id (Rattle.abc_objects.specs.Stands.host_class_number c)) v (Some (named.Host c)) z tt
  base_fares w (Some (named.Class j)) v z known = go (class_object j w) refl
    where
      go : (o : Option ObjId) → class_object j w ≡ o → Fares p w (is_same_object o v w) (BaseFound w.heap (Some (named.Class j)))
      go None is = stop_fares p w (Errs hosts.TypeError) _ z tt
      go (Some o) is = that_fares w o v (Some (named.Class j)) z (class_there w j o z known is).made
  base_fares w (Some named.Any) v z known = absurd known
  base_fares w (Some named.Void) v z known = absurd known

  -- ---- the heap with the class

  module _ (h : Heap) (k home : ℕ) (base delegate : Option ObjId) (saved : Option ScopeId) (es : List ScopeEntry) where
    abbrev ps : List Value
    ps = start_values p.linked (host_layout p.linked hosts.Object)

    abbrev cs : List Value
    cs = start_values p.linked (layout_of p.linked (parts.ClassObject k)).0

    abbrev first : Object
    first = with_more_slots ps (bare_object (host_layout p.linked hosts.Object) base whats.Plain)

    abbrev place_is : Option ScopeId
    place_is = top_of_scopes (length h.scopes) saved es

    abbrev what_is : What
    what_is = whats.ClassObject k home place_is (scope_id (length h.scopes + length es))

    abbrev second : Object
    second = with_more_slots cs (bare_object (layout_of p.linked (parts.ClassObject k)).0 delegate what_is)

    abbrev own : List ScopeEntry
    own = record { object = obj_id (length h.objects + 1); with_flag = false } ∷ []

    abbrev pub with_it : Heap
    with_it = with_class ps cs (class_parts p.linked k home base delegate) saved es h

    abbrev keeps_proto : Object → Object
    keeps_proto = with_slot 0 (Obj (obj_id (length h.objects)))

    abbrev before : Heap
    before = with_made cs (layout_of p.linked (parts.ClassObject k)).0 delegate what_is (with_scopes place_is own (with_scopes saved es (with_made ps (host_layout p.linked hosts.Object) base whats.Plain h)))

    grows : Grows h with_it
    grows =
        let h1 = with_made ps (host_layout p.linked hosts.Object) base whats.Plain h in
        let h2 = with_scopes saved es h1 in
        let h3 = with_scopes place_is own h2 in
        let g1 = added_grows h first in
        let g2 = scopes_grow h1 saved es in
        let g3 = scopes_grow h2 place_is own in
        let g4 = added_grows h3 second in
        let g5 = changed_grows before keeps_proto (length h.objects + 1) (λ ob. record { layout = refl; delegate = refl; what = refl }) in
        let all = Rattle.abc_objects.proofs.Grown.grows_on h before _ (Rattle.abc_objects.proofs.Grown.grows_on h h3 before (Rattle.abc_objects.proofs.Grown.grows_on h h2 h3 (Rattle.abc_objects.proofs.Grown.grows_on h h1 h2 g1 g2) g3) g4) g5 in
        record { objects = all.objects; scopes = all.scopes; fixed = all.fixed; made = all.made; formulas = all.formulas }

    evolves : get_or h.classes k None ≡ None → Evolves h with_it
    evolves free = record { grows = grows; classes = λ j o e. set_elsewhere h.classes k j (Some (obj_id (length h.objects + 1))) (λ (z : j ≡ k). taken h.classes k o free (subst (λ i. slice_get h.classes i ≡ Some (Some o)) z e)) ∙ e; limits = refl }

    within : IsHeapWithin h → length h.objects + 2 ≤ h.limits.objects → cells_used h + (length ps + length cs + length es + 1) ≤ h.limits.cells → IsHeapWithin with_it
    within z a b =
        let objects = (h.objects ++ first ∷ []) ++ second ∷ [] in
        let c1 = cells_append h.objects (first ∷ []) in
        let c2 = cells_append (h.objects ++ first ∷ []) (second ∷ []) in
        let c3 = change_cells keeps_proto 0 (length h.objects + 1) objects (λ x at. let l = length-set x.slots 0 (Obj (obj_id (length h.objects))) in omega (arith, l)) in
        let l1 = length-append h.objects (first ∷ []) in
        let l2 = length-append (h.objects ++ first ∷ []) (second ∷ []) in
        let l3 = change_long keeps_proto (length h.objects + 1) objects in
        let n1 = nodes_length (length h.scopes) saved es in
        let s1 = length-append h.scopes (nodes (length h.scopes) saved es) in
        let s2 = length-append (h.scopes ++ nodes (length h.scopes) saved es) (nodes (length (h.scopes ++ nodes (length h.scopes) saved es)) place_is own) in
        record { objects = omega (arith, a, l1, l2, l3); cells = omega (arith, b, c1, c2, c3, n1, s1, s2); text = z.text; counted = z.counted }

    -- ---- its objects

    first_slot : (x : ℕ) → x ≡ (layout_of p.linked (parts.ClassObject k)).0 → k < length p.linked.file.instances → slice_get (slots_of p.linked x) 0 ≡ Some (record { ty = types.Object; constant = true; start = Rattle.abc_link_names.specs.declared.start.Start.TheVariants.Null })
    first_slot x e b =
        let found = part_found p.linked file.linked (parts.ClassObject k) b in
        let m = host_found p.linked file.linked hosts.Class in
        let below = slots_are p.linked file.linked (host_layout p.linked hosts.Class) (parts.Host hosts.Class) (parts.Host hosts.Object) m.1 refl ∙ ap (λ xs. xs ++ own_slots p.linked (parts.Host hosts.Class)) (object_slots p.linked file.linked) in
        let all = slots_are p.linked file.linked (layout_of p.linked (parts.ClassObject k)).0 (parts.ClassObject k) (parts.Host hosts.Class) found.1 refl ∙ ap (λ xs. xs ++ own_slots p.linked (parts.ClassObject k)) below in
        ap (λ y. slice_get (slots_of p.linked y) 0) e ∙ ap (λ xs. slice_get xs 0) all

    made_now : get_or h.classes k None ≡ None → k < length p.linked.file.instances → length h.classes ≡ length p.linked.file.instances → ((b : ℕ) → Leads (base_graph p.linked.file) k b → HasClassMade with_it b) → AreClassesMade p.linked with_it k
    made_now free b count bases = record { own = (obj_id (length h.objects + 1), set_here h.classes k (Some (obj_id (length h.objects + 1))) (omega (arith, b, count))); bases = bases }

    second_sound : StandsOver p.linked with_it → k < length p.linked.file.instances → AreClassesMade p.linked with_it k → ObjectSound p with_it second
    second_sound over b made =
        let found = part_found p.linked file.linked (parts.ClassObject k) b in
        record { slots = file.starts with_it (layout_of p.linked (parts.ClassObject k)).0 over found.0; what = refl; part = subst (PartSound p.linked with_it) (sym found.1) made; first_of = first_is p.linked (parts.ClassObject k) found.1 }

    kept_sound : StandsOver p.linked with_it → k < length p.linked.file.instances → AreClassesMade p.linked with_it k → length h.objects < length with_it.objects → ObjectSound p with_it (keeps_proto second)
    kept_sound over b made low =
        let s = second_sound over b made in
        record { slots = each2_put (SlotHolds p.linked with_it) (slots_of p.linked (layout_of p.linked (parts.ClassObject k)).0) cs 0 (record { ty = types.Object; constant = true; start = Rattle.abc_link_names.specs.declared.start.Start.TheVariants.Null }) (Obj (obj_id (length h.objects))) s.slots (first_slot (layout_of p.linked (parts.ClassObject k)).0 refl b) (any_kind p.linked with_it (Obj (obj_id (length h.objects))) low); what = s.what; part = s.part; first_of = s.first_of }

    first_sound : StandsOver p.linked with_it → ObjectSound p with_it first
    first_sound over =
        let found = host_found p.linked file.linked hosts.Object in
        record { slots = file.starts with_it (host_layout p.linked hosts.Object) over found.0; what = tt; part = subst (PartSound p.linked with_it) (sym found.1) tt; first_of = first_is p.linked (parts.Host hosts.Object) found.1 }

    at_second : slice_get ((h.objects ++ first ∷ []) ++ second ∷ []) (length h.objects + 1) ≡ Some second
    at_second = let l = length-append h.objects (first ∷ []) in subst (λ i. slice_get ((h.objects ++ first ∷ []) ++ second ∷ []) i ≡ Some second) (let e : length (h.objects ++ first ∷ []) ≡ length h.objects + 1 = omega (arith, l) in e) (slice_get-last (h.objects ++ first ∷ []) second)

  class_leaves : (w : World) (k home : ℕ) (base : Option ObjId) (saved : Option ScopeId) (es : List ScopeEntry) → WorldSound p w → k < length p.linked.file.instances → home < length p.linked.file.scripts → class_object k w ≡ None → IsObjectOrNone w.heap base → IsScope w.heap saved → AreEntries w.heap es → ((b : ℕ) → Leads (base_graph p.linked.file) k b → HasClassMade w.heap b) → length w.heap.objects + 2 ≤ w.heap.limits.objects → cells_used w.heap + (length (start_values p.linked (host_layout p.linked hosts.Object)) + length (start_values p.linked (layout_of p.linked (parts.ClassObject k)).0) + length es + 1) ≤ w.heap.limits.cells → LeavesSound p w (record w { heap = with_it w.heap k home base (prototype_for hosts.Class w) saved es })
  class_leaves w k home base saved es z b hh none hb hs he bases a c =
      let h = w.heap in
      let d = prototype_for hosts.Class w in
      let free = flat_or h.classes k none in
      let new = with_it h k home base d saved es in
      let over = over_class p.linked h (class_parts p.linked k home base d) saved es z.stands b hh refl refl hb (prototype_there p file h (14 + Rattle.abc_link_names.specs.Places.host_number hosts.Class) z.stands) hs he free in
      let g = evolves h k home base d saved es free in
      let made = made_now h k home base d saved es free b z.stands.counted (λ j lead. let m = bases j lead in (m.0, g.classes j m.0 m.1)) in
      let f = first h k home base d saved es in
      let s = second h k home base d saved es in
      let long = change_long (keeps_proto h k home base d saved es) (length h.objects + 1) ((h.objects ++ f ∷ []) ++ s ∷ []) in
      let l1 = length-append h.objects (f ∷ []) in
      let l2 = length-append (h.objects ++ f ∷ []) (s ∷ []) in
      let low : length h.objects < length new.objects = omega (arith, long, l1, l2) in
      heap_leaves p w new z over g
      (λ i ob e. elim (change_at (keeps_proto h k home base d saved es) (length h.objects + 1) ((h.objects ++ f ∷ []) ++ s ∷ []) i ob e) [
        | inl q ↦ elim (slice_get-pushed (h.objects ++ f ∷ []) s ob i q) [
          | inl q' ↦ elim (slice_get-pushed h.objects f ob i q') [ inl old ↦ object_on p h new g ob (z.objects i ob old) | inr same ↦ subst (ObjectSound p new) same (first_sound h k home base d saved es over) ]
          | inr same ↦ subst (ObjectSound p new) same (second_sound h k home base d saved es over b made)
        ]
        | inr q ↦ let same : q.0 ≡ s = (let u : Some q.0 ≡ Some s = sym q.2 ∙ at_second h k home base d saved es in cc) in subst (ObjectSound p new) (ap (keeps_proto h k home base d saved es) (sym same) ∙ q.3) (kept_sound h k home base d saved es over b made low)
      ])
      (within h k home base d saved es z.within a c)

  -- the class object, and where its initializer runs
  pub record ClassMade (k home : ℕ) (n : World) (o : ObjId) : Type 0 where
    pub inside : IsObject n.heap o
    pub is : class_object k n ≡ Some o
    pub statics : Option ScopeId
    pub instances : ScopeId
    pub what : (object_at n.heap.objects o.0).what ≡ whats.ClassObject k home statics instances
    pub layout : (object_at n.heap.objects o.0).layout ≡ (layout_of p.linked (parts.ClassObject k)).0

  change_last_at : (f : Object → Object) (o : ℕ) (xs : List Object) (x : Object) → slice_get xs o ≡ Some x → slice_get (change f o xs) o ≡ Some (f x)
  change_last_at f o [] x e = absurd cc
  change_last_at f zero (y ∷ xs) x e = let same : y ≡ x = cc in ap (λ z. Some (f z)) same
  change_last_at f (suc o) (y ∷ xs) x e = change_last_at f o xs x e

  pub new_class_fares : (w : World) (k home : ℕ) (base : Option ObjId) (saved : Option ScopeId) (es : List ScopeEntry) → WorldSound p w → k < length p.linked.file.instances → home < length p.linked.file.scripts → class_object k w ≡ None → IsObjectOrNone w.heap base → IsScope w.heap saved → AreEntries w.heap es → ((b : ℕ) → Leads (base_graph p.linked.file) k b → HasClassMade w.heap b) → Fares p w (new_class p k home base saved es w) (ClassMade k home)
  new_class_fares w k home base saved es z b hh none hb hs he bases =
      let h = w.heap in
      let d = prototype_for hosts.Class w in
      objects_then p w 2 _ _ z (λ a.
      cells_then p w (length (start_values p.linked (host_layout p.linked hosts.Object)) + length (start_values p.linked (layout_of p.linked (parts.ClassObject k)).0) + length es + 1) _ _ z (λ c.
      let f = first h k home base d saved es in
      let s = second h k home base d saved es in
      let put = keeps_proto h k home base d saved es in
      let at = change_last_at put (length h.objects + 1) ((h.objects ++ f ∷ []) ++ s ∷ []) s (at_second h k home base d saved es) in
      let there_is = object_there (with_it h k home base d saved es).objects (length h.objects + 1) (put s) at in
      let count = z.stands.counted in
      went_fares p w _ _ _ (class_leaves w k home base saved es z b hh none hb hs he bases a c)
      (record { inside = Rattle.abc_meaning_sound.proofs.Lists.inside (with_it h k home base d saved es).objects (length h.objects + 1) (put s) at; is = ap flat_value (set_here h.classes k (Some (obj_id (length h.objects + 1))) (omega (arith, b, count))); statics = place_is h k home base d saved es; instances = scope_id (length h.scopes + length es); what = ap (λ (x : Object). x.what) there_is; layout = ap (λ (x : Object). x.layout) there_is })))

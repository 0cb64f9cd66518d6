-- What changes the heap leaves a sound world: texts, objects, scopes and classes that are made.
use Rattle.std.proofs.Common.{◌≡◌, ◌≢◌, inl, inr, ℕ, ◌+◌, ◌≤◌, ◌<◌, List, [], ◌∷◌, ◌++◌, length, refl, sym, ap, ◌∙◌, subst, arith, length-append}
use Rattle.std.specs.Prelude.{slice_get, Some, None}
use Rattle.std.specs.declared.option.Option.{Option}
use Rattle.abc_base.specs.declared.names.HostClass.{HostClass}
use Rattle.abc_base.specs.declared.names.HostClass.TheVariants as hosts
use Rattle.abc_heap_values.specs.declared.values.ObjId.{ObjId}
use Rattle.abc_heap_values.specs.declared.values.Value.{Value}
use Rattle.abc_heap_values.specs.declared.values.Value.TheVariants.{Obj}
use Rattle.abc_heap_store.specs.Changes.{bare_object, with_made, with_more_elements, with_more_slots, with_object, with_scopes}
use Rattle.abc_heap_store.specs.Heap.{Heap, Object, cells_of, cells_used, object_at}
use Rattle.abc_heap_store.specs.Scopes.{nodes}
use Rattle.abc_heap_store.specs.declared.records.ScopeEntry.{ScopeEntry}
use Rattle.abc_heap_store.specs.declared.records.ScopeId.{ScopeId}
use Rattle.abc_heap_store.specs.declared.records.What.{What}
use Rattle.abc_heap_store.specs.declared.records.What.TheVariants as whats
use Rattle.abc_heap_store.proofs.Makes.{nodes_length}
use Rattle.abc_objects.specs.Stands.{AreEntries, IsMadeAlone, IsObjectOrNone, IsScope, NamesParts, StandsOver, array_layout, host_layout}
use Rattle.abc_objects.specs.Starts.{start_values}
use Rattle.abc_objects.specs.Values.{Exists, IsObject}
use Rattle.abc_objects.proofs.Grown.{bound_grown}
use Rattle.abc_objects.proofs.Kept.{Reshapes, added_grows, changed_grows, made_grows, over_changed, over_made, over_scopes, scopes_grow, top_is}
use Rattle.abc_objects.proofs.Made.{host_found, made_alone, no_slots, over_array, over_made_object, prototype_is}
use Rattle.abc_link_names.specs.Linked.{layout_of}
use Rattle.abc_link_names.specs.Numbering.{part_at}
use Rattle.abc_link_names.specs.Tree.{IsBelow}
use Rattle.abc_link_names.specs.declared.part.Part.TheVariants as parts
use Rattle.abc_link_names.specs.declared.types.Kind.TheVariants as kinds
use Rattle.abc_link_names.proofs.Tree.{below_self}
use Rattle.abc_verify_typing.specs.Lists.{Each, Each2}
use Rattle.abc_verify_typing.proofs.Lists.{slice_get-pushed}
use Rattle.abc_meaning.specs.Objects.{new_array, new_function, new_object, new_of_host, prototype_for, top_scope}
use Rattle.abc_meaning.specs.Setting.{Setting}
use Rattle.abc_meaning.specs.World.{World}
use Rattle.abc_meaning.specs.Sound.{IsFirstOf, IsOfKind, IsHeapWithin, ObjectSound, PartSound, SlotHolds, WhatSound, WorldSound}
use Rattle.abc_meaning_sound.specs.Given.{FileGiven}
use Rattle.abc_meaning_sound.specs.Keeping.{Evolves, Fares, LeavesSound}
use Rattle.abc_meaning_sound.proofs.Faring.{cells_then, objects_then, went_fares}
use Rattle.abc_meaning_sound.proofs.Growing.{evolves_on, first_is, object_on, part_on, what_on}
use Rattle.abc_meaning_sound.proofs.Lists.{cells_append, change_at, change_cells, change_long, each_at}

module _ (p : Setting) where
  -- another heap, which grew and whose objects are sound
  pub heap_leaves : (w : World) (h : Heap) → WorldSound p w → StandsOver p.linked h → Evolves w.heap h → ((o : ℕ) (ob : Object) → slice_get h.objects o ≡ Some ob → ObjectSound p h ob) → IsHeapWithin h → LeavesSound p w (record w { heap = h })
  heap_leaves w h s stands g objects within = record { sound = record { stands = stands; objects = objects; formulas = g.grows.formulas ∙ s.formulas; scripts = s.scripts; within = within }; grows = g }

  -- ---- a text more

  made_evolves : (h : Heap) (more : List ℕ) → Evolves h (record h { made = h.made ++ more })
  made_evolves h more = record { grows = made_grows h more; classes = λ k o e. e; limits = refl }

  pub text_leaves : (w : World) (more : List ℕ) → WorldSound p w → length w.heap.made + length more ≤ w.heap.limits.text → LeavesSound p w (record w { heap = record w.heap { made = w.heap.made ++ more } })
  text_leaves w more s b =
      let h = record w.heap { made = w.heap.made ++ more } in
      let g = made_evolves w.heap more in
      let z = s.within in
      let l = length-append w.heap.made more in
      heap_leaves w h s (over_made p.linked w.heap more s.stands) g (λ o ob e. object_on p w.heap h g ob (s.objects o ob e)) (record { objects = z.objects; cells = z.cells; text = omega (arith, b, l); counted = z.counted })

  -- ---- an object more

  abbrev pub added : Object → Heap → Heap
  added ob h = record h { objects = h.objects ++ ob ∷ [] }

  pub added_evolves : (h : Heap) (ob : Object) → Evolves h (added ob h)
  added_evolves h ob = record { grows = added_grows h ob; classes = λ k o e. e; limits = refl }

  pub added_within : (h : Heap) (ob : Object) → IsHeapWithin h → length h.objects + 1 ≤ h.limits.objects → cells_used h + cells_of ob ≤ h.limits.cells → IsHeapWithin (added ob h)
  added_within h ob z a b =
      let q = cells_append h.objects (ob ∷ []) in
      let l = length-append h.objects (ob ∷ []) in
      record { objects = omega (arith, a, l); cells = omega (arith, b, q); text = z.text; counted = z.counted }

  pub added_leaves : (w : World) (ob : Object) → WorldSound p w → StandsOver p.linked (added ob w.heap) → ObjectSound p (added ob w.heap) ob → length w.heap.objects + 1 ≤ w.heap.limits.objects → cells_used w.heap + cells_of ob ≤ w.heap.limits.cells → LeavesSound p w (record w { heap = added ob w.heap })
  added_leaves w ob s stands fresh a b =
      let h = added ob w.heap in
      let g = added_evolves w.heap ob in
      heap_leaves w h s stands g
      (λ o x e. elim (slice_get-pushed w.heap.objects ob x o e) [ inl q ↦ object_on p w.heap h g x (s.objects o x q) | inr q ↦ subst (ObjectSound p h) q fresh ])
      (added_within w.heap ob s.within a b)

  pub last_object : (obs : List Object) (ob : Object) → (length obs < length (obs ++ ob ∷ [])) × (object_at (obs ++ ob ∷ []) (length obs) ≡ ob)
  last_object [] ob = (omega arith, refl)
  last_object (x ∷ obs) ob = let r = last_object obs ob in let a = r.0 in (omega (arith, a), r.1)

  -- ---- an object that is changed

  pub changed_evolves : (h : Heap) (f : Object → Object) (o : ℕ) → Reshapes p.linked h o f → Evolves h (with_object f o h)
  changed_evolves h f o r = record { grows = changed_grows h f o r.keeps; classes = λ k i e. e; limits = refl }

  pub changed_leaves : (w : World) (f : Object → Object) (o k : ℕ) → WorldSound p w → Reshapes p.linked w.heap o f → ((x : Object) → slice_get w.heap.objects o ≡ Some x → cells_of (f x) ≤ cells_of x + k) → cells_used w.heap + k ≤ w.heap.limits.cells → ((x : Object) → slice_get w.heap.objects o ≡ Some x → ObjectSound p (with_object f o w.heap) x → ObjectSound p (with_object f o w.heap) (f x)) → LeavesSound p w (record w { heap = with_object f o w.heap })
  changed_leaves w f o k s r cells b fresh =
      let h = with_object f o w.heap in
      let g = changed_evolves w.heap f o r in
      let z = s.within in
      let c = change_cells f k o w.heap.objects cells in
      let l = change_long f o w.heap.objects in
      let objects = z.objects in
      heap_leaves w h s (over_changed p.linked w.heap f o s.stands r) g
      (λ i y e. elim (change_at f o w.heap.objects i y e) [ inl q ↦ object_on p w.heap h g y (s.objects i y q) | inr q ↦ subst (ObjectSound p h) q.3 (fresh q.0 q.2 (object_on p w.heap h g q.0 (s.objects o q.0 q.2))) ])
      (record { objects = omega (arith, objects, l); cells = omega (arith, b, c); text = z.text; counted = z.counted })

  -- ---- an object of a layout

  module _ (file : FileGiven p) where
    -- what an object may be that is made by itself
    pub record IsFresh (h : Heap) (x : ℕ) (delegate : Option ObjId) (what : What) : Type 0 where
      pub layout : x < length p.linked.parts
      pub no_array : x ≢ array_layout p.linked
      pub delegate_is : IsObjectOrNone h delegate
      pub alone : IsMadeAlone what
      pub names : NamesParts p.linked h what
      pub what_is : WhatSound p h x what
      pub part : PartSound p.linked h (part_at p.linked.parts x)
      pub first_of : IsFirstOf p.linked x

    fresh_cells : (x : ℕ) (d : Option ObjId) (what : What) (starts : List Value) → cells_of (with_more_slots starts (bare_object x d what)) ≡ length starts
    fresh_cells x d what starts = omega arith

    fresh_sound : (h : Heap) (x : ℕ) (d : Option ObjId) (what : What) → StandsOver p.linked h → IsFresh h x d what → (new : Heap) → StandsOver p.linked new → Evolves h new → ObjectSound p new (with_more_slots (start_values p.linked x) (bare_object x d what))
    fresh_sound h x d what s f new over g = record { slots = file.starts new x over f.layout; what = what_on p h new g x what f.what_is; part = part_on p h new g (part_at p.linked.parts x) f.part; first_of = f.first_of }

    pub stands_made : (h : Heap) (x : ℕ) (d : Option ObjId) (what : What) → StandsOver p.linked h → IsFresh h x d what → StandsOver p.linked (with_made (start_values p.linked x) x d what h)
    stands_made h x d what s f = over_made_object p.linked h x d what s f.layout f.delegate_is f.names (made_alone what f.alone).0 f.no_array (made_alone what f.alone).1

    -- where there is room for it
    pub made_leaves : (w : World) (x : ℕ) (d : Option ObjId) (what : What) → WorldSound p w → IsFresh w.heap x d what → length w.heap.objects + 1 ≤ w.heap.limits.objects → cells_used w.heap + length (start_values p.linked x) ≤ w.heap.limits.cells → LeavesSound p w (record w { heap = with_made (start_values p.linked x) x d what w.heap })
    made_leaves w x d what s f a b =
        let ob = with_more_slots (start_values p.linked x) (bare_object x d what) in
        let over = stands_made w.heap x d what s.stands f in
        let c = fresh_cells x d what (start_values p.linked x) in
        added_leaves w ob s over (fresh_sound w.heap x d what s.stands f (added ob w.heap) over (added_evolves w.heap ob)) a (omega (arith, b, c))

    -- the object is there, and has the layout
    abbrev pub IsMadeOf : ℕ → World → ObjId → Type 0
    IsMadeOf x n o = IsObject n.heap o × ((object_at n.heap.objects o.0).layout ≡ x)

    pub new_object_fares : (w : World) (x : ℕ) (d : Option ObjId) (what : What) → WorldSound p w → IsFresh w.heap x d what → Fares p w (new_object p x d what w) (IsMadeOf x)
    new_object_fares w x d what s f =
        objects_then p w 1 _ _ s (λ a.
        cells_then p w (length (start_values p.linked x)) _ _ s (λ b.
        let ob = with_more_slots (start_values p.linked x) (bare_object x d what) in
        let l = last_object w.heap.objects ob in
        went_fares p w _ _ _ (made_leaves w x d what s f a b) (l.0, ap (λ (y : Object). y.layout) l.1)))

    -- ---- of a class of the host

    part_of_host : (c : HostClass) → part_at p.linked.parts (host_layout p.linked c) ≡ parts.Host c
    part_of_host c = (host_found p.linked file.linked c).1

    pub host_part : (h : Heap) (c : HostClass) → PartSound p.linked h (part_at p.linked.parts (host_layout p.linked c))
    host_part h c = subst (PartSound p.linked h) (sym (part_of_host c)) tt

    pub not_array : (c : HostClass) → (parts.Host c ≡ parts.Host hosts.Array → ⊥) → host_layout p.linked c ≢ array_layout p.linked
    not_array c ne q = ne (sym (part_of_host c) ∙ ap (part_at p.linked.parts) q ∙ part_of_host hosts.Array)

    pub prototype_there : (h : Heap) (o : ℕ) → StandsOver p.linked h → IsObjectOrNone h (Rattle.abc_objects.specs.Stands.prototype_of h o)
    prototype_there h o s = prototype_is p.linked h o s

    pub host_fresh : (h : Heap) (c : HostClass) (d : Option ObjId) (what : What) → StandsOver p.linked h → (parts.Host c ≡ parts.Host hosts.Array → ⊥) → IsObjectOrNone h d → IsMadeAlone what → NamesParts p.linked h what → WhatSound p h (host_layout p.linked c) what → IsFresh h (host_layout p.linked c) d what
    host_fresh h c d what s ne hd alone names sound = record { layout = (host_found p.linked file.linked c).0; no_array = not_array c ne; delegate_is = hd; alone = alone; names = names; what_is = sound; part = host_part h c; first_of = first_is p.linked (parts.Host c) (host_found p.linked file.linked c).1 }

    pub new_of_host_fares : (w : World) (c : HostClass) (what : What) → WorldSound p w → (parts.Host c ≡ parts.Host hosts.Array → ⊥) → IsMadeAlone what → NamesParts p.linked w.heap what → WhatSound p w.heap (host_layout p.linked c) what → Fares p w (new_of_host p c what w) (IsMadeOf (host_layout p.linked c))
    new_of_host_fares w c what s ne alone names sound =
        new_object_fares w (host_layout p.linked c) (prototype_for c w) what s (host_fresh w.heap c (prototype_for c w) what s.stands ne (prototype_there w.heap (14 + Rattle.abc_link_names.specs.Places.host_number c) s.stands) alone names sound)

    -- ---- arrays

    pub new_array_fares : (w : World) (vs : List Value) → WorldSound p w → Each (Exists p.linked w.heap) vs → Fares p w (new_array p vs w) (λ n o. IsOfKind p.linked n.heap (kinds.Obj (layout_of p.linked (parts.Host hosts.Array))) (Obj o))
    new_array_fares w vs s es =
        let d = prototype_for hosts.Array w in
        let ob = with_more_elements vs (bare_object (host_layout p.linked hosts.Array) d whats.Array) in
        objects_then p w 1 _ _ s (λ a.
        cells_then p w (length vs) _ _ s (λ b.
        let over = over_array p.linked w.heap vs d s.stands (prototype_there w.heap (14 + Rattle.abc_link_names.specs.Places.host_number hosts.Array) s.stands) (each_at (Exists p.linked w.heap) vs es) in
        let sound : ObjectSound p (added ob w.heap) ob = record { slots = subst (λ ss. Each2 (SlotHolds p.linked (added ob w.heap)) ss []) (sym (no_slots p.linked file.linked hosts.Array refl refl)) tt; what = tt; part = host_part (added ob w.heap) hosts.Array; first_of = first_is p.linked (parts.Host hosts.Array) (host_found p.linked file.linked hosts.Array).1 } in
        let l = last_object w.heap.objects ob in
        went_fares p w _ _ _ (added_leaves w ob s over sound a (omega (arith, b)))
        (record { exists = l.0; kind = (l.0, subst (λ (y : Object). IsBelow p.linked y.layout (host_layout p.linked hosts.Array)) (sym l.1) (below_self p.linked (host_layout p.linked hosts.Array))) })))

    -- ---- functions

    function_fresh : ℕ → ℕ → Option ObjId → Option ScopeId → List ScopeEntry → Heap → Object
    function_fresh n home d saved es h = with_more_slots (start_values p.linked (host_layout p.linked hosts.Function)) (bare_object (host_layout p.linked hosts.Function) d (whats.Closure n home (top_scope saved es h) None))

    scoped_evolves : (h : Heap) (saved : Option ScopeId) (es : List ScopeEntry) → Evolves h (with_scopes saved es h)
    scoped_evolves h saved es = record { grows = scopes_grow h saved es; classes = λ k o e. e; limits = refl }

    pub scoped_leaves : (w : World) (saved : Option ScopeId) (es : List ScopeEntry) → WorldSound p w → IsScope w.heap saved → AreEntries w.heap es → cells_used w.heap + length es ≤ w.heap.limits.cells → LeavesSound p w (record w { heap = with_scopes saved es w.heap })
    scoped_leaves w saved es s hs he b =
        let h = with_scopes saved es w.heap in
        let g = scoped_evolves w.heap saved es in
        let z = s.within in
        let l = length-append w.heap.scopes (nodes (length w.heap.scopes) saved es) in
        let n = nodes_length (length w.heap.scopes) saved es in
        heap_leaves w h s (over_scopes p.linked w.heap saved es s.stands hs he) g (λ o ob e. object_on p w.heap h g ob (s.objects o ob e)) (record { objects = z.objects; cells = omega (arith, b, l, n); text = z.text; counted = z.counted })

    pub new_function_fares : (w : World) (n home : ℕ) (saved : Option ScopeId) (es : List ScopeEntry) → WorldSound p w → n < length p.linked.file.methods → home < length p.linked.file.scripts → IsScope w.heap saved → AreEntries w.heap es → ((h : Heap) → WhatSound p h (host_layout p.linked hosts.Function) (whats.Closure n home (top_scope saved es w.heap) None)) → Fares p w (new_function p n home saved es w) (IsMadeOf (host_layout p.linked hosts.Function))
    new_function_fares w n home saved es s hn hh hs he sound =
        let x = host_layout p.linked hosts.Function in
        let d = prototype_for hosts.Function w in
        let what = whats.Closure n home (top_scope saved es w.heap) None in
        objects_then p w 1 _ _ s (λ a.
        cells_then p w (length (start_values p.linked x) + length es) _ _ s (λ b.
        let l = scoped_leaves w saved es s hs he (omega (arith, b)) in
        let u : World = record w { heap = with_scopes saved es w.heap } in
        let nodes_are = nodes_length (length w.heap.scopes) saved es in
        let more = length-append w.heap.scopes (nodes (length w.heap.scopes) saved es) in
        let fresh = host_fresh u.heap hosts.Function d what l.sound.stands (λ q. absurd cc) (bound_grown w.heap u.heap d l.grows.grows (prototype_there w.heap (14 + Rattle.abc_link_names.specs.Places.host_number hosts.Function) s.stands)) tt (hn, hh, top_is w.heap saved es hs, tt) (sound u.heap) in
        let m = made_leaves u x d what l.sound fresh a (omega (arith, b, more, nodes_are)) in
        let at = last_object u.heap.objects (with_more_slots (start_values p.linked x) (bare_object x d what)) in
        went_fares p w _ _ _ (record { sound = m.sound; grows = evolves_on w.heap u.heap _ l.grows m.grows }) (at.0, ap (λ (y : Object). y.layout) at.1)))

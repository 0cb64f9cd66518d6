-- The state that a run begins with is sound.
use Rattle.std.proofs.Common.{◌≡◌, ℕ, zero, suc, ◌+◌, ◌<◌, ◌≤◌, List, [], ◌∷◌, ◌++◌, length, map, refl, sym, ap, ◌∙◌, subst, arith}
use Rattle.std.proofs.lemmas.Bool.{ltb-false}
use Rattle.std.proofs.lemmas.List.{length-map, length-replicate}
use Rattle.std.specs.Prelude.{Bool, true, false, nat_lt, slice_get, Some, None, if◌then◌else◌}
use Rattle.std.specs.List.{range_with_len}
use Rattle.std.specs.declared.option.Option.{Option}
use Rattle.abc_base.specs.Names.{host_classes}
use Rattle.abc_base.specs.declared.formula.Formula.{Formula}
use Rattle.abc_base.specs.declared.names.HostClass.{HostClass}
use Rattle.abc_base.specs.declared.names.HostClass.TheVariants as hosts
use Rattle.abc_heap_values.specs.declared.values.Value.TheVariants as values
use Rattle.abc_heap_store.specs.Heap.{Heap, Object, cells_used}
use Rattle.abc_heap_store.specs.declared.records.Limit.TheVariants.{Objects, Cells}
use Rattle.abc_heap_store.specs.declared.records.Limits.{Limits}
use Rattle.abc_heap_store.specs.declared.records.What.{What}
use Rattle.abc_heap_store.specs.declared.records.What.TheVariants as whats
use Rattle.abc_objects.specs.Opening.{above_host, host_class_object, formula_names, function_object, function_objects, global_object, host_object, opening_object, opening, opening_objects, property_names, prototype_id, prototype_object}
use Rattle.abc_objects.specs.Stands.{StandsOver, host_layout}
use Rattle.abc_objects.specs.Starts.{start_values}
use Rattle.abc_objects.proofs.Made.{host_found, object_slots, part_found, slots_are}
use Rattle.abc_objects.proofs.Opened.{objects_length, opening_stands}
use Rattle.abc_objects.proofs.Started.{starts_exist}
use Rattle.abc_link_names.specs.Linked.{IsLinkedFile, LinkedFile, layout_of}
use Rattle.abc_link_names.specs.Parts.{HasLayout}
use Rattle.abc_link_names.specs.Places.{host_number}
use Rattle.abc_link_names.proofs.FewSlots.{few_slots}
use Rattle.abc_link_names.specs.Slots.{own_slots, slots_of}
use Rattle.abc_link_names.specs.declared.part.Part.{Part}
use Rattle.abc_link_names.specs.declared.part.Part.TheVariants as parts
use Rattle.abc_link_names.specs.declared.types.SlotInfo.{SlotInfo}
use Rattle.abc_link_names.specs.declared.types.Ty.TheVariants as types
use Rattle.abc_link_names.specs.declared.start.Start.TheVariants as starts
use Rattle.abc_verify_typing.specs.Lists.{Each}
use Rattle.abc_verify_typing.proofs.Lists.{Each-append, Each-at}
use Rattle.abc_meaning.specs.Setting.{Setting}
use Rattle.abc_meaning.specs.ThrowLaws.{AreCounted, IsVerifiedSetting}
use Rattle.abc_meaning.specs.Meaning.{first_state, first_world, too_small}
use Rattle.abc_meaning.specs.Sound.{IsSound, ObjectSound, PartSound, SlotHolds, Typings, WhatSound}
use Rattle.abc_meaning_sound.proofs.Growing.{first_is}
use Rattle.abc_meaning_sound.proofs.Lists.{each2_put}
use Rattle.abc_meaning_sound.proofs.Begun.{starts_hold}

module _ (p : Setting) (linked : IsLinkedFile p.linked) (limits : Limits) (h : Heap) (z : StandsOver p.linked h) where
  abbrev l : LinkedFile
  l = p.linked

  opened_sound : (x : Part) (above : Option HostClass) (what : What) → HasLayout l.file x → PartSound l h x → WhatSound p h (layout_of l x).0 what → ObjectSound p h (opening_object l x above what)
  opened_sound x above what has part w =
      let f = part_found l linked x has in
      record { slots = starts_hold l h linked (layout_of l x).0 z f.0; what = w; part = subst (PartSound l h) (sym f.1) part; first_of = first_is l x f.1 }

  -- the first slot of a class object may hold any value
  abbrev first_slot : SlotInfo
  first_slot = record { ty = types.Object; constant = true; start = starts.Null }

  class_slots : (c : HostClass) → slots_of l (layout_of l (parts.HostClassObject c)).0 ≡ first_slot ∷ []
  class_slots c =
      let o = part_found l linked (parts.HostClassObject c) tt in
      let m = host_found l linked hosts.Class in
      let below = slots_are l linked (host_layout l hosts.Class) (parts.Host hosts.Class) (parts.Host hosts.Object) m.1 refl in
      slots_are l linked (layout_of l (parts.HostClassObject c)).0 (parts.HostClassObject c) (parts.Host hosts.Class) o.1 refl
      ∙ ap (λ (ss : List SlotInfo). ss ++ own_slots l (parts.HostClassObject c)) (below ∙ ap (λ (ss : List SlotInfo). ss ++ own_slots l (parts.Host hosts.Class)) (object_slots l linked))

  prototype_there : (c : HostClass) → 14 ≤ length h.objects → host_number c < length h.objects
  prototype_there hosts.Object b = omega (arith, b)
  prototype_there hosts.Class b = omega (arith, b)
  prototype_there hosts.Function b = omega (arith, b)
  prototype_there hosts.Namespace b = omega (arith, b)
  prototype_there hosts.Str b = omega (arith, b)
  prototype_there hosts.Int b = omega (arith, b)
  prototype_there hosts.UInt b = omega (arith, b)
  prototype_there hosts.Number b = omega (arith, b)
  prototype_there hosts.Boolean b = omega (arith, b)
  prototype_there hosts.Error b = omega (arith, b)
  prototype_there hosts.TypeError b = omega (arith, b)
  prototype_there hosts.ReferenceError b = omega (arith, b)
  prototype_there hosts.ArgumentError b = omega (arith, b)
  prototype_there hosts.Array b = omega (arith, b)

  class_sound : (c : HostClass) → 14 ≤ length h.objects → ObjectSound p h (host_class_object l c)
  class_sound c b =
      let s = opened_sound (parts.HostClassObject c) (Some hosts.Class) (whats.HostClass c) tt tt tt in
      let first : slice_get (slots_of l (layout_of l (parts.HostClassObject c)).0) 0 ≡ Some first_slot = ap (λ (ss : List SlotInfo). slice_get ss 0) (class_slots c) in
      record {
        slots = each2_put (SlotHolds l h) (slots_of l (layout_of l (parts.HostClassObject c)).0) (start_values l (layout_of l (parts.HostClassObject c)).0) 0 first_slot (values.Obj (prototype_id c)) s.slots first (record { exists = prototype_there c b; kind = tt });
        what = tt;
        part = s.part;
        first_of = s.first_of;
      }

  each_mapped : {X : Type 0} (f : X → Object) (xs : List X) → ((x : X) → ObjectSound p h (f x)) → Each (ObjectSound p h) (map f xs)
  each_mapped f [] g = tt
  each_mapped f (x ∷ xs) g = (g x, each_mapped f xs g)

  each_ranged : (f : ℕ → Object) (a n : ℕ) → ((x : ℕ) → x < a + n → ObjectSound p h (f x)) → Each (ObjectSound p h) (map f (range_with_len a n))
  each_ranged f a zero g = tt
  each_ranged f a (suc n) g = (g a (omega arith), each_ranged f (a + 1) n (λ x b. g x (omega (arith, b))))

  pub all_opened : (fs : List (List ℕ)) → 14 ≤ length h.objects → Each (ObjectSound p h) (opening_objects l fs)
  all_opened fs b =
      let n = length l.file.scripts in
      let globals = map (global_object l) (range_with_len 0 n) in
      let host = host_object l (property_names fs) in
      let natives = map (host_class_object l) host_classes in
      let plain = opened_sound (parts.Host hosts.Object) (Some hosts.Object) whats.HostObject tt tt tt in
      let prototypes = map (prototype_object l) host_classes in
      let functions = function_objects l (length fs) in
      Each-append (ObjectSound p h) (prototypes ++ natives ++ functions ++ host ∷ []) globals
      (Each-append (ObjectSound p h) (prototypes ++ natives ++ functions) (host ∷ [])
      (Each-append (ObjectSound p h) (prototypes ++ natives) functions
      (Each-append (ObjectSound p h) prototypes natives
      (each_mapped (prototype_object l) host_classes (λ c. opened_sound (parts.Host hosts.Object) (above_host c) whats.Plain tt tt tt))
      (each_mapped (host_class_object l) host_classes (λ c. class_sound c b)))
      (opened_sound (parts.Host hosts.Function) (Some hosts.Function) whats.Trace tt tt tt, each_mapped (λ (k : ℕ). function_object l (whats.Formula k)) (range_with_len 0 (length fs)) (λ k. opened_sound (parts.Host hosts.Function) (Some hosts.Function) (whats.Formula k) tt tt tt)))
      (record { slots = plain.slots; what = plain.what; part = plain.part; first_of = plain.first_of }, tt))
      (each_ranged (global_object l) 0 n (λ s low. opened_sound (parts.Global s) (Some hosts.Object) (whats.Global s) (let inner : s < n = omega (arith, low) in inner) tt tt))

-- ---- the first state

not_small : (h : Heap) → too_small h ≡ None → (length h.objects ≤ h.limits.objects) × (cells_used h ≤ h.limits.cells)
not_small h e = go (nat_lt h.limits.objects (length h.objects)) refl (nat_lt h.limits.cells (cells_used h)) refl e
  where
    go : (a : Bool) → nat_lt h.limits.objects (length h.objects) ≡ a → (b : Bool) → nat_lt h.limits.cells (cells_used h) ≡ b → (if a then Some Objects else (if b then Some Cells else None)) ≡ None → (length h.objects ≤ h.limits.objects) × (cells_used h ≤ h.limits.cells)
    go true q b r f = absurd cc
    go false q true r f = absurd cc
    go false q false r f = (ltb-false h.limits.objects (length h.objects) q, ltb-false h.limits.cells (cells_used h) r)

pub begins_sound : (p : Setting) (typings : Typings) (limits : Limits) → IsVerifiedSetting p → AreCounted limits → too_small (first_world p limits).heap ≡ None → IsSound p typings (first_state p limits)
begins_sound p typings limits v counted small =
    let fs = formula_names p.formulas in
    let h = opening p.linked fs limits in
    let count = length-map p.formulas (λ (f : Formula). f.name) in
    let host = v.host.few in
    let some : length fs ≤ 64 = subst (λ (n : ℕ). n ≤ 64) (sym count) host in
    let z = opening_stands p.linked fs limits v.linked (starts_exist p.linked v.linked (few_slots p.linked v.linked)) some in
    let long : 14 ≤ length h.objects = subst (λ (n : ℕ). 14 ≤ n) (sym (objects_length p.linked fs)) (omega arith) in
    let n = not_small h small in
    record {
      world = record {
        stands = z;
        objects = λ o ob e. Each-at (ObjectSound p h) h.objects o ob (all_opened p v.linked limits h z fs long) e;
        formulas = refl;
        scripts = length-replicate (length p.linked.file.scripts) false;
        within = record { objects = n.0; cells = n.1; text = omega arith; counted = counted };
      };
      frames = tt;
      room = record { frames = omega arith; stack = omega arith };
    }

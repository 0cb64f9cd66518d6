-- The objects of the opening stand over the file.
use Rattle.std.proofs.Common.{◌≡◌, ◌≢◌, ℕ, zero, suc, ◌+◌, ◌<◌, ◌≤◌, List, [], ◌∷◌, ◌++◌, Option, Some, None, length, map, set, false, refl, sym, ap, ◌∙◌, subst, arith, length-append}
use Rattle.std.specs.List.{concat, range_with_len}
use Rattle.std.specs.Prelude.{codes, slice_get, option_map, replicate}
use Rattle.std.proofs.lemmas.List.{length-map, length-set, length-replicate}
use Rattle.std.proofs.lemmas.Option.{slice_get_within}
use Rattle.abc_base.specs.Names.{class_name, host_classes}
use Rattle.std.proofs.lemmas.List.FromFn.{length-map-range_with_len}
use Rattle.abc_base.specs.declared.names.HostClass.{HostClass}
use Rattle.abc_base.specs.declared.names.HostClass.TheVariants as hosts
use Rattle.abc_heap_values.specs.declared.values.ObjId.{ObjId}
use Rattle.abc_heap_values.specs.declared.values.Span.{Span}
use Rattle.abc_heap_values.specs.declared.values.Value.{Value}
use Rattle.abc_heap_values.specs.declared.values.Value.TheVariants as values
use Rattle.abc_heap_store.specs.Heap.{Heap, Object, obj_id, object_at, slots_of_object}
use Rattle.abc_heap_store.specs.What.{is_array}
use Rattle.abc_heap_store.specs.declared.records.Limits.{Limits}
use Rattle.abc_heap_store.specs.declared.records.ScopeId.{ScopeId}
use Rattle.abc_heap_store.specs.declared.records.What.{What}
use Rattle.abc_heap_store.specs.declared.records.What.TheVariants as whats
use Rattle.abc_link_names.specs.Linked.{LinkedFile, IsLinkedFile, layout_of}
use Rattle.abc_link_names.specs.Numbering.{part_at}
use Rattle.abc_link_names.specs.Parts.{HasLayout, parent}
use Rattle.abc_link_names.specs.Places.{host_number}
use Rattle.abc_link_names.specs.Slots.{own_slots, slots_of}
use Rattle.abc_link_names.specs.declared.part.Part.{Part}
use Rattle.abc_link_names.specs.declared.part.Part.TheVariants as parts
use Rattle.abc_link_names.specs.declared.types.SlotInfo.{SlotInfo}
use Rattle.abc_objects.specs.Fixed.{fixed_bytes}
use Rattle.abc_objects.specs.Opening.{above_host, host_class_object, entry_of, function_object, function_objects, opening_global_number, global_object, host_object, opening_host_object, host_properties, opening_object, opening, opening_objects, property_names, prototype_id, prototype_object, spans_from}
use Rattle.abc_objects.specs.Starts.{start_value, StartsExist}
use Rattle.abc_objects.specs.Stands.{EachAt, IsMadeAs, IsOlder, IsProperty, NamesParts, ObjectStands, ScopeStands, StandsOver, array_layout, host_class_number, host_layout}
use Rattle.abc_objects.specs.Values.{Exists}
use Rattle.abc_objects.proofs.Grown.{keeps_same}
use Rattle.abc_objects.proofs.Made.{bare_stands, host_found, part_found, slots_are, object_slots}
use Rattle.abc_objects.proofs.Parts.{From, at_class, at_range, class_at, from_both, left_at, range_at, right_at}
use Rattle.abc_objects.proofs.Reshaped.{each_set, object_there}

-- ---- the slots of what the opening makes

pub class_slots : (l : LinkedFile) → IsLinkedFile l → (c : HostClass) → length (slots_of l (layout_of l (parts.HostClassObject c)).0) ≡ 1
class_slots l t c =
    let o = part_found l t (parts.HostClassObject c) tt in
    let m = host_found l t hosts.Class in
    let below = ap length (slots_are l t (host_layout l hosts.Class) (parts.Host hosts.Class) (parts.Host hosts.Object) m.1 refl) ∙ length-append (slots_of l (host_layout l hosts.Object)) (own_slots l (parts.Host hosts.Class)) in
    let all = ap length (slots_are l t (layout_of l (parts.HostClassObject c)).0 (parts.HostClassObject c) (parts.Host hosts.Class) o.1 refl) ∙ length-append (slots_of l (host_layout l hosts.Class)) (own_slots l (parts.HostClassObject c)) in
    let one : length (own_slots l (parts.Host hosts.Class)) ≡ 1 = refl in
    let none : length (own_slots l (parts.HostClassObject c)) ≡ 0 = refl in
    omega (arith, one, none, below, all, ap length (object_slots l t))

-- ---- single objects

abbrev Opens : LinkedFile → Heap → ℕ → Object → Type 0
Opens l h o ob = ObjectStands l h o ob × ((k s : ℕ) (c : Option ScopeId) (i : ScopeId) → ob.what ≡ whats.ClassObject k s c i → ⊥)

not_array : (l : LinkedFile) → IsLinkedFile l → (p : Part) → HasLayout l.file p → (p ≡ parts.Host hosts.Array → ⊥) → (layout_of l p).0 ≢ array_layout l
not_array l t p has n = λ (q : (layout_of l p).0 ≡ array_layout l). n (sym (part_found l t p has).1 ∙ (ap (part_at l.parts) q ∙ (host_found l t hosts.Array).1))

opened_stands : (l : LinkedFile) (h : Heap) (o : ℕ) (p : Part) (parent : Option HostClass) (what : What) → 62 ≤ length h.fixed → IsLinkedFile l → StartsExist l → HasLayout l.file p → (p ≡ parts.Host hosts.Array → ⊥) → IsOlder o (option_map prototype_id parent) → NamesParts l h what → is_array what ≡ false → ObjectStands l h o (opening_object l p parent what)
opened_stands l h o p parent what f t e has n d names plain =
    bare_stands l h o (layout_of l p).0 (option_map prototype_id parent) what f e (part_found l t p has).0 d names plain (not_array l t p has n)

older_prototype : (c : HostClass) → IsOlder (host_number c) (option_map prototype_id (above_host c))
older_prototype hosts.Object = tt
older_prototype hosts.Class = omega arith
older_prototype hosts.Function = omega arith
older_prototype hosts.Namespace = omega arith
older_prototype hosts.Str = omega arith
older_prototype hosts.Int = omega arith
older_prototype hosts.UInt = omega arith
older_prototype hosts.Number = omega arith
older_prototype hosts.Boolean = omega arith
older_prototype hosts.Error = omega arith
older_prototype hosts.TypeError = omega arith
older_prototype hosts.ReferenceError = omega arith
older_prototype hosts.ArgumentError = omega arith
older_prototype hosts.Array = omega arith

few_classes : (c : HostClass) → host_number c < 14
few_classes hosts.Object = omega arith
few_classes hosts.Class = omega arith
few_classes hosts.Function = omega arith
few_classes hosts.Namespace = omega arith
few_classes hosts.Str = omega arith
few_classes hosts.Int = omega arith
few_classes hosts.UInt = omega arith
few_classes hosts.Number = omega arith
few_classes hosts.Boolean = omega arith
few_classes hosts.Error = omega arith
few_classes hosts.TypeError = omega arith
few_classes hosts.ReferenceError = omega arith
few_classes hosts.ArgumentError = omega arith
few_classes hosts.Array = omega arith

prototype_opens : (l : LinkedFile) (h : Heap) (c : HostClass) → 62 ≤ length h.fixed → IsLinkedFile l → StartsExist l → Opens l h (host_number c) (prototype_object l c)
prototype_opens l h c f t e =
    (opened_stands l h (host_number c) (parts.Host hosts.Object) (above_host c) whats.Plain f t e tt (λ q. absurd cc) (older_prototype c) tt refl, λ k s i n q. absurd cc)

class_opens : (l : LinkedFile) (h : Heap) (o : ℕ) (c : HostClass) → 62 ≤ length h.fixed → IsLinkedFile l → StartsExist l → 14 ≤ o → 14 ≤ length h.objects → Opens l h o (host_class_object l c)
class_opens l h o c f t e b n =
    let s = opened_stands l h o (parts.HostClassObject c) (Some hosts.Class) (whats.HostClass c) f t e tt (λ q. absurd cc) (omega arith) tt refl in
    let there : host_number c < length h.objects = omega (arith, few_classes c) in (
      record {
        layout = s.layout;
        slots = length-set (map (λ (i : SlotInfo). start_value l.file.strings i.start) (slots_of l (layout_of l (parts.HostClassObject c)).0)) 0 (values.Obj (prototype_id c)) ∙ s.slots;
        delegate = s.delegate;
        what = s.what;
        array = s.array;
        no_array = s.no_array;
        elements = s.elements;
        slot_values = each_set (Exists l h) (map (λ (i : SlotInfo). start_value l.file.strings i.start) (slots_of l (layout_of l (parts.HostClassObject c)).0)) 0 (values.Obj (prototype_id c)) s.slot_values there;
        properties = s.properties;
        element_values = s.element_values;
      },
      λ k i m n q. absurd cc,
    )

function_opens : (l : LinkedFile) (h : Heap) (o : ℕ) (what : What) → 62 ≤ length h.fixed → IsLinkedFile l → StartsExist l → 14 ≤ o → NamesParts l h what → is_array what ≡ false → ((k s : ℕ) (c : Option ScopeId) (i : ScopeId) → what ≡ whats.ClassObject k s c i → ⊥) → Opens l h o (function_object l what)
function_opens l h o what f t e b names plain other =
    (opened_stands l h o (parts.Host hosts.Function) (Some hosts.Function) what f t e tt (λ q. absurd cc) (omega arith) names plain, other)

global_opens : (l : LinkedFile) (h : Heap) (o s : ℕ) → 62 ≤ length h.fixed → IsLinkedFile l → StartsExist l → 14 ≤ o → s < length l.file.scripts → Opens l h o (global_object l s)
global_opens l h o s f t e b n =
    (opened_stands l h o (parts.Global s) (Some hosts.Object) (whats.Global s) f t e n (λ q. absurd cc) (omega arith) n refl, λ k i m j q. absurd cc)

-- the host object's properties
properties_stand : (l : LinkedFile) (h : Heap) (o at : ℕ) (names : List (List ℕ)) → at + length (concat names) ≤ length h.fixed → o + length names ≤ length h.objects → EachAt (IsProperty l h) (host_properties o (spans_from at names))
properties_stand l h o at [] a b k p q = absurd cc
properties_stand l h o at (t ∷ ts) a b zero p q =
    let x : Option (Span × Value) = Some (record { part = 0; start = at; len = length t }, values.Obj (obj_id o)) in
    let w : x ≡ p = cc in
    let own : IsProperty l h x = (omega (arith, length-append t (concat ts)), omega arith) in
    subst (IsProperty l h) w own
properties_stand l h o at (t ∷ ts) a b (suc k) p q =
    properties_stand l h (o + 1) (at + length t) ts (omega (arith, length-append t (concat ts))) (omega arith) k p q

host_opens : (l : LinkedFile) (h : Heap) (o : ℕ) (names : List (List ℕ)) → 62 + length (concat names) ≤ length h.fixed → IsLinkedFile l → StartsExist l → 14 ≤ o → 14 + length names ≤ length h.objects → Opens l h o (host_object l names)
host_opens l h o names f t e b n =
    let s = opened_stands l h o (parts.Host hosts.Object) (Some hosts.Object) whats.HostObject (omega arith) t e tt (λ q. absurd cc) (omega arith) tt refl in (
      record {
        layout = s.layout;
        slots = s.slots;
        delegate = s.delegate;
        what = s.what;
        array = s.array;
        no_array = s.no_array;
        elements = s.elements;
        slot_values = s.slot_values;
        properties = properties_stand l h 14 62 names f n;
        element_values = s.element_values;
      },
      λ k i m j q. absurd cc,
    )

-- ---- all of them

functions_length : (l : LinkedFile) (n : ℕ) → length (function_objects l n) ≡ n + 1
functions_length l n = omega (arith, length-map-range_with_len (λ (i : ℕ). function_object l (whats.Formula i)) 0 n)

globals_length : (l : LinkedFile) (n : ℕ) → length (map (global_object l) (range_with_len 0 n)) ≡ n
globals_length l n = length-map-range_with_len (global_object l) 0 n

abbrev protos : LinkedFile → List Object
protos l = map (prototype_object l) host_classes

abbrev natives : LinkedFile → List Object
natives l = map (host_class_object l) host_classes

two_length : (l : LinkedFile) → length (protos l ++ natives l) ≡ 28
two_length l =
    let a : length (protos l) ≡ 14 = refl in
    let b : length (natives l) ≡ 14 = refl in
    omega (arith, a, b, length-append (protos l) (natives l))

three_length : (l : LinkedFile) (n : ℕ) → length (protos l ++ natives l ++ function_objects l n) ≡ 29 + n
three_length l n = omega (arith, two_length l, functions_length l n, length-append (protos l ++ natives l) (function_objects l n))

four_length : (l : LinkedFile) (fs : List (List ℕ)) → length (protos l ++ natives l ++ function_objects l (length fs) ++ host_object l (property_names fs) ∷ []) ≡ 30 + length fs
four_length l fs = omega (arith, three_length l (length fs), length-append (protos l ++ natives l ++ function_objects l (length fs)) (host_object l (property_names fs) ∷ []))

pub objects_length : (l : LinkedFile) (fs : List (List ℕ)) → length (opening_objects l fs) ≡ 30 + length fs + length l.file.scripts
objects_length l fs = omega (arith, four_length l fs, globals_length l (length l.file.scripts), length-append (protos l ++ natives l ++ function_objects l (length fs) ++ host_object l (property_names fs) ∷ []) (map (global_object l) (range_with_len 0 (length l.file.scripts))))

pub names_length : (fs : List (List ℕ)) → length (property_names fs) ≡ 15 + length fs
names_length fs =
    let a : length (map class_name host_classes) ≡ 14 = refl in
    omega (arith, a, length-append (map class_name host_classes) (codes "trace" ∷ fs))

functions_open : (l : LinkedFile) (h : Heap) (n : ℕ) → 62 ≤ length h.fixed → IsLinkedFile l → StartsExist l → n ≤ length h.formulas → From (Opens l h) 28 (function_objects l n)
functions_open l h n f t e b zero x q =
    let w : function_object l whats.Trace ≡ x = cc in
    subst (Opens l h (28 + zero)) w (function_opens l h (28 + zero) whats.Trace f t e (omega arith) tt refl (λ k s c i r. absurd cc))
functions_open l h n f t e b (suc k) x q =
    let r = at_range (λ (i : ℕ). function_object l (whats.Formula i)) 0 n k x q in
    let low : 0 + k < length h.formulas = omega (arith, r.0) in
    subst (Opens l h (28 + suc k)) r.1 (function_opens l h (28 + suc k) (whats.Formula (0 + k)) f t e (omega arith) low refl (λ i s c j w. absurd cc))

pub objects_open : (l : LinkedFile) (h : Heap) (fs : List (List ℕ)) → 62 + length (concat (property_names fs)) ≤ length h.fixed → IsLinkedFile l → StartsExist l → h.formulas ≡ fs → 30 + length fs + length l.file.scripts ≤ length h.objects → From (Opens l h) 0 (opening_objects l fs)
objects_open l h fs f t e same n =
    let scripts = length l.file.scripts in
    let q62 : 62 ≤ length h.fixed = omega arith in
    let q14 : 14 ≤ length h.objects = omega arith in
    let count : length fs ≤ length h.formulas = omega (arith, ap length same) in
    let a : From (Opens l h) 0 (protos l) = λ k x q.
    let r = at_class (prototype_object l) k x q in
    let z : host_number r.0 ≡ 0 + k = omega (arith, r.1) in
    subst (Opens l h (0 + k)) r.2 (subst (λ i. Opens l h i (prototype_object l r.0)) z (prototype_opens l h r.0 q62 t e)) in
    let b : From (Opens l h) 14 (natives l) = λ k x q.
    let r = at_class (host_class_object l) k x q in
    subst (Opens l h (14 + k)) r.2 (class_opens l h (14 + k) r.0 q62 t e (omega arith) q14) in
    let c : From (Opens l h) 28 (function_objects l (length fs)) = functions_open l h (length fs) q62 t e count in
    let d : From (Opens l h) (29 + length fs) (host_object l (property_names fs) ∷ []) = λ k x q. host_at k x q in
    let g : From (Opens l h) (30 + length fs) (map (global_object l) (range_with_len 0 scripts)) = λ k x q.
    let r = at_range (global_object l) 0 scripts k x q in
    let low : 0 + k < scripts = omega (arith, r.0) in
    subst (Opens l h (30 + length fs + k)) r.1 (global_opens l h (30 + length fs + k) (0 + k) q62 t e (omega arith) low) in
    from_both (Opens l h) 0 (30 + length fs) (protos l ++ natives l ++ function_objects l (length fs) ++ host_object l (property_names fs) ∷ []) (map (global_object l) (range_with_len 0 scripts)) (omega (arith, four_length l fs))
    (from_both (Opens l h) 0 (29 + length fs) (protos l ++ natives l ++ function_objects l (length fs)) (host_object l (property_names fs) ∷ []) (omega (arith, three_length l (length fs)))
    (from_both (Opens l h) 0 28 (protos l ++ natives l) (function_objects l (length fs)) (omega (arith, two_length l))
    (from_both (Opens l h) 0 14 (protos l) (natives l) refl a b) c) d) g
  where
    host_at : (k : ℕ) (x : Object) → slice_get (host_object l (property_names fs) ∷ []) k ≡ Some x → Opens l h (29 + length fs + k) x
    host_at zero x q =
        let w : host_object l (property_names fs) ≡ x = cc in
        subst (Opens l h (29 + length fs + zero)) w (host_opens l h (29 + length fs + zero) (property_names fs) f t e (omega arith) (omega (arith, names_length fs)))
    host_at (suc k) x q = absurd cc

-- ---- where they stand

pub class_there : (l : LinkedFile) (fs : List (List ℕ)) (c : HostClass) → slice_get (opening_objects l fs) (host_class_number c) ≡ Some (host_class_object l c)
class_there l fs c =
    let scripts = length l.file.scripts in
    let p : length (protos l) ≡ 14 = refl in
    left_at (protos l ++ natives l ++ function_objects l (length fs) ++ host_object l (property_names fs) ∷ []) (map (global_object l) (range_with_len 0 scripts)) (host_class_number c) (host_class_object l c)
    (left_at (protos l ++ natives l ++ function_objects l (length fs)) (host_object l (property_names fs) ∷ []) (host_class_number c) (host_class_object l c)
    (left_at (protos l ++ natives l) (function_objects l (length fs)) (host_class_number c) (host_class_object l c)
    (right_at (protos l) (natives l) (host_number c) (host_class_number c) (omega (arith, p)) ∙ class_at (host_class_object l) c)))

pub host_there : (l : LinkedFile) (fs : List (List ℕ)) → slice_get (opening_objects l fs) (opening_host_object (length fs)) ≡ Some (host_object l (property_names fs))
host_there l fs =
    left_at (protos l ++ natives l ++ function_objects l (length fs) ++ host_object l (property_names fs) ∷ []) (map (global_object l) (range_with_len 0 (length l.file.scripts))) (opening_host_object (length fs)) (host_object l (property_names fs))
    (right_at (protos l ++ natives l ++ function_objects l (length fs)) (host_object l (property_names fs) ∷ []) 0 (opening_host_object (length fs)) (omega (arith, three_length l (length fs))))

pub global_there : (l : LinkedFile) (fs : List (List ℕ)) (s : ℕ) → s < length l.file.scripts → slice_get (opening_objects l fs) (opening_global_number (length fs) s) ≡ Some (global_object l s)
global_there l fs s b =
    let z : 0 + s ≡ s = omega arith in
    right_at (protos l ++ natives l ++ function_objects l (length fs) ++ host_object l (property_names fs) ∷ []) (map (global_object l) (range_with_len 0 (length l.file.scripts))) s (opening_global_number (length fs) s) (omega (arith, four_length l fs))
    ∙ (range_at (global_object l) 0 (length l.file.scripts) s b ∙ ap (λ i. Some (global_object l i)) z)

-- ---- the opening heap stands over its file

abbrev no_object : Option ObjId
no_object = None

no_class_named : (n k o : ℕ) → slice_get (replicate n None) k ≡ Some (Some (obj_id o)) → ⊥
no_class_named zero k o e = absurd cc
no_class_named (suc n) zero o e = absurd cc
no_class_named (suc n) (suc k) o e = no_class_named n k o e

slots_there : (obs : List Object) (o : ℕ) (ob : Object) → slice_get obs o ≡ Some ob → 0 < length ob.slots → 0 < length (slots_of_object obs o)
slots_there obs o ob e b = omega (arith, b, ap (λ (x : Object). length x.slots) (object_there obs o ob e))

pub opening_stands : (l : LinkedFile) (fs : List (List ℕ)) (limits : Limits) → IsLinkedFile l → StartsExist l → length fs ≤ 64 → StandsOver l (opening l fs limits)
opening_stands l fs limits t e few =
    let h = opening l fs limits in
    let scripts = length l.file.scripts in
    let bytes : length fixed_bytes ≡ 62 = refl in
    let fixed : 62 + length (concat (property_names fs)) ≤ length h.fixed = omega (arith, bytes, length-append fixed_bytes (concat (property_names fs))) in
    let count : 30 + length fs + scripts ≤ length h.objects = omega (arith, objects_length l fs) in
    let each = objects_open l h fs fixed t e refl count in
    record {
      linked = t;
      starts = e;
      opening = record {
        objects = λ o ob q. (slice_get_within h.objects o ob q, keeps_same ob (object_at h.objects o) (object_there h.objects o ob q));
        scopes = λ s n q. q;
        few = few;
      };
      hosts = λ c.
          let some = class_slots l t c in
          let n = length-set (map (λ (i : SlotInfo). start_value l.file.strings i.start) (slots_of l (layout_of l (parts.HostClassObject c)).0)) 0 (values.Obj (prototype_id c)) in
          let m = length-map (slots_of l (layout_of l (parts.HostClassObject c)).0) (λ (i : SlotInfo). start_value l.file.strings i.start) in
          slots_there h.objects (host_class_number c) (host_class_object l c) (class_there l fs c) (omega (arith, some, n, m));
      strings = refl;
      fixed = (concat (property_names fs), refl);
      objects = λ o ob q. (at_zero o ob (each o ob q)).0;
      scopes = λ s n q.
          let r = at_range (λ (i : ℕ). entry_of (opening_global_number (length fs) i)) 0 scripts s n q in
          let own : ScopeStands h s (entry_of (opening_global_number (length fs) (0 + s))) = record { object = omega (arith, r.0, count); parent = tt } in
          subst (ScopeStands h s) r.1 own;
      counted = length-replicate (length l.file.instances) no_object;
      named = λ k o q. absurd (no_class_named (length l.file.instances) k o q);
      classes = λ k o c. absurd ((at_zero o c.object (each o c.object c.at)).1 k c.home c.statics c.instances c.is);
    }
  where
    at_zero : (o : ℕ) (ob : Object) → Opens l (opening l fs limits) (0 + o) ob → Opens l (opening l fs limits) o ob
    at_zero o ob x = let z : 0 + o ≡ o = omega arith in subst (λ i. Opens l (opening l fs limits) i ob) z x

-- ---- what stands over a file has what the opening made

pub class_made : (l : LinkedFile) (h : Heap) (c : HostClass) → StandsOver l h → IsMadeAs h (obj_id (host_class_number c)) (host_class_object l c)
class_made l h c s = s.opening.objects (host_class_number c) (host_class_object l c) (class_there l h.formulas c)

pub host_made : (l : LinkedFile) (h : Heap) → StandsOver l h → IsMadeAs h (obj_id (opening_host_object (length h.formulas))) (host_object l (property_names h.formulas))
host_made l h s = s.opening.objects (opening_host_object (length h.formulas)) (host_object l (property_names h.formulas)) (host_there l h.formulas)

pub global_made : (l : LinkedFile) (h : Heap) (script : ℕ) → StandsOver l h → script < length l.file.scripts → IsMadeAs h (obj_id (opening_global_number (length h.formulas) script)) (global_object l script)
global_made l h script s b = s.opening.objects (opening_global_number (length h.formulas) script) (global_object l script) (global_there l h.formulas script b)

pub scope_made : (l : LinkedFile) (h : Heap) (script : ℕ) → StandsOver l h → script < length l.file.scripts → slice_get h.scopes script ≡ Some (entry_of (opening_global_number (length h.formulas) script))
scope_made l h script s b =
    let z : 0 + script ≡ script = omega arith in
    s.opening.scopes script (entry_of (opening_global_number (length h.formulas) script)) (range_at (λ (i : ℕ). entry_of (opening_global_number (length h.formulas) i)) 0 (length l.file.scripts) script b ∙ ap (λ i. Some (entry_of (opening_global_number (length h.formulas) i))) z)

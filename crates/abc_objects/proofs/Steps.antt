-- The steps of the opening: what each adds to the heap, and the room that is left.
use Rattle.std.proofs.Common.{◌≡◌, ℕ, zero, suc, ◌+◌, ◌*◌, ◌<◌, ◌≤◌, List, [], ◌∷◌, ◌++◌, Option, Some, None, length, map, take, get_or, refl, sym, ap, ◌∙◌, subst, arith, length-append, append_assoc, append-nil, false}
use Rattle.std.specs.List.{concat, range_with_len, sum}
use Rattle.std.specs.Prelude.{◌^◌, All, codes, option_map, replicate, slice_get}
use Rattle.std.proofs.lemmas.List.{length-map, length-set, length-take, map-append}
use Rattle.std.proofs.lemmas.List.Elements.{All-head, All-tail}
use Rattle.std.proofs.lemmas.List.FromFn.{length-map-range_with_len, map-range_with_len_more, take-map-range_with_len}
use Rattle.std.proofs.lemmas.List.Sums.{sum_by-cons, sum_by-take-le, sum_by_push}
use Rattle.abc_base.specs.Hosts.{AreFormulas, IsFormula, formula_at}
use Rattle.abc_base.specs.Names.{class_name, host_classes}
use Rattle.abc_base.specs.declared.formula.Formula.{Formula}
use Rattle.abc_base.specs.declared.names.HostClass.{HostClass}
use Rattle.abc_base.specs.declared.names.HostClass.TheVariants as hosts
use Rattle.abc_heap_values.proofs.Parts.{slice_get_seam}
use Rattle.abc_heap_values.specs.declared.values.ObjId.{ObjId}
use Rattle.abc_heap_values.specs.declared.values.Span.{Span}
use Rattle.abc_heap_values.specs.declared.values.Value.{Value}
use Rattle.abc_heap_values.specs.declared.values.Value.TheVariants as values
use Rattle.abc_heap_store.proofs.Arrays.{length_change}
use Rattle.abc_heap_store.proofs.Bytes.{take_next_or}
use Rattle.abc_heap_store.proofs.Makes.{change_last}
use Rattle.abc_heap_store.specs.Changes.{change, with_made, with_object, with_scopes, with_slot}
use Rattle.abc_heap_store.specs.Heap.{Heap, Object, HasRoomFor, all_cells, cells_of, ledger, obj_id, slots_of_object}
use Rattle.abc_heap_store.specs.declared.records.Limits.{Limits}
use Rattle.abc_heap_store.specs.declared.records.ScopeNode.{ScopeNode}
use Rattle.abc_heap_store.specs.declared.records.What.{What}
use Rattle.abc_heap_store.specs.declared.records.What.TheVariants as whats
use Rattle.abc_link_names.specs.Linked.{LinkedFile, IsLinkedFile, layout_of}
use Rattle.abc_link_names.specs.Places.{host_number}
use Rattle.abc_link_names.specs.Slots.{slots_of}
use Rattle.abc_link_names.specs.declared.part.LayoutId.{LayoutId}
use Rattle.abc_link_names.specs.declared.part.Part.{Part}
use Rattle.abc_link_names.specs.declared.part.Part.TheVariants as parts
use Rattle.abc_link_names.specs.declared.types.SlotInfo.{SlotInfo}
use Rattle.abc_objects.specs.Fixed.{fixed_bytes, in_fixed}
use Rattle.abc_objects.specs.Opening.{IsOpeningWithin, above_host, host_class_object, entry_of, formula_names, formula_objects, function_object, function_objects, opening_global_number, global_object, global_slots, host_object, host_properties, opening_object, opening, opening_counts, opening_objects, opening_scopes, part_zero, property_names, prototype_id, prototype_object, slot_count, slot_counts, spans_from, with_globals, with_more_properties, with_objects}
use Rattle.abc_objects.specs.Starts.{start_value, start_values, StartsExist}
use Rattle.abc_objects.specs.Stands.{StandsOver}
use Rattle.abc_objects.proofs.Made.{no_slots, object_slots}
use Rattle.abc_objects.proofs.Opened.{class_slots, names_length, opening_stands}
use Rattle.abc_objects.proofs.Parts.{concat_both}
use Rattle.abc_objects.proofs.Reshaped.{object_there}

-- ---- more objects at the end

pub objects_on : (h : Heap) (xs ys : List Object) → with_objects ys (with_objects xs h) ≡ with_objects (xs ++ ys) h
objects_on h xs ys = ap (λ obs. record h { objects = obs }) (append_assoc h.objects xs ys)

pub no_objects : (h : Heap) → with_objects [] h ≡ h
no_objects h = ap (λ obs. record h { objects = obs }) (append-nil h.objects)

pub map_next : {X Y : Type 0} (f : X → Y) (xs : List X) (k : ℕ) (d : X) → k < length xs → map f (take k xs) ++ f (get_or xs k d) ∷ [] ≡ map f (take (k + 1) xs)
map_next f xs k d b = sym (map-append f (take k xs) (get_or xs k d ∷ [])) ∙ ap (map f) (take_next_or xs k d b)

-- the next of a list
pub step_on : {X : Type 0} (f : X → Object) (h s new : Heap) (xs : List X) (k : ℕ) (d : X) → k < length xs → s ≡ with_objects (map f (take k xs)) h → new ≡ with_objects (f (get_or xs k d) ∷ []) s → new ≡ with_objects (map f (take (k + 1) xs)) h
step_on f h s new xs k d b p q =
    q ∙ (ap (with_objects (f (get_or xs k d) ∷ [])) p ∙ (objects_on h (map f (take k xs)) (f (get_or xs k d) ∷ []) ∙ ap (λ obs. with_objects obs h) (map_next f xs k d b)))

-- the next of so many
pub range_on : (f : ℕ → Object) (h s new : Heap) (k : ℕ) → s ≡ with_objects (map f (range_with_len 0 k)) h → new ≡ with_objects (f k ∷ []) s → new ≡ with_objects (map f (range_with_len 0 (k + 1))) h
range_on f h s new k p q =
    let z : 0 + k ≡ k = omega arith in
    q ∙ (ap (with_objects (f k ∷ [])) p ∙ (objects_on h (map f (range_with_len 0 k)) (f k ∷ []) ∙ ap (λ obs. with_objects obs h) (sym (map-range_with_len_more f 0 k k z))))

-- ---- room

all_both : (xs ys : List Object) → all_cells (xs ++ ys) ≡ all_cells xs + all_cells ys
all_both [] ys = omega arith
all_both (x ∷ xs) ys = omega (arith, all_both xs ys)

pub room_on : (h s : Heap) (obs : List Object) (n c m d : ℕ) → s ≡ with_objects obs h → HasRoomFor h n c → length obs + m ≤ n → all_cells obs + d ≤ c → HasRoomFor s m d
room_on h s obs n c m d e r a b =
    let own : HasRoomFor (with_objects obs h) m d = (omega (arith, r.0, a, length-append h.objects obs), omega (arith, r.1, b, all_both h.objects obs)) in
    subst (λ y. HasRoomFor y m d) (sym e) own

pub opened_cells : (l : LinkedFile) (p : Part) (parent : Option HostClass) (what : What) → cells_of (opening_object l p parent what) ≡ length (slots_of l (layout_of l p).0)
opened_cells l p parent what = omega (arith, length-map (slots_of l (layout_of l p).0) (λ (i : SlotInfo). start_value l.file.strings i.start))

pub starts_count : (l : LinkedFile) (x : ℕ) → length (map (λ (i : SlotInfo). start_value l.file.strings i.start) (slots_of l x)) ≡ length (slots_of l x)
starts_count l x = length-map (slots_of l x) (λ (i : SlotInfo). start_value l.file.strings i.start)

all_none : {X : Type 0} (f : X → Object) (xs : List X) → ((x : X) → cells_of (f x) ≡ 0) → all_cells (map f xs) ≡ 0
all_none f [] e = refl
all_none f (x ∷ xs) e = omega (arith, e x, all_none f xs e)

all_single : {X : Type 0} (f : X → Object) (xs : List X) → ((x : X) → cells_of (f x) ≡ 1) → all_cells (map f xs) ≡ length xs
all_single f [] e = refl
all_single f (x ∷ xs) e = omega (arith, e x, all_single f xs e)

pub plain_slots : (l : LinkedFile) → IsLinkedFile l → length (slots_of l (layout_of l (parts.Host hosts.Object)).0) ≡ 0
plain_slots l t = ap length (object_slots l t)

pub function_slots : (l : LinkedFile) → IsLinkedFile l → length (slots_of l (layout_of l (parts.Host hosts.Function)).0) ≡ 0
function_slots l t = ap length (no_slots l t hosts.Function refl refl)

pub prototype_cells : (l : LinkedFile) → IsLinkedFile l → (cs : List HostClass) → all_cells (map (prototype_object l) cs) ≡ 0
prototype_cells l t cs = all_none (prototype_object l) cs (λ c. opened_cells l (parts.Host hosts.Object) (above_host c) whats.Plain ∙ plain_slots l t)

pub class_cell : (l : LinkedFile) → IsLinkedFile l → (c : HostClass) → cells_of (host_class_object l c) ≡ 1
class_cell l t c = omega (arith, length-set (map (λ (i : SlotInfo). start_value l.file.strings i.start) (slots_of l (layout_of l (parts.HostClassObject c)).0)) 0 (values.Obj (prototype_id c)), starts_count l (layout_of l (parts.HostClassObject c)).0, class_slots l t c)

pub class_cells : (l : LinkedFile) → IsLinkedFile l → (cs : List HostClass) → all_cells (map (host_class_object l) cs) ≡ length cs
class_cells l t cs = all_single (host_class_object l) cs (class_cell l t)

pub function_cell : (l : LinkedFile) → IsLinkedFile l → (w : What) → cells_of (function_object l w) ≡ 0
function_cell l t w = opened_cells l (parts.Host hosts.Function) (Some hosts.Function) w ∙ function_slots l t

pub formula_cells : (l : LinkedFile) → IsLinkedFile l → (n : ℕ) → all_cells (formula_objects l n) ≡ 0
formula_cells l t n = all_none (λ (i : ℕ). function_object l (whats.Formula i)) (range_with_len 0 n) (λ i. function_cell l t (whats.Formula i))

pub function_cells : (l : LinkedFile) → IsLinkedFile l → (n : ℕ) → all_cells (function_objects l n) ≡ 0
function_cells l t n = omega (arith, function_cell l t whats.Trace, formula_cells l t n)

pub functions_count : (l : LinkedFile) (n : ℕ) → length (function_objects l n) ≡ n + 1
functions_count l n = omega (arith, length-map-range_with_len (λ (i : ℕ). function_object l (whats.Formula i)) 0 n)

properties_count : (o at : ℕ) (names : List (List ℕ)) → length (host_properties o (spans_from at names)) ≡ length names
properties_count o at [] = refl
properties_count o at (t ∷ ts) = omega (arith, properties_count (o + 1) (at + length t) ts)

pub host_cells : (l : LinkedFile) → IsLinkedFile l → (names : List (List ℕ)) → all_cells (host_object l names ∷ []) ≡ length names
host_cells l t names = omega (arith, starts_count l (layout_of l (parts.Host hosts.Object)).0, plain_slots l t, properties_count 14 (length fixed_bytes) names)

-- ---- room in the loops

pub prototype_room : (l : LinkedFile) (h s : Heap) (cs : List HostClass) (k : ℕ) → IsLinkedFile l → k < length cs → s ≡ with_objects (map (prototype_object l) (take k cs)) h → HasRoomFor h (length cs) 0 → HasRoomFor s 1 0
prototype_room l h s cs k t b e r =
    let n : length (map (prototype_object l) (take k cs)) ≡ k = omega (arith, length-map (take k cs) (prototype_object l), length-take k cs) in
    room_on h s (map (prototype_object l) (take k cs)) (length cs) 0 1 0 e r (omega (arith, n)) (omega (arith, prototype_cells l t (take k cs)))

pub class_room : (l : LinkedFile) (h s : Heap) (cs : List HostClass) (k : ℕ) → IsLinkedFile l → k < length cs → s ≡ with_objects (map (host_class_object l) (take k cs)) h → HasRoomFor h (length cs) (length cs) → HasRoomFor s 1 1
class_room l h s cs k t b e r =
    let n : length (map (host_class_object l) (take k cs)) ≡ k = omega (arith, length-map (take k cs) (host_class_object l), length-take k cs) in
    room_on h s (map (host_class_object l) (take k cs)) (length cs) (length cs) 1 1 e r (omega (arith, n)) (omega (arith, class_cells l t (take k cs), length-take k cs))

pub formula_room : (l : LinkedFile) (h s : Heap) (k n : ℕ) → IsLinkedFile l → k < n → s ≡ with_objects (formula_objects l k) h → HasRoomFor h n 0 → HasRoomFor s 1 0
formula_room l h s k n t b e r =
    room_on h s (formula_objects l k) n 0 1 0 e r (omega (arith, length-map-range_with_len (λ (i : ℕ). function_object l (whats.Formula i)) 0 k)) (omega (arith, formula_cells l t k))

-- ---- a class object

pub last_slots : (h : Heap) (ob : Object) (o : ℕ) → o ≡ length h.objects → slots_of_object (h.objects ++ ob ∷ []) o ≡ ob.slots
last_slots h ob o e =
    let z : slice_get (h.objects ++ ob ∷ []) o ≡ Some ob = ap (slice_get (h.objects ++ ob ∷ [])) e ∙ slice_get_seam h.objects ob in
    ap (λ (x : Object). x.slots) (object_there (h.objects ++ ob ∷ []) o ob z)

-- the last object changed
pub last_changed : (h s new : Heap) (ob : Object) (f : Object → Object) (o : ℕ) → o ≡ length h.objects → s ≡ with_objects (ob ∷ []) h → new ≡ with_object f o s → new ≡ with_objects (f ob ∷ []) h
last_changed h s new ob f o e p q = q ∙ (ap (with_object f o) p ∙ ap (λ obs. record h { objects = obs }) (change_last f h.objects ob o e))

pub class_written : (l : LinkedFile) (h s new : Heap) (c : HostClass) (n o : ℕ) → o ≡ length h.objects → s ≡ with_objects (opening_object l (parts.HostClassObject c) (Some hosts.Class) (whats.HostClass c) ∷ []) h → n ≡ host_number c → new ≡ with_object (with_slot 0 (values.Obj (obj_id n))) o s → new ≡ with_objects (host_class_object l c ∷ []) h
class_written l h s new c n o e p w q = last_changed h s new (opening_object l (parts.HostClassObject c) (Some hosts.Class) (whats.HostClass c)) (with_slot 0 (values.Obj (prototype_id c))) o e p (q ∙ ap (λ i. with_object (with_slot 0 (values.Obj (obj_id i))) o s) w)

-- ---- the properties of the host object

properties_on : (ps qs : List (Option (Span × Value))) (o : ℕ) (obs : List Object) → change (with_more_properties qs) o (change (with_more_properties ps) o obs) ≡ change (with_more_properties (ps ++ qs)) o obs
properties_on ps qs o [] = refl
properties_on ps qs zero (ob ∷ obs) = ap (λ xs. record ob { properties = xs } ∷ obs) (append_assoc ob.properties ps qs)
properties_on ps qs (suc o) (ob ∷ obs) = ap (λ r. ob ∷ r) (properties_on ps qs o obs)

none_more : (o : ℕ) (obs : List Object) → change (with_more_properties []) o obs ≡ obs
none_more o [] = refl
none_more zero (ob ∷ obs) = ap (λ xs. record ob { properties = xs } ∷ obs) (append-nil ob.properties)
none_more (suc o) (ob ∷ obs) = ap (λ r. ob ∷ r) (none_more o obs)

pub no_properties : (o : ℕ) (h : Heap) → with_object (with_more_properties []) o h ≡ h
no_properties o h = ap (λ obs. record h { objects = obs }) (none_more o h.objects)

properties_more : (o at : ℕ) (names : List (List ℕ)) (t : List ℕ) → host_properties o (spans_from at (names ++ t ∷ [])) ≡ host_properties o (spans_from at names) ++ Some (in_fixed (at + length (concat names)) (length t), values.Obj (obj_id (o + length names))) ∷ []
properties_more o at [] t =
    let z : at ≡ at + 0 = omega arith in
    let y : o ≡ o + 0 = omega arith in
    let one : ℕ → ℕ → List (Option (Span × Value)) = λ a n. Some (in_fixed a (length t), values.Obj (obj_id n)) ∷ [] in
    ap (λ a. one a o) z ∙ ap (λ n. one (at + 0) n) y
properties_more o at (x ∷ xs) t =
    let z : (at + length x) + length (concat xs) ≡ at + length (x ++ concat xs) = omega (arith, length-append x (concat xs)) in
    let y : (o + 1) + length xs ≡ o + suc (length xs) = omega arith in
    let first : Option (Span × Value) = Some (in_fixed at (length x), values.Obj (obj_id o)) in
    let rest = host_properties (o + 1) (spans_from (at + length x) xs) in
    let one : ℕ → ℕ → List (Option (Span × Value)) = λ a n. Some (in_fixed a (length t), values.Obj (obj_id n)) ∷ [] in
    ap (λ r. first ∷ r) (properties_more (o + 1) (at + length x) xs t)
    ∙ (ap (λ a. first ∷ (rest ++ one a ((o + 1) + length xs))) z
    ∙ ap (λ n. first ∷ (rest ++ one (at + length (x ++ concat xs)) n)) y)

pub property_on : (h s new : Heap) (o k start object : ℕ) (names : List (List ℕ)) (d : List ℕ) → k < length names → s ≡ with_object (with_more_properties (host_properties 14 (spans_from 62 (take k names)))) o h → start ≡ 62 + length (concat (take k names)) → object ≡ 14 + k → new ≡ with_object (with_more_properties (Some (in_fixed start (length (get_or names k d)), values.Obj (obj_id object)) ∷ [])) o s → new ≡ with_object (with_more_properties (host_properties 14 (spans_from 62 (take (k + 1) names)))) o h
property_on h s new o k start object names d b p e w q =
    let t = get_or names k d in
    let ps = host_properties 14 (spans_from 62 (take k names)) in
    let one : ℕ → ℕ → List (Option (Span × Value)) = λ a n. Some (in_fixed a (length t), values.Obj (obj_id n)) ∷ [] in
    let n : length (take k names) ≡ k = omega (arith, length-take k names) in
    let there : object ≡ 14 + length (take k names) = omega (arith, n) in
    q ∙ (ap (with_object (with_more_properties (one start object)) o) p
    ∙ (ap (λ obs. record h { objects = obs }) (properties_on ps (one start object) o h.objects)
    ∙ ap (λ xs. with_object (with_more_properties xs) o h)
    (ap (λ a. ps ++ one a object) e ∙ (ap (λ m. ps ++ one (62 + length (concat (take k names))) m) there ∙ (sym (properties_more 14 62 (take k names) t) ∙ ap (λ ns. host_properties 14 (spans_from 62 ns)) (take_next_or names k d b))))))

-- the texts so far, and the next, are within all
pub concat_front : (names : List (List ℕ)) (k : ℕ) (d : List ℕ) → k < length names → length (concat (take (k + 1) names)) ≡ length (concat (take k names)) + length (get_or names k d)
concat_front (t ∷ ts) zero d b = omega (arith, length-append t [])
concat_front (t ∷ ts) (suc k) d b =
    let z : suc k + 1 ≡ suc (k + 1) = omega arith in
    let e : length (concat (take (suc k + 1) (t ∷ ts))) ≡ length (concat (take (suc (k + 1)) (t ∷ ts))) = ap (λ n. length (concat (take n (t ∷ ts)))) z in
    omega (arith, e, concat_front ts k d (omega arith), length-append t (concat (take (k + 1) ts)), length-append t (concat (take k ts)))
concat_front [] k d b = absurd (omega arith)

pub concat_within : (names : List (List ℕ)) (k : ℕ) → length (concat (take k names)) ≤ length (concat names)
concat_within [] zero = omega arith
concat_within [] (suc k) = omega arith
concat_within (t ∷ ts) zero = omega arith
concat_within (t ∷ ts) (suc k) = omega (arith, concat_within ts k, length-append t (concat ts), length-append t (concat (take k ts)))

-- the same with what the loop counts
pub length_small : (names : List (List ℕ)) (k n : ℕ) (d : List ℕ) → k < length names → n ≡ length (get_or names k d) → 62 + length (concat names) < 2 ^ 32 → n < 2 ^ 32
length_small names k n d b e s = omega (arith, concat_front names k d b, concat_within names (k + 1))

pub start_small : (names : List (List ℕ)) (k start n : ℕ) (d : List ℕ) → k < length names → start ≡ 62 + length (concat (take k names)) → n ≡ length (get_or names k d) → 62 + length (concat names) < 2 ^ 32 → start + n < 2 ^ 32
start_small names k start n d b e m s = omega (arith, concat_front names k d b, concat_within names (k + 1))

pub start_within : (names : List (List ℕ)) (k start n m : ℕ) (d : List ℕ) → k < length names → start ≡ 62 + length (concat (take k names)) → n ≡ length (get_or names k d) → 62 + length (concat names) ≤ m → start + n ≤ m
start_within names k start n m d b e w s = omega (arith, concat_front names k d b, concat_within names (k + 1))

pub start_next : (names : List (List ℕ)) (k start n : ℕ) (d : List ℕ) → k < length names → start ≡ 62 + length (concat (take k names)) → n ≡ length (get_or names k d) → start + n ≡ 62 + length (concat (take (k + 1) names))
start_next names k start n d b e m = omega (arith, concat_front names k d b)

pub property_next : (h s new : Heap) (o k start object n : ℕ) (names : List (List ℕ)) (d : List ℕ) → k < length names → s ≡ with_object (with_more_properties (host_properties 14 (spans_from 62 (take k names)))) o h → start ≡ 62 + length (concat (take k names)) → object ≡ 14 + k → n ≡ length (get_or names k d) → new ≡ with_object (with_more_properties (Some (in_fixed start n, values.Obj (obj_id object)) ∷ [])) o s → new ≡ with_object (with_more_properties (host_properties 14 (spans_from 62 (take (k + 1) names)))) o h
property_next h s new o k start object n names d b p e w m q =
    let one : ℕ → List (Option (Span × Value)) = λ z. Some (in_fixed start z, values.Obj (obj_id object)) ∷ [] in
    property_on h s new o k start object names d b p e w (q ∙ ap (λ z. with_object (with_more_properties (one z)) o s) m)

properties_cells : (ps : List (Option (Span × Value))) (o : ℕ) (obs : List Object) → o < length obs → all_cells (change (with_more_properties ps) o obs) ≡ all_cells obs + length ps
properties_cells ps zero (ob ∷ obs) b = omega (arith, length-append ob.properties ps)
properties_cells ps (suc o) (ob ∷ obs) b = omega (arith, properties_cells ps o obs (omega arith))
properties_cells ps o [] b = absurd (omega arith)

pub property_room : (h s : Heap) (o k n : ℕ) (names : List (List ℕ)) → s ≡ with_object (with_more_properties (host_properties 14 (spans_from 62 (take k names)))) o h → k < n → n ≡ length names → o < length h.objects → HasRoomFor h 0 n → (o < length s.objects) × HasRoomFor s 0 1
property_room h s o k n names e b w inside r =
    let ps = host_properties 14 (spans_from 62 (take k names)) in
    let c : length ps ≡ k = omega (arith, properties_count 14 62 (take k names), length-take k names) in
    let own : (o < length (with_object (with_more_properties ps) o h).objects) × HasRoomFor (with_object (with_more_properties ps) o h) 0 1 =
    (omega (arith, inside, length_change (with_more_properties ps) o h.objects), (omega (arith, r.0, length_change (with_more_properties ps) o h.objects), omega (arith, r.1, c, properties_cells ps o h.objects inside))) in
    subst (λ (y : Heap). (o < length y.objects) × HasRoomFor y 0 1) (sym e) own

-- ---- the global objects

pub counts_more : (l : LinkedFile) (k : ℕ) → sum (slot_counts l (k + 1)) ≡ sum (slot_counts l k) + slot_count l k
counts_more l k = ap sum (map-range_with_len_more (slot_count l) 0 k k (omega arith)) ∙ sum_by_push (λ (n : ℕ). n) (slot_counts l k) (slot_count l k)

pub counts_within : (l : LinkedFile) (k n : ℕ) → k ≤ n → sum (slot_counts l k) ≤ sum (slot_counts l n)
counts_within l k n b = omega (arith, sum_by-take-le (λ (i : ℕ). i) (slot_counts l n) k, ap sum (take-map-range_with_len (slot_count l) 0 n k b))

globals_cells_from : (l : LinkedFile) (a n : ℕ) → all_cells (map (global_object l) (range_with_len a n)) ≡ sum (map (slot_count l) (range_with_len a n))
globals_cells_from l a zero = refl
globals_cells_from l a (suc n) = omega (arith, globals_cells_from l (a + 1) n, opened_cells l (parts.Global a) (Some hosts.Object) (whats.Global a), sum_by-cons (λ (i : ℕ). i) (slot_count l a) (map (slot_count l) (range_with_len (a + 1) n)))

pub globals_cells : (l : LinkedFile) (n : ℕ) → all_cells (map (global_object l) (range_with_len 0 n)) ≡ sum (slot_counts l n)
globals_cells l n = globals_cells_from l 0 n

entries_count : (o n : ℕ) → length (map (λ s. entry_of (o + s)) (range_with_len 0 n)) ≡ n
entries_count o n = length-map-range_with_len (λ (s : ℕ). entry_of (o + s)) 0 n

globals_count : (l : LinkedFile) (n : ℕ) → length (map (global_object l) (range_with_len 0 n)) ≡ n
globals_count l n = length-map-range_with_len (global_object l) 0 n

pub global_room : (l : LinkedFile) (h s : Heap) (k n : ℕ) → s ≡ with_globals l k h → k < n → HasRoomFor h n (n + sum (slot_counts l n)) → HasRoomFor s 1 (slot_count l k + 1)
global_room l h s k n e b r =
    let own : HasRoomFor (with_globals l k h) 1 (slot_count l k + 1) = (
      omega (arith, r.0, length-append h.objects (map (global_object l) (range_with_len 0 k)), globals_count l k),
      omega (arith, r.1, all_both h.objects (map (global_object l) (range_with_len 0 k)), globals_cells l k, length-append h.scopes (map (λ i. entry_of (length h.objects + i)) (range_with_len 0 k)), entries_count (length h.objects) k, counts_more l k, counts_within l (k + 1) n (omega arith)),
    ) in
    subst (λ y. HasRoomFor y 1 (slot_count l k + 1)) (sym e) own

pub no_globals : (l : LinkedFile) (h : Heap) → h ≡ with_globals l 0 h
no_globals l h = sym (ap (λ obs. record h { objects = obs; scopes = h.scopes ++ [] }) (append-nil h.objects) ∙ ap (λ ns. record h { scopes = ns }) (append-nil h.scopes))

-- one more object and its entry
abbrev with_global : LinkedFile → ℕ → Heap → Heap
with_global l k s = record s { objects = s.objects ++ global_object l k ∷ []; scopes = s.scopes ++ entry_of (length s.objects) ∷ [] }

pub global_on : (l : LinkedFile) (h s new : Heap) (k : ℕ) → s ≡ with_globals l k h → new ≡ record s { objects = s.objects ++ global_object l k ∷ []; scopes = s.scopes ++ entry_of (length s.objects) ∷ [] } → new ≡ with_globals l (k + 1) h
global_on l h s new k p q =
    let gs = map (global_object l) (range_with_len 0 k) in
    let es = map (λ i. entry_of (length h.objects + i)) (range_with_len 0 k) in
    let n : length (h.objects ++ gs) ≡ length h.objects + k = omega (arith, length-append h.objects gs, globals_count l k) in
    let objects : (h.objects ++ gs) ++ global_object l k ∷ [] ≡ h.objects ++ map (global_object l) (range_with_len 0 (k + 1)) = append_assoc h.objects gs (global_object l k ∷ []) ∙ ap (λ r. h.objects ++ r) (sym (map-range_with_len_more (global_object l) 0 k k (omega arith))) in
    let scopes : (h.scopes ++ es) ++ entry_of (length h.objects + k) ∷ [] ≡ h.scopes ++ map (λ i. entry_of (length h.objects + i)) (range_with_len 0 (k + 1)) = append_assoc h.scopes es (entry_of (length h.objects + k) ∷ []) ∙ ap (λ r. h.scopes ++ r) (sym (map-range_with_len_more (λ (i : ℕ). entry_of (length h.objects + i)) 0 k k (omega arith))) in
    let put : List Object → List ScopeNode → Heap = λ obs ns. record h { objects = obs; scopes = ns } in
    q ∙ (ap (with_global l k) p
    ∙ (ap (λ m. put ((h.objects ++ gs) ++ global_object l k ∷ []) ((h.scopes ++ es) ++ entry_of m ∷ [])) n
    ∙ (ap (λ obs. put obs ((h.scopes ++ es) ++ entry_of (length h.objects + k) ∷ [])) objects
    ∙ ap (put (h.objects ++ map (global_object l) (range_with_len 0 (k + 1)))) scopes)))

-- ---- all steps

-- so far some objects were made, with so many cells
pub record Built (old new : Heap) (obs : List Object) (n c : ℕ) : Type 0 where
  pub heap : new ≡ with_objects obs old
  pub size : length obs ≡ n
  pub cells : all_cells obs ≡ c

pub built_more : (old mid new : Heap) (obs more : List Object) (n c m d : ℕ) → Built old mid obs n c → new ≡ with_objects more mid → length more ≡ m → all_cells more ≡ d → Built old new (obs ++ more) (n + m) (c + d)
built_more old mid new obs more n c m d b e p q = record {
  heap = e ∙ (ap (with_objects more) b.heap ∙ objects_on old obs more);
  size = omega (arith, length-append obs more, b.size, p);
  cells = omega (arith, all_both obs more, b.cells, q);
}

pub built_room : (old new : Heap) (obs : List Object) (n c x y m d : ℕ) → Built old new obs n c → HasRoomFor old x y → n + m ≤ x → c + d ≤ y → HasRoomFor new m d
built_room old new obs n c x y m d b r p q = room_on old new obs x y m d b.heap r (omega (arith, b.size)) (omega (arith, b.cells))

pub opening_made : (l : LinkedFile) (old mid new : Heap) (fs names : List (List ℕ)) (f scripts : ℕ) → old.objects ≡ [] → old.scopes ≡ [] → Built old mid (map (prototype_object l) host_classes ++ map (host_class_object l) host_classes ++ function_objects l f ++ host_object l names ∷ []) (30 + f) (29 + f) → new ≡ with_globals l scripts mid → f ≡ length fs → names ≡ property_names fs → scripts ≡ length l.file.scripts → new ≡ record old { objects = opening_objects l fs; scopes = opening_scopes l f }
opening_made l old mid new fs names f scripts none nodes b q ef en es =
    let obs = map (prototype_object l) host_classes ++ map (host_class_object l) host_classes ++ function_objects l f ++ host_object l names ∷ [] in
    let ids : ℕ → ℕ → List ScopeNode = λ o n. map (λ s. entry_of (o + s)) (range_with_len 0 n) in
    let gs : ℕ → List Object = λ n. map (global_object l) (range_with_len 0 n) in
    let put : List Object → List ScopeNode → Heap = λ xs ns. record old { objects = xs; scopes = ns } in
    let full : ℕ → List (List ℕ) → List Object = λ n ns. map (prototype_object l) host_classes ++ map (host_class_object l) host_classes ++ function_objects l n ++ host_object l ns ∷ [] in
    q ∙ (ap (with_globals l scripts) b.heap
    ∙ (ap (λ xs. put ((xs ++ obs) ++ gs scripts) (old.scopes ++ ids (length (xs ++ obs)) scripts)) none
    ∙ (ap (λ ns. put (obs ++ gs scripts) (ns ++ ids (length obs) scripts)) nodes
    ∙ (ap (λ o. put (obs ++ gs scripts) (ids o scripts)) b.size
    ∙ (ap (λ n. put (obs ++ gs n) (ids (30 + f) n)) es
    ∙ (ap (λ n. put (full n names ++ gs (length l.file.scripts)) (ids (30 + f) (length l.file.scripts))) ef
    ∙ ap (λ ns. put (full (length fs) ns ++ gs (length l.file.scripts)) (ids (30 + f) (length l.file.scripts))) en))))))

-- the ledger of the opening
joined_length : (a b c d e : List Object) → length (a ++ b ++ c ++ d ++ e) ≡ length a + length b + length c + length d + length e
joined_length a b c d e = omega (arith, length-append (a ++ b ++ c ++ d) e, length-append (a ++ b ++ c) d, length-append (a ++ b) c, length-append a b)

joined_cells : (a b c d e : List Object) → all_cells (a ++ b ++ c ++ d ++ e) ≡ all_cells a + all_cells b + all_cells c + all_cells d + all_cells e
joined_cells a b c d e = omega (arith, all_both (a ++ b ++ c ++ d) e, all_both (a ++ b ++ c) d, all_both (a ++ b) c, all_both a b)

lengths_sum : (x a b c d e n s : ℕ) → x ≡ a + b + c + d + e → a ≡ 14 → b ≡ 14 → c ≡ n + 1 → d ≡ 1 → e ≡ s → x ≡ 30 + n + s
lengths_sum x a b c d e n s p i j k m q = omega arith

cells_sum : (x a b c d e o n s g : ℕ) → x ≡ a + b + c + d + e → a ≡ 0 → b ≡ 14 → c ≡ 0 → d ≡ 15 + n → e ≡ g → o ≡ s → x + o ≡ 29 + n + s + g
cells_sum x a b c d e o n s g p i j k m q r = omega arith

pub opening_ledger : (l : LinkedFile) (fs : List (List ℕ)) (limits : Limits) → IsLinkedFile l → ledger (opening l fs limits) ≡ opening_counts l (length fs)
opening_ledger l fs limits t =
    let scripts = length l.file.scripts in
    let one = map (prototype_object l) host_classes in
    let two = map (host_class_object l) host_classes in
    let three = function_objects l (length fs) in
    let four = host_object l (property_names fs) ∷ [] in
    let five = map (global_object l) (range_with_len 0 scripts) in
    let objects : length (opening_objects l fs) ≡ 30 + length fs + scripts =
    lengths_sum _ (length one) (length two) (length three) (length four) (length five) (length fs) scripts (joined_length one two three four five) refl refl (functions_count l (length fs)) refl (globals_count l scripts) in
    let entries = length-map-range_with_len (λ (s : ℕ). entry_of (opening_global_number (length fs) s)) 0 scripts in
    let cells : all_cells (opening_objects l fs) + length (opening_scopes l (length fs)) ≡ 29 + length fs + scripts + global_slots l =
    cells_sum _ (all_cells one) (all_cells two) (all_cells three) (all_cells four) (all_cells five) _ (length fs) scripts (global_slots l) (joined_cells one two three four five) (prototype_cells l t host_classes) (class_cells l t host_classes) (function_cells l t (length fs)) (host_cells l t (property_names fs) ∙ names_length fs) (globals_cells l scripts) entries in
    let put : ℕ → ℕ → Limits = λ n m. record { objects = n; cells = m; text = 0; frames = 0; stack = 0 } in
    ap (λ n. put n (all_cells (opening_objects l fs) + length (opening_scopes l (length fs)))) objects ∙ ap (put (30 + length fs + scripts)) cells

-- the room at the beginning
pub opening_room : (l : LinkedFile) (h : Heap) (f : ℕ) → h.objects ≡ [] → h.scopes ≡ [] → IsOpeningWithin (opening_counts l f) h.limits → HasRoomFor h (30 + f + length l.file.scripts) (29 + f + length l.file.scripts + global_slots l)
opening_room l h f e n w = (omega (arith, w.0, ap length e), omega (arith, w.1, ap all_cells e, ap length n))

-- the steps, one after the other
pub opening_one : (l : LinkedFile) (old new : Heap) (cs : List HostClass) → IsLinkedFile l → cs ≡ host_classes → new ≡ with_objects (map (prototype_object l) cs) old → Built old new (map (prototype_object l) host_classes) 14 0
opening_one l old new cs t w e = record { heap = e ∙ ap (λ xs. with_objects (map (prototype_object l) xs) old) w; size = refl; cells = prototype_cells l t host_classes }

pub opening_two : (l : LinkedFile) (old mid new : Heap) (cs : List HostClass) → IsLinkedFile l → cs ≡ host_classes → Built old mid (map (prototype_object l) host_classes) 14 0 → new ≡ with_objects (map (host_class_object l) cs) mid → Built old new (map (prototype_object l) host_classes ++ map (host_class_object l) host_classes) 28 14
opening_two l old mid new cs t w b e = built_more old mid new (map (prototype_object l) host_classes) (map (host_class_object l) host_classes) 14 0 14 14 b (e ∙ ap (λ xs. with_objects (map (host_class_object l) xs) mid) w) refl (class_cells l t host_classes)

pub opening_three : (l : LinkedFile) (old mid new : Heap) (f : ℕ) → IsLinkedFile l → Built old mid (map (prototype_object l) host_classes ++ map (host_class_object l) host_classes) 28 14 → new ≡ with_objects (function_objects l f) mid → Built old new (map (prototype_object l) host_classes ++ map (host_class_object l) host_classes ++ function_objects l f) (28 + (f + 1)) (14 + 0)
opening_three l old mid new f t b e = built_more old mid new (map (prototype_object l) host_classes ++ map (host_class_object l) host_classes) (function_objects l f) 28 14 (f + 1) 0 b e (functions_count l f) (function_cells l t f)

built_as : (old new : Heap) (obs : List Object) (n c m d : ℕ) → n ≡ m → c ≡ d → Built old new obs n c → Built old new obs m d
built_as old new obs n c m d p q b = record { heap = b.heap; size = b.size ∙ p; cells = b.cells ∙ q }

pub opening_four : (l : LinkedFile) (old mid new : Heap) (names : List (List ℕ)) (f : ℕ) → IsLinkedFile l → length names ≡ 15 + f → Built old mid (map (prototype_object l) host_classes ++ map (host_class_object l) host_classes ++ function_objects l f) (28 + (f + 1)) (14 + 0) → new ≡ with_objects (host_object l names ∷ []) mid → Built old new (map (prototype_object l) host_classes ++ map (host_class_object l) host_classes ++ function_objects l f ++ host_object l names ∷ []) (30 + f) (29 + f)
opening_four l old mid new names f t n b e =
    let obs = map (prototype_object l) host_classes ++ map (host_class_object l) host_classes ++ function_objects l f in
    let p : (28 + (f + 1)) + 1 ≡ 30 + f = omega arith in
    let q : (14 + 0) + length names ≡ 29 + f = omega (arith, n) in
    built_as old new (obs ++ host_object l names ∷ []) ((28 + (f + 1)) + 1) ((14 + 0) + length names) (30 + f) (29 + f) p q
    (built_more old mid new obs (host_object l names ∷ []) (28 + (f + 1)) (14 + 0) 1 (length names) b e refl (host_cells l t names))

-- ---- what single calls make

pub made_opened : (l : LinkedFile) (h new : Heap) (p : Part) (parent : Option HostClass) (what : What) (vs : List Value) (y : LayoutId) (d : Option ObjId) → new ≡ with_made vs y.0 d what h → vs ≡ start_values l y.0 → y ≡ layout_of l p → d ≡ option_map prototype_id parent → new ≡ with_objects (opening_object l p parent what ∷ []) h
made_opened l h new p parent what vs y d e v w q =
    e ∙ (ap (λ ws. with_made ws y.0 d what h) v
    ∙ (ap (λ (z : LayoutId). with_made (start_values l z.0) z.0 d what h) w
    ∙ ap (λ o. with_made (start_values l (layout_of l p).0) (layout_of l p).0 o what h) q))

pub global_entered : (l : LinkedFile) (h s new : Heap) (k : ℕ) (o : ObjId) → o.0 ≡ length h.objects → s ≡ with_objects (global_object l k ∷ []) h → new ≡ with_scopes None (record { object = o; with_flag = false } ∷ []) s → new ≡ with_global l k h
global_entered l h s new k o e p q =
    q ∙ (ap (with_scopes None (record { object = o; with_flag = false } ∷ [])) p
    ∙ ap (λ n. record h { objects = h.objects ++ global_object l k ∷ []; scopes = h.scopes ++ entry_of n ∷ [] }) e)

-- the next name of a formula
pub name_on : (names new : List (List ℕ)) (fs : List Formula) (k : ℕ) (b : List ℕ) → k < length fs → names ≡ map (λ (f : Formula). f.name) (take k fs) → b ≡ (formula_at fs k).name → new ≡ names ++ b ∷ [] → new ≡ map (λ (f : Formula). f.name) (take (k + 1) fs)
name_on names new fs k b low p e q =
    let name = λ (f : Formula). f.name in
    q ∙ (ap (λ xs. xs ++ b ∷ []) p ∙ (ap (λ t. map name (take k fs) ++ t ∷ []) e ∙ map_next name fs k (formula_at [] 0) low))

-- the bytes of the next text
pub concat_next : (names : List (List ℕ)) (k : ℕ) (d : List ℕ) → k < length names → concat (take (k + 1) names) ≡ concat (take k names) ++ get_or names k d
concat_next (t ∷ ts) zero d b = append-nil t
concat_next (t ∷ ts) (suc k) d b =
    let z : suc k + 1 ≡ suc (k + 1) = omega arith in
    ap (λ n. concat (take n (t ∷ ts))) z ∙ (ap (λ r. t ++ r) (concat_next ts k d (omega arith)) ∙ sym (append_assoc t (concat (take k ts)) (get_or ts k d)))
concat_next [] k d b = absurd (omega arith)

pub bytes_on : (fixed bytes new : List ℕ) (names : List (List ℕ)) (k : ℕ) (d : List ℕ) → k < length names → bytes ≡ fixed ++ concat (take k names) → new ≡ bytes ++ get_or names k d → new ≡ fixed ++ concat (take (k + 1) names)
bytes_on fixed bytes new names k d b p q =
    q ∙ (ap (λ xs. xs ++ get_or names k d) p ∙ (append_assoc fixed (concat (take k names)) (get_or names k d) ∙ ap (λ r. fixed ++ r) (sym (concat_next names k d b))))

-- the names of the host object's properties are few and short
pub property_names_short : (fs : List Formula) → AreFormulas fs → (62 + length (concat (property_names (formula_names fs))) < 2 ^ 32) × (length (formula_names fs) ≡ length fs)
property_names_short fs a =
    let n = length-map fs (λ (f : Formula). f.name) in
    let own : length (concat (map class_name host_classes)) ≡ 100 = refl in
    let trace : length (codes "trace") ≡ 5 = refl in (
      omega (arith, n, own, trace, a.few, concat_both (map class_name host_classes) (codes "trace" ∷ formula_names fs), length-append (codes "trace") (concat (formula_names fs)), short fs a.each),
      n,
    )
  where
    short : (gs : List Formula) → All IsFormula gs → length (concat (map (λ (f : Formula). f.name) gs)) ≤ 64 * length gs
    short [] e = omega arith
    short (f ∷ gs) e = omega (arith, (All-head IsFormula f gs e).short, short gs (All-tail IsFormula f gs e), length-append f.name (concat (map (λ (g : Formula). g.name) gs)))

-- the opening, as the call that makes it says
pub ledger_opened : (l : LinkedFile) (fs : List Formula) (limits : Limits) (h : Heap) → IsLinkedFile l → h ≡ opening l (formula_names fs) limits → ledger h ≡ opening_counts l (length fs)
ledger_opened l fs limits h t e = ap ledger e ∙ (opening_ledger l (formula_names fs) limits t ∙ ap (opening_counts l) (length-map fs (λ (f : Formula). f.name)))

pub stands_opened : (l : LinkedFile) (fs : List Formula) (limits : Limits) (h : Heap) → IsLinkedFile l → StartsExist l → length fs ≤ 64 → h ≡ opening l (formula_names fs) limits → StandsOver l h
stands_opened l fs limits h t s few e =
    subst (StandsOver l) (sym e) (opening_stands l (formula_names fs) limits t s (omega (arith, few, length-map fs (λ (f : Formula). f.name))))

pub opened_by : (l : LinkedFile) (h new : Heap) (fs ps : List (List ℕ)) (f n : ℕ) (part : List ℕ) (limits : Limits) → h ≡ record { objects = []; scopes = []; fixed = part; made = []; formulas = fs; strings = ps; classes = replicate n None; frames = 0; stack = 0; limits = limits } → part ≡ part_zero fs → ps ≡ l.file.strings → n ≡ length l.file.instances → f ≡ length fs → new ≡ record h { objects = opening_objects l h.formulas; scopes = opening_scopes l f } → new ≡ opening l fs limits
opened_by l h new fs ps f n part limits e p same m w q =
    let mk : List ℕ → List (List ℕ) → ℕ → ℕ → Heap = λ b xs k i. record { objects = opening_objects l fs; scopes = opening_scopes l i; fixed = b; made = []; formulas = fs; strings = xs; classes = replicate k None; frames = 0; stack = 0; limits = limits } in
    q ∙ (ap (λ (y : Heap). record y { objects = opening_objects l y.formulas; scopes = opening_scopes l f }) e
    ∙ (ap (λ b. mk b ps n f) p ∙ (ap (λ xs. mk (part_zero fs) xs n f) same ∙ (ap (λ k. mk (part_zero fs) l.file.strings k f) m ∙ ap (λ i. mk (part_zero fs) l.file.strings (length l.file.instances) i) w))))

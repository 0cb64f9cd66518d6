-- What the arena's calls that make answer, in the words of the meaning.
use Rattle.std.proofs.Common.{◌≡◌, ◌≢◌, ℕ, ◌+◌, ◌<◌, List, [], ◌∷◌, ◌++◌, length, set, false, refl, sym, ap, subst, ◌∙◌, arith, length-append, Some, None}
use Rattle.std.specs.declared.option.Option.{Option}
use Rattle.abc_base.specs.declared.names.HostClass.{HostClass}
use Rattle.abc_base.specs.declared.names.HostClass.TheVariants as hosts
use Rattle.abc_heap_values.specs.declared.values.ObjId.{ObjId}
use Rattle.abc_heap_values.specs.declared.values.Span.{Span}
use Rattle.abc_heap_values.specs.declared.values.Value.{Value}
use Rattle.abc_heap_values.specs.declared.values.Value.TheVariants.{Obj}
use Rattle.abc_heap_store.specs.Changes.{IsArrayMade, IsClassMade, IsFunctionMade, IsMade, bare_object, with_array, with_class, with_made, with_more_elements, with_more_slots, with_object, with_scopes, with_slot}
use Rattle.abc_heap_store.specs.Heap.{FitsCells, Heap, IsFull, IsFullOf, Object, cells_used, obj_id}
use Rattle.abc_heap_store.specs.Properties.{cells_to_put, with_put}
use Rattle.abc_heap_store.specs.Scopes.{scope_id, top_of_scopes}
use Rattle.abc_heap_store.specs.declared.records.Full.{Full}
use Rattle.abc_heap_store.specs.declared.records.Limit.TheVariants as limits
use Rattle.abc_heap_store.specs.declared.records.ScopeEntry.{ScopeEntry}
use Rattle.abc_heap_store.specs.declared.records.ScopeId.{ScopeId}
use Rattle.abc_heap_store.specs.declared.records.What.{What}
use Rattle.abc_heap_store.specs.declared.records.What.TheVariants as whats
use Rattle.abc_heap_store.specs.declared.store.ClassParts.{ClassParts}
use Rattle.abc_objects.specs.Growing.{Grows}
use Rattle.abc_objects.specs.Stands.{array_layout, array_prototype, class_object_layout, class_parts, host_layout}
use Rattle.abc_objects.specs.Starts.{start_values}
use Rattle.abc_objects.specs.Values.{IsObject}
use Rattle.abc_objects.proofs.Grown.{grows_on, grows_self}
use Rattle.abc_objects.proofs.Kept.{added_grows, changed_grows, scopes_grow}
use Rattle.abc_objects.proofs.Made.{host_found, part_found}
use Rattle.abc_link_names.specs.Linked.{IsLinkedFile, LinkedFile, layout_of}
use Rattle.abc_link_names.specs.Numbering.{part_at}
use Rattle.abc_link_names.specs.Parts.{HasLayout}
use Rattle.abc_link_names.specs.declared.part.Part.{Part}
use Rattle.abc_link_names.specs.declared.part.Part.TheVariants as parts
use Rattle.abc_objects.specs.Objects.{host_prototype}
use Rattle.abc_run_state.specs.Outer.{at_heap}
use Rattle.abc_meaning.specs.Objects.{new_array, new_class, new_function, new_id, new_object, own_place, prototype_for, set_property, with_function, heap_with_property}
use Rattle.abc_meaning.specs.Setting.{Setting}
use Rattle.abc_meaning.specs.World.{Fills, Stopped, Went, World, changes, see, ◌>>=◌}
use Rattle.abc_run_state.proofs.Rooms.{cells_full, cells_ok, changes_to, made_full, made_ok}

-- a class object is made behind its prototype
abbrev second_id : Heap → ObjId
second_id h = obj_id (length h.objects + 1)

-- ---- an object

pub object_made : (p : Setting) (w : World) (x : ℕ) (d : Option ObjId) (what : What) (new : Heap) (o : ObjId) → IsMade w.heap new o (start_values p.linked x) x d what → new_object p x d what w ≡ Went (at_heap new w) o
object_made p w x d what new o m =
    made_ok w 1 (length (start_values p.linked x)) (changes (with_made (start_values p.linked x) x d what) new_id) m.room
    ∙ changes_to (with_made (start_values p.linked x) x d what) new_id w new o m.heap (ap obj_id m.number)

pub object_full : (p : Setting) (w : World) (x : ℕ) (d : Option ObjId) (what : What) (new : Heap) (e : Full) → IsFullOf w.heap new 1 (length (start_values p.linked x)) e → new_object p x d what w ≡ Stopped (at_heap new w) (Fills e.0)
object_full p w x d what new e f = made_full w 1 (length (start_values p.linked x)) (changes (with_made (start_values p.linked x) x d what) new_id) new e f

-- the heap grew, and the object is there
pub there_last : (old new : Heap) (ob : Object) (o : ObjId) → o.0 ≡ length old.objects → new.objects ≡ old.objects ++ ob ∷ [] → IsObject new o
there_last old new ob o n e = omega (arith, n, ap (λ (obs : List Object). length obs) e, length-append old.objects (ob ∷ []))

pub object_grows : (old new : Heap) (o : ObjId) (vs : List Value) (x : ℕ) (d : Option ObjId) (what : What) → IsMade old new o vs x d what → Grows old new
object_grows old new o vs x d what m = subst (Grows old) (sym m.heap) (added_grows old (with_more_slots vs (bare_object x d what)))

pub object_there : (old new : Heap) (o : ObjId) (vs : List Value) (x : ℕ) (d : Option ObjId) (what : What) → IsMade old new o vs x d what → IsObject new o
object_there old new o vs x d what m = there_last old new (with_more_slots vs (bare_object x d what)) o m.number (ap (λ (h : Heap). h.objects) m.heap)

-- ---- layouts: that of a part is no other's

pub part_is : (l : LinkedFile) → IsLinkedFile l → (part : Part) → HasLayout l.file part → (layout_of l part).0 < length l.parts
part_is l t part has = (part_found l t part has).0

pub no_array : (l : LinkedFile) → IsLinkedFile l → (part : Part) → HasLayout l.file part → part ≢ parts.Host hosts.Array → (layout_of l part).0 ≢ array_layout l
no_array l t part has ne q = ne (sym (part_found l t part has).1 ∙ ap (part_at l.parts) q ∙ (host_found l t hosts.Array).1)

pub other_class : (c : HostClass) → c ≢ hosts.Array → ◌≢◌ {A = Part} (parts.Host c) (parts.Host hosts.Array)
other_class c ne q = ne cc

-- ---- arrays

pub array_made : (p : Setting) (w : World) (vs : List Value) (new : Heap) (o : ObjId) → IsArrayMade w.heap new o vs (array_layout p.linked) (array_prototype w.heap) → new_array p vs w ≡ Went (at_heap new w) o
array_made p w vs new o m =
    made_ok w 1 (length vs) (see (prototype_for hosts.Array) >>= λ d. changes (with_array vs (array_layout p.linked) d) new_id) m.room
    ∙ changes_to (with_array vs (array_layout p.linked) (array_prototype w.heap)) new_id w new o m.heap (ap obj_id m.number)

pub array_full : (p : Setting) (w : World) (vs : List Value) (new : Heap) (e : Full) → IsFullOf w.heap new 1 (length vs) e → new_array p vs w ≡ Stopped (at_heap new w) (Fills e.0)
array_full p w vs new e f = made_full w 1 (length vs) (see (prototype_for hosts.Array) >>= λ d. changes (with_array vs (array_layout p.linked) d) new_id) new e f

pub array_grows : (old new : Heap) (o : ObjId) (vs : List Value) (x : ℕ) (d : Option ObjId) → IsArrayMade old new o vs x d → Grows old new
array_grows old new o vs x d m = subst (Grows old) (sym m.heap) (added_grows old (with_more_elements vs (bare_object x d whats.Array)))

pub array_there : (old new : Heap) (o : ObjId) (vs : List Value) (x : ℕ) (d : Option ObjId) → IsArrayMade old new o vs x d → IsObject new o
array_there old new o vs x d m = there_last old new (with_more_elements vs (bare_object x d whats.Array)) o m.number (ap (λ (h : Heap). h.objects) m.heap)

-- ---- functions

pub function_made : (p : Setting) (w : World) (method home : ℕ) (saved : Option ScopeId) (es : List ScopeEntry) (new : Heap) (o : ObjId)
    → IsFunctionMade w.heap new o (start_values p.linked (host_layout p.linked hosts.Function)) (host_layout p.linked hosts.Function) method home (host_prototype w.heap hosts.Function) saved es → new_function p method home saved es w ≡ Went (at_heap new w) o
function_made p w method home saved es new o m =
    made_ok w 1 (length (start_values p.linked (host_layout p.linked hosts.Function)) + length es) (changes (with_function p method home (host_prototype w.heap hosts.Function) saved es) new_id) m.room
    ∙ changes_to (with_function p method home (host_prototype w.heap hosts.Function) saved es) new_id w new o m.heap (ap obj_id m.number)

pub function_full : (p : Setting) (w : World) (method home : ℕ) (saved : Option ScopeId) (es : List ScopeEntry) (new : Heap) (e : Full)
    → IsFullOf w.heap new 1 (length (start_values p.linked (host_layout p.linked hosts.Function)) + length es) e → new_function p method home saved es w ≡ Stopped (at_heap new w) (Fills e.0)
function_full p w method home saved es new e f = made_full w 1 (length (start_values p.linked (host_layout p.linked hosts.Function)) + length es) (changes (with_function p method home (host_prototype w.heap hosts.Function) saved es) new_id) new e f

-- by what the calls before it gave
pub function_made_by : (p : Setting) (w : World) (method home home' : ℕ) (d : Option ObjId) (saved saved' : Option ScopeId) (es es' : List ScopeEntry) (new : Heap) (o : ObjId) → d ≡ host_prototype w.heap hosts.Function → home ≡ home' → saved ≡ saved' → es ≡ es'
    → IsFunctionMade w.heap new o (start_values p.linked (host_layout p.linked hosts.Function)) (host_layout p.linked hosts.Function) method home d saved es → new_function p method home' saved' es' w ≡ Went (at_heap new w) o
function_made_by p w method home home' d saved saved' es es' new o ed eh es_is ee m =
    ap (λ x. new_function p method x saved' es' w) (sym eh) ∙ ap (λ x. new_function p method home x es' w) (sym es_is) ∙ ap (λ x. new_function p method home saved x w) (sym ee)
    ∙ function_made p w method home saved es new o (subst (λ x. IsFunctionMade w.heap new o (start_values p.linked (host_layout p.linked hosts.Function)) (host_layout p.linked hosts.Function) method home x saved es) ed m)

pub function_full_by : (p : Setting) (w : World) (method home home' : ℕ) (saved saved' : Option ScopeId) (es es' : List ScopeEntry) (new : Heap) (e : Full) → home ≡ home' → saved ≡ saved' → es ≡ es'
    → IsFullOf w.heap new 1 (length (start_values p.linked (host_layout p.linked hosts.Function)) + length es) e → new_function p method home' saved' es' w ≡ Stopped (at_heap new w) (Fills e.0)
function_full_by p w method home home' saved saved' es es' new e eh es_is ee f =
    ap (λ x. new_function p method x saved' es' w) (sym eh) ∙ ap (λ x. new_function p method home x es' w) (sym es_is) ∙ ap (λ x. new_function p method home saved x w) (sym ee)
    ∙ function_full p w method home saved es new e f

pub function_grows : (old new : Heap) (o : ObjId) (vs : List Value) (x method home : ℕ) (d : Option ObjId) (saved : Option ScopeId) (es : List ScopeEntry) → IsFunctionMade old new o vs x method home d saved es → Grows old new
function_grows old new o vs x method home d saved es m =
    let ob = with_more_slots vs (bare_object x d (whats.Closure method home (top_of_scopes (length old.scopes) saved es) None)) in
    subst (Grows old) (sym m.heap) (grows_on old (with_scopes saved es old) _ (scopes_grow old saved es) (added_grows (with_scopes saved es old) ob))

pub function_there : (old new : Heap) (o : ObjId) (vs : List Value) (x method home : ℕ) (d : Option ObjId) (saved : Option ScopeId) (es : List ScopeEntry) → IsFunctionMade old new o vs x method home d saved es → IsObject new o
function_there old new o vs x method home d saved es m = there_last old new (with_more_slots vs (bare_object x d (whats.Closure method home (top_of_scopes (length old.scopes) saved es) None))) o m.number (ap (λ (h : Heap). h.objects) m.heap)

-- ---- classes

pub class_made : (p : Setting) (w : World) (k home : ℕ) (base : Option ObjId) (saved : Option ScopeId) (es : List ScopeEntry) (new : Heap) (o : ObjId)
    → IsClassMade w.heap new o (start_values p.linked (host_layout p.linked hosts.Object)) (start_values p.linked (class_object_layout p.linked k)) (class_parts p.linked k home base (host_prototype w.heap hosts.Class)) saved es
    → new_class p k home base saved es w ≡ Went (at_heap new w) o
class_made p w k home base saved es new o m =
    let ps = start_values p.linked (host_layout p.linked hosts.Object) in
    let cs = start_values p.linked (class_object_layout p.linked k) in
    let made = class_parts p.linked k home base (host_prototype w.heap hosts.Class) in
    made_ok w 2 (length ps + length cs + length es + 1) (changes (with_class ps cs made saved es) second_id) m.room
    ∙ changes_to (with_class ps cs made saved es) second_id w new o m.heap (ap obj_id m.number)

pub class_full : (p : Setting) (w : World) (k home : ℕ) (base : Option ObjId) (saved : Option ScopeId) (es : List ScopeEntry) (new : Heap) (e : Full)
    → IsFullOf w.heap new 2 (length (start_values p.linked (host_layout p.linked hosts.Object)) + length (start_values p.linked (class_object_layout p.linked k)) + length es + 1) e
    → new_class p k home base saved es w ≡ Stopped (at_heap new w) (Fills e.0)
class_full p w k home base saved es new e f =
    let ps = start_values p.linked (host_layout p.linked hosts.Object) in
    let cs = start_values p.linked (class_object_layout p.linked k) in
    let made = class_parts p.linked k home base (host_prototype w.heap hosts.Class) in
    made_full w 2 (length ps + length cs + length es + 1) (changes (with_class ps cs made saved es) second_id) new e f

pub class_made_by : (p : Setting) (w : World) (k home home' : ℕ) (base d : Option ObjId) (saved saved' : Option ScopeId) (es es' : List ScopeEntry) (new : Heap) (o : ObjId) → d ≡ host_prototype w.heap hosts.Class → home ≡ home' → saved ≡ saved' → es ≡ es'
    → IsClassMade w.heap new o (start_values p.linked (host_layout p.linked hosts.Object)) (start_values p.linked (class_object_layout p.linked k)) (class_parts p.linked k home base d) saved es → new_class p k home' base saved' es' w ≡ Went (at_heap new w) o
class_made_by p w k home home' base d saved saved' es es' new o ed eh es_is ee m =
    ap (λ x. new_class p k x base saved' es' w) (sym eh) ∙ ap (λ x. new_class p k home base x es' w) (sym es_is) ∙ ap (λ x. new_class p k home base saved x w) (sym ee)
    ∙ class_made p w k home base saved es new o (subst (λ x. IsClassMade w.heap new o (start_values p.linked (host_layout p.linked hosts.Object)) (start_values p.linked (class_object_layout p.linked k)) (class_parts p.linked k home base x) saved es) ed m)

pub class_full_by : (p : Setting) (w : World) (k home home' : ℕ) (base : Option ObjId) (saved saved' : Option ScopeId) (es es' : List ScopeEntry) (new : Heap) (e : Full) → home ≡ home' → saved ≡ saved' → es ≡ es'
    → IsFullOf w.heap new 2 (length (start_values p.linked (host_layout p.linked hosts.Object)) + length (start_values p.linked (class_object_layout p.linked k)) + length es + 1) e → new_class p k home' base saved' es' w ≡ Stopped (at_heap new w) (Fills e.0)
class_full_by p w k home home' base saved saved' es es' new e eh es_is ee f =
    ap (λ x. new_class p k x base saved' es' w) (sym eh) ∙ ap (λ x. new_class p k home base x es' w) (sym es_is) ∙ ap (λ x. new_class p k home base saved x w) (sym ee)
    ∙ class_full p w k home base saved es new e f

class_noted : (h : Heap) (classes : List (Option ObjId)) → Grows h (record h { classes = classes })
class_noted h classes =
    let g = grows_self h in
    record { objects = g.objects; scopes = g.scopes; fixed = g.fixed; made = g.made; formulas = g.formulas }

-- the parts of a class, one after the other
with_parts : List Value → List Value → ClassParts → Option ScopeId → List ScopeEntry → Heap → Heap
with_parts ps cs parts saved es h =
    let o = length h.objects + 1 in
    let statics = top_of_scopes (length h.scopes) saved es in
    let own = (record { object = obj_id o; with_flag = false }) ∷ [] in
    let what = whats.ClassObject parts.class parts.home statics (scope_id (length h.scopes + length es)) in
    with_made cs parts.class_layout parts.delegate what (with_scopes statics own (with_scopes saved es (with_made ps parts.prototype_layout parts.base_prototype whats.Plain h)))

parts_grow : (ps cs : List Value) (parts : ClassParts) (saved : Option ScopeId) (es : List ScopeEntry) (h : Heap) → Grows h (with_parts ps cs parts saved es h)
unfolding with_parts
parts_grow ps cs parts saved es h =
    let o = length h.objects + 1 in
    let statics = top_of_scopes (length h.scopes) saved es in
    let own = (record { object = obj_id o; with_flag = false }) ∷ [] in
    let one = with_made ps parts.prototype_layout parts.base_prototype whats.Plain h in
    let two = with_scopes saved es one in
    let three = with_scopes statics own two in
    let what = whats.ClassObject parts.class parts.home statics (scope_id (length h.scopes + length es)) in
    let class = with_more_slots cs (bare_object parts.class_layout parts.delegate what) in
    grows_on h one _ (added_grows h (with_more_slots ps (bare_object parts.prototype_layout parts.base_prototype whats.Plain)))
    (grows_on one two _ (scopes_grow one saved es) (grows_on two three _ (scopes_grow two statics own) (added_grows three class)))

parts_long : (ps cs : List Value) (parts : ClassParts) (saved : Option ScopeId) (es : List ScopeEntry) (h : Heap) → length (with_parts ps cs parts saved es h).objects ≡ length h.objects + 2
unfolding with_parts
parts_long ps cs parts saved es h =
    let what = whats.ClassObject parts.class parts.home (top_of_scopes (length h.scopes) saved es) (scope_id (length h.scopes + length es)) in
    let a = with_more_slots ps (bare_object parts.prototype_layout parts.base_prototype whats.Plain) in
    let b = with_more_slots cs (bare_object parts.class_layout parts.delegate what) in
    omega (arith, length-append h.objects (a ∷ []), length-append (h.objects ++ a ∷ []) (b ∷ []))

with_rest : ℕ → List Value → List Value → ClassParts → Heap → Heap → Heap
with_rest o ps cs parts h made = record (with_object (with_slot 0 (Obj (obj_id (length h.objects)))) o made) { classes = set h.classes parts.class (Some (obj_id o)) }

rest_grows : (o : ℕ) (ps cs : List Value) (parts : ClassParts) (h made : Heap) → Grows made (with_rest o ps cs parts h made)
unfolding with_rest
rest_grows o ps cs parts h made =
    let slot = with_object (with_slot 0 (Obj (obj_id (length h.objects)))) o made in
    grows_on made slot _ (changed_grows made (with_slot 0 (Obj (obj_id (length h.objects)))) o (λ ob. record { layout = refl; delegate = refl; what = refl })) (class_noted slot (set h.classes parts.class (Some (obj_id o))))

class_is : (ps cs : List Value) (parts : ClassParts) (saved : Option ScopeId) (es : List ScopeEntry) (h : Heap) → with_class ps cs parts saved es h ≡ with_rest (length h.objects + 1) ps cs parts h (with_parts ps cs parts saved es h)
unfolding with_rest with_parts
class_is ps cs parts saved es h = refl

pub class_grows : (old new : Heap) (o : ObjId) (ps cs : List Value) (parts : ClassParts) (saved : Option ScopeId) (es : List ScopeEntry) → IsClassMade old new o ps cs parts saved es → Grows old new
class_grows old new o ps cs parts saved es m =
    let made = with_parts ps cs parts saved es old in
    subst (Grows old) (sym (m.heap ∙ class_is ps cs parts saved es old)) (grows_on old made _ (parts_grow ps cs parts saved es old) (rest_grows (length old.objects + 1) ps cs parts old made))

pub class_there : (old new : Heap) (o : ObjId) (ps cs : List Value) (parts : ClassParts) (saved : Option ScopeId) (es : List ScopeEntry) → IsClassMade old new o ps cs parts saved es → IsObject new o
class_there old new o ps cs parts saved es m =
    let made = with_parts ps cs parts saved es old in
    let there : o.0 < length made.objects = omega (arith, m.number, parts_long ps cs parts saved es old) in
    let grown = (rest_grows (length old.objects + 1) ps cs parts old made).objects o.0 there in
    subst (λ (h : Heap). o.0 < length h.objects) (sym (m.heap ∙ class_is ps cs parts saved es old)) grown.0

-- ---- properties

pub property_put : (p : Setting) (w : World) (o : ObjId) (name : Span) (v : Value) (new : Heap)
    → FitsCells w.heap new (cells_to_put (own_place p o name w)) (heap_with_property p o name v w.heap) → set_property p o name v w ≡ Went (at_heap new w) tt
property_put p w o name v new f =
    cells_ok w (cells_to_put (own_place p o name w)) (changes (heap_with_property p o name v) (λ h. tt)) f.0
    ∙ changes_to (heap_with_property p o name v) (λ h. tt) w new tt f.1 refl

pub property_full : (p : Setting) (w : World) (o : ObjId) (name : Span) (v : Value) (new : Heap) (e : Full)
    → IsFull w.heap new (cells_used w.heap) (cells_to_put (own_place p o name w)) w.heap.limits.cells limits.Cells e → set_property p o name v w ≡ Stopped (at_heap new w) (Fills e.0)
property_full p w o name v new e f = cells_full w (cells_to_put (own_place p o name w)) (changes (heap_with_property p o name v) (λ h. tt)) new e f

pub property_grows : (old new : Heap) (need : ℕ) (f : Span → List ℕ) (t : List ℕ) (name : Span) (v : Value) (o : ℕ) → FitsCells old new need (with_object (with_put f t name v) o old) → Grows old new
property_grows old new need f t name v o p = subst (Grows old) (sym p.1) (changed_grows old (with_put f t name v) o (λ ob. record { layout = refl; delegate = refl; what = refl }))

pub same_grows : (old new : Heap) → new ≡ old → Grows old new
same_grows old new e = subst (Grows old) (sym e) (grows_self old)

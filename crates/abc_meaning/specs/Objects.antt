-- Objects that are made, their properties, and the class objects of the file's classes
-- (profile: docs/MACHINE.md, "Heap and room" and "The rules of a run").
use Rattle.std.specs.Prelude.{ℕ, ◌+◌, List, length, slice_get, Some, None}
use Rattle.std.specs.declared.option.Option.{Option}
use Rattle.abc_base.specs.declared.names.HostClass.{HostClass}
use Rattle.abc_base.specs.declared.names.HostClass.TheVariants as hosts
use Rattle.abc_heap_values.specs.declared.values.ObjId.{ObjId}
use Rattle.abc_heap_values.specs.declared.values.Span.{Span}
use Rattle.abc_heap_values.specs.declared.values.Value.{Value}
use Rattle.abc_heap_store.specs.Changes.{with_array, with_class, with_made, with_object, with_scopes}
use Rattle.abc_heap_store.specs.Heap.{Heap, obj_id}
use Rattle.abc_heap_store.specs.Properties.{cells_to_put, place_of_property, with_delete, with_put}
use Rattle.abc_heap_store.specs.Scopes.{scope_id, top_of_scopes}
use Rattle.abc_heap_store.specs.Texts.{text_of}
use Rattle.abc_heap_store.specs.declared.records.ScopeEntry.{ScopeEntry}
use Rattle.abc_heap_store.specs.declared.records.ScopeId.{ScopeId}
use Rattle.abc_heap_store.specs.declared.records.What.{What}
use Rattle.abc_heap_store.specs.declared.records.What.TheVariants as whats
use Rattle.abc_objects.specs.Stands.{class_parts, host_layout}
use Rattle.abc_objects.specs.Starts.{start_values}
use Rattle.abc_link_names.specs.declared.types.Owner.{Owner}
use Rattle.abc_link_names.specs.declared.types.Owner.TheVariants as owners
use Rattle.abc_objects.specs.Objects.{host_prototype}
use Rattle.abc_meaning.specs.Setting.{Setting}
use Rattle.abc_meaning.specs.World.{Run, World, pure, sticks, ◌>>=◌, ◌>>◌, some, the, see, changes, object_named, room_for_objects, room_for_cells}

abbrev pub new_id : Heap → ObjId
new_id h = obj_id (length h.objects)

-- the prototype of a class of the host, as it is now
abbrev pub prototype_for : HostClass → World → Option ObjId
prototype_for c w = host_prototype w.heap c

-- an object, with its slots
abbrev pub new_object : Setting → ℕ → Option ObjId → What → Run ObjId
new_object p layout delegate what = do
  room_for_objects 1
  room_for_cells (length (start_values p.linked layout))
  changes (with_made (start_values p.linked layout) layout delegate what) new_id

-- one of a layout of the host, with that class's prototype
abbrev pub new_of_host : Setting → HostClass → What → Run ObjId
new_of_host p c what = do
  delegate ← see (prototype_for c)
  new_object p (host_layout p.linked c) delegate what

-- an array of these elements, with the prototype of arrays
abbrev pub new_array : Setting → List Value → Run ObjId
new_array p elements = do
  room_for_objects 1
  room_for_cells (length elements)
  delegate ← see (prototype_for hosts.Array)
  changes (with_array elements (host_layout p.linked hosts.Array) delegate) new_id

-- a function that no one is bound to; it captures a scope stack, and object and scopes are taken at once
abbrev pub top_scope : Option ScopeId → List ScopeEntry → Heap → Option ScopeId
top_scope saved scopes h = top_of_scopes (length h.scopes) saved scopes

abbrev pub with_function : Setting → (method home : ℕ) → Option ObjId → Option ScopeId → List ScopeEntry → Heap → Heap
with_function p method home delegate saved scopes h =
    let what = whats.Closure method home (top_scope saved scopes h) None in
    with_made (start_values p.linked (host_layout p.linked hosts.Function)) (host_layout p.linked hosts.Function) delegate what (with_scopes saved scopes h)

-- a new function of a method, which keeps its home script and the captured scopes
abbrev pub new_function : Setting → (method home : ℕ) → Option ScopeId → List ScopeEntry → Run ObjId
new_function p method home saved scopes = do
  delegate ← see (prototype_for hosts.Function)
  room_for_objects 1
  room_for_cells (length (start_values p.linked (host_layout p.linked hosts.Function)) + length scopes)
  changes (with_function p method home delegate saved scopes) new_id

-- ---- properties

-- an own property takes the value; a new one takes a cell
abbrev pub heap_with_property : Setting → ObjId → Span → Value → Heap → Heap
heap_with_property p o name v h =
    let text = text_of p.linked.file.strings h in
    with_object (with_put text (text name) name v) o.0 h

abbrev pub without_property : Setting → ObjId → Span → Heap → Heap
without_property p o name h =
    let text = text_of p.linked.file.strings h in
    with_object (with_delete text (text name)) o.0 h

abbrev pub own_place : Setting → ObjId → Span → World → Option ℕ
own_place p o name w = place_of_property p.linked.file.strings w.heap o.0 name

-- an object's own property is set: its value is replaced, or a new one takes a cell
abbrev pub set_property : Setting → ObjId → Span → Value → Run (Unit {0})
set_property p o name v = do
  place ← see (own_place p o name)
  room_for_cells (cells_to_put place)
  changes (heap_with_property p o name v) (λ h. tt)

-- ---- class objects

abbrev pub flat_value : {X : Type 0} → Option (Option X) → Option X
flat_value None = None
flat_value (Some o) = o

-- the class object of a class, once it is made
abbrev pub class_object : ℕ → World → Option ObjId
class_object k w = flat_value (slice_get w.heap.classes k)

-- the prototype object and then the class object, taken together with the captured scopes and one more, that of the class object
abbrev pub new_class : Setting → (class home : ℕ) → Option ObjId → Option ScopeId → List ScopeEntry → Run ObjId
new_class p k home base saved scopes = do
  delegate ← see (prototype_for hosts.Class)
  let made = class_parts p.linked k home base delegate
  let prototype_slots = start_values p.linked made.prototype_layout
  let class_slots = start_values p.linked made.class_layout
  room_for_objects 2
  room_for_cells (length prototype_slots + length class_slots + length scopes + 1)
  changes (with_class prototype_slots class_slots made saved scopes) (λ h. obj_id (length h.objects + 1))

-- ---- where methods of owners run: the home script and the saved scope

pub record Place : Type 0 where
  pub home : ℕ
  pub saved : Option ScopeId

abbrev pub place : ℕ → Option ScopeId → Place
place home saved = record { home = home; saved = saved }

-- a class object keeps them for its static methods, and for those of its instances
abbrev pub statics_of : What → Option Place
statics_of (whats.ClassObject class home statics instances) = Some (place home statics)
statics_of other = None

abbrev pub instances_of : What → Option Place
instances_of (whats.ClassObject class home statics instances) = Some (place home (Some instances))
instances_of other = None

abbrev pub place_kept_by : (What → Option Place) → ℕ → Run Place
place_kept_by which k = do
  o ← the (class_object k)
  ob ← the (object_named o)
  some (which ob.what)

-- a script's methods have its global object alone as saved scope, and its init has none
abbrev pub place_of_owner : Owner → Run Place
place_of_owner owners.Free = sticks
place_of_owner (owners.ScriptInit s) = pure (place s None)
place_of_owner (owners.ScriptMethod s) = pure (place s (Some (scope_id s)))
place_of_owner (owners.ClassInit k) = place_kept_by statics_of k
place_of_owner (owners.Static k) = place_kept_by statics_of k
place_of_owner (owners.Iinit k) = place_kept_by instances_of k
place_of_owner (owners.Instance k) = place_kept_by instances_of k

-- What is done to values by names: read, write, call and delete (Overview, chapters 2 and 5; profile: docs/MACHINE.md, "The rules of a run").
use Rattle.std.specs.Prelude.{ℕ, pos, List, [], ◌∷◌, Bool, true, false, not, ◌&&◌, length, slice_get, Some, None, nat_eq, nat_lt, if◌then◌else◌}
use Rattle.std.specs.declared.option.Option.{Option}
use Rattle.abc_base.specs.declared.names.Fault.TheVariants as faults
use Rattle.abc_base.specs.declared.names.HostClass.TheVariants as hosts
use Rattle.abc_heap_values.specs.declared.values.ObjId.{ObjId}
use Rattle.abc_heap_values.specs.declared.values.Span.{Span}
use Rattle.abc_heap_values.specs.declared.values.Value.{Value}
use Rattle.abc_heap_values.specs.declared.values.Value.TheVariants.{Undefined, Null, Num, Obj}
use Rattle.abc_heap_store.specs.Changes.{with_element, with_new_element, with_object, with_slot}
use Rattle.abc_heap_store.specs.Heap.{Object}
use Rattle.abc_heap_store.specs.Texts.{text_of}
use Rattle.abc_heap_store.specs.What.{is_array}
use Rattle.abc_heap_store.specs.declared.records.What.TheVariants as whats
use Rattle.abc_link_names.specs.Slots.{slots_of}
use Rattle.abc_link_names.specs.declared.types.Owner.{Owner}
use Rattle.abc_link_names.specs.declared.types.SlotInfo.{SlotInfo}
use Rattle.abc_objects.specs.ElementNames.{ElementName, IsLength, IsNumber, element_name}
use Rattle.abc_objects.specs.Searches.{declared_found, found_on}
use Rattle.abc_objects.specs.Spaces.{name_holds_public}
use Rattle.abc_objects.specs.declared.found.Found.{Found}
use Rattle.abc_objects.specs.declared.found.Found.TheVariants.{Slot, Method, Getter, Setter, Property, Element, Length, WrongSide, Missing}
use Rattle.abc_objects.specs.declared.found.Want.TheVariants.{Read, Write}
use Rattle.abc_objects.specs.declared.name.Name.{Name}
use Rattle.abc_meaning.specs.Calling.{Came, calls, calls_frame, got}
use Rattle.abc_meaning.specs.Entering.{enters_owned}
use Rattle.abc_meaning.specs.Objects.{new_of_host, own_place, place_of_owner, set_property, without_property}
use Rattle.abc_meaning.specs.Ops.{coerces}
use Rattle.abc_meaning.specs.Setting.{Setting, is_dynamic_layout}
use Rattle.abc_meaning.specs.World.{Run, World, changes, pure, fails, sticks, throws, ◌>>=◌, ◌>>◌, some, the, see, object_named, room_for_cells}

-- null and undefined have nothing
abbrev pub with_holder : {X : Type 0} → Value → Run X → Run X
with_holder Undefined m = throws hosts.TypeError
with_holder Null m = throws hosts.TypeError
with_holder v m = m

abbrev pub find_on : Setting → Value → Name → World → Found
find_on p v name w = found_on p.linked w.heap v name Read

-- ---- read

-- a method that is read is a new function, bound to the object
abbrev pub bound_function : Setting → Owner → ℕ → ObjId → Run Value
bound_function p owner method o = do
  at ← place_of_owner owner
  f ← new_of_host p hosts.Function (whats.Closure method at.home at.saved (Some o))
  pure (Obj f)

abbrev pub dynamic_in : Setting → Option Object → Bool
dynamic_in p None = false
dynamic_in p (Some ob) = is_dynamic_layout p ob.layout

-- the value is an object that may be given properties of its own
abbrev pub is_dynamic : Setting → Value → World → Bool
is_dynamic p (Obj o) w = dynamic_in p (object_named o w)
is_dynamic p v w = false

abbrev pub undefined_if : Bool → Run Value
undefined_if true = pure Undefined
undefined_if false = throws hosts.ReferenceError

-- what stands at a place of an object's slots, or of its elements
abbrev pub value_at_place : (Object → List Value) → ObjId → ℕ → Run Value
value_at_place which o k = the (object_named o) >>= λ ob. some (slice_get (which ob) k)

-- the value that is found, where no method is
abbrev pub value_found : Setting → Found → Value → Run Value
value_found p (Slot k constant) (Obj o) = value_at_place (λ ob. ob.slots) o k
value_found p (Property holder x) v = pure x
value_found p (Element holder k) v = value_at_place (λ ob. ob.elements) holder k
value_found p (Length holder) v = the (object_named holder) >>= λ ob. pure (Num (pos (length ob.elements)))
value_found p WrongSide v = throws hosts.ReferenceError
value_found p Missing v = see (is_dynamic p v) >>= undefined_if
value_found p found v = sticks

abbrev pub read_found : Setting → Found → Value → Run Came
read_found p (Method owner m) (Obj o) = bound_function p owner m o >>= got
read_found p (Getter m) (Obj o) = enters_owned p m (Obj o) [] >>= calls_frame
read_found p found v = value_found p found v >>= got

abbrev pub reads : Setting → Value → Name → Run Came
reads p v name = with_holder v (see (find_on p v name) >>= λ found. read_found p found v)

-- ---- write

abbrev pub slot_info : Setting → ℕ → ℕ → Option SlotInfo
slot_info p layout k = slice_get (slots_of p.linked layout) k

-- a slot takes the value coerced to its type
abbrev pub write_slot : Setting → ObjId → ℕ → Value → Run (Unit {0})
write_slot p o k x = do
  ob ← the (object_named o)
  slot ← some (slot_info p ob.layout k)
  v ← coerces p slot.ty x
  changes (with_object (with_slot k v) o.0) (λ h. tt)

-- an element is replaced, or added at the end
abbrev pub write_element : ObjId → (length k : ℕ) → Value → Run (Unit {0})
write_element o length k x =
    if nat_lt k length then changes (with_object (with_element k x) o.0) (λ h. tt)
    else (if nat_eq k length then (room_for_cells 1 >> changes (with_object (with_new_element x) o.0) (λ h. tt))
    else fails faults.ArrayIndex)

-- an own property takes the value, and a dynamic object makes one
abbrev pub may_hold : Option ℕ → Bool → Bool
may_hold (Some k) dynamic = true
may_hold None dynamic = dynamic

abbrev pub write_own : Setting → ObjId → Object → Span → Value → Option ElementName → Run (Unit {0})
write_own p o ob text x (Some IsLength) = throws hosts.ReferenceError
write_own p o ob text x (Some (IsNumber k)) = write_element o (length ob.elements) k x
write_own p o ob text x None = see (own_place p o text) >>= λ own. if may_hold own (is_dynamic_layout p ob.layout) then set_property p o text x else throws hosts.ReferenceError

-- an array's element names come before its properties
abbrev pub element_of : Setting → Object → Span → World → Option ElementName
element_of p ob text w = if is_array ob.what then element_name (text_of p.linked.file.strings w.heap text) else None

abbrev pub write_property : Setting → ObjId → Span → Value → Run (Unit {0})
write_property p o text x = do
  ob ← the (object_named o)
  element ← see (element_of p ob text)
  write_own p o ob text x element

-- `initial` writes constant slots too
abbrev pub write_found : Setting → ObjId → Name → Value → (initial : Bool) → Found → Run Came
write_found p o name x initial (Slot k constant) = if constant && not initial then throws hosts.ReferenceError else (write_slot p o k x >> got Undefined)
write_found p o name x initial (Setter m) = enters_owned p m (Obj o) (x ∷ []) >>= calls_frame
write_found p o name x initial (Method owner m) = throws hosts.ReferenceError
write_found p o name x initial WrongSide = throws hosts.ReferenceError
write_found p o name x initial Missing = if name_holds_public p.linked name.spaces then (write_property p o name.text x >> got Undefined) else throws hosts.ReferenceError
write_found p o name x initial found = sticks

-- the declared traits are asked first; what a delegate holds doesn't matter
abbrev pub writes_to : Setting → Value → Name → Value → (initial : Bool) → Run Came
writes_to p (Obj o) name x initial = the (object_named o) >>= λ ob. see (λ w. declared_found p.linked w.heap ob.layout ob.layout name Write) >>= write_found p o name x initial
writes_to p v name x initial = with_holder v (throws hosts.ReferenceError)

-- ---- call

abbrev pub call_found : Setting → Found → Value → (receiver : Value) → List Value → Run Came
call_found p (Method owner m) (Obj o) receiver args = enters_owned p m (Obj o) args >>= calls_frame
call_found p (Getter m) (Obj o) receiver args = fails faults.GetterCall
call_found p found v receiver args = value_found p found v >>= λ f. calls p f receiver args

abbrev pub calls_name : Setting → Value → (receiver : Value) → Name → List Value → Run Came
calls_name p v receiver name args = with_holder v (see (find_on p v name) >>= λ found. call_found p found v receiver args)

-- ---- delete: what a delegate holds stays, and is no reason for false

abbrev pub deletes_own : ObjId → ObjId → Run (Unit {0}) → Run Bool
deletes_own holder o delete = if nat_eq holder.0 o.0 then (delete >> pure true) else pure true

abbrev pub delete_found : Setting → ObjId → Span → Found → Run Bool
delete_found p o text (Property holder x) = deletes_own holder o (changes (without_property p o text) (λ h. tt))
delete_found p o text (Element holder k) = deletes_own holder o (changes (with_object (with_element k Undefined) o.0) (λ h. tt))
delete_found p o text (Length holder) = pure (not (nat_eq holder.0 o.0))
delete_found p o text Missing = pure true
delete_found p o text found = pure false

abbrev pub deletes : Setting → Value → Name → Run Bool
deletes p (Obj o) name = do
  found ← see (find_on p (Obj o) name)
  dynamic ← see (is_dynamic p (Obj o))
  if dynamic then delete_found p o name.text found else pure false
deletes p v name = with_holder v (pure false)

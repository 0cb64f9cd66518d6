-- What is found on a value is read, written or called, and what comes settles over the newest frame.
use Rattle.std.specs.Prelude.{◌≡◌, ℕ, ◌+◌, pos, List, [], length, Bool, true, false, not, ◌||◌, if◌then◌else◌}
use Rattle.abc_base.specs.declared.names.HostClass.TheVariants as hosts
use Rattle.abc_heap_values.specs.declared.values.ObjId.{ObjId}
use Rattle.abc_heap_values.specs.declared.values.Span.{Span}
use Rattle.abc_heap_values.specs.declared.values.Value.{Value}
use Rattle.abc_heap_values.specs.declared.values.Value.TheVariants.{Null, Num, Obj, Undefined}
use Rattle.abc_heap_store.specs.Heap.{Heap, object_at}
use Rattle.abc_objects.specs.Values.{Exists}
use Rattle.abc_link_names.specs.Linked.{LinkedFile}
use Rattle.abc_link_names.specs.Owners.{owner_of}
use Rattle.abc_objects.specs.Spaces.{name_holds_public}
use Rattle.abc_objects.specs.declared.found.Found.{Found}
use Rattle.abc_objects.specs.declared.found.Found.TheVariants.{Method, Missing, Property, Slot, WrongSide}
use Rattle.abc_objects.specs.declared.name.Name.{Name}
use Rattle.abc_frames.specs.Frame.{Frame, arguments, dropped_under, waiting}
use Rattle.abc_frames.specs.declared.records.Wait.TheVariants.{New}
use Rattle.abc_run_calls.specs.Calls.{calls_value, makes_value, settled_by}
use Rattle.abc_run_members.specs.AtOnce.{how_for}
use Rattle.abc_run_names.specs.Named.{name_form_at, named_here, name_parts_count}
use Rattle.abc_run_state.specs.declared.state.How.{How}
use Rattle.abc_run_state.specs.declared.state.How.TheVariants.{Drop, Push}
use Rattle.abc_run_state.specs.Operands.{operand_at}
use Rattle.abc_meaning.specs.Calling.{Calls, Came, Got, Makes, calls, calls_frame, got}
use Rattle.abc_meaning.specs.Entering.{enters_owned}
use Rattle.abc_meaning.specs.Making.{new}
use Rattle.abc_meaning.specs.Members.{value_at_place, bound_function, call_found, calls_name, may_hold, read_found, reads, value_found, write_element, write_found, write_property, write_slot, writes_to}
use Rattle.abc_meaning.specs.Objects.{own_place, set_property}
use Rattle.abc_meaning.specs.Setting.{Setting, is_dynamic_layout}
use Rattle.abc_meaning.specs.World.{Run, World, pure, object_named, sticks, the, throws, ◌>>=◌}
use Rattle.abc_meaning.specs.At.{Above, Act, Goes}

-- what was found is there: a property's value exists, and a method is its owner's
abbrev pub IsFoundThere : LinkedFile → Heap → Found → Type 0
IsFoundThere l h (Property holder x) = Exists l h x
IsFoundThere l h (Method owner m) = owner ≡ owner_of l.file m
IsFoundThere l h found = Unit {0}

-- ---- what was found

-- a slot of a value, an element and the length of an array
abbrev pub slot_on : Value → ℕ → Run Value
slot_on (Obj o) k = value_at_place (λ ob. ob.slots) o k
slot_on v k = sticks

abbrev pub read_element : ObjId → ℕ → Run Value
read_element o k = value_at_place (λ ob. ob.elements) o k

abbrev pub length_on : ObjId → Run Value
length_on o = the (object_named o) >>= λ ob. pure (Num (pos (length ob.elements)))

-- a method of an owner is entered on an object, and what comes settles
abbrev pub enters_on : Setting → (method : ℕ) → Value → List Value → Run Came
enters_on p m (Obj o) args = enters_owned p m (Obj o) args >>= calls_frame
enters_on p m v args = sticks

-- the method that was found is entered on v with the top operands, so many, and what comes settles
abbrev pub enters_found : Setting → (method : ℕ) → Value → (count : ℕ) → How → Frame → Run Act
enters_found p m v count how f = settled_by how f (enters_on p m v (arguments count f))

-- what is read where no getter is
abbrev pub value_read : Setting → Found → Value → Run Value
value_read p (Method owner m) (Obj o) = bound_function p owner m o
value_read p found v = value_found p found v

-- what was found on v is read: a getter is entered, and what comes settles
abbrev pub reads_found : Setting → Found → Value → How → Frame → Run Act
reads_found p found v how f = settled_by how f (read_found p found v)

-- the value that is read settles
abbrev pub reads_value : Setting → Found → Value → How → Frame → Run Act
reads_value p found v how f = settled_by how f (value_read p found v >>= λ x. got x)

-- a slot is written where that is allowed
abbrev pub slot_written_if : Bool → Setting → ObjId → ℕ → Value → Run (Unit {0})
slot_written_if true p o k x = write_slot p o k x
slot_written_if false p o k x = throws hosts.ReferenceError

-- an object has a property of its own of a text, or is dynamic
abbrev pub may_take_property : Setting → ObjId → Span → World → Bool
may_take_property p o text w = may_hold (own_place p o text w) (is_dynamic_layout p (object_at w.heap.objects o.0).layout)

-- a property is written where the name holds the public namespace
abbrev pub public_written : Setting → ObjId → Name → Value → Run (Unit {0})
public_written p o name x = if name_holds_public p.linked name.spaces then write_property p o name.text x else throws hosts.ReferenceError

-- what is written where no setter is
abbrev pub value_written : Setting → ObjId → Name → Value → (initial : Bool) → Found → Run (Unit {0})
value_written p o name x initial (Slot k constant) = slot_written_if (initial || not constant) p o k x
value_written p o name x initial (Method owner m) = throws hosts.ReferenceError
value_written p o name x initial WrongSide = throws hosts.ReferenceError
value_written p o name x initial Missing = public_written p o name x
value_written p o name x initial found = sticks

-- x is written to what a name found among an object's declared traits: a setter is entered, and what comes settles
abbrev pub writes_found : Setting → ObjId → Name → Value → (initial : Bool) → Found → How → Frame → Run Act
writes_found p o name x initial found how f = settled_by how f (write_found p o name x initial found)

-- it settles, and nothing comes of it
abbrev pub writes_value : Setting → ObjId → Name → Value → (initial : Bool) → Found → How → Frame → Run Act
writes_value p o name x initial found how f = settled_by how f (value_written p o name x initial found >>= λ u. got Undefined)

-- the value that was found is called
abbrev pub calls_value_found : Setting → Found → (v receiver : Value) → (count : ℕ) → How → Frame → Run Act
calls_value_found p found v receiver count how f = settled_by how f (value_found p found v >>= λ x. calls p x receiver (arguments count f))

-- what was found on v is called with the top operands, so many, and what comes settles
abbrev pub calls_found : Setting → Found → (v receiver : Value) → (count : ℕ) → How → Frame → Run Act
calls_found p found v receiver count how f = settled_by how f (call_found p found v receiver (arguments count f))

-- new is done on what came, now or at the return; the arguments then stay on the stack, and so many operands leave from under
-- them
abbrev pub constructs_of : Setting → (under count : ℕ) → Frame → Came → Run Act
constructs_of p under count f (Got v) = settled_by (Push (count + under)) f (new p v (arguments count f))
constructs_of p under count f (Calls g) = pure (Goes (Above g (waiting (New count) (dropped_under count under f))))
constructs_of p under count f (Makes g v) = sticks

abbrev pub constructs_getter : Setting → (method : ℕ) → Value → (under count : ℕ) → Frame → Run Act
constructs_getter p m v under count f = enters_on p m v [] >>= constructs_of p under count f

abbrev pub constructs_value : Setting → Found → Value → (under count : ℕ) → Frame → Run Act
constructs_value p found v under count f = value_read p found v >>= (λ x. got x) >>= constructs_of p under count f

abbrev pub constructs_found : Setting → Found → Value → (under count : ℕ) → Frame → Run Act
constructs_found p found v under count f = read_found p found v >>= constructs_of p under count f

-- ---- by a name, on a value

-- what a name finds on v is read, and settles
abbrev pub reads_on : Setting → Value → Name → How → Frame → Run Act
reads_on p v name how f = settled_by how f (reads p v name)

-- x is written on v under a name, and what comes settles; `initial` writes constant slots too
abbrev pub writes_on : Setting → Value → Name → Value → (initial : Bool) → How → Frame → Run Act
writes_on p v name x initial how f = settled_by how f (writes_to p v name x initial)

-- what a name finds on v is called on the receiver with the top operands, so many, and what comes settles
abbrev pub calls_on : Setting → (v receiver : Value) → Name → (count : ℕ) → How → Frame → Run Act
calls_on p v receiver name count how f = settled_by how f (calls_name p v receiver name (arguments count f))

-- what a name finds on v is read, and new is done on it with the top operands, so many; so many others leave from under them
abbrev pub constructs_on : Setting → Value → Name → (under count : ℕ) → Frame → Run Act
constructs_on p v name under count f = reads p v name >>= constructs_of p under count f

-- ---- by the name of an instruction: its parts are over the object

-- how many parts of a name of the pool the stack has
abbrev pub parts_at : Setting → ℕ → ℕ
parts_at p n = name_parts_count (name_form_at p n)

abbrev pub holder_under : Setting → (name above : ℕ) → Frame → Value
holder_under p n above f = operand_at (above + parts_at p n) f

-- getproperty
abbrev pub gets_named : Setting → ℕ → Frame → Run Act
gets_named p n f = settled_by (Push (parts_at p n + 1)) f (named_here p n 0 f >>= reads p (operand_at (parts_at p n) f))

-- the value is on top
abbrev pub sets_named : Setting → ℕ → (initial : Bool) → Frame → Run Act
sets_named p n initial f = settled_by (Drop (parts_at p n + 2)) f (named_here p n 1 f >>= λ name. writes_to p (holder_under p n 1 f) name (operand_at 0 f) initial)

-- the arguments are on top; callproplex has no receiver
abbrev pub receiver_under : (lexical : Bool) → Value → Value
receiver_under lexical v = if lexical then Null else v

abbrev pub calls_named : Setting → ℕ → (count : ℕ) → (lexical : Bool) → How → Frame → Run Act
calls_named p n count lexical how f = settled_by how f (named_here p n count f >>= λ name. calls_name p (holder_under p n count f) (receiver_under lexical (holder_under p n count f)) name (arguments count f))

-- `call`, `construct`, and callproperty with its two like, of which one drops what comes

-- call: the function is under its receiver, and that under the arguments
abbrev pub calls_operand : Setting → (count : ℕ) → Frame → Run Act
calls_operand p count f = calls_value p (operand_at (count + 1) f) (operand_at count f) count (Push (count + 2)) f

-- construct: new is done on the value under the arguments
abbrev pub constructs_operand : Setting → (count : ℕ) → Frame → Run Act
constructs_operand p count f = makes_value p (operand_at count f) count (Push (count + 1)) f

-- callproperty, callproplex, which has no receiver, and callpropvoid, which drops what comes
abbrev pub calls_property : Setting → ℕ → (count : ℕ) → (lexical drops : Bool) → Frame → Run Act
calls_property p n count lexical drops f = calls_named p n count lexical (how_for drops (count + parts_at p n + 1)) f

-- constructprop: what the name finds on the value under its parts and the arguments is read, and new is done on that
abbrev pub constructs_named : Setting → ℕ → (count : ℕ) → Frame → Run Act
constructs_named p n count f = named_here p n count f >>= reads p (holder_under p n count f) >>= constructs_of p (parts_at p n + 1) count f

-- ---- what is written at once: a property of an object's own, by which nothing comes

-- and an element of an array
abbrev pub puts_element : ObjId → (length k : ℕ) → Value → Run Came
puts_element o length k x = write_element o length k x >>= λ u. got Undefined

abbrev pub puts_own : Setting → ObjId → Span → Value → Run Came
puts_own p o text x = set_property p o text x >>= λ u. got Undefined

-- the top operand, over its holder
abbrev pub puts_top : Setting → ObjId → Span → Frame → Run Act
puts_top p o text f = settled_by (Drop 2) f (puts_own p o text (operand_at 0 f))

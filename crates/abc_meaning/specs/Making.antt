-- `new` on a value (Overview, chapter 5; profile: docs/MACHINE.md, "The rules of a run").
use Rattle.std.specs.Prelude.{ℕ, pos, negsuc, List, [], ◌∷◌, length, replicate, nat_le, if◌then◌else◌}
use Rattle.abc_base.specs.declared.names.Fault.TheVariants as faults
use Rattle.abc_base.specs.declared.names.HostClass.{HostClass}
use Rattle.abc_base.specs.declared.names.HostClass.TheVariants as hosts
use Rattle.abc_heap_values.specs.declared.values.ObjId.{ObjId}
use Rattle.abc_heap_values.specs.declared.values.Value.{Value}
use Rattle.abc_heap_values.specs.declared.values.Value.TheVariants.{Undefined, Num, Text, Obj}
use Rattle.abc_heap_store.specs.declared.records.ScopeId.{ScopeId}
use Rattle.abc_heap_store.specs.declared.records.What.{What}
use Rattle.abc_heap_store.specs.declared.records.What.TheVariants as whats
use Rattle.abc_link_names.specs.Instances.{instance_at}
use Rattle.abc_objects.specs.Fixed.{fixed_span}
use Rattle.abc_objects.specs.Stands.{host_layout, prototype_of}
use Rattle.abc_objects.specs.declared.fixed.FixedText.TheVariants.{Message}
use Rattle.abc_link_names.specs.Linked.{layout_of}
use Rattle.abc_link_names.specs.declared.part.Part.TheVariants as parts
use Rattle.abc_link_names.specs.Bases.{is_interface}
use Rattle.std.specs.Prelude.{Some}
use Rattle.std.specs.declared.option.Option.{Option}
use Rattle.abc_meaning.specs.Calling.{Came, Makes, got, only_argument}
use Rattle.abc_meaning.specs.Entering.{arguments_for, frame_for}
use Rattle.abc_meaning.specs.Objects.{new_array, new_object, place, set_property}
use Rattle.abc_meaning.specs.Ops.{as_boolean, as_int, as_number, as_text, as_uint}
use Rattle.abc_meaning.specs.Setting.{Setting, method_of}
use Rattle.abc_meaning.specs.World.{Run, World, pure, fails, throws, ◌>>=◌, ◌>>◌, some, the, see, object_named}

-- the prototype of the class that a class object is of
abbrev pub prototype_in : ObjId → World → Option ObjId
prototype_in o w = prototype_of w.heap o.0

-- ---- Object, Error and its three: the first argument is the message, and a second is counted alone

abbrev pub message_of : Setting → List Value → Run (List Value)
message_of p [] = pure []
message_of p (v ∷ vs) = as_text p v >>= λ t. pure (t ∷ [])

-- set as an own property, whatever the object's class declares
abbrev pub set_message : Setting → ObjId → List Value → Run (Unit {0})
set_message p o (Text t ∷ vs) = set_property p o (fixed_span Message) (Text t)
set_message p o vs = pure tt

abbrev pub most_arguments : HostClass → ℕ
most_arguments hosts.Object = 0
most_arguments other = 2

-- the message among the arguments of new on such a class, made a text, if one is given; too many are an ArgumentError
abbrev pub host_arguments : Setting → HostClass → List Value → Run (List Value)
host_arguments p c args = if nat_le (length args) (most_arguments c) then message_of p args else throws hosts.ArgumentError

abbrev pub new_plain : Setting → ObjId → HostClass → List Value → Run Came
new_plain p o c args = do
  message ← host_arguments p c args
  delegate ← see (prototype_in o)
  made ← new_object p (host_layout p.linked c) delegate whats.Plain
  set_message p made message
  got (Obj made)

-- ---- Array: its arguments, but one that is a number is a length

abbrev pub new_elements : Setting → List Value → Run ObjId
new_elements p (Num (pos n) ∷ []) = new_array p (replicate n Undefined)
new_elements p (Num (negsuc n) ∷ []) = fails faults.ArrayIndex
new_elements p args = new_array p args

abbrev pub new_of_class : Setting → ObjId → HostClass → List Value → Run Came
new_of_class p o hosts.Str args = only_argument args (λ v. as_text p v >>= got)
new_of_class p o hosts.Int args = only_argument args (λ v. as_int p v >>= got)
new_of_class p o hosts.UInt args = only_argument args (λ v. as_uint p v >>= got)
new_of_class p o hosts.Number args = only_argument args (λ v. as_number p v >>= got)
new_of_class p o hosts.Boolean args = only_argument args (λ v. as_boolean p v >>= got)
new_of_class p o hosts.Array args = new_elements p args >>= λ made. got (Obj made)
new_of_class p o hosts.Class args = throws hosts.TypeError
new_of_class p o hosts.Function args = throws hosts.TypeError
new_of_class p o hosts.Namespace args = throws hosts.TypeError
new_of_class p o other args = new_plain p o other args

-- ---- a class of the file: the arguments, then the object, and its maker is run on it

abbrev pub new_instance : Setting → ObjId → (class home : ℕ) → ScopeId → List Value → Run Came
new_instance p o k home instances args = do
  let n = (instance_at p.linked.file k).iinit
  m ← some (method_of p n)
  vs ← arguments_for p m args
  delegate ← see (prototype_in o)
  made ← new_object p (layout_of p.linked (parts.Instance k)).0 delegate whats.Plain
  f ← frame_for p n m (Obj made) (place home (Some instances)) args vs
  pure (Makes f (Obj made))

-- ---- any value

abbrev pub new_what : Setting → ObjId → What → List Value → Run Came
new_what p o (whats.ClassObject k home statics instances) args = if is_interface p.linked.file k then throws hosts.TypeError else new_instance p o k home instances args
new_what p o (whats.HostClass c) args = new_of_class p o c args
new_what p o (whats.Closure method home scope bound) args = fails faults.FunctionConstruct
new_what p o whats.Trace args = fails faults.FunctionConstruct
new_what p o (whats.Formula n) args = fails faults.FunctionConstruct
new_what p o other args = throws hosts.TypeError

abbrev pub new : Setting → Value → List Value → Run Came
new p (Obj o) args = the (object_named o) >>= λ ob. new_what p o ob.what args
new p v args = throws hosts.TypeError

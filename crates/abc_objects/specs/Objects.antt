-- The objects that every run begins with, by their numbers in a heap. And prototypes and delegates
-- (profile: docs/MACHINE.md, "Heap and room" and "The search").
use Rattle.std.specs.Prelude.{ℕ, length, Some, None}
use Rattle.std.specs.declared.option.Option.{Option}
use Rattle.abc_base.specs.declared.names.HostClass.{HostClass}
use Rattle.abc_base.specs.declared.names.HostClass.TheVariants as hosts
use Rattle.abc_heap_values.specs.declared.values.ObjId.{ObjId}
use Rattle.abc_heap_values.specs.declared.values.Value.{Value}
use Rattle.abc_heap_values.specs.declared.values.Value.TheVariants as values
use Rattle.abc_heap_store.specs.Heap.{Heap, object_at}
use Rattle.abc_objects.specs.Opening as opening
use Rattle.abc_objects.specs.Stands.{host_class_number, object_if_any, prototype_of}

abbrev pub trace_number : ℕ
trace_number = 28

abbrev pub host_object_number : Heap → ℕ
host_object_number h = opening.opening_host_object (length h.formulas)

abbrev pub global_number : Heap → ℕ → ℕ
global_number h s = opening.opening_global_number (length h.formulas) s

-- ---- prototypes and delegates

-- the prototype of a class of the host: what the first slot of its class object holds, where that is an object
abbrev pub host_prototype : Heap → HostClass → Option ObjId
host_prototype h c = prototype_of h (host_class_number c)

abbrev pub number_of_object : Option ObjId → Option ℕ
number_of_object None = None
number_of_object (Some o) = Some o.0

abbrev pub delegate_at : Heap → ℕ → Option ℕ
delegate_at h o = number_of_object (object_at h.objects o).delegate

-- the first delegate of a value: of one that is no object, the prototype of its class
abbrev pub delegate_of : Heap → Value → Option ℕ
delegate_of h values.Undefined = None
delegate_of h values.Null = None
delegate_of h (values.Num n) = number_of_object (host_prototype h hosts.Number)
delegate_of h (values.Bool b) = number_of_object (host_prototype h hosts.Boolean)
delegate_of h (values.Text s) = number_of_object (host_prototype h hosts.Str)
delegate_of h (values.Space n) = number_of_object (host_prototype h hosts.Namespace)
delegate_of h (values.Obj o) = delegate_at h o.0

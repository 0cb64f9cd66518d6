-- Objects, functions, activations, catch objects and classes that are made by instructions of their own
-- (Overview, chapter 5; profile: docs/MACHINE.md, "The rules of a run").
use Rattle.std.specs.Prelude.{List, [], ◌∷◌, Some, None, nat_eq, if◌then◌else◌}
use Rattle.std.specs.declared.option.Option.{Option}
use Rattle.abc_base.specs.declared.names.HostClass.TheVariants as hosts
use Rattle.abc_heap_values.specs.declared.values.ObjId.{ObjId}
use Rattle.abc_heap_values.specs.declared.values.Span.{Span}
use Rattle.abc_heap_values.specs.declared.values.Value.{Value}
use Rattle.abc_heap_values.specs.declared.values.Value.TheVariants.{Null, Obj}
use Rattle.abc_heap_store.specs.Heap.{obj_id}
use Rattle.abc_heap_store.specs.declared.records.What.{What}
use Rattle.abc_heap_store.specs.declared.records.What.TheVariants as whats
use Rattle.abc_link_names.specs.declared.named.Named.{Named}
use Rattle.abc_link_names.specs.declared.named.Named.TheVariants as named
use Rattle.abc_link_names.specs.declared.part.LayoutId.{LayoutId}
use Rattle.abc_link_names.specs.Bases.{base_named}
use Rattle.abc_link_names.specs.PartsByNumber.{class_at}
use Rattle.abc_objects.specs.Stands.{host_class_number}
use Rattle.abc_meaning.specs.Entering.{enters_owned}
use Rattle.abc_meaning.specs.Making.{prototype_in}
use Rattle.abc_meaning.specs.Objects.{class_object, new_array, new_class, new_function, new_object, new_of_host, prototype_for, set_property}
use Rattle.abc_meaning.specs.Ops.{spells}
use Rattle.abc_meaning.specs.Setting.{Setting}
use Rattle.abc_meaning.specs.World.{Run, pure, some, see, sticks, throws, ◌>>=◌, ◌>>◌}
use Rattle.abc_frames.specs.declared.records.Wait.TheVariants.{Keep}
use Rattle.abc_meaning.specs.At.{Above, ActCase, Doing, Goes, number_here, one, waiting_frame}
use Rattle.std.specs.Prelude.{slice_get}

abbrev pub object_value : Run ObjId → Run Value
object_value m = m >>= λ o. pure (Obj o)

-- ---- newfunction, newarray, newobject

abbrev pub makes_function : ActCase → Run Value
makes_function a = object_value (new_function a.setting (number_here a) a.frame.home a.frame.saved a.frame.scopes)

abbrev pub makes_array : ActCase → Run Value
makes_array a = object_value (new_array a.setting a.args)

-- names and values in turn; the texts of all names are made before the object
abbrev pub entries_of : Setting → List Value → Run (List (Span × Value))
entries_of p (n ∷ v ∷ vs) = spells p n >>= λ t. entries_of p vs >>= λ es. pure ((t, v) ∷ es)
entries_of p vs = pure []

abbrev pub set_all : Setting → ObjId → List (Span × Value) → Run (Unit {0})
set_all p o [] = pure tt
set_all p o (e ∷ es) = set_property p o e.0 e.1 >> set_all p o es

abbrev pub makes_object : ActCase → Run Value
makes_object a = do
  es ← entries_of a.setting a.args
  o ← new_of_host a.setting hosts.Object whats.Plain
  set_all a.setting o es
  pure (Obj o)

-- ---- newactivation, newcatch

abbrev pub new_scope_object : ActCase → LayoutId → What → Run Value
new_scope_object a layout what = do
  delegate ← see (prototype_for hosts.Object)
  object_value (new_object a.setting layout.0 delegate what)

abbrev pub makes_activation : ActCase → Run Value
makes_activation a = new_scope_object a a.here.method.activation whats.Activation

abbrev pub makes_catch : ActCase → Run Value
makes_catch a = some (slice_get a.here.method.handlers (number_here a)) >>= λ h. new_scope_object a h.layout whats.Catch

-- ---- newclass: it takes the class object of the base, whose prototype is kept, or null where there is no base

abbrev pub is_same_object : Option ObjId → Value → Run (Option ObjId)
is_same_object (Some o) (Obj b) = if nat_eq o.0 b.0 then see (prototype_in o) else throws hosts.TypeError
is_same_object o v = throws hosts.TypeError

abbrev pub is_none : Value → Run (Option ObjId)
is_none Null = pure None
is_none v = throws hosts.TypeError

-- the prototype of the base, where v is the base's class object; none where there is no base and v is null;
-- any other v is a TypeError
abbrev pub base_prototype : Option Named → Value → Run (Option ObjId)
base_prototype None v = is_none v
base_prototype (Some (named.Host c)) v = is_same_object (Some (obj_id (host_class_number c))) v
base_prototype (Some (named.Class j)) v = see (class_object j) >>= λ o. is_same_object o v
base_prototype other v = sticks

abbrev pub unmade : Option ObjId → Run (Unit {0})
unmade None = pure tt
unmade (Some o) = throws hosts.TypeError

-- the class is made, and then its initializer is run on it; what is pushed at the return is the class object
abbrev pub makes_class : Doing
makes_class a = one a λ v. do
  made ← see (class_object (number_here a))
  unmade made
  base ← base_prototype (base_named a.setting.linked.file (number_here a)) v
  o ← new_class a.setting (number_here a) a.frame.home base a.frame.saved a.frame.scopes
  g ← enters_owned a.setting (class_at a.setting.linked.file (number_here a)).cinit (Obj o) []
  pure (Goes (Above g (waiting_frame (Keep (Obj o)) a.rest)))

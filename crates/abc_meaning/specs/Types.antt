-- Whether a value is of a type, by computing (Overview, chapter 5; profile: docs/MACHINE.md, "Values, conversions and operations").
use Rattle.std.specs.Prelude.{ℕ, zero, suc, pos, List, int_le, length, Bool, true, false, not, ◌&&◌, ◌||◌, nat_eq}
use Rattle.std.specs.List.{list_any}
use Rattle.abc_heap_values.specs.declared.values.Value.{Value}
use Rattle.abc_heap_values.specs.declared.values.Value.TheVariants as values
use Rattle.abc_heap_values.specs.Kinds.{is_nothing, is_text, is_undefined}
use Rattle.abc_base_graphs.specs.Graph.{leads_to}
use Rattle.abc_heap_store.specs.Heap.{Heap, object_at}
use Rattle.abc_link_names.specs.Interfaces.{class_graph}
use Rattle.abc_link_names.specs.Linked.{LinkedFile}
use Rattle.abc_link_names.specs.Numbering.{part_at}
use Rattle.abc_link_names.specs.declared.part.Part.{Part}
use Rattle.abc_link_names.specs.declared.part.Part.TheVariants as parts
use Rattle.abc_link_names.specs.declared.types.Ty.{Ty}
use Rattle.abc_link_names.specs.declared.types.Ty.TheVariants as types
use Rattle.abc_link_names.specs.Bases.{is_interface}
use Rattle.abc_verify_typing.specs.Rules.{reaches}

abbrev pub is_int : Value → Bool
is_int (values.Num n) = int_le n (pos 2147483647)
is_int other = false

abbrev pub is_uint : Value → Bool
is_uint (values.Num n) = int_le (pos 0) n
is_uint other = false

abbrev pub is_number : Value → Bool
is_number (values.Num n) = true
is_number other = false

abbrev pub is_truth : Value → Bool
is_truth (values.Bool b) = true
is_truth other = false

abbrev pub is_space : Value → Bool
is_space (values.Space n) = true
is_space other = false

-- ---- objects

-- an object whose layout is the given one or stands under it; a layout is that many steps at most below another
abbrev pub is_object_of : LinkedFile → Heap → ℕ → Value → Bool
is_object_of l h x (values.Obj o) = reaches l (object_at h.objects o.0).layout (object_at h.objects o.0).layout x
is_object_of l h x other = false

-- whether one to n edges lead from a node to another
abbrev pub leads_within : List (List ℕ) → ℕ → ℕ → ℕ → Bool
leads_within graph zero x y = false
leads_within graph (suc n) x y = list_any (λ z. nat_eq y z || leads_within graph n z y) (leads_to graph x)

-- an instance of a class that names the interface; the way to it passes no class twice
abbrev pub names_interface : LinkedFile → ℕ → Part → Bool
names_interface l k (parts.Instance c) = is_interface l.file k && leads_within (class_graph l.file) (length l.file.instances) c k
names_interface l k other = false

abbrev pub is_instance_of : LinkedFile → Heap → ℕ → Value → Bool
is_instance_of l h k (values.Obj o) = names_interface l k (part_at l.parts (object_at h.objects o.0).layout)
is_instance_of l h k other = false

-- the value is of the type, by computing
abbrev pub is_of_type : LinkedFile → Heap → Ty → Value → Bool
is_of_type l h types.Any v = true
is_of_type l h types.Void v = is_undefined v
is_of_type l h types.Object v = not (is_nothing v)
is_of_type l h types.Int v = is_int v
is_of_type l h types.UInt v = is_uint v
is_of_type l h types.Number v = is_number v
is_of_type l h types.Boolean v = is_truth v
is_of_type l h types.Text v = is_text v
is_of_type l h types.Space v = is_space v
is_of_type l h (types.Of x) v = is_object_of l h x.0 v
is_of_type l h (types.Interface k) v = is_instance_of l h k v

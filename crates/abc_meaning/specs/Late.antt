-- Types of class objects, slots by numbers, and tests of membership (Overview, chapter 5; profile: docs/MACHINE.md, "What each instruction does").
use Rattle.std.specs.Prelude.{ℕ, Bool, true, false, nat_eq, slice_get, Some, None, if◌then◌else◌}
use Rattle.std.specs.declared.option.Option.{Option}
use Rattle.std.specs.List.{list_any}
use Rattle.abc_base.specs.declared.names.HostClass.TheVariants as hosts
use Rattle.abc_heap_values.specs.declared.values.ObjId.{ObjId}
use Rattle.abc_heap_values.specs.declared.values.Value.{Value}
use Rattle.abc_heap_values.specs.declared.values.Value.TheVariants.{Null, Bool as Truth, Obj}
use Rattle.abc_base_graphs.specs.Ways.{way}
use Rattle.abc_heap_store.specs.Heap.{Heap, Object}
use Rattle.abc_heap_store.specs.declared.records.What.{What}
use Rattle.abc_heap_store.specs.declared.records.What.TheVariants as whats
use Rattle.abc_link_names.specs.Slots.{slot_numbered}
use Rattle.abc_link_names.specs.declared.types.Ty.{Ty}
use Rattle.abc_objects.specs.Objects.{delegate_at, delegate_of}
use Rattle.abc_objects.specs.Stands.{prototype_of}
use Rattle.abc_objects.specs.Searches.{found_on}
use Rattle.abc_objects.specs.declared.found.Found.{Found}
use Rattle.abc_objects.specs.declared.found.Found.TheVariants.{Missing}
use Rattle.abc_objects.specs.declared.found.Want.TheVariants.{Read}
use Rattle.abc_objects.specs.declared.name.Spaces.TheVariants.{Public}
use Rattle.abc_meaning.specs.Members.{with_holder, write_slot}
use Rattle.abc_meaning.specs.Ops.{coerces, spells}
use Rattle.abc_meaning.specs.Setting.{Setting, type_of_class, type_of_host}
use Rattle.abc_meaning.specs.Types.{is_of_type}
use Rattle.abc_meaning.specs.World.{Run, World, pure, some, the, see, object_named, sticks, throws, ◌>>=◌, ◌>>◌}
use Rattle.abc_meaning.specs.At.{ActCase, Doing, goes, next_frame, number_here, one, two}
use Rattle.abc_meaning.specs.Names.{type_of_operand}

-- ---- coerce, astype, istype: a type of the file

abbrev pub coerces_to_operand : ActCase → Run Value
coerces_to_operand a = one a λ v. type_of_operand a >>= λ t. coerces a.setting t v

abbrev pub is_it : Setting → Ty → Value → World → Bool
is_it p t v w = is_of_type p.linked w.heap t v

-- the value where the truth is true, else null
abbrev pub or_null : Value → Bool → Value
or_null v b = if b then v else Null

abbrev pub kept_as : Setting → Value → Ty → Run Value
kept_as p v t = see (is_it p t v) >>= λ b. pure (or_null v b)

abbrev pub tested_as : Setting → Value → Ty → Run Value
tested_as p v t = see (is_it p t v) >>= λ b. pure (Truth b)

-- ---- astypelate, istypelate, instanceof: that of a class object

abbrev pub type_of_what : Setting → What → Run Ty
type_of_what p (whats.ClassObject k home statics instances) = pure (type_of_class p k)
type_of_what p (whats.HostClass c) = pure (type_of_host p c)
type_of_what p other = throws hosts.TypeError

abbrev pub late_type : Setting → Value → Run Ty
late_type p (Obj o) = the (object_named o) >>= λ ob. type_of_what p ob.what
late_type p v = throws hosts.TypeError

abbrev pub is_prototype_among : Heap → Value → Option ObjId → Bool
is_prototype_among h v None = false
is_prototype_among h v (Some o) = list_any (nat_eq o.0) (way (delegate_at h) (delegate_of h v))

-- the prototype of the class is among the delegates of the value
abbrev pub is_instance : Value → Value → World → Bool
is_instance v (Obj c) w = is_prototype_among w.heap v (prototype_of w.heap c.0)
is_instance v other w = false

abbrev pub instance_test : ActCase → Run Value
instance_test a = two a λ v c. late_type a.setting c >>= λ t. see (is_instance v c) >>= λ b. pure (Truth b)

-- ---- in: a public name, made a text before the object is asked

abbrev pub is_found : Found → Bool
is_found Missing = false
is_found found = true

abbrev pub has_property_named : ActCase → Run Value
has_property_named a = two a λ n o. spells a.setting n >>= λ t. with_holder o (see (λ w. Truth (is_found (found_on a.setting.linked w.heap o (record { spaces = Public; text = t }) Read))))

-- ---- getslot, setslot: constant slots are written too

abbrev pub on_slot : {X : Type 0} → ActCase → Value → (ObjId → Object → ℕ → Run X) → Run X
on_slot a (Obj o) f = the (object_named o) >>= λ ob. some (slot_numbered a.setting.linked ob.layout (number_here a)) >>= λ k. f o ob k
on_slot a Null f = throws hosts.TypeError
on_slot a v f = sticks

abbrev pub reads_slot : ActCase → Run Value
reads_slot a = one a λ r. on_slot a r (λ o ob k. some (slice_get ob.slots k))

abbrev pub writes_slot : Doing
writes_slot a = two a λ r v. on_slot a r (λ o ob k. write_slot a.setting o k v) >> goes (next_frame a.rest)

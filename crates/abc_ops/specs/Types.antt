-- Which values are of a type.
use Rattle.std.specs.Prelude.{ℕ, pos, ◌≤ℤ◌}
use Rattle.abc_heap_values.specs.declared.values.Value.{Value}
use Rattle.abc_heap_values.specs.declared.values.Value.TheVariants as values
use Rattle.abc_heap_store.specs.Heap.{Heap, object_at}
use Rattle.abc_link_names.specs.Interfaces.{Implements}
use Rattle.abc_link_names.specs.Linked.{LinkedFile}
use Rattle.abc_link_names.specs.Numbering.{part_at}
use Rattle.abc_link_names.specs.Tree.{IsBelow}
use Rattle.abc_link_names.specs.declared.part.Part.{Part}
use Rattle.abc_link_names.specs.declared.part.Part.TheVariants as parts
use Rattle.abc_link_names.specs.declared.types.Ty.{Ty}
use Rattle.abc_link_names.specs.declared.types.Ty.TheVariants as types

abbrev pub IsUndefined : Value → Type 0
IsUndefined values.Undefined = Unit {0}
IsUndefined v = ⊥

-- neither undefined nor null
abbrev pub IsSomething : Value → Type 0
IsSomething values.Undefined = ⊥
IsSomething values.Null = ⊥
IsSomething v = Unit {0}

-- a number is never below -2147483648
abbrev pub IsInt : Value → Type 0
IsInt (values.Num n) = n ≤ℤ pos 2147483647
IsInt v = ⊥

-- nor above 4294967295
abbrev pub IsUInt : Value → Type 0
IsUInt (values.Num n) = pos 0 ≤ℤ n
IsUInt v = ⊥

abbrev pub IsNum : Value → Type 0
IsNum (values.Num n) = Unit {0}
IsNum v = ⊥

abbrev pub IsBool : Value → Type 0
IsBool (values.Bool b) = Unit {0}
IsBool v = ⊥

abbrev pub IsTextValue : Value → Type 0
IsTextValue (values.Text s) = Unit {0}
IsTextValue v = ⊥

abbrev pub IsSpaceValue : Value → Type 0
IsSpaceValue (values.Space n) = Unit {0}
IsSpaceValue v = ⊥

-- an object whose layout is the given one or stands under it
abbrev pub IsObjectOf : LinkedFile → Heap → ℕ → Value → Type 0
IsObjectOf l h x (values.Obj o) = IsBelow l (object_at h.objects o.0).layout x
IsObjectOf l h x v = ⊥

-- an instance of a class that names the interface
abbrev pub NamesInterface : LinkedFile → ℕ → Part → Type 0
NamesInterface l k (parts.Instance c) = Implements l c k
NamesInterface l k part = ⊥

abbrev pub IsInstanceOf : LinkedFile → Heap → ℕ → Value → Type 0
IsInstanceOf l h k (values.Obj o) = NamesInterface l k (part_at l.parts (object_at h.objects o.0).layout)
IsInstanceOf l h k v = ⊥

-- undefined and null are of no type but any, and undefined is of void
abbrev pub IsOf : LinkedFile → Heap → Ty → Value → Type 0
IsOf l h types.Any v = Unit {0}
IsOf l h types.Void v = IsUndefined v
IsOf l h types.Object v = IsSomething v
IsOf l h types.Int v = IsInt v
IsOf l h types.UInt v = IsUInt v
IsOf l h types.Number v = IsNum v
IsOf l h types.Boolean v = IsBool v
IsOf l h types.Text v = IsTextValue v
IsOf l h types.Space v = IsSpaceValue v
IsOf l h (types.Of x) v = IsObjectOf l h x.0 v
IsOf l h (types.Interface k) v = IsInstanceOf l h k v

-- What a value names, and which values are of a kind.
use Rattle.std.specs.Prelude.{ℕ, ◌<◌, ◌≤◌, false, length, get_or}
use Rattle.abc_base.specs.Ranges.{IsNumber}
use Rattle.abc_heap_values.specs.declared.values.Span.{Span}
use Rattle.abc_heap_values.specs.declared.values.ObjId.{ObjId}
use Rattle.abc_heap_values.specs.declared.values.Value.{Value}
use Rattle.abc_heap_values.specs.declared.values.Value.TheVariants as values
use Rattle.abc_heap_store.specs.Heap.{Heap, object_at}
use Rattle.abc_heap_store.specs.Texts.{IsText}
use Rattle.abc_link_names.specs.Linked.{LinkedFile}
use Rattle.abc_link_names.specs.Slots.{slots_of}
use Rattle.abc_link_names.specs.Tree.{IsBelow}
use Rattle.abc_link_names.specs.Types.{kind_of_type}
use Rattle.abc_link_names.specs.declared.types.Ty.TheVariants as types
use Rattle.abc_link_names.specs.declared.start.Start.TheVariants as starts
use Rattle.abc_link_names.specs.declared.types.Kind.{Kind}
use Rattle.abc_link_names.specs.declared.types.Kind.TheVariants as kinds

-- an object of the heap
abbrev pub IsObject : Heap → ObjId → Type 0
IsObject h o = o.0 < length h.objects

-- a namespace of the pool, counted from 1
abbrev pub IsSpace : LinkedFile → ℕ → Type 0
IsSpace l n = (1 ≤ n) × (n ≤ length l.file.namespaces)

-- what a value names exists, and a number is in the range of numbers
abbrev pub Exists : LinkedFile → Heap → Value → Type 0
Exists l h values.Undefined = Unit {0}
Exists l h values.Null = Unit {0}
Exists l h (values.Num n) = IsNumber n
Exists l h (values.Bool b) = Unit {0}
Exists l h (values.Text s) = IsText l.file.strings h s
Exists l h (values.Space n) = IsSpace l n
Exists l h (values.Obj o) = IsObject h o

-- the values of each kind: Text, Space and Obj hold null too, and Obj the objects of its layout and of those below
abbrev pub IsValueOf : LinkedFile → Heap → Kind → Value → Type 0
IsValueOf l h kinds.Any v = Unit {0}
IsValueOf l h kinds.Undef values.Undefined = Unit {0}
IsValueOf l h kinds.Null values.Null = Unit {0}
IsValueOf l h kinds.Num (values.Num n) = Unit {0}
IsValueOf l h kinds.Bool (values.Bool b) = Unit {0}
IsValueOf l h kinds.Text values.Null = Unit {0}
IsValueOf l h kinds.Text (values.Text s) = Unit {0}
IsValueOf l h kinds.Space values.Null = Unit {0}
IsValueOf l h kinds.Space (values.Space n) = Unit {0}
IsValueOf l h (kinds.Obj x) values.Null = Unit {0}
IsValueOf l h (kinds.Obj x) (values.Obj o) = IsObject h o × IsBelow l (object_at h.objects o.0).layout x.0
IsValueOf l h kind v = ⊥

-- the kind of a slot of an object, by its type in the object's layout
abbrev pub slot_kind_of_object : LinkedFile → Heap → ObjId → ℕ → Kind
slot_kind_of_object l h o k = kind_of_type l (get_or (slots_of l (object_at h.objects o.0).layout) k (record { ty = types.Any; constant = false; start = starts.Undefined })).ty

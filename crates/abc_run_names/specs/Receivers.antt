-- The object that an instruction works on.
use Rattle.abc_base.specs.declared.names.HostClass.TheVariants as hosts
use Rattle.abc_heap_values.specs.declared.values.ObjId.{ObjId}
use Rattle.abc_heap_values.specs.declared.values.Value.{Value}
use Rattle.abc_heap_values.specs.declared.values.Value.TheVariants.{Undefined, Null, Num, Bool as Truth, Text, Space, Obj}
use Rattle.abc_meaning.specs.World.{Run, pure, sticks, throws}

-- null throws, and no other value comes
abbrev pub receiver_object : Value → Run ObjId
receiver_object (Obj o) = pure o
receiver_object Null = throws hosts.TypeError
receiver_object Undefined = sticks
receiver_object (Num n) = sticks
receiver_object (Truth b) = sticks
receiver_object (Text t) = sticks
receiver_object (Space n) = sticks

-- the value is an object or null
abbrev pub IsReceiver : Value → Type 0
IsReceiver (Obj o) = Unit {0}
IsReceiver Null = Unit {0}
IsReceiver Undefined = ⊥
IsReceiver (Num n) = ⊥
IsReceiver (Truth b) = ⊥
IsReceiver (Text t) = ⊥
IsReceiver (Space n) = ⊥

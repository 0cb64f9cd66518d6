-- Walking by positions: a position to go on from, the next one that is filled, and what stands at one.
use Rattle.std.specs.Prelude.{ℕ, ◌-◌, ◌<◌, pos, List, [], ◌∷◌, length, slice_get, Some, None, if◌then◌else◌}
use Rattle.std.specs.Fmt.{decimal}
use Rattle.std.specs.declared.option.Option.{Option}
use Rattle.abc_base.specs.Ranges.{IsNumber}
use Rattle.abc_heap_values.specs.declared.values.Span.{Span}
use Rattle.abc_heap_values.specs.declared.values.Value.{Value}
use Rattle.abc_heap_values.specs.declared.values.Value.TheVariants.{Undefined, Null, Num, Bool as Truth, Text, Space, Obj}
use Rattle.abc_base_graphs.specs.Ways.{way}
use Rattle.abc_heap_store.specs.Heap.{Heap, Object, object_at, obj_id}
use Rattle.abc_heap_store.specs.Properties.{at_position, element_at, place_after, the_name, walked_next, walked_value}
use Rattle.abc_heap_store.specs.What.{is_array}
use Rattle.abc_ops.specs.Left.{Left, as_value, gives_left, text_made}
use Rattle.abc_objects.specs.Objects.{delegate_at}
use Rattle.abc_run_names.specs.declared.positions.Position.{Position}

-- a position to go on from, which is none below 0
abbrev pub position_of : Value → ℕ
position_of (Num n) = place_after n
position_of Undefined = 0
position_of Null = 0
position_of (Truth b) = 0
position_of (Text t) = 0
position_of (Space n) = 0
position_of (Obj o) = 0

-- the object that a value is
abbrev pub object_of_value : Heap → Value → Option Object
object_of_value h (Obj o) = slice_get h.objects o.0
object_of_value h Undefined = None
object_of_value h Null = None
object_of_value h (Num n) = None
object_of_value h (Truth b) = None
object_of_value h (Text t) = None
object_of_value h (Space n) = None

-- an object that is walked is there
abbrev pub CanWalk : Heap → Value → Type 0
CanWalk h (Obj o) = o.0 < length h.objects
CanWalk h Undefined = Unit {0}
CanWalk h Null = Unit {0}
CanWalk h (Num n) = Unit {0}
CanWalk h (Truth b) = Unit {0}
CanWalk h (Text t) = Unit {0}
CanWalk h (Space n) = Unit {0}

-- a number to go on from is in range
abbrev pub IsWalkPlace : Value → Type 0
IsWalkPlace (Num n) = IsNumber n
IsWalkPlace Undefined = Unit {0}
IsWalkPlace Null = Unit {0}
IsWalkPlace (Truth b) = Unit {0}
IsWalkPlace (Text t) = Unit {0}
IsWalkPlace (Space n) = Unit {0}
IsWalkPlace (Obj o) = Unit {0}

-- ---- the next filled position, or 0

-- the next filled position of an object above k, if there is one
abbrev pub next_position : Option Object → ℕ → Option ℕ
next_position None k = None
next_position (Some ob) k = walked_next ob k

-- a position as a value, and 0 where there is none
abbrev pub position_number : Option ℕ → Value
position_number None = Num (pos 0)
position_number (Some k) = Num (pos k)

-- ---- what stands at a position

abbrev pub found_or_undefined : Option Value → Value
found_or_undefined None = Undefined
found_or_undefined (Some v) = v

-- the value at a position of an object; undefined where there is none
abbrev pub value_at_position : Option Object → ℕ → Value
value_at_position None k = Undefined
value_at_position (Some ob) k = found_or_undefined (walked_value ob k)

abbrev pub name_text_or_null : Option Span → Value
name_text_or_null None = Null
name_text_or_null (Some t) = Text t

-- the text of an element's number is made, where there is such an element
abbrev pub element_named : Heap → ℕ → Option Value → Left Value
element_named h k None = gives_left h Null
element_named h k (Some v) = as_value (text_made h (decimal (k - 1)))

-- the name at a position, and the heap that is left
abbrev pub named_in : Heap → Option Object → ℕ → Left Value
named_in h None k = gives_left h Null
named_in h (Some ob) k = if is_array ob.what then element_named h k (element_at ob.elements k) else gives_left h (name_text_or_null (the_name (at_position ob.properties k)))

-- ---- an object's positions above one, then all of its delegates in turn

abbrev pub position_from : ℕ → Option ℕ → Option Position
position_from o None = None
position_from o (Some k) = Some (record { holder = obj_id o; position = k })

abbrev pub position_or_later : Option Position → Option Position → Option Position
position_or_later None later = later
position_or_later (Some p) later = Some p

-- the first position of the first object that has one
abbrev pub first_position : Heap → List ℕ → Option Position
first_position h [] = None
first_position h (o ∷ os) = position_or_later (position_from o (walked_next (object_at h.objects o) 0)) (first_position h os)

-- the next filled position of object o above k; else the first position of the first of its delegates that has one
abbrev pub next_along_from : Heap → ℕ → ℕ → Option Position
next_along_from h o k = position_or_later (position_from o (walked_next (object_at h.objects o) k)) (first_position h (way (delegate_at h) (delegate_at h o)))

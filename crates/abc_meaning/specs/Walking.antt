-- Walking over an object's properties, or an array's elements, by their positions
-- (Overview, chapter 5; profile: docs/MACHINE.md, "The rules of a run").
use Rattle.std.specs.Prelude.{ℕ, ◌-◌, pos, List, [], ◌∷◌, true, false, slice_get, Some, None, if◌then◌else◌}
use Rattle.std.specs.Fmt.{decimal}
use Rattle.std.specs.declared.option.Option.{Option}
use Rattle.abc_heap_values.specs.declared.values.Value.{Value}
use Rattle.abc_heap_values.specs.declared.values.Value.TheVariants.{Undefined, Null, Num, Bool as Truth, Text, Obj}
use Rattle.abc_heap_store.specs.Heap.{Heap, Object, object_at, obj_id}
use Rattle.abc_heap_store.specs.Properties.{at_position, element_at, place_after, the_name, walked_next, walked_value}
use Rattle.abc_heap_store.specs.What.{is_array}
use Rattle.abc_ops.specs.Left.{text_made}
use Rattle.abc_heap_values.specs.declared.values.Span.{Span}
use Rattle.abc_objects.specs.Objects.{delegate_at}
use Rattle.abc_base_graphs.specs.Ways.{way}
use Rattle.abc_verify_typing.specs.Instructions.{local, second_local}
use Rattle.abc_meaning.specs.Ops.{operates}
use Rattle.abc_meaning.specs.World.{Run, World, pure, some, see, object_named, ◌>>=◌}
use Rattle.abc_meaning.specs.At.{Act, ActCase, Doing, goes, after_pushes, frame_with_local}

-- a position to go on from, which is none below 0
abbrev pub position : Value → ℕ
position (Num n) = place_after n
position other = 0

-- the object that a value is
abbrev pub object_of : Value → World → Option Object
object_of (Obj o) w = object_named o w
object_of other w = None

abbrev pub next_in : Option Object → ℕ → Option ℕ
next_in None k = None
next_in (Some ob) k = walked_next ob k

abbrev pub number_or_zero : Option ℕ → Value
number_or_zero None = Num (pos 0)
number_or_zero (Some k) = Num (pos k)

abbrev pub has_next : Value → Value → World → Value
has_next v i w = number_or_zero (next_in (object_of v w) (position i))

-- ---- names and values at positions

abbrev pub text_or_null : Option Span → Value
text_or_null None = Null
text_or_null (Some t) = Text t

-- the text of an element's number is made, where there is such an element
abbrev pub element_text : ℕ → Option Value → Run Value
element_text k None = pure Null
element_text k (Some v) = operates (λ h. text_made h (decimal (k - 1))) >>= λ t. pure (Text t)

abbrev pub walked_name : Option Object → ℕ → Run Value
walked_name None k = pure Null
walked_name (Some ob) k = if is_array ob.what then element_text k (element_at ob.elements k) else pure (text_or_null (the_name (at_position ob.properties k)))

abbrev pub value_or_undefined : Option Value → Value
value_or_undefined None = Undefined
value_or_undefined (Some v) = v

abbrev pub value_in : Option Object → ℕ → Value
value_in None k = Undefined
value_in (Some ob) k = value_or_undefined (walked_value ob k)

-- ---- hasnext2: an object's positions above one, then all of its delegates in turn

pub record Position : Type 0 where
  pub holder : ℕ
  pub position : ℕ

abbrev pub position_at : ℕ → Option ℕ → Option Position
position_at o None = None
position_at o (Some k) = Some (record { holder = o; position = k })

abbrev pub or_later : Option Position → Option Position → Option Position
or_later None later = later
or_later (Some p) later = Some p

-- the first position of the first object that has one
abbrev pub first_along : Heap → List ℕ → Option Position
first_along h [] = None
first_along h (o ∷ os) = or_later (position_at o (walked_next (object_at h.objects o) 0)) (first_along h os)

abbrev pub next_along : Option ℕ → ℕ → Heap → Option Position
next_along None k h = None
next_along (Some o) k h = or_later (position_at o (walked_next (object_at h.objects o) k)) (first_along h (way (delegate_at h) (delegate_at h o)))

abbrev pub object_number : Value → Option ℕ
object_number (Obj o) = Some o.0
object_number other = None

abbrev pub walks_to : ActCase → Option Position → Run Act
walks_to a None = goes (after_pushes (Truth false ∷ []) (frame_with_local (second_local a.here.instr) (Num (pos 0)) (frame_with_local (local a.here.instr) Null a.rest)))
walks_to a (Some e) = goes (after_pushes (Truth true ∷ []) (frame_with_local (second_local a.here.instr) (Num (pos e.position)) (frame_with_local (local a.here.instr) (Obj (obj_id e.holder)) a.rest)))

abbrev pub has_next2 : Doing
has_next2 a = do
  v ← some (slice_get a.frame.locals (local a.here.instr))
  i ← some (slice_get a.frame.locals (second_local a.here.instr))
  e ← see (λ w. next_along (object_number v) (position i) w.heap)
  walks_to a e

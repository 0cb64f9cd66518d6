-- An object's own properties: the search by text, a write, a delete, and the walk by positions (profile: docs/MACHINE.md, "Heap and room").
use Rattle.std.specs.Prelude.{ℕ, zero, suc, ◌+◌, Bool, false, List, [], ◌∷◌, ◌++◌, length, drop, set, Option, Some, None, slice_get, bytes_eq, ℤ, pos, negsuc, nat_lt, if◌then◌else◌}
use Rattle.abc_heap_values.specs.declared.values.Span.{Span}
use Rattle.abc_heap_values.specs.declared.values.Value.{Value}
use Rattle.abc_heap_store.specs.What.{is_array}
use Rattle.abc_heap_store.specs.Heap.{Object, Heap, properties_of}
use Rattle.abc_heap_store.specs.Texts.{text_of}

-- the search among an object's own properties: the last of that text
abbrev pub is_property_named : (Span → List ℕ) → List ℕ → Option (Option (Span × Value)) → Bool
is_property_named f t None = false
is_property_named f t (Some None) = false
is_property_named f t (Some (Some p)) = bytes_eq (f p.0) t

abbrev pub place_below : (Span → List ℕ) → List ℕ → List (Option (Span × Value)) → ℕ → Option ℕ
place_below f t ps zero = None
place_below f t ps (suc k) = if is_property_named f t (slice_get ps k) then Some k else place_below f t ps k

-- the place of the last property of text t, if there is one; `f` gives the text of a name
abbrev pub place_named : (Span → List ℕ) → List ℕ → List (Option (Span × Value)) → Option ℕ
place_named f t ps = place_below f t ps (length ps)

-- what stands at a place; position k + 1 is place k
abbrev pub present_property : Option (Option (Span × Value)) → Option (Span × Value)
present_property None = None
present_property (Some p) = p

-- the property at a position, counted from 1, if one is there
abbrev pub at_position : List (Option (Span × Value)) → ℕ → Option (Span × Value)
at_position ps zero = None
at_position ps (suc k) = present_property (slice_get ps k)

-- the name of a property, where there is one
abbrev pub the_name : Option (Span × Value) → Option Span
the_name None = None
the_name (Some p) = Some p.0

-- the value of a property, where there is one
abbrev pub the_value : Option (Span × Value) → Option Value
the_value None = None
the_value (Some p) = Some p.1

-- the value of the property of a text
abbrev pub found_property : List (Option (Span × Value)) → Option ℕ → Option Value
found_property ps None = None
found_property ps (Some k) = the_value (present_property (slice_get ps k))

abbrev pub own_property : (Span → List ℕ) → List ℕ → List (Option (Span × Value)) → Option Value
own_property f t ps = found_property ps (place_named f t ps)

-- a write: an own property takes the value, else a new one is added at the end
abbrev pub with_value : Value → Option (Span × Value) → Option (Span × Value)
with_value v None = None
with_value v (Some p) = Some (p.0, v)

abbrev pub put_at : Span → Value → List (Option (Span × Value)) → Option ℕ → List (Option (Span × Value))
put_at n v ps None = ps ++ Some (n, v) ∷ []
put_at n v ps (Some k) = set ps k (with_value v (present_property (slice_get ps k)))

-- the object after v is written to its property of text t; n is the name of a new one, and `f` gives the text of a name
abbrev pub with_put : (Span → List ℕ) → List ℕ → Span → Value → Object → Object
with_put f t n v ob = record ob { properties = put_at n v ob.properties (place_named f t ob.properties) }

-- how many cells a write needs, by the place of the property: one where there is none yet
abbrev pub cells_to_put : Option ℕ → ℕ
cells_to_put None = 1
cells_to_put (Some k) = 0

-- a delete leaves the place empty
abbrev pub delete_at : List (Option (Span × Value)) → Option ℕ → List (Option (Span × Value))
delete_at ps None = ps
delete_at ps (Some k) = set ps k None

-- the object after its property of text t is deleted, if it has one; `f` gives the text of a name
abbrev pub with_delete : (Span → List ℕ) → List ℕ → Object → Object
with_delete f t ob = record ob { properties = delete_at ob.properties (place_named f t ob.properties) }

-- the least filled position from place k on
abbrev pub first_filled : ℕ → List (Option (Span × Value)) → Option ℕ
first_filled k [] = None
first_filled k (None ∷ ps) = first_filled (k + 1) ps
first_filled k (Some p ∷ ps) = Some (k + 1)

-- the least filled position above one, or above 0 where that is negative
abbrev pub place_after : ℤ → ℕ
place_after (pos n) = n
place_after (negsuc n) = 0

-- the least filled position above k, if there is one
abbrev pub next_filled : List (Option (Span × Value)) → ℕ → Option ℕ
next_filled ps k = first_filled k (drop k ps)

-- an object's own property of the text of a name
abbrev pub place_of_property : List (List ℕ) → Heap → ℕ → Span → Option ℕ
place_of_property pool h o n = place_named (text_of pool h) (text_of pool h n) (properties_of h.objects o)

-- the value of object o's own property that has the same text as name n, if there is one
abbrev pub property_in_heap : List (List ℕ) → Heap → ℕ → Span → Option Value
property_in_heap pool h o n = own_property (text_of pool h) (text_of pool h n) (properties_of h.objects o)

-- ---- walking: an array's positions are those of its elements, from 1 on

abbrev pub element_at : List Value → ℕ → Option Value
element_at vs zero = None
element_at vs (suc k) = slice_get vs k

abbrev pub next_element : ℕ → ℕ → Option ℕ
next_element n k = if nat_lt k n then Some (k + 1) else None

-- the value that a walk finds at position p, counted from 1: an array's element, or another object's property
abbrev pub walked_value : Object → ℕ → Option Value
walked_value ob p = if is_array ob.what then element_at ob.elements p else the_value (at_position ob.properties p)

-- the position that a walk comes to after position k, if there is one; it begins with k = 0
abbrev pub walked_next : Object → ℕ → Option ℕ
walked_next ob k = if is_array ob.what then next_element (length ob.elements) k else next_filled ob.properties k

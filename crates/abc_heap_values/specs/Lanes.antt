-- The lists of an object, from a flat list of cells: its cells, in their order.
use Rattle.std.specs.Prelude.{ℕ, Bool, true, false, ◌&&◌, List, map, Option, Some, None, filter, nat_eq}
use Rattle.abc_heap_values.specs.declared.values.Span.{Span}
use Rattle.abc_heap_values.specs.declared.values.Value.{Value}
use Rattle.abc_heap_values.specs.declared.values.Value.TheVariants.{Undefined}
use Rattle.abc_heap_values.specs.declared.cell.Lane.{Lane}
use Rattle.abc_heap_values.specs.declared.cell.Lane.TheVariants.{Slots, Properties, Elements}
use Rattle.abc_heap_values.specs.declared.cell.Held.{Held}
use Rattle.abc_heap_values.specs.declared.cell.Held.TheVariants.{Slot, Property, Deleted, Element}
use Rattle.abc_heap_values.specs.declared.cell.Cell.{Cell}

-- which list of its object a cell belongs to, by what it holds
abbrev pub lane_of : Held → Lane
lane_of (Slot v) = Slots
lane_of (Property n v) = Properties
lane_of (Deleted n) = Properties
lane_of (Element v) = Elements

abbrev pub same_lane : Lane → Lane → Bool
same_lane Slots Slots = true
same_lane Properties Properties = true
same_lane Elements Elements = true
same_lane Slots Properties = false
same_lane Slots Elements = false
same_lane Properties Slots = false
same_lane Properties Elements = false
same_lane Elements Slots = false
same_lane Elements Properties = false

-- the cell belongs to this list of this object
abbrev pub belongs_to_lane : ℕ → Lane → Cell → Bool
belongs_to_lane o l c = nat_eq c.owner o && same_lane (lane_of c.held) l

abbrev pub cells_of_lane : ℕ → Lane → List Cell → List Cell
cells_of_lane o l cells = filter (belongs_to_lane o l) cells

-- the value that a cell holds; undefined for a deleted property
abbrev pub value_of_held : Held → Value
value_of_held (Slot v) = v
value_of_held (Property n v) = v
value_of_held (Deleted n) = Undefined
value_of_held (Element v) = v

-- the property that a cell holds, its name and its value; none for a slot, an element or a deleted property
abbrev pub property_in : Held → Option (Span × Value)
property_in (Slot v) = None
property_in (Property n v) = Some (n, v)
property_in (Deleted n) = None
property_in (Element v) = None

-- the three lists of object o
abbrev pub slots : ℕ → List Cell → List Value
slots o cells = map (λ (c : Cell). value_of_held c.held) (cells_of_lane o Slots cells)

abbrev pub properties : ℕ → List Cell → List (Option (Span × Value))
properties o cells = map (λ (c : Cell). property_in c.held) (cells_of_lane o Properties cells)

abbrev pub elements : ℕ → List Cell → List Value
elements o cells = map (λ (c : Cell). value_of_held c.held) (cells_of_lane o Elements cells)

-- How the cells are linked. What a cell holds does not matter here, but for its list.
use Rattle.std.specs.Prelude.{◌≡◌, ℕ, zero, suc, ◌-◌, ◌<◌, ◌≤◌, Bool, ◌&&◌, List, [], ◌∷◌, ◌++◌, map, take, length, filter, Some, slice_get, nat_eq}
use Rattle.abc_heap_values.specs.declared.cell.Lane.{Lane}
use Rattle.abc_heap_values.specs.declared.cell.Cell.{Cell}
use Rattle.abc_heap_values.specs.declared.cell.Held.{Held}
use Rattle.abc_heap_values.specs.declared.chain.Chain.{Chain}
use Rattle.abc_heap_values.specs.Lanes.{lane_of, same_lane}

pub record Link : Type 0 where
  pub owner : ℕ
  pub lane : Lane
  pub position : ℕ
  pub before : ℕ
  pub jump : ℕ

abbrev pub link_of : Cell → Link
link_of c = record { owner = c.owner; lane = lane_of c.held; position = c.position; before = c.before; jump = c.jump }

-- the cells without what they hold: the owner, the list, the position and the links of each
abbrev pub links : List Cell → List Link
links cells = map link_of cells

abbrev pub is_in_lane : ℕ → Lane → Link → Bool
is_in_lane o l x = nat_eq x.owner o && same_lane x.lane l

-- how many cells this list of this object has
abbrev pub count : ℕ → Lane → List Link → ℕ
count o l xs = length (filter (is_in_lane o l) xs)

-- place i has the cell at position k of this list of this object
pub record IsCellAt (xs : List Link) (i : ℕ) (o : ℕ) (l : Lane) (k : ℕ) : Type 0 where
  pub inside : i < length xs
  pub is : (x : Link) → slice_get xs i ≡ Some x → (x.owner ≡ o) × (x.lane ≡ l) × (x.position ≡ k)

-- place i has a cell of this list of this object below position k
pub record IsCellBelow (xs : List Link) (i : ℕ) (o : ℕ) (l : Lane) (k : ℕ) : Type 0 where
  pub inside : i < length xs
  pub is : (x : Link) → slice_get xs i ≡ Some x → (x.owner ≡ o) × (x.lane ≡ l) × (x.position < k)

-- a cell's links, into the cells before it
pub record IsLinked (earlier : List Link) (x : Link) : Type 0 where
  pub counted : x.position ≡ count x.owner x.lane earlier
  pub before : 0 < x.position → IsCellAt earlier x.before x.owner x.lane (x.position - 1)
  pub jump : 0 < x.position → IsCellBelow earlier x.jump x.owner x.lane x.position

-- each cell is linked into the cells before it
abbrev pub AreLinked : List Link → Type 0
AreLinked xs = (i : ℕ) (x : Link) → slice_get xs i ≡ Some x → IsLinked (take i xs) x

-- a chain knows how many cells its list has, and the place of the last
pub record IsChain (xs : List Link) (o : ℕ) (l : Lane) (c : Chain) : Type 0 where
  pub counted : c.count ≡ count o l xs
  pub last : 0 < c.count → IsCellAt xs c.last o l (c.count - 1)

-- place j has a cell of the same list as place i, at position k or above
pub record IsCellReached (xs : List Link) (i : ℕ) (j : ℕ) (k : ℕ) : Type 0 where
  pub inside : j < length xs
  pub is : (x y : Link) → slice_get xs i ≡ Some x → slice_get xs j ≡ Some y → (y.owner ≡ x.owner) × (y.lane ≡ x.lane) × (k ≤ y.position)

-- place j has a cell of the same list as place i, not above it
pub record IsUnder (xs : List Link) (i : ℕ) (j : ℕ) : Type 0 where
  pub inside : j < length xs
  pub is : (x y : Link) → slice_get xs i ≡ Some x → slice_get xs j ≡ Some y → (y.owner ≡ x.owner) × (y.lane ≡ x.lane) × (y.position ≤ x.position)

-- one more cell, of this object, which holds this
abbrev pub IsCellAdded : List Cell → List Cell → ℕ → Held → Type 0
IsCellAdded old new o h = (c : Cell) × (new ≡ old ++ c ∷ []) × (c.owner ≡ o) × (c.held ≡ h)

-- the cells, with another thing held at one place
abbrev pub held_at : List Cell → ℕ → Held → List Cell
held_at [] i h = []
held_at (c ∷ cs) zero h = (record c { held = h }) ∷ cs
held_at (c ∷ cs) (suc i) h = c ∷ held_at cs i h

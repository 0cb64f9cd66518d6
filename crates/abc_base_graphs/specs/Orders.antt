-- Orders of the nodes of a forest, in which each node stands behind its base (a tool of other definitions).
use Rattle.std.specs.Prelude.{◌≡◌, ℕ, zero, suc, ◌+◌, ◌<◌, ◌⊎◌, List, [], ◌∷◌, ◌++◌, Bool, Some, None, if◌then◌else◌, map, length, get_or, Contains, nat_eq}
use Rattle.std.specs.declared.option.Option.{Option}
use Rattle.std.specs.Option.{option_to_list}
use Rattle.std.specs.List.{IsDistinct, list_any}
use Rattle.abc_base_graphs.specs.Graph.{Leads, Returns}

abbrev pub base_in : List (Option ℕ) → ℕ → Option ℕ
base_in bases x = get_or bases x None

-- following bases never returns
pub record IsForest (bases : List (Option ℕ)) : Type 0 where
  pub known : (x b : ℕ) → base_in bases x ≡ Some b → b < length bases
  pub never : (x : ℕ) → Returns (map option_to_list bases) x → ⊥

abbrev pub place_in_order : List (Option ℕ) → ℕ → Option ℕ
place_in_order places x = get_or places x None

-- the place of each node that has one; a base has a place before that of the node
pub record AreNodesPlaced (bases : List (Option ℕ)) (order : List ℕ) (places : List (Option ℕ)) : Type 0 where
  pub len : length places ≡ length bases
  pub there : (x p : ℕ) → place_in_order places x ≡ Some p → (p < length order) × (get_or order p 0 ≡ x)
  pub back : (p : ℕ) → p < length order → place_in_order places (get_or order p 0) ≡ Some p
  pub behind : (x b p : ℕ) → place_in_order places x ≡ Some p → base_in bases x ≡ Some b → (q : ℕ) × (place_in_order places b ≡ Some q) × (q < p)

pub record HasOrderPlace (places : List (Option ℕ)) (x : ℕ) : Type 0 where
  pub at : ℕ
  pub is : place_in_order places x ≡ Some at

pub record KeepsPlaces (old new : List (Option ℕ)) : Type 0 where
  pub keeps : (x : ℕ) → HasOrderPlace old x → HasOrderPlace new x

-- ---- the one order: the nodes in turn, each behind its base

abbrev pub stands_in : List ℕ → ℕ → Bool
stands_in order x = list_any (nat_eq x) order

-- an order with a base settled, if there is one
abbrev pub with_base : List ℕ → (ℕ → List ℕ) → Option ℕ → List ℕ
with_base order settle None = order
with_base order settle (Some b) = settle b

-- An order with a node settled: the same where the node stands in it, or else that with the base settled, and then the node. Above
-- a node stand no more bases than there is fuel.
abbrev pub order_with : (fuel : ℕ) → List (Option ℕ) → List ℕ → ℕ → List ℕ
order_with zero bases order x = order
order_with (suc fuel) bases order x = if stands_in order x then order else with_base order (order_with fuel bases order) (base_in bases x) ++ x ∷ []

-- the nodes below n, settled in turn
abbrev pub settled_below : List (Option ℕ) → ℕ → List ℕ
settled_below bases zero = []
settled_below bases (suc n) = order_with (length bases) bases (settled_below bases n) n

unfoldable pub order_of_all : List (Option ℕ) → List ℕ
order_of_all bases = settled_below bases (length bases)

-- the one order of all nodes, and the place of each
pub record IsOrder (bases : List (Option ℕ)) (order : List ℕ) (places : List (Option ℕ)) : Type 0 where
  pub placed : AreNodesPlaced bases order places
  pub all : (x : ℕ) → x < length bases → HasOrderPlace places x
  pub is : order ≡ order_of_all bases

-- ---- a way up

-- each node of the way has the one above it as its base; the topmost has what comes next
abbrev pub IsWay : List (Option ℕ) → Option ℕ → List ℕ → Type 0
IsWay bases next [] = Unit {0}
IsWay bases next (x ∷ way) = (base_in bases x ≡ next) × IsWay bases (Some x) way

-- the next node is none, or has a place
pub record IsNextFree (places : List (Option ℕ)) (next : Option ℕ) : Type 0 where
  pub free : (b : ℕ) → next ≡ Some b → HasOrderPlace places b

-- the nodes of a way have no place, and no two are equal
pub record IsWayWaiting (bases places : List (Option ℕ)) (way : List ℕ) : Type 0 where
  pub unplaced : (x : ℕ) → Contains way x → place_in_order places x ≡ None
  pub known : (x : ℕ) → Contains way x → x < length bases
  pub apart : IsDistinct nat_eq way

-- on the way up from a node
pub record IsClimb (bases places : List (Option ℕ)) (from : ℕ) (next : Option ℕ) (nodes : List ℕ) : Type 0 where
  pub way : IsWay bases next nodes
  pub waiting : IsWayWaiting bases places nodes
  pub leads : (x b : ℕ) → Contains nodes x → next ≡ Some b → Leads (map option_to_list bases) x b
  pub known : (b : ℕ) → next ≡ Some b → b < length bases
  pub begun : Contains nodes from ⊎ (next ≡ Some from)

-- the order with a node settled is that with what comes next settled, and then the way down to the node
pub record IsWayTo (bases : List (Option ℕ)) (order : List ℕ) (from : ℕ) (next : Option ℕ) (nodes : List ℕ) : Type 0 where
  pub settles : (fuel : ℕ) → order_with (length nodes + fuel) bases order from ≡ with_base order (order_with fuel bases order) next ++ nodes

-- on the way down to a node: the base of the topmost has a place
pub record IsDescent (bases places : List (Option ℕ)) (from : ℕ) (nodes : List ℕ) : Type 0 where
  pub above : Option ℕ
  pub free : IsNextFree places above
  pub way : IsWay bases above nodes
  pub waiting : IsWayWaiting bases places nodes
  pub begun : Contains nodes from ⊎ HasOrderPlace places from

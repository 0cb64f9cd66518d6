-- Sets of the interfaces of classes.
use Rattle.std.specs.Prelude.{◌≡◌, ℕ, ◌<◌, ◌⊎◌, List, [], ◌∷◌, ◌++◌, Bool, true, false, Contains, IsTrue, Some, None, if◌then◌else◌, get_or, length, slice_get}
use Rattle.std.specs.declared.option.Option.{Option}
use Rattle.abc_base_graphs.specs.Graph.{Leads}
use Rattle.abc_link_names.specs.Interfaces.{class_graph}
use Rattle.abc_link_names.specs.Bases.{is_interface}
use Rattle.abc_file_types.specs.declared.tables.Abc.{Abc}

-- the set of a class: the numbers of its interfaces
abbrev pub Set : Type 0
Set = List ℕ

-- the first n of some numbers were added to a set, and nothing else
pub record AddsEach (old new numbers : List ℕ) (n : ℕ) : Type 0 where
  pub keeps : (y : ℕ) → Contains old y → Contains new y
  pub each : (j : ℕ) → j < n → Contains new (get_or numbers j 0)
  pub only : (y : ℕ) → Contains new y → Contains old y ⊎ Contains numbers y

-- some numbers were added to others, and nothing else
pub record AddsNumbers (old new numbers : List ℕ) : Type 0 where
  pub keeps : (y : ℕ) → Contains old y → Contains new y
  pub adds : (y : ℕ) → Contains numbers y → Contains new y
  pub only : (y : ℕ) → Contains new y → Contains old y ⊎ Contains numbers y

-- an interface that a class leads to
abbrev pub IsAbove : Abc → ℕ → ℕ → Type 0
IsAbove v k i = IsTrue (is_interface v i) × Leads (class_graph v) k i

-- the numbers are those of the interfaces of a class
pub record IsSetOf (v : Abc) (k : ℕ) (keys : List ℕ) : Type 0 where
  pub sound : (i : ℕ) → Contains keys i → IsAbove v k i
  pub complete : (i : ℕ) → IsAbove v k i → Contains keys i

-- each set that is there is that of its class
pub record AreSets (v : Abc) (sets : List (Option Set)) : Type 0 where
  pub exact : (k : ℕ) (s : Set) → slice_get sets k ≡ Some (Some s) → IsSetOf v k s

-- ---- the set of a class, if it is there

abbrev pub is_set_there : Option (Option Set) → Bool
is_set_there None = false
is_set_there (Some None) = false
is_set_there (Some (Some s)) = true

abbrev pub is_settled : List (Option Set) → ℕ → Bool
is_settled sets k = is_set_there (slice_get sets k)

abbrev pub keys_in : Option (Option Set) → List ℕ
keys_in None = []
keys_in (Some None) = []
keys_in (Some (Some s)) = s

abbrev pub keys_at : List (Option Set) → ℕ → List ℕ
keys_at sets k = keys_in (slice_get sets k)

-- what a class has of one that it leads to: that one itself, if it is an interface, and what that one has
abbrev pub interfaces_given_by : Abc → List (Option Set) → ℕ → List ℕ
interfaces_given_by v sets t = (if is_interface v t then t ∷ [] else []) ++ keys_at sets t

-- the numbers are what the first n of several classes give, or some of what all of them give
pub record GathersInterfaces (v : Abc) (sets : List (Option Set)) (classes list : List ℕ) (n : ℕ) : Type 0 where
  pub sound : (y : ℕ) → Contains list y → (t : ℕ) × Contains classes t × Contains (interfaces_given_by v sets t) y
  pub complete : (j y : ℕ) → j < n → Contains (interfaces_given_by v sets (get_or classes j 0)) y → Contains list y

-- no set is there
pub record AreUnset (sets : List (Option Set)) (n : ℕ) : Type 0 where
  pub len : length sets ≡ n
  pub none : (k : ℕ) (s : Set) → slice_get sets k ≡ Some (Some s) → ⊥

-- the interfaces among the first n classes that are marked
pub record ListsMarked (v : Abc) (marks : List Bool) (nodes : List ℕ) (n : ℕ) : Type 0 where
  pub sound : (k : ℕ) → Contains nodes k → (get_or marks k false ≡ true) × IsTrue (is_interface v k)
  pub complete : (k : ℕ) → k < n → get_or marks k false ≡ true → IsTrue (is_interface v k) → Contains nodes k

-- ---- steps

pub record Settles (v : Abc) (old new : List (Option Set)) (k : ℕ) : Type 0 where
  pub len : length new ≡ length old
  pub are : AreSets v new
  pub keeps : (x : ℕ) → is_settled old x ≡ true → is_settled new x ≡ true
  pub here : k < length old → is_settled new k ≡ true

pub record SettlesEach (v : Abc) (count : ℕ) (sets : List (Option Set)) (nodes : List ℕ) (n : ℕ) : Type 0 where
  pub len : length sets ≡ count
  pub are : AreSets v sets
  pub each : (j : ℕ) → j < n → get_or nodes j 0 < count → is_settled sets (get_or nodes j 0) ≡ true

-- the first n numbers are listed
pub record ListsBelow (nodes : List ℕ) (n : ℕ) : Type 0 where
  pub lists : (k : ℕ) → k < n → Contains nodes k

-- all classes have their sets
pub record HasAllSets (v : Abc) (sets : List (Option Set)) : Type 0 where
  pub are : AreSets v sets
  pub all : (k : ℕ) → k < length v.instances → is_settled sets k ≡ true

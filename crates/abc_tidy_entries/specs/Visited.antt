-- The visit of a file, and its tidied value (profile: docs/TIDYING.md, "The visit").
use Rattle.std.specs.Prelude.{◌≡◌, ℕ, ◌+◌, ◌<◌, ◌⊎◌, All, Bool, List, map, take, length, count_by, get_or, nat_eq, nat_le, if◌then◌else◌}
use Rattle.abc_base_graphs.specs.Graph.{leads_to}
use Rattle.abc_tidy_refs.specs.declared.nodes.Counts.{Counts}
use Rattle.abc_tidy_refs.specs.declared.nodes.Numbers.{Numbers}
use Rattle.abc_tidy_refs.specs.Nodes.{counts_of, node_of, new_index}
use Rattle.abc_tidy_refs.specs.Refs.{file_refs}
use Rattle.abc_tidy_refs.specs.Renumbered.{beside, new_file}
use Rattle.abc_file_types.specs.declared.tables.Abc.{Abc}
use Rattle.abc_base_trees.specs.Trees.{Tree, IsTree}
use Rattle.abc_base_trees.specs.Visits.{IsVisited}
use Rattle.abc_tidy_entries.specs.Entries.{graph_of, heads_of}
use Rattle.abc_tidy_entries.specs.NewPools.{new_pools}

-- the nodes that the definitions and bodies name, in file order; node 0 where they name nothing
abbrev pub roots_of : Abc → List ℕ
roots_of v = map (λ r. node_of (counts_of v) r.pool r.index) (file_refs v)

-- the tree of a node of the file: what the entry is, and the trees of what it names
abbrev pub IsTreeIn : Abc → ℕ → Tree → Type 0
IsTreeIn v x t = IsTree (heads_of v) (graph_of v) x t

-- the pool of a node, as its place in the file, counted from 1; 0 for node 0
abbrev pub pool_of_node : Counts → ℕ → ℕ
pool_of_node c x =
    if nat_eq x 0 then 0
    else if nat_le x c.ints then 1
    else if nat_le x (c.ints + c.uints) then 2
    else if nat_le x (c.ints + c.uints + c.doubles) then 3
    else if nat_le x (c.ints + c.uints + c.doubles + c.strings) then 4
    else if nat_le x (c.ints + c.uints + c.doubles + c.strings + c.namespaces) then 5
    else if nat_le x (c.ints + c.uints + c.doubles + c.strings + c.namespaces + c.sets) then 6
    else 7

abbrev pub is_of_pool : Counts → ℕ → ℕ → Bool
is_of_pool c pool y = nat_eq (pool_of_node c y) pool

-- the number of the node that was met at a place: how many of its pool were met up to it
abbrev pub number_of_node : Counts → List ℕ → ℕ → ℕ
number_of_node c seen i =
    if nat_eq (pool_of_node c (get_or seen i 0)) 0 then 0
    else count_by (is_of_pool c (pool_of_node c (get_or seen i 0))) (take (i + 1) seen)

-- The node stands in a list.
pub record IsAmong (nodes : List ℕ) (y : ℕ) : Type 0 where
  pub place : ℕ
  pub within : place < length nodes
  pub is : get_or nodes place 0 ≡ y

-- The node is named by an entry that was met.
pub record IsPart (v : Abc) (seen : List ℕ) (y : ℕ) : Type 0 where
  pub by : ℕ
  pub within : by < length seen
  pub among : IsAmong (leads_to (graph_of v) (get_or seen by 0)) y

-- The node is named by the definitions and bodies, or by an entry that was met.
abbrev pub IsNamed : Abc → List ℕ → ℕ → Type 0
IsNamed v seen y = IsAmong (roots_of v) y ⊎ IsPart v seen y

-- the number of a node that is named is that of the one with its tree that was met
pub record NumberNodes (v : Abc) (seen numbers : List ℕ) : Type 0 where
  pub numbers_of : (i y : ℕ) (t : Tree) → i < length seen → IsNamed v seen y → IsTreeIn v (get_or seen i 0) t → IsTreeIn v y t → get_or numbers y 0 ≡ number_of_node (counts_of v) seen i

-- The tidied value of a file: its definitions and bodies with the new numbers, beside the pools of the entries that were met,
-- each of which is one of the file.
pub record IsTidiedValue (v t : Abc) : Type 0 where
  pub seen : List ℕ
  pub numbers : List ℕ
  pub nodes : All (λ x. x < length (graph_of v)) seen
  pub visited : IsVisited (heads_of v) (graph_of v) (roots_of v) seen
  pub numbered : NumberNodes v seen numbers
  pub is : let f : Numbers = record { counts = counts_of v; numbers = numbers } in t ≡ beside (new_file (new_index f) v) (new_pools f v seen)

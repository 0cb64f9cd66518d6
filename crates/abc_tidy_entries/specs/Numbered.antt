-- For the prover alone: how the new numbers are found.
use Rattle.std.specs.Prelude.{◌≡◌, ℕ, ◌+◌, ◌<◌, List, Some, None, count_by, get_or, length, nat_eq, set, take, if◌then◌else◌}
use Rattle.std.specs.declared.option.Option.{Option}
use Rattle.abc_tidy_refs.specs.declared.nodes.Counts.{Counts}
use Rattle.abc_base_trees.specs.Classes.{tree_class}
use Rattle.abc_tidy_entries.specs.Visited.{is_of_pool, number_of_node, pool_of_node}

-- each class of the first n nodes that were met has its place among them
pub record AreClassPlaces (classes : List (Option ℕ)) (seen : List ℕ) (n : ℕ) (places : List ℕ) : Type 0 where
  pub places_are : (i c : ℕ) → i < n → tree_class classes (get_or seen i 0) ≡ Some c → get_or places c 0 ≡ i

-- the places once one more class, if there is one, has its place
abbrev pub with_place : List ℕ → Option ℕ → ℕ → List ℕ
with_place places None n = places
with_place places (Some c) n = set places c n

abbrev pub next_of_pool : Counts → List ℕ → ℕ → ℕ
next_of_pool c met x = if nat_eq (pool_of_node c x) 0 then 0 else get_or met (pool_of_node c x) 0 + 1

-- the first n nodes that were met are counted by pools, and have their numbers
pub record IsCounting (c : Counts) (seen : List ℕ) (n : ℕ) (met numbers : List ℕ) : Type 0 where
  pub pools : length met ≡ 8
  pub counted : (p : ℕ) → p < 8 → get_or met p 0 ≡ count_by (is_of_pool c p) (take n seen)
  pub many : length numbers ≡ n
  pub numbers_are : (i : ℕ) → i < n → get_or numbers i 0 ≡ number_of_node c seen i

pub record AreNumbersMet (c : Counts) (seen numbers : List ℕ) : Type 0 where
  pub numbers_are : (i : ℕ) → i < length seen → get_or numbers i 0 ≡ number_of_node c seen i

abbrev pub number_of_entry : List ℕ → List ℕ → Option ℕ → ℕ
number_of_entry places numbers None = 0
number_of_entry places numbers (Some c) = get_or numbers (get_or places c 0) 0

abbrev pub node_number : List (Option ℕ) → List ℕ → List ℕ → ℕ → ℕ
node_number classes places numbers x = number_of_entry places numbers (tree_class classes x)

-- the numbers of the first n nodes
pub record AreNodeNumbers (classes : List (Option ℕ)) (places numbers : List ℕ) (n : ℕ) (all : List ℕ) : Type 0 where
  pub many : length all ≡ n
  pub numbers_are : (x : ℕ) → x < n → get_or all x 0 ≡ node_number classes places numbers x

-- For the prover alone: heads that tell the marked entries apart as those of the file do. What a value is by itself is its
-- place among the marked values.
use Rattle.std.specs.Prelude.{◌≡◌, ℕ, ◌+◌, ◌<◌, ◌≤◌, List, Bool, Contains, get_or, length}
use Rattle.abc_base_graphs.specs.Graph.{Has}
use Rattle.abc_base_trees.specs.declared.heads.Head.{Head}
use Rattle.abc_base_trees.specs.Trees.{head_of_tree}
use Rattle.abc_tidy_entries.specs.Entries.{place_among}

-- those of the first n values that are marked stand in a list
pub record HoldsMarked {A : Type 0} (marks : List Bool) (begin : ℕ) (values : List A) (n : ℕ) (chosen : List A) : Type 0 where
  pub holds : (i : ℕ) (d : A) → i < n → i < length values → Has marks (begin + i) → Contains chosen (get_or values i d)

-- those of the first n values that are marked have their places in a list
pub record HasHeadPlaces {A : Type 0} (eq : A → A → Bool) (marks : List Bool) (begin : ℕ) (values chosen : List A) (n : ℕ) (places : List ℕ) : Type 0 where
  pub many : length places ≡ n
  pub placed : (i : ℕ) (d : A) → i < n → i < length values → Has marks (begin + i) → get_or places i 0 ≡ place_among eq chosen (get_or values i d)

-- the marked values have their places among some that hold them
pub record ArePlaced {A : Type 0} (eq : A → A → Bool) (marks : List Bool) (begin : ℕ) (values : List A) (places : List ℕ) : Type 0 where
  pub chosen : List A
  pub holds : HoldsMarked marks begin values (length values) chosen
  pub has : HasHeadPlaces eq marks begin values chosen (length values) places

-- numbers tell what is marked apart as others do
pub record TellApart (marks : List Bool) (begin : ℕ) (xs ys : List ℕ) : Type 0 where
  pub many : length xs ≡ length ys
  pub there : (i j : ℕ) → i < length xs → j < length xs → Has marks (begin + i) → Has marks (begin + j) → get_or xs i 0 ≡ get_or xs j 0 → get_or ys i 0 ≡ get_or ys j 0
  pub back : (i j : ℕ) → i < length xs → j < length xs → Has marks (begin + i) → Has marks (begin + j) → get_or ys i 0 ≡ get_or ys j 0 → get_or xs i 0 ≡ get_or xs j 0

-- heads, from a node on, tell what is marked apart as others do
pub record TellHeads (marks : List Bool) (begin : ℕ) (hs ks : List Head) : Type 0 where
  pub many : length hs ≡ length ks
  pub there : (i j : ℕ) → i < length hs → j < length hs → Has marks (begin + i) → Has marks (begin + j) → head_of_tree hs i ≡ head_of_tree hs j → head_of_tree ks i ≡ head_of_tree ks j
  pub back : (i j : ℕ) → i < length hs → j < length hs → Has marks (begin + i) → Has marks (begin + j) → head_of_tree ks i ≡ head_of_tree ks j → head_of_tree hs i ≡ head_of_tree hs j

-- heads of so low a kind, and of higher ones
pub record AreLow (kind : ℕ) (hs : List Head) : Type 0 where
  pub low : (i : ℕ) → i < length hs → (head_of_tree hs i).kind < kind

pub record AreHigh (kind : ℕ) (hs : List Head) : Type 0 where
  pub high : (i : ℕ) → i < length hs → kind ≤ (head_of_tree hs i).kind

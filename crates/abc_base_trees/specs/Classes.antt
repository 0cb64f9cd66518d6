-- Classes of nodes: those that have equal trees have equal numbers. A class is the place of a key, and a key names the
-- classes of the parts of a tree.
use Rattle.std.specs.Prelude.{◌≡◌, ℕ, ◌<◌, ◌⊎◌, List, [], ◌∷◌, Bool, nat_eq, ◌&&◌, slice_get, Some, None, get_or, length, drop}
use Rattle.std.specs.declared.option.Option.{Option}
use Rattle.abc_base_graphs.specs.Graph.{leads_to}
use Rattle.abc_base_trees.specs.declared.heads.Head.{Head}
use Rattle.abc_base_trees.specs.declared.keys.Key.{Key}
use Rattle.abc_base_trees.specs.Trees.{Tree, Leaf, Apply, GrowsTrees, IsTree}

abbrev pub leaf_key : Head → Key
leaf_key h = record { step = 0; kind = h.kind; first = h.value; second = 0 }

abbrev pub apply_key : ℕ → ℕ → Key
apply_key tree part = record { step = 1; kind = 0; first = tree; second = part }

abbrev pub tree_keys_eq : Key → Key → Bool
tree_keys_eq a b = nat_eq a.step b.step && (nat_eq a.kind b.kind && (nat_eq a.first b.first && nat_eq a.second b.second))

-- The tree that a class stands for.
pub data MeansTree (keys : List Key) : ℕ → Tree → Type 0 where
  MeansLeaf : {c : ℕ} {h : Head} → slice_get keys c ≡ Some (leaf_key h) → MeansTree keys c (Leaf h)
  MeansApply : {c tree part : ℕ} {t u : Tree} → slice_get keys c ≡ Some (apply_key tree part) → MeansTree keys tree t → MeansTree keys part u → MeansTree keys c (Apply t u)

-- the class of a node, if it has one
abbrev pub tree_class : List (Option ℕ) → ℕ → Option ℕ
tree_class classes x = get_or classes x None

-- The node has a tree, which the class stands for.
pub record HasTree (heads : List Head) (graph : List (List ℕ)) (keys : List Key) (x c : ℕ) : Type 0 where
  pub tree : Tree
  pub is : IsTree heads graph x tree
  pub means : MeansTree keys c tree

-- the node x has a class
pub record HasClass (classes : List (Option ℕ)) (x : ℕ) : Type 0 where
  pub number : ℕ
  pub is : tree_class classes x ≡ Some number

-- each of these nodes has a class
abbrev pub AllClassed : List (Option ℕ) → List ℕ → Type 0
AllClassed classes [] = Unit {0}
AllClassed classes (x ∷ xs) = HasClass classes x × AllClassed classes xs

-- each class that a node has is that of its tree, and the nodes that it leads to have classes too
pub record AreTreeClasses (heads : List Head) (graph : List (List ℕ)) (keys : List Key) (classes : List (Option ℕ)) : Type 0 where
  pub len : length classes ≡ length graph
  pub tree : (x c : ℕ) → tree_class classes x ≡ Some c → HasTree heads graph keys x c
  pub closed : (x c : ℕ) → tree_class classes x ≡ Some c → (k : ℕ) → k < length (leads_to graph x) → HasClass classes (get_or (leads_to graph x) k 0)

-- no two nodes of a list have one class
pub record HaveOwnClasses (classes : List (Option ℕ)) (nodes : List ℕ) : Type 0 where
  pub one : (i j c : ℕ) → i < length nodes → j < length nodes → tree_class classes (get_or nodes i 0) ≡ Some c → tree_class classes (get_or nodes j 0) ≡ Some c → i ≡ j

-- ---- how keys are added

-- no key stands at two places
pub record AreDistinct (keys : List Key) : Type 0 where
  pub one : (c d : ℕ) (k : Key) → slice_get keys c ≡ Some k → slice_get keys d ≡ Some k → c ≡ d

-- each key keeps its place
pub record Extends (old new : List Key) : Type 0 where
  pub keeps : (c : ℕ) (k : Key) → slice_get old c ≡ Some k → slice_get new c ≡ Some k

-- For the prover alone: the class so far of a node whose first i parts were added to its head.
pub record IsBuilt (heads : List Head) (graph : List (List ℕ)) (x i : ℕ) (old keys : List Key) (classes : List (Option ℕ)) (c : ℕ) : Type 0 where
  pub distinct : AreDistinct keys
  pub extends : Extends old keys
  pub tree : Tree
  pub means : MeansTree keys c tree
  pub grows : (t : Tree) → GrowsTrees heads graph (drop i (leads_to graph x)) tree t → IsTree heads graph x t
  pub classed : (k : ℕ) → k < i → HasClass classes (get_or (leads_to graph x) k 0)

-- For the prover alone: the class of a node, all of whose parts were added, if there is one.
pub record IsClassOf (heads : List Head) (graph : List (List ℕ)) (x : ℕ) (keys : List Key) (classes : List (Option ℕ)) (c : ℕ) : Type 0 where
  pub tree : HasTree heads graph keys x c
  pub classed : (k : ℕ) → k < length (leads_to graph x) → HasClass classes (get_or (leads_to graph x) k 0)

-- For the prover alone: a node leads to one that has no class.
pub record HasUnclassed (graph : List (List ℕ)) (x : ℕ) (classes : List (Option ℕ)) : Type 0 where
  pub part : ℕ
  pub within : part < length (leads_to graph x)
  pub none : tree_class classes (get_or (leads_to graph x) part 0) ≡ None

-- For the prover alone: no class is lost, a node has one where all that it leads to have, and no other gets one.
pub record Gains (graph : List (List ℕ)) (x : ℕ) (old new : List (Option ℕ)) : Type 0 where
  pub keeps : (y : ℕ) → HasClass old y → HasClass new y
  pub gains : x < length graph → ((k : ℕ) → k < length (leads_to graph x) → HasClass old (get_or (leads_to graph x) k 0)) → HasClass new x
  pub only : (y : ℕ) → HasClass new y → HasClass old y ⊎ (y ≡ x)

-- the first n nodes of a list have classes
pub record AreSettled (classes : List (Option ℕ)) (order : List ℕ) (n : ℕ) : Type 0 where
  pub settled : (k : ℕ) → k < n → k < length order → HasClass classes (get_or order k 0)

-- The trees of the nodes of a graph whose nodes have heads: at the root the head of the node, and under it the trees of the nodes that it leads to,
-- in order (profile: docs/TIDYING.md, "When two entries are one").
use Rattle.std.specs.Prelude.{ℕ, List, [], ◌∷◌, Bool, false, nat_eq, ◌&&◌, get_or}
use Rattle.abc_base_graphs.specs.Graph.{leads_to}
use Rattle.abc_base_trees.specs.declared.heads.Head.{Head}

-- A tree: a head alone, or a tree with one more tree under its root.
pub data Tree : Type 0 where
  Leaf : Head → Tree
  Apply : Tree → Tree → Tree

-- a node past the end has the head of nothing
abbrev pub no_head : Head
no_head = record { kind = 0; value = 0 }

abbrev pub head_of_tree : List Head → ℕ → Head
head_of_tree heads x = get_or heads x no_head

-- Under the root of the first tree come the trees of some nodes: that gives the second tree.
pub data GrowsTrees (heads : List Head) (graph : List (List ℕ)) : List ℕ → Tree → Tree → Type 0 where
  Done : {t : Tree} → GrowsTrees heads graph [] t t
  More : {x : ℕ} {xs : List ℕ} {t part u : Tree} → GrowsTrees heads graph (leads_to graph x) (Leaf (head_of_tree heads x)) part → GrowsTrees heads graph xs (Apply t part) u → GrowsTrees heads graph (x ∷ xs) t u

-- The tree of a node. A node that returns to itself has none.
abbrev pub IsTree : List Head → List (List ℕ) → ℕ → Tree → Type 0
IsTree heads graph x t = GrowsTrees heads graph (leads_to graph x) (Leaf (head_of_tree heads x)) t

-- the trees of some nodes
pub data AreTrees (heads : List Head) (graph : List (List ℕ)) : List ℕ → List Tree → Type 0 where
  NoTrees : AreTrees heads graph [] []
  OneMore : {x : ℕ} {xs : List ℕ} {t : Tree} {ts : List Tree} → IsTree heads graph x t → AreTrees heads graph xs ts → AreTrees heads graph (x ∷ xs) (t ∷ ts)

-- ---- equality

abbrev pub head_eq : Head → Head → Bool
head_eq a b = nat_eq a.kind b.kind && nat_eq a.value b.value

abbrev pub tree_eq : Tree → Tree → Bool
tree_eq (Leaf a) (Leaf b) = head_eq a b
tree_eq (Leaf a) (Apply t u) = false
tree_eq (Apply t u) (Leaf a) = false
tree_eq (Apply t u) (Apply v w) = tree_eq t v && tree_eq u w

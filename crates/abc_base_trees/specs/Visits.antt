-- The visit of trees: each that was not met before takes its place at the end of those that were, and then the trees under its root are visited in
-- order (profile: docs/TIDYING.md, "The visit").
use Rattle.std.specs.Prelude.{◌≡◌, ℕ, ◌<◌, List, [], ◌∷◌, ◌++◌, Bool, true, false, if◌then◌else◌, get_or, length, Some}
use Rattle.std.specs.declared.option.Option.{Option}
use Rattle.std.specs.List.{list_any}
use Rattle.abc_base_trees.specs.declared.heads.Head.{Head}
use Rattle.abc_base_trees.specs.declared.keys.Key.{Key}
use Rattle.abc_base_trees.specs.Classes.{MeansTree, AllClassed, HaveOwnClasses, tree_class}
use Rattle.abc_base_trees.specs.Trees.{Tree, Leaf, Apply, AreTrees, tree_eq}

abbrev pub is_met : Tree → List Tree → Bool
is_met t met = list_any (tree_eq t) met

-- those that were met, once the trees under the root of a tree are visited too
abbrev pub visit_parts : Tree → List Tree → List Tree
visit_parts (Leaf h) met = met
visit_parts (Apply t part) met = let before = visit_parts t met in if is_met part before then before else visit_parts part (before ++ part ∷ [])

-- those that were met, once a tree is visited too
abbrev pub visit : Tree → List Tree → List Tree
visit t met = if is_met t met then met else visit_parts t (met ++ t ∷ [])

abbrev pub visit_all : List Tree → List Tree → List Tree
visit_all [] met = met
visit_all (t ∷ ts) met = visit_all ts (visit t met)

-- ---- of nodes

-- The nodes were met in the order in which the trees of some nodes are visited: each stands for a tree that was met.
pub record IsVisited (heads : List Head) (graph : List (List ℕ)) (roots seen : List ℕ) : Type 0 where
  pub trees : List Tree
  pub rooted : AreTrees heads graph roots trees
  pub order : AreTrees heads graph seen (visit_all trees [])

-- For the prover alone: some nodes were met, those on the stack are still to be visited, and that gives `final`.
pub record IsVisit (heads : List Head) (graph : List (List ℕ)) (keys : List Key) (classes : List (Option ℕ)) (final : List Tree) (met opened : List Bool) (seen todo : List ℕ) : Type 0 where
  pub coming : List Tree
  pub trees : List Tree
  pub are_coming : AreTrees heads graph todo coming
  pub are_trees : AreTrees heads graph seen trees
  pub rest : visit_all coming trees ≡ final
  pub marks : (c : ℕ) (t : Tree) → MeansTree keys c t → get_or met c false ≡ is_met t trees
  pub opens : (x c : ℕ) → get_or opened x false ≡ true → tree_class classes x ≡ Some c → get_or met c false ≡ true
  pub classed : AllClassed classes todo
  pub seen_classed : AllClassed classes seen
  pub seen_met : (i c : ℕ) → i < length seen → tree_class classes (get_or seen i 0) ≡ Some c → get_or met c false ≡ true
  pub apart : HaveOwnClasses classes seen
  pub classes_len : length met ≡ length keys
  pub nodes_len : length opened ≡ length graph

-- For the prover alone: the same for the visit of some roots.
pub record IsVisitOf (heads : List Head) (graph : List (List ℕ)) (keys : List Key) (classes : List (Option ℕ)) (roots : List ℕ) (met opened : List Bool) (seen todo : List ℕ) : Type 0 where
  pub trees : List Tree
  pub rooted : AreTrees heads graph roots trees
  pub visit : IsVisit heads graph keys classes (visit_all trees []) met opened seen todo

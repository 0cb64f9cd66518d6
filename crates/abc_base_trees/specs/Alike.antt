-- For the prover alone: two lists of heads tell the nodes that have classes apart alike.
use Rattle.std.specs.Prelude.{◌≡◌, ℕ, List}
use Rattle.std.specs.declared.option.Option.{Option}
use Rattle.abc_base_trees.specs.declared.heads.Head.{Head}
use Rattle.abc_base_trees.specs.Classes.{HasClass}
use Rattle.abc_base_trees.specs.Trees.{head_of_tree}

-- Two nodes with classes have equal heads in the one list exactly where they have equal heads in the other.
pub record AreAlike (classes : List (Option ℕ)) (hs ks : List Head) : Type 0 where
  pub there : (x y : ℕ) → HasClass classes x → HasClass classes y → head_of_tree hs x ≡ head_of_tree hs y → head_of_tree ks x ≡ head_of_tree ks y
  pub back : (x y : ℕ) → HasClass classes x → HasClass classes y → head_of_tree ks x ≡ head_of_tree ks y → head_of_tree hs x ≡ head_of_tree hs y

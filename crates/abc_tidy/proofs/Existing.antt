-- A file of which no name that is visited reaches itself has a tidied value.
use Rattle.std.proofs.Common.{◌≡◌, ℕ, zero, suc, ◌+◌, ◌<◌, ◌⊎◌, inl, inr, List, [], ◌∷◌, ◌++◌, Bool, true, false, if◌then◌else◌, All, flat_map, length, get_or, nat_eq, eqb-true, refl, sym, ap, subst, ◌∙◌, arith}
use Rattle.std.proofs.lemmas.Bool.{eqb-false}
use Rattle.abc_base_graphs.specs.Graph.{leads_to}
use Rattle.abc_tidy_refs.specs.declared.nodes.Numbers.{Numbers}
use Rattle.abc_tidy_refs.specs.Nodes.{counts_of, new_index}
use Rattle.abc_tidy_refs.specs.Renumbered.{beside, new_file}
use Rattle.abc_file_types.specs.declared.tables.Abc.{Abc}
use Rattle.abc_base_trees.specs.declared.heads.Head.{Head}
use Rattle.abc_base_trees.specs.Orders.{StandsIn, Onward, ReachesNode, Root}
use Rattle.abc_base_trees.specs.Trees.{AreTrees, IsTree, Leaf, NoTrees, OneMore, Tree, no_head, tree_eq}
use Rattle.abc_base_trees.specs.Visits.{visit_all}
use Rattle.abc_base_trees.proofs.TreeLaws.{one_tree, trees_apart, trees_refl}
use Rattle.abc_base_trees.proofs.Walked.{reached_within}
use Rattle.abc_tidy_entries.specs.declared.error.TidyRule.TheVariants as rules
use Rattle.abc_tidy_entries.specs.Entries.{graph_of, heads_of}
use Rattle.abc_tidy_entries.specs.NewPools.{new_pools}
use Rattle.abc_tidy_entries.specs.Rules.{HoldsTidyRule}
use Rattle.abc_tidy_entries.specs.Visited.{IsNamed, IsTidiedValue, IsTreeIn, number_of_node, roots_of}
use Rattle.abc_tidy_entries.proofs.NodeGraph.{is_graph, never_returns, roots_within}
use Rattle.abc_tidy.proofs.Again.{in_flat}
use Rattle.abc_tidy.proofs.Alike.{tree_parts}
use Rattle.abc_tidy.proofs.Distinct.{Distinct, all_distinct}
use Rattle.abc_tidy.proofs.Lists.{in_at, in_left, in_right}
use Rattle.abc_tidy.proofs.Same.{trees_at, trees_many}
use Rattle.abc_tidy.proofs.Treed.{AllStand, are_append, are_under, met_nodes, rooted_trees}

-- ---- the place of a tree, and numbers of nodes by their trees

place : List Tree → Tree → ℕ
place [] t = 0
place (m ∷ ms) t = if tree_eq m t then 0 else suc (place ms t)

place_is : (ms : List Tree) (t d : Tree) (i : ℕ) → Distinct ms → i < length ms → get_or ms i d ≡ t → place ms t ≡ i
unfolding place
place_is [] t d i s lt e = absurd (none i lt)
  where
    none : (i : ℕ) → i < 0 → ⊥
    none i l = omega arith
place_is (m ∷ ms) t d zero s lt e =
    let same : tree_eq m t ≡ true = subst (λ u. tree_eq m u ≡ true) e (trees_refl m) in
    ap (λ b. if b then 0 else suc (place ms t)) same
place_is (m ∷ ms) t d (suc i) s lt e =
    let other : tree_eq m t ≡ false = trees_apart m t (λ q. s.0 (subst (λ u. StandsIn u ms) (e ∙ sym q) (in_at ms i d (omega arith)))) in
    ap (λ b. if b then 0 else suc (place ms t)) other ∙ ap suc (place_is ms t d i s.1 (omega arith) e)

-- the number of a node that stands among some, by the tree that stands beside it
found : (Tree → ℕ) → List ℕ → List Tree → ℕ → ℕ
found f [] ts y = 0
found f (x ∷ xs) [] y = 0
found f (x ∷ xs) (t ∷ ts) y = if nat_eq x y then f t else found f xs ts y

found_is : {heads : List Head} {graph : List (List ℕ)} (f : Tree → ℕ) (xs : List ℕ) (ts : List Tree) (y : ℕ) (t : Tree) → AreTrees heads graph xs ts → StandsIn y xs → IsTree heads graph y t → found f xs ts y ≡ f t
unfolding found
found_is f xs ts y t NoTrees h g = absurd h
found_is {heads} {graph} f xs0 ts0 y t (OneMore {x = x} {xs = xs} {t = u} {ts = ts} k are) h g = go (nat_eq x y) refl h (λ m. found_is f xs ts y t are m g)
  where
    here : x ≡ y → f u ≡ f t
    here e = ap f (one_tree (subst (λ z. IsTree heads graph z u) e k) g)

    go : (b : Bool) → nat_eq x y ≡ b → StandsIn y (x ∷ xs) → (StandsIn y xs → found f xs ts y ≡ f t) → (if b then f u else found f xs ts y) ≡ f t
    go true e m k = here (eqb-true x y e)
    go false e (inl q) k = absurd (eqb-false x y e (sym q))
    go false e (inr m) k = k m

-- a list by what stands at each of its places
listed : (ℕ → ℕ) → ℕ → ℕ → List ℕ
listed f k zero = []
listed f k (suc n) = f k ∷ listed f (suc k) n

listed_at : (f : ℕ → ℕ) (k n i : ℕ) → i < n → get_or (listed f k n) i 0 ≡ f (i + k)
unfolding listed
listed_at f k zero i lt = absurd (none i lt)
  where
    none : (i : ℕ) → i < 0 → ⊥
    none i l = omega arith
listed_at f k (suc n) zero lt = let e : k ≡ zero + k = omega arith in ap f e
listed_at f k (suc n) (suc i) lt = let e : i + suc k ≡ suc i + k = omega arith in listed_at f (suc k) n i (omega arith) ∙ ap f e

-- ---- the tidied value

module _ (v : Abc) (holds : HoldsTidyRule v rules.NameCycle) where
  rooted : (ts : List Tree) × AreTrees (heads_of v) (graph_of v) (roots_of v) ts
  rooted = rooted_trees (heads_of v) (graph_of v) (roots_of v) (never_returns v (graph_of v) (roots_of v) refl refl holds)

  abbrev met : List Tree
  met = visit_all rooted.0 []

  stand : AllStand (heads_of v) (graph_of v) (roots_of v) met
  stand = met_nodes (heads_of v) (graph_of v) (roots_of v) rooted.0 rooted.1

  abbrev seen : List ℕ
  seen = stand.nodes

  within : (y : ℕ) → ReachesNode (graph_of v) (roots_of v) y → y < length (graph_of v)
  within y r = reached_within (graph_of v) (roots_of v) y (is_graph v (graph_of v) refl) (roots_within v (graph_of v) (roots_of v) refl refl) r

  -- the nodes that are named, and their trees
  abbrev named : List ℕ
  named = roots_of v ++ flat_map (leads_to (graph_of v)) seen

  named_trees : AreTrees (heads_of v) (graph_of v) named (rooted.0 ++ flat_map tree_parts met)
  named_trees = are_append rooted.1 (are_under stand.are)

  in_root : (i y : ℕ) → i < length (roots_of v) → get_or (roots_of v) i 0 ≡ y → StandsIn y (roots_of v)
  in_root i y lt e = subst (λ z. StandsIn z (roots_of v)) e (in_at (roots_of v) i 0 lt)

  in_part : (x i y : ℕ) → i < length (leads_to (graph_of v) x) → get_or (leads_to (graph_of v) x) i 0 ≡ y → StandsIn y (leads_to (graph_of v) x)
  in_part x i y lt e = subst (λ z. StandsIn z (leads_to (graph_of v) x)) e (in_at (leads_to (graph_of v) x) i 0 lt)

  named_in : (y : ℕ) → IsNamed v seen y → StandsIn y named
  named_in y (inl a) = in_left (roots_of v) (flat_map (leads_to (graph_of v)) seen) y (in_root a.place y a.within a.is)
  named_in y (inr p) =
      in_right (roots_of v) (flat_map (leads_to (graph_of v)) seen) y
      (in_flat (leads_to (graph_of v)) seen (get_or seen p.by 0) y (in_at seen p.by 0 p.within) (in_part (get_or seen p.by 0) p.among.place y p.among.within p.among.is))

  named_within : (y : ℕ) → IsNamed v seen y → y < length (graph_of v)
  named_within y (inl a) = within y (Root (in_root a.place y a.within a.is))
  named_within y (inr p) = within y (Onward (stand.reached (get_or seen p.by 0) (in_at seen p.by 0 p.within)) (in_part (get_or seen p.by 0) p.among.place y p.among.within p.among.is))

  number_of : Tree → ℕ
  number_of t = number_of_node (counts_of v) seen (place met t)

  by_tree : ℕ → ℕ
  by_tree y = found number_of named (rooted.0 ++ flat_map tree_parts met) y

  numbers : List ℕ
  numbers = listed by_tree 0 (length (graph_of v))

  number_is : (i y : ℕ) (t : Tree) → i < length seen → IsNamed v seen y → IsTreeIn v (get_or seen i 0) t → IsTreeIn v y t → get_or numbers y 0 ≡ number_of_node (counts_of v) seen i
  unfolding numbers by_tree number_of
  number_is i y t lt n here there =
      let at : get_or numbers y 0 ≡ by_tree (y + 0) = listed_at by_tree 0 (length (graph_of v)) y (named_within y n) in
      let is : get_or met i (Leaf no_head) ≡ t = one_tree (trees_at (heads_of v) (graph_of v) seen met i (Leaf no_head) stand.are lt) here in
      let p : place met t ≡ i = place_is met t (Leaf no_head) i (all_distinct rooted.0 [] tt) (subst (λ k. i < k) (trees_many stand.are) lt) is in
      let back : y + 0 ≡ y = omega arith in
      at ∙ ap by_tree back ∙ found_is number_of named (rooted.0 ++ flat_map tree_parts met) y t named_trees (named_in y n) there ∙ ap (number_of_node (counts_of v) seen) p

  abbrev with_them : Numbers
  with_them = record { counts = counts_of v; numbers = numbers }

  pub has_value : (t : Abc) × IsTidiedValue v t
  has_value = (
    _,
    record {
      seen = seen;
      numbers = numbers;
      nodes = λ k d lt. within (get_or seen k d) (stand.reached (get_or seen k d) (in_at seen k d lt));
      visited = record { trees = rooted.0; rooted = rooted.1; order = stand.are };
      numbered = record { numbers_of = number_is };
      is = refl;
    },
  )

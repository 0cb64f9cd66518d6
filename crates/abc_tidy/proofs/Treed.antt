-- Where none that some nodes lead to returns to itself, each of them has a tree.
use Rattle.std.proofs.Common.{◌≡◌, ℕ, zero, suc, ◌<◌, ◌≤◌, ◌⊎◌, inl, inr, List, [], ◌∷◌, ◌++◌, Bool, true, false, if◌then◌else◌, Contains, flat_map, length, refl, sym, ap, subst, arith}
use Rattle.std.proofs.lemmas.Bool.{cases_lt}
use Rattle.std.proofs.lemmas.List.{get_or_past}
use Rattle.abc_base_graphs.specs.Graph.{Edge, Leads, Returns, leads_to}
use Rattle.abc_base_graphs.proofs.Searched.{leads_on}
use Rattle.abc_base_trees.specs.declared.heads.Head.{Head}
use Rattle.abc_base_trees.specs.Orders.{StandsIn, NoneReturns, Onward, ReachesNode, Root}
use Rattle.abc_base_trees.specs.Trees.{Apply, AreTrees, Done, GrowsTrees, IsTree, Leaf, More, NoTrees, OneMore, Tree, head_of_tree}
use Rattle.abc_base_trees.specs.Visits.{is_met, visit, visit_all, visit_parts}
use Rattle.abc_base_trees.proofs.Walked.{contains_of}
use Rattle.abc_tidy.proofs.Alike.{tree_parts}
use Rattle.abc_tidy.proofs.Closed.{node_parts}
use Rattle.abc_tidy.proofs.Lists.{Each, each_append, in_left, in_right}

-- ---- lists of nodes

-- a list without one of its nodes
record Rest (y : ℕ) (zs : List ℕ) : Type 0 where
  nodes : List ℕ
  less : length zs ≡ suc (length nodes)
  kept : (z : ℕ) → StandsIn z zs → (z ≡ y) ⊎ StandsIn z nodes

rest : (y : ℕ) (zs : List ℕ) → StandsIn y zs → Rest y zs
rest y [] h = absurd h
rest y (z ∷ zs) (inl e) = record { nodes = zs; less = refl; kept = go }
  where
    go : (w : ℕ) → StandsIn w (z ∷ zs) → (w ≡ y) ⊎ StandsIn w zs
    go w (inl k) = inl (subst (λ u. w ≡ u) (sym e) k)
    go w (inr k) = inr k
rest y (z ∷ zs) (inr h) = let r = rest y zs h in record { nodes = z ∷ r.nodes; less = ap suc r.less; kept = λ w k. go r w k }
  where
    next : (r : Rest y zs) (w : ℕ) → (w ≡ y) ⊎ StandsIn w r.nodes → (w ≡ y) ⊎ StandsIn w (z ∷ r.nodes)
    next r w (inl e) = inl e
    next r w (inr m) = inr (inr m)

    go : (r : Rest y zs) (w : ℕ) → StandsIn w (z ∷ zs) → (w ≡ y) ⊎ StandsIn w (z ∷ r.nodes)
    go r w (inl k) = inr (inl k)
    go r w (inr k) = next r w (r.kept w k)

-- the numbers below a number
below : ℕ → List ℕ
below zero = []
below (suc n) = n ∷ below n

in_below : (n z : ℕ) → z < n → StandsIn z (below n)
unfolding below
in_below zero z lt = absurd (none z lt)
  where
    none : (z : ℕ) → z < 0 → ⊥
    none z l = omega arith
in_below (suc n) z lt = go (cases_lt z n) (in_below n z)
  where
    go : (z < n) ⊎ (n ≤ z) → (z < n → StandsIn z (below n)) → StandsIn z (n ∷ below n)
    go (inl l) f = inr (f l)
    go (inr le) f = let e : z ≡ n = omega (arith, lt, le) in inl e

-- ---- trees

grown : {heads : List Head} {graph : List (List ℕ)} (xs : List ℕ) → ((y : ℕ) → StandsIn y xs → (t : Tree) × IsTree heads graph y t) → (t : Tree) → (u : Tree) × GrowsTrees heads graph xs t u
grown [] f t = (t, Done)
grown (x ∷ xs) f t = let p = f x (inl refl) in let r = grown xs (λ y h. f y (inr h)) (Apply t p.0) in (r.0, More p.1 r.1)

-- each node is left, or is a node, or leads to it
abbrev Way : List (List ℕ) → ℕ → List ℕ → Type 0
Way graph x left = (z : ℕ) → z < length graph → StandsIn z left ⊎ ((z ≡ x) ⊎ Leads graph z x)

-- the same, with one node less than these
record Next (graph : List (List ℕ)) (y : ℕ) (left : List ℕ) : Type 0 where
  nodes : List ℕ
  less : length left ≡ suc (length nodes)
  way : Way graph y nodes

none_left : (left : List ℕ) (k : ℕ) → length left ≤ 0 → length left ≡ suc k → ⊥
none_left left k le e = omega (arith, le, e)

le_self : (n : ℕ) → n ≤ n
le_self n = omega arith

fewer : (left : List ℕ) (n k : ℕ) → length left ≤ suc n → length left ≡ suc k → k ≤ n
fewer left n k le e = omega (arith, le, e)

module _ (heads : List Head) (graph : List (List ℕ)) (roots : List ℕ) (never : NoneReturns graph roots) where
  outside : (y : ℕ) → length graph ≤ y → (t : Tree) × IsTree heads graph y t
  outside y le = (Leaf (head_of_tree heads y), subst (λ xs. GrowsTrees heads graph xs (Leaf (head_of_tree heads y)) (Leaf (head_of_tree heads y))) (sym (get_or_past graph y [] le)) Done)

  onward : (x y : ℕ) (left : List ℕ) → ReachesNode graph roots x → Way graph x left → StandsIn y (leads_to graph x) → y < length graph → Next graph y left
  onward x y left r way h lt = go (way y lt)
    where
      c : Contains (leads_to graph x) y
      c = contains_of y (leads_to graph x) h

      stays : (q : Rest y left) (z : ℕ) → (z ≡ y) ⊎ StandsIn z q.nodes → StandsIn z q.nodes ⊎ ((z ≡ y) ⊎ Leads graph z y)
      stays q z (inl e) = inr (inl e)
      stays q z (inr m) = inl m

      after : (q : Rest y left) (z : ℕ) → StandsIn z left ⊎ ((z ≡ x) ⊎ Leads graph z x) → StandsIn z q.nodes ⊎ ((z ≡ y) ⊎ Leads graph z y)
      after q z (inl m) = stays q z (q.kept z m)
      after q z (inr (inl e)) = inr (inr (subst (λ w. Leads graph w y) (sym e) (Edge c)))
      after q z (inr (inr l)) = inr (inr (leads_on graph z x y l c))

      go : StandsIn y left ⊎ ((y ≡ x) ⊎ Leads graph y x) → Next graph y left
      go (inl k) = let q = rest y left k in record { nodes = q.nodes; less = q.less; way = λ z zl. after q z (way z zl) }
      go (inr (inl e)) = absurd (never.never x r (Edge (subst (λ z. Contains (leads_to graph x) z) e c)))
      go (inr (inr l)) = absurd (never.never y (Onward r h) (leads_on graph y x y l c))

  -- the tree of a node, by those of the nodes that it leads to
  from_next : (x : ℕ) (left : List ℕ) → ReachesNode graph roots x → Way graph x left → ((y : ℕ) → Next graph y left → ReachesNode graph roots y → (t : Tree) × IsTree heads graph y t) → (t : Tree) × IsTree heads graph x t
  from_next x left r way f = grown (leads_to graph x) (λ y h. part y h (cases_lt y (length graph))) (Leaf (head_of_tree heads x))
    where
      part : (y : ℕ) → StandsIn y (leads_to graph x) → (y < length graph) ⊎ (length graph ≤ y) → (t : Tree) × IsTree heads graph y t
      part y h (inl lt) = f y (onward x y left r way h lt) (Onward r h)
      part y h (inr past) = outside y past

  tree_from : (n : ℕ) (left : List ℕ) (x : ℕ) → length left ≤ n → ReachesNode graph roots x → Way graph x left → (t : Tree) × IsTree heads graph x t
  tree_from zero left x le r way = from_next x left r way (λ y o s. absurd (none_left left (length o.nodes) le o.less))
  tree_from (suc n) left x le r way = from_next x left r way (λ y o s. tree_from n o.nodes y (fewer left n (length o.nodes) le o.less) s o.way)

  tree_of : (x : ℕ) → ReachesNode graph roots x → (t : Tree) × IsTree heads graph x t
  tree_of x r = tree_from (length (below (length graph))) (below (length graph)) x (le_self (length (below (length graph)))) r (λ z lt. inl (in_below (length graph) z lt))

  trees_of : (xs : List ℕ) → ((y : ℕ) → StandsIn y xs → ReachesNode graph roots y) → (ts : List Tree) × AreTrees heads graph xs ts
  trees_of [] f = ([], NoTrees)
  trees_of (x ∷ xs) f = let p = tree_of x (f x (inl refl)) in let r = trees_of xs (λ y h. f y (inr h)) in (p.0 ∷ r.0, OneMore p.1 r.1)

  pub rooted_trees : (ts : List Tree) × AreTrees heads graph roots ts
  rooted_trees = trees_of roots (λ y h. Root h)

-- ---- the nodes of trees that are met

-- what holds of trees, and of the trees under their roots, holds of all that are met
module _ (P : Tree → Type 0) (down : (t p : Tree) → P t → StandsIn p (tree_parts t) → P p) where
  parts_hold : (t : Tree) (met : List Tree) → ((p : Tree) → StandsIn p (tree_parts t) → P p) → Each P met → Each P (visit_parts t met)
  parts_hold (Leaf h) met f e = e
  parts_hold (Apply t part) met f e =
      let before = parts_hold t met (λ p h. f p (in_left (tree_parts t) (part ∷ []) p h)) e in
      let here = f part (in_right (tree_parts t) (part ∷ []) part (inl refl)) in
      go (is_met part (visit_parts t met)) before (parts_hold part (visit_parts t met ++ part ∷ []) (λ p h. down part p here h) (each_append P (visit_parts t met) (part ∷ []) before (here, tt)))
    where
      go : (b : Bool) → Each P (visit_parts t met) → Each P (visit_parts part (visit_parts t met ++ part ∷ [])) → Each P (if b then visit_parts t met else visit_parts part (visit_parts t met ++ part ∷ []))
      go true x y = x
      go false x y = y

  visit_holds : (t : Tree) (met : List Tree) → P t → Each P met → Each P (visit t met)
  visit_holds t met p e = go (is_met t met) e (parts_hold t (met ++ t ∷ []) (λ q h. down t q p h) (each_append P met (t ∷ []) e (p, tt)))
    where
      go : (b : Bool) → Each P met → Each P (visit_parts t (met ++ t ∷ [])) → Each P (if b then met else visit_parts t (met ++ t ∷ []))
      go true x y = x
      go false x y = y

  all_hold : (ts met : List Tree) → Each P ts → Each P met → Each P (visit_all ts met)
  all_hold [] met f e = e
  all_hold (t ∷ ts) met f e = all_hold ts (visit t met) f.1 (visit_holds t met f.0 e)

-- a tree is that of a node that some nodes lead to
pub record Stands (heads : List Head) (graph : List (List ℕ)) (roots : List ℕ) (t : Tree) : Type 0 where
  pub node : ℕ
  pub reached : ReachesNode graph roots node
  pub is : IsTree heads graph node t

-- nodes of some trees, which some nodes lead to
pub record AllStand (heads : List Head) (graph : List (List ℕ)) (roots : List ℕ) (ts : List Tree) : Type 0 where
  pub nodes : List ℕ
  pub reached : (y : ℕ) → StandsIn y nodes → ReachesNode graph roots y
  pub are : AreTrees heads graph nodes ts

module _ (heads : List Head) (graph : List (List ℕ)) (roots : List ℕ) where
  among : (xs : List ℕ) (ts : List Tree) (p : Tree) → AreTrees heads graph xs ts → ((y : ℕ) → StandsIn y xs → ReachesNode graph roots y) → StandsIn p ts → Stands heads graph roots p
  among xs ts p NoTrees f h = absurd h
  among xs0 ts0 p (OneMore {x = x} {xs = xs} {t = t} {ts = ts} g are) f (inl e) = record { node = x; reached = f x (inl refl); is = subst (λ u. IsTree heads graph x u) (sym e) g }
  among xs0 ts0 p (OneMore {x = x} {xs = xs} {t = t} {ts = ts} g are) f (inr h) = among xs ts p are (λ y k. f y (inr k)) h

  under : (t p : Tree) → Stands heads graph roots t → StandsIn p (tree_parts t) → Stands heads graph roots p
  under t p s h = among (leads_to graph s.node) (tree_parts t) p (node_parts heads graph s.node t s.is) (λ y k. Onward s.reached k) h

  roots_stand : (xs : List ℕ) (ts : List Tree) → AreTrees heads graph xs ts → ((y : ℕ) → StandsIn y xs → ReachesNode graph roots y) → Each (Stands heads graph roots) ts
  roots_stand xs ts NoTrees f = tt
  roots_stand xs0 ts0 (OneMore {x = x} {xs = xs} {t = t} {ts = ts} g are) f = (record { node = x; reached = f x (inl refl); is = g }, roots_stand xs ts are (λ y k. f y (inr k)))

  gathered : (ts : List Tree) → Each (Stands heads graph roots) ts → AllStand heads graph roots ts
  gathered [] e = record { nodes = []; reached = λ y h. absurd h; are = NoTrees }
  gathered (t ∷ ts) e = let r = gathered ts e.1 in record { nodes = e.0.node ∷ r.nodes; reached = λ y h. go r y h; are = OneMore e.0.is r.are }
    where
      go : (r : AllStand heads graph roots ts) (y : ℕ) → StandsIn y (e.0.node ∷ r.nodes) → ReachesNode graph roots y
      go r y (inl k) = subst (ReachesNode graph roots) (sym k) e.0.reached
      go r y (inr k) = r.reached y k

  -- nodes of all that are met
  pub met_nodes : (ts : List Tree) → AreTrees heads graph roots ts → AllStand heads graph roots (visit_all ts [])
  met_nodes ts are = gathered (visit_all ts []) (all_hold (Stands heads graph roots) under ts [] (roots_stand roots ts are (λ y h. Root h)) tt)

-- ---- the nodes that other nodes lead to, with their trees

pub are_append : {heads : List Head} {graph : List (List ℕ)} {xs ys : List ℕ} {ts us : List Tree} → AreTrees heads graph xs ts → AreTrees heads graph ys us → AreTrees heads graph (xs ++ ys) (ts ++ us)
are_append NoTrees more = more
are_append (OneMore g are) more = OneMore g (are_append are more)

pub are_under : {heads : List Head} {graph : List (List ℕ)} {xs : List ℕ} {ts : List Tree} → AreTrees heads graph xs ts → AreTrees heads graph (flat_map (leads_to graph) xs) (flat_map tree_parts ts)
are_under NoTrees = NoTrees
are_under {heads} {graph} (OneMore {x = x} {t = t} g are) = are_append (node_parts heads graph x t g) (are_under are)

-- What a node leads to has a smaller tree, so a node that has a tree does not return to itself.
use Rattle.std.proofs.Common.{◌≡◌, ℕ, ◌+◌, ◌<◌, ◌≤◌, inl, inr, List, Contains, sym, ap, subst, arith}
use Rattle.abc_base_graphs.specs.Graph.{leads_to, Leads, Edge, Then, Returns}
use Rattle.abc_base_trees.specs.declared.heads.Head.{Head}
use Rattle.abc_base_trees.specs.Orders.{StandsIn}
use Rattle.abc_base_trees.specs.Trees.{Tree, Leaf, Apply, GrowsTrees, Done, More, IsTree}
use Rattle.abc_base_trees.proofs.TreeLaws.{one_tree}
use Rattle.abc_base_trees.proofs.Walked.{in_at}

abbrev size : Tree → ℕ
size (Leaf h) = 1
size (Apply t u) = size t + size u

size_some : (t : Tree) → 0 < size t
size_some (Leaf h) = omega arith
size_some (Apply t u) = let p = size_some t in omega (arith, p)

grows_more : {heads : List Head} {graph : List (List ℕ)} {xs : List ℕ} {t u : Tree} → GrowsTrees heads graph xs t u → size t ≤ size u
grows_more Done = omega arith
grows_more (More p g) = let h = grows_more g in omega (arith, h)

-- a tree of a node, and it is smaller than another tree
record IsSmaller (heads : List Head) (graph : List (List ℕ)) (y : ℕ) (t : Tree) : Type 0 where
  tree : Tree
  is : IsTree heads graph y tree
  less : size tree < size t

part_smaller : {heads : List Head} {graph : List (List ℕ)} {xs : List ℕ} {t u : Tree} → GrowsTrees heads graph xs t u → (y : ℕ) → StandsIn y xs → IsSmaller heads graph y u
part_smaller Done y h = absurd h
part_smaller {heads} {graph} (More {t = t} {part = part} p g) y (inl e) = record {
  tree = part;
  is = subst (λ n. IsTree heads graph n part) (sym e) p;
  less = let a = size_some t in let b = grows_more g in omega (arith, a, b);
}
part_smaller (More p g) y (inr h) = part_smaller g y h

edge_smaller : (heads : List Head) (graph : List (List ℕ)) (x y : ℕ) (t : Tree) → IsTree heads graph x t → Contains (leads_to graph x) y → IsSmaller heads graph y t
edge_smaller heads graph x y t is c = part_smaller is y (subst (λ z. StandsIn z (leads_to graph x)) c.2 (in_at (leads_to graph x) c.0 y c.1))

leads_smaller : {heads : List Head} {graph : List (List ℕ)} {x y : ℕ} {t : Tree} → Leads graph x y → IsTree heads graph x t → IsSmaller heads graph y t
leads_smaller {heads} {graph} {x} {y} {t} (Edge c) is = edge_smaller heads graph x y t is c
leads_smaller {heads} {graph} {x} {y} {t} (Then {y = z} c rest) is =
    let a = edge_smaller heads graph x z t is c in
    let b = leads_smaller rest a.is in
    record { tree = b.tree; is = b.is; less = let p = a.less in let q = b.less in omega (arith, p, q) }

pub never_returns : (heads : List Head) (graph : List (List ℕ)) (x : ℕ) (t : Tree) → IsTree heads graph x t → Returns graph x → ⊥
never_returns heads graph x t is back =
    let s = leads_smaller back is in
    let same : size s.tree ≡ size t = ap size (one_tree s.is is) in
    let p = s.less in
    omega (arith, same, p)

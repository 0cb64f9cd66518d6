-- Two lists of heads that tell the same nodes apart give trees that are told apart alike, and so the same visit.
use Rattle.std.proofs.Common.{◌≡◌, ℕ, ◌<◌, List, [], ◌∷◌, ◌++◌, Bool, true, false, ◌&&◌, ◌||◌, if◌then◌else◌, length, get_or, refl, sym, subst, ◌∙◌, true≢false}
use Rattle.std.specs.declared.option.Option.{Option}
use Rattle.abc_base_graphs.specs.Graph.{leads_to}
use Rattle.abc_base_trees.specs.declared.heads.Head.{Head}
use Rattle.abc_base_trees.specs.Alike.{AreAlike}
use Rattle.abc_base_trees.specs.Classes.{AllClassed, HasClass}
use Rattle.abc_base_trees.specs.Trees.{Tree, Leaf, Apply, head_of_tree, head_eq, tree_eq, GrowsTrees, Done, More, IsTree, AreTrees, NoTrees, OneMore}
use Rattle.abc_base_trees.specs.Visits.{is_met, visit, visit_all, visit_parts, IsVisited}
use Rattle.abc_base_trees.proofs.TreeLaws.{heads_refl, heads_same, one_tree, trees_refl, trees_same}
use Rattle.abc_base_trees.proofs.Visited.{all_classed}

-- The trees of one node under either list.
data Same (classes : List (Option ℕ)) (hs ks : List Head) : Tree → Tree → Type 0 where
  SameLeaf : {x : ℕ} → HasClass classes x → Same classes hs ks (Leaf (head_of_tree hs x)) (Leaf (head_of_tree ks x))
  SameApply : {t u p q : Tree} → Same classes hs ks t u → Same classes hs ks p q → Same classes hs ks (Apply t p) (Apply u q)

heads_alike : (classes : List (Option ℕ)) (hs ks : List Head) (x y : ℕ) → AreAlike classes hs ks → HasClass classes x → HasClass classes y → head_eq (head_of_tree hs x) (head_of_tree hs y) ≡ head_eq (head_of_tree ks x) (head_of_tree ks y)
heads_alike classes hs ks x y k p q = by (head_eq (head_of_tree hs x) (head_of_tree hs y)) (head_eq (head_of_tree ks x) (head_of_tree ks y)) refl refl
  where
    equal : (a b : Head) → a ≡ b → head_eq a b ≡ true
    equal a b e = subst (λ c. head_eq a c ≡ true) e (heads_refl a)

    by : (b c : Bool) → head_eq (head_of_tree hs x) (head_of_tree hs y) ≡ b → head_eq (head_of_tree ks x) (head_of_tree ks y) ≡ c → head_eq (head_of_tree hs x) (head_of_tree hs y) ≡ head_eq (head_of_tree ks x) (head_of_tree ks y)
    by true true e f = e ∙ sym f
    by false false e f = e ∙ sym f
    by true false e f = absurd (true≢false (sym (equal (head_of_tree ks x) (head_of_tree ks y) (k.there x y p q (heads_same (head_of_tree hs x) (head_of_tree hs y) e))) ∙ f))
    by false true e f = absurd (true≢false (sym (equal (head_of_tree hs x) (head_of_tree hs y) (k.back x y p q (heads_same (head_of_tree ks x) (head_of_tree ks y) f))) ∙ e))

eq_same : {classes : List (Option ℕ)} {hs ks : List Head} {a b c d : Tree} → AreAlike classes hs ks → Same classes hs ks a c → Same classes hs ks b d → tree_eq a b ≡ tree_eq c d
eq_same {classes} {hs} {ks} k (SameLeaf {x = x} p) (SameLeaf {x = y} q) = heads_alike classes hs ks x y k p q
eq_same k (SameLeaf p) (SameApply s t) = refl
eq_same k (SameApply s t) (SameLeaf p) = refl
eq_same k (SameApply s t) (SameApply u v) = let e = eq_same k s u in let f = eq_same k t v in λ i. e i && f i

one_twin : {classes : List (Option ℕ)} {hs ks : List Head} {a b c : Tree} → AreAlike classes hs ks → Same classes hs ks a b → Same classes hs ks a c → b ≡ c
one_twin {a = a} {b = b} {c = c} k s t = trees_same b c (sym (eq_same k s t) ∙ trees_refl a)

one_origin : {classes : List (Option ℕ)} {hs ks : List Head} {a b c : Tree} → AreAlike classes hs ks → Same classes hs ks a c → Same classes hs ks b c → a ≡ b
one_origin {a = a} {b = b} {c = c} k s t = trees_same a b (eq_same k s t ∙ trees_refl c)

-- ---- the visit

abbrev SameAll : List (Option ℕ) → List Head → List Head → List Tree → List Tree → Type 0
SameAll classes hs ks [] [] = Unit {0}
SameAll classes hs ks [] (u ∷ us) = ⊥
SameAll classes hs ks (t ∷ ts) [] = ⊥
SameAll classes hs ks (t ∷ ts) (u ∷ us) = Same classes hs ks t u × SameAll classes hs ks ts us

met_same : (classes : List (Option ℕ)) (hs ks : List Head) (t u : Tree) (ts us : List Tree) → AreAlike classes hs ks → Same classes hs ks t u → SameAll classes hs ks ts us → is_met t ts ≡ is_met u us
met_same classes hs ks t u [] [] k s all = refl
met_same classes hs ks t u [] (y ∷ us) k s all = absurd all
met_same classes hs ks t u (x ∷ ts) [] k s all = absurd all
met_same classes hs ks t u (x ∷ ts) (y ∷ us) k s all = let e = eq_same k s all.0 in let f = met_same classes hs ks t u ts us k s all.1 in λ i. e i || f i

push_same : (classes : List (Option ℕ)) (hs ks : List Head) (t u : Tree) (ts us : List Tree) → Same classes hs ks t u → SameAll classes hs ks ts us → SameAll classes hs ks (ts ++ t ∷ []) (us ++ u ∷ [])
push_same classes hs ks t u [] [] s all = (s, tt)
push_same classes hs ks t u [] (y ∷ us) s all = absurd all
push_same classes hs ks t u (x ∷ ts) [] s all = absurd all
push_same classes hs ks t u (x ∷ ts) (y ∷ us) s all = (all.0, push_same classes hs ks t u ts us s all.1)

either_same : (classes : List (Option ℕ)) (hs ks : List Head) (b c : Bool) (ts us vs ws : List Tree) → b ≡ c → SameAll classes hs ks ts us → SameAll classes hs ks vs ws → SameAll classes hs ks (if b then ts else vs) (if c then us else ws)
either_same classes hs ks true true ts us vs ws e p q = p
either_same classes hs ks false false ts us vs ws e p q = q
either_same classes hs ks true false ts us vs ws e p q = absurd (true≢false e)
either_same classes hs ks false true ts us vs ws e p q = absurd (true≢false (sym e))

parts_same : {classes : List (Option ℕ)} {hs ks : List Head} {t u : Tree} → AreAlike classes hs ks → Same classes hs ks t u → (ts us : List Tree) → SameAll classes hs ks ts us → SameAll classes hs ks (visit_parts t ts) (visit_parts u us)
parts_same k (SameLeaf p) ts us all = all
parts_same {classes} {hs} {ks} k (SameApply {t = t} {u = u} {p = p} {q = q} s r) ts us all =
    let before = parts_same k s ts us all in
    either_same classes hs ks (is_met p (visit_parts t ts)) (is_met q (visit_parts u us)) (visit_parts t ts) (visit_parts u us) (visit_parts p (visit_parts t ts ++ p ∷ [])) (visit_parts q (visit_parts u us ++ q ∷ []))
    (met_same classes hs ks p q (visit_parts t ts) (visit_parts u us) k r before) before
    (parts_same k r (visit_parts t ts ++ p ∷ []) (visit_parts u us ++ q ∷ []) (push_same classes hs ks p q (visit_parts t ts) (visit_parts u us) r before))

visit_same : {classes : List (Option ℕ)} {hs ks : List Head} {t u : Tree} → AreAlike classes hs ks → Same classes hs ks t u → (ts us : List Tree) → SameAll classes hs ks ts us → SameAll classes hs ks (visit t ts) (visit u us)
visit_same {classes} {hs} {ks} {t} {u} k s ts us all =
    either_same classes hs ks (is_met t ts) (is_met u us) ts us (visit_parts t (ts ++ t ∷ [])) (visit_parts u (us ++ u ∷ []))
    (met_same classes hs ks t u ts us k s all) all
    (parts_same k s (ts ++ t ∷ []) (us ++ u ∷ []) (push_same classes hs ks t u ts us s all))

visit_all_same : (classes : List (Option ℕ)) (hs ks : List Head) (ts us vs ws : List Tree) → AreAlike classes hs ks → SameAll classes hs ks ts us → SameAll classes hs ks vs ws → SameAll classes hs ks (visit_all ts vs) (visit_all us ws)
visit_all_same classes hs ks [] [] vs ws k all met = met
visit_all_same classes hs ks [] (u ∷ us) vs ws k all met = absurd all
visit_all_same classes hs ks (t ∷ ts) [] vs ws k all met = absurd all
visit_all_same classes hs ks (t ∷ ts) (u ∷ us) vs ws k all met = visit_all_same classes hs ks ts us (visit t vs) (visit u ws) k all.1 (visit_same k all.0 vs ws met)

-- ---- trees of nodes that have classes

abbrev Closed : List (Option ℕ) → List (List ℕ) → Type 0
Closed classes graph = (x : ℕ) → HasClass classes x → (i : ℕ) → i < length (leads_to graph x) → HasClass classes (get_or (leads_to graph x) i 0)

record HasTwin (classes : List (Option ℕ)) (hs ks : List Head) (graph : List (List ℕ)) (xs : List ℕ) (t u : Tree) : Type 0 where
  tree : Tree
  grows : GrowsTrees ks graph xs t tree
  same : Same classes hs ks u tree

twin : {classes : List (Option ℕ)} {hs ks : List Head} {graph : List (List ℕ)} {xs : List ℕ} {t u : Tree} → Closed classes graph → GrowsTrees hs graph xs t u → AllClassed classes xs → (v : Tree) → Same classes hs ks t v → HasTwin classes hs ks graph xs v u
twin closed Done all v s = record { tree = v; grows = Done; same = s }
twin {classes} {hs} {ks} {graph} closed (More {x = x} p g) all v s =
    let part = twin closed p (all_classed classes (leads_to graph x) (closed x all.0)) (Leaf (head_of_tree ks x)) (SameLeaf all.0) in
    let rest = twin closed g all.1 (Apply v part.tree) (SameApply s part.same) in
    record { tree = rest.tree; grows = More part.grows rest.grows; same = rest.same }

tree_twin : (classes : List (Option ℕ)) (hs ks : List Head) (graph : List (List ℕ)) (x : ℕ) (t : Tree) → Closed classes graph → HasClass classes x → IsTree hs graph x t → HasTwin classes hs ks graph (leads_to graph x) (Leaf (head_of_tree ks x)) t
tree_twin classes hs ks graph x t closed h is = twin closed is (all_classed classes (leads_to graph x) (closed x h)) (Leaf (head_of_tree ks x)) (SameLeaf h)

record HaveTwins (classes : List (Option ℕ)) (hs ks : List Head) (graph : List (List ℕ)) (xs : List ℕ) (ts : List Tree) : Type 0 where
  trees : List Tree
  are : AreTrees ks graph xs trees
  same : SameAll classes hs ks ts trees

twins : {classes : List (Option ℕ)} {hs ks : List Head} {graph : List (List ℕ)} {xs : List ℕ} {ts : List Tree} → Closed classes graph → AllClassed classes xs → AreTrees hs graph xs ts → HaveTwins classes hs ks graph xs ts
twins closed all NoTrees = record { trees = []; are = NoTrees; same = tt }
twins {classes} {hs} {ks} {graph} closed all (OneMore {x = x} {t = t} is more) =
    let one = tree_twin classes hs ks graph x t closed all.0 is in
    let rest = twins closed all.1 more in
    record { trees = one.tree ∷ rest.trees; are = OneMore one.grows rest.are; same = (one.same, rest.same) }

seen_twins : {classes : List (Option ℕ)} {hs ks : List Head} {graph : List (List ℕ)} {xs : List ℕ} {ts : List Tree} → AreAlike classes hs ks → Closed classes graph → AllClassed classes xs → AreTrees hs graph xs ts → (us : List Tree) → SameAll classes hs ks ts us → AreTrees ks graph xs us
seen_twins k closed all NoTrees [] same = NoTrees
seen_twins k closed all NoTrees (u ∷ us) same = absurd same
seen_twins k closed all (OneMore is more) [] same = absurd same
seen_twins {classes} {hs} {ks} {graph} k closed all (OneMore {x = x} {t = t} is more) (u ∷ us) same =
    let one = tree_twin classes hs ks graph x t closed all.0 is in
    OneMore (subst (IsTree ks graph x) (one_twin k one.same same.0) one.grows) (seen_twins k closed all.1 more us same.1)

pub visited_alike : (classes : List (Option ℕ)) (hs ks : List Head) (graph : List (List ℕ)) (roots seen : List ℕ) → AreAlike classes hs ks → ((x : ℕ) → HasClass classes x → (i : ℕ) → i < length (leads_to graph x) → HasClass classes (get_or (leads_to graph x) i 0)) → AllClassed classes roots → AllClassed classes seen → IsVisited hs graph roots seen → IsVisited ks graph roots seen
visited_alike classes hs ks graph roots seen k closed rooted classed v =
    let r = twins {ks = ks} closed rooted v.rooted in
    record {
      trees = r.trees;
      rooted = r.are;
      order = seen_twins k closed classed v.order (visit_all r.trees []) (visit_all_same classes hs ks v.trees r.trees [] [] k r.same tt);
    }

-- two nodes that have one tree under one list have one under the other
pub trees_alike : (classes : List (Option ℕ)) (hs ks : List Head) (graph : List (List ℕ)) (x y : ℕ) (t a b : Tree) → AreAlike classes hs ks → ((z : ℕ) → HasClass classes z → (i : ℕ) → i < length (leads_to graph z) → HasClass classes (get_or (leads_to graph z) i 0)) → HasClass classes x → HasClass classes y → IsTree ks graph x t → IsTree ks graph y t → IsTree hs graph x a → IsTree hs graph y b → a ≡ b
trees_alike classes hs ks graph x y t a b k closed hx hy bx bys ax ay =
    let p = tree_twin classes hs ks graph x a closed hx ax in
    let q = tree_twin classes hs ks graph y b closed hy ay in
    let e : p.tree ≡ t = one_tree p.grows bx in
    let f : q.tree ≡ t = one_tree q.grows bys in
    one_origin k (subst (Same classes hs ks a) e p.same) (subst (Same classes hs ks b) f q.same)

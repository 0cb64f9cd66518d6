-- The visit of nodes goes as the visit of their trees does.
use Rattle.std.proofs.Common.{◌≡◌, ℕ, zero, suc, ◌+◌, ◌<◌, ◌≤◌, ◌⊎◌, inl, inr, List, [], ◌∷◌, ◌++◌, replicate, Bool, true, false, if◌then◌else◌, length, get_or, slice_get, drop, Some, None, refl, sym, ap, subst, ◌∙◌, arith, length-append, get_or-set_other, get_or-set_same, true≢false}
use Rattle.std.proofs.Math.ListN.{set, length-set}
use Rattle.std.specs.declared.option.Option.{Option}
use Rattle.std.proofs.lemmas.Bool.{cases_eq, cases_lt}
use Rattle.std.proofs.lemmas.List.{get_or_default, get_or_past, length-replicate}
use Rattle.abc_base_graphs.specs.Graph.{leads_to}
use Rattle.abc_base_trees.specs.declared.heads.Head.{Head}
use Rattle.abc_base_trees.specs.declared.keys.Key.{Key}
use Rattle.abc_base_trees.specs.Effort.{effort_unmarked}
use Rattle.abc_base_trees.specs.Trees.{Tree, Leaf, head_of_tree, GrowsTrees, Done, More, IsTree, AreTrees, NoTrees, OneMore}
use Rattle.abc_base_trees.specs.Classes.{MeansTree, MeansLeaf, MeansApply, tree_class, HasClass, AllClassed, HaveOwnClasses, AreTreeClasses, AreDistinct}
use Rattle.abc_base_trees.specs.Visits.{is_met, visit, visit_all, visit_parts, IsVisit, IsVisitOf, IsVisited}
use Rattle.abc_base_trees.proofs.Efforts.{below_zero, mark_less, unset_within}
use Rattle.abc_base_trees.proofs.Meanings.{drop_cons}
use Rattle.abc_base_trees.proofs.TreeLaws.{met_here, met_other, one_class, one_meaning, one_tree}

-- ---- marks

pub no_marks : (n i : ℕ) → get_or (replicate n false) i false ≡ false
no_marks zero i = refl
no_marks (suc n) zero = refl
no_marks (suc n) (suc i) = no_marks n i

no_key : (c : ℕ) (k : Key) → slice_get [] c ≡ Some k → ⊥
no_key c k h = cc

key_within : (keys : List Key) (c : ℕ) (k : Key) → slice_get keys c ≡ Some k → c < length keys
key_within [] c k e = absurd (no_key c k e)
key_within (x ∷ keys) zero k e = omega arith
key_within (x ∷ keys) (suc c) k e = let h = key_within keys c k e in omega arith

pub class_within : {keys : List Key} {c : ℕ} {t : Tree} → MeansTree keys c t → c < length keys
class_within {keys} {c} (MeansLeaf {h = h} a) = key_within keys c _ a
class_within {keys} {c} (MeansApply a p q) = key_within keys c _ a

-- ---- the stack

pub pushed_before : (xs ys todo : List ℕ) (i x : ℕ) → i < length xs → x ≡ get_or xs i x → ys ≡ drop (i + 1) xs ++ todo → x ∷ ys ≡ drop i xs ++ todo
pushed_before xs ys todo i x lt at is =
    ap (λ zs. x ∷ zs) is ∙ ap (λ zs. zs ++ todo) (ap (λ y. y ∷ drop (i + 1) xs) (at ∙ default xs i x lt) ∙ sym (drop_cons xs i lt))
  where
    default : (xs : List ℕ) (i d : ℕ) → i < length xs → get_or xs i d ≡ get_or xs i 0
    default [] i d l = absurd (below_zero i l)
    default (y ∷ xs) zero d l = refl
    default (y ∷ xs) (suc i) d l = default xs i d (omega arith)

pub pushed_all : (xs ys todo : List ℕ) → ys ≡ drop 0 xs ++ todo → ys ≡ xs ++ todo
pushed_all xs ys todo e = e

pub nothing_dropped : (xs todo : List ℕ) → todo ≡ drop (length xs) xs ++ todo
nothing_dropped [] todo = refl
nothing_dropped (x ∷ xs) todo = nothing_dropped xs todo

pub opened_less : (graph : List (List ℕ)) (marks : List Bool) (x n m : ℕ) → length marks ≡ length graph → x < length graph → get_or marks x true ≡ false → n ≡ length (leads_to graph x) + m → effort_unmarked graph (set marks x true) + n ≤ effort_unmarked graph marks + m
opened_less graph marks x n m len lt e is = let h = mark_less graph marks x len lt e in omega arith

-- ---- lists of trees

trees_append : {heads : List Head} {graph : List (List ℕ)} {xs ys : List ℕ} {ts us : List Tree} → AreTrees heads graph xs ts → AreTrees heads graph ys us → AreTrees heads graph (xs ++ ys) (ts ++ us)
trees_append NoTrees ys = ys
trees_append (OneMore x xs) ys = OneMore x (trees_append xs ys)

visit_append : (ts us met : List Tree) → visit_all (ts ++ us) met ≡ visit_all us (visit_all ts met)
visit_append [] us met = refl
visit_append (t ∷ ts) us met = visit_append ts us (visit t met)

-- the trees that were added under the root of a tree, and how its visit goes
record Parts (heads : List Head) (graph : List (List ℕ)) (xs : List ℕ) (t u : Tree) : Type 0 where
  trees : List Tree
  are : AreTrees heads graph xs trees
  visits : (met : List Tree) → visit_parts u met ≡ visit_all trees (visit_parts t met)

parts : {heads : List Head} {graph : List (List ℕ)} {xs : List ℕ} {t u : Tree} → GrowsTrees heads graph xs t u → Parts heads graph xs t u
parts Done = record { trees = []; are = NoTrees; visits = λ met. refl }
parts (More {part = part} p g) = let r = parts g in record { trees = part ∷ r.trees; are = OneMore p r.are; visits = λ met. r.visits met }

classed_append : (classes : List (Option ℕ)) (xs ys : List ℕ) → AllClassed classes xs → AllClassed classes ys → AllClassed classes (xs ++ ys)
classed_append classes [] ys p q = q
classed_append classes (x ∷ xs) ys p q = (p.0, classed_append classes xs ys p.1 q)

pub all_classed : (classes : List (Option ℕ)) (xs : List ℕ) → ((k : ℕ) → k < length xs → HasClass classes (get_or xs k 0)) → AllClassed classes xs
all_classed classes [] h = tt
all_classed classes (x ∷ xs) h = (h 0 (omega arith), all_classed classes xs (λ k l. h (suc k) (omega arith)))

-- a place of a list with one more at its end
at_push : (xs : List ℕ) (x i : ℕ) → i < length (xs ++ x ∷ []) → ((i < length xs) × (get_or (xs ++ x ∷ []) i 0 ≡ get_or xs i 0)) ⊎ ((i ≡ length xs) × (get_or (xs ++ x ∷ []) i 0 ≡ x))
at_push [] x zero lt = inr (refl, refl)
at_push [] x (suc i) lt = absurd (below_zero i (omega arith))
at_push (y ∷ xs) x zero lt = inl (omega arith, refl)
at_push (y ∷ xs) x (suc i) lt = go (at_push xs x i (omega arith))
  where
    go : ((i < length xs) × (get_or (xs ++ x ∷ []) i 0 ≡ get_or xs i 0)) ⊎ ((i ≡ length xs) × (get_or (xs ++ x ∷ []) i 0 ≡ x)) → ((suc i < length (y ∷ xs)) × (get_or ((y ∷ xs) ++ x ∷ []) (suc i) 0 ≡ get_or (y ∷ xs) (suc i) 0)) ⊎ ((suc i ≡ length (y ∷ xs)) × (get_or ((y ∷ xs) ++ x ∷ []) (suc i) 0 ≡ x))
    go (inl (l, q)) = inl (omega (arith, l), q)
    go (inr (l, q)) = inr (ap suc l, q)

-- ---- a step

-- the class of a node that was met stands for its tree
of_tree : (heads : List Head) (graph : List (List ℕ)) (keys : List Key) (classes : List (Option ℕ)) (x c : ℕ) (t : Tree) → AreTreeClasses heads graph keys classes → tree_class classes x ≡ Some c → IsTree heads graph x t → MeansTree keys c t
of_tree heads graph keys classes x c t s e is = let h = s.tree x c e in subst (MeansTree keys c) (one_tree h.is is) h.means

skipped_with : (heads : List Head) (graph : List (List ℕ)) (keys : List Key) (classes : List (Option ℕ)) (final : List Tree) (met opened : List Bool) (seen todo : List ℕ) (x c : ℕ) (coming trees : List Tree) → AreTreeClasses heads graph keys classes → tree_class classes x ≡ Some c → get_or met c false ≡ true → AreTrees heads graph (x ∷ todo) coming → AreTrees heads graph seen trees → visit_all coming trees ≡ final → ((d : ℕ) (t : Tree) → MeansTree keys d t → get_or met d false ≡ is_met t trees) → ((y d : ℕ) → get_or opened y false ≡ true → tree_class classes y ≡ Some d → get_or met d false ≡ true) → AllClassed classes (x ∷ todo) → AllClassed classes seen → ((i d : ℕ) → i < length seen → tree_class classes (get_or seen i 0) ≡ Some d → get_or met d false ≡ true) → HaveOwnClasses classes seen → length met ≡ length keys → length opened ≡ length graph → IsVisit heads graph keys classes final met opened seen todo
skipped_with heads graph keys classes final met opened seen todo x c coming trees s e here (OneMore {t = t} {ts = ts} is more) are rest marks opens classed sc sm ap2 cl nl = record {
  coming = ts;
  trees = trees;
  are_coming = more;
  are_trees = are;
  rest = sym (ap (visit_all ts) same) ∙ rest;
  marks = marks;
  opens = opens;
  classed = classed.1;
  seen_classed = sc;
  seen_met = sm;
  apart = ap2;
  classes_len = cl;
  nodes_len = nl;
}
  where
    known : is_met t trees ≡ true
    known = sym (marks c t (of_tree heads graph keys classes x c t s e is)) ∙ here

    same : visit t trees ≡ trees
    same = ap (λ b. if b then trees else visit_parts t (trees ++ t ∷ [])) known

skipped : (heads : List Head) (graph : List (List ℕ)) (keys : List Key) (classes : List (Option ℕ)) (final : List Tree) (met opened : List Bool) (seen todo : List ℕ) (x c : ℕ) → AreTreeClasses heads graph keys classes → tree_class classes x ≡ Some c → get_or met c false ≡ true → IsVisit heads graph keys classes final met opened seen (x ∷ todo) → IsVisit heads graph keys classes final met opened seen todo
skipped heads graph keys classes final met opened seen todo x c s e here v =
    skipped_with heads graph keys classes final met opened seen todo x c v.coming v.trees s e here v.are_coming v.are_trees v.rest v.marks v.opens v.classed v.seen_classed v.seen_met v.apart v.classes_len v.nodes_len

-- the class was met
pub skip_met : (heads : List Head) (graph : List (List ℕ)) (keys : List Key) (classes : List (Option ℕ)) (final : List Tree) (met opened : List Bool) (seen todo : List ℕ) (x c : ℕ) → AreTreeClasses heads graph keys classes → Some c ≡ tree_class classes x → true ≡ get_or met c true → IsVisit heads graph keys classes final met opened seen (x ∷ todo) → IsVisit heads graph keys classes final met opened seen todo
skip_met heads graph keys classes final met opened seen todo x c s e here v =
    let within : c < length met = let l = class_within ((s.tree x c (sym e)).means) in let q = v.classes_len in omega arith in
    skipped heads graph keys classes final met opened seen todo x c s (sym e) (get_or_default met c false true within ∙ sym here) v

-- the node was met
pub skip_opened : (heads : List Head) (graph : List (List ℕ)) (keys : List Key) (classes : List (Option ℕ)) (final : List Tree) (met opened : List Bool) (seen todo : List ℕ) (x c : ℕ) → AreTreeClasses heads graph keys classes → Some c ≡ tree_class classes x → true ≡ get_or opened x true → IsVisit heads graph keys classes final met opened seen (x ∷ todo) → IsVisit heads graph keys classes final met opened seen todo
skip_opened heads graph keys classes final met opened seen todo x c s e here v =
    let inside : x < length classes = class_inside classes x c (sym e) in
    let within : x < length opened = let p = s.len in let q = v.nodes_len in omega arith in
    skipped heads graph keys classes final met opened seen todo x c s (sym e) (v.opens x c (get_or_default opened x false true within ∙ sym here) (sym e)) v
  where
    class_inside : (classes : List (Option ℕ)) (x c : ℕ) → tree_class classes x ≡ Some c → x < length classes
    class_inside classes x c e = go (cases_lt x (length classes))
      where
        go : (x < length classes) ⊎ (length classes ≤ x) → x < length classes
        go (inl lt) = lt
        go (inr le) = let f : tree_class classes x ≡ None = get_or_past classes x None le in absurd (none_some f)
          where
            none_some : tree_class classes x ≡ None → ⊥
            none_some f = cc

-- a node on the stack has a class
pub never_unclassed : (heads : List Head) (graph : List (List ℕ)) (keys : List Key) (classes : List (Option ℕ)) (final : List Tree) (met opened : List Bool) (seen todo : List ℕ) (x : ℕ) → None ≡ tree_class classes x → IsVisit heads graph keys classes final met opened seen (x ∷ todo) → IsVisit heads graph keys classes final met opened seen todo
never_unclassed heads graph keys classes final met opened seen todo x e v = absurd (no (v.classed.0))
  where
    no : HasClass classes x → ⊥
    no h = let f : tree_class classes x ≡ Some h.number = h.is in cc

met_with : (heads : List Head) (graph : List (List ℕ)) (keys : List Key) (classes : List (Option ℕ)) (final : List Tree) (met opened : List Bool) (seen todo : List ℕ) (x c : ℕ) (coming trees : List Tree) → AreTreeClasses heads graph keys classes → AreDistinct keys → tree_class classes x ≡ Some c → get_or met c true ≡ false → get_or opened x true ≡ false → AreTrees heads graph (x ∷ todo) coming → AreTrees heads graph seen trees → visit_all coming trees ≡ final → ((d : ℕ) (t : Tree) → MeansTree keys d t → get_or met d false ≡ is_met t trees) → ((y d : ℕ) → get_or opened y false ≡ true → tree_class classes y ≡ Some d → get_or met d false ≡ true) → AllClassed classes (x ∷ todo) → AllClassed classes seen → ((i d : ℕ) → i < length seen → tree_class classes (get_or seen i 0) ≡ Some d → get_or met d false ≡ true) → HaveOwnClasses classes seen → length met ≡ length keys → length opened ≡ length graph → IsVisit heads graph keys classes final (set met c true) (set opened x true) (seen ++ x ∷ []) (leads_to graph x ++ todo)
met_with heads graph keys classes final met opened seen todo x c coming trees s distinct e unmet unopened (OneMore {t = t} {ts = ts} is more) are rest marks opens classed sc sm ap2 cl nl = record {
  coming = under.trees ++ ts;
  trees = trees ++ t ∷ [];
  are_coming = trees_append under.are more;
  are_trees = trees_append are (OneMore is NoTrees);
  rest = visit_append under.trees ts (trees ++ t ∷ []) ∙ ap (visit_all ts) (sym (under.visits (trees ++ t ∷ [])) ∙ sym opens_up) ∙ rest;
  marks = λ d u m. marked d u m (cases_eq d c);
  opens = λ y d o f. open_then y d o f (cases_eq y x) (cases_eq d c);
  classed = classed_append classes (leads_to graph x) todo (all_classed classes (leads_to graph x) (s.closed x c e)) classed.1;
  seen_classed = classed_append classes seen (x ∷ []) sc (record { number = c; is = e }, tt);
  seen_met = λ i d lt f. seen_then i d f (at_push seen x i lt);
  apart = record { one = λ i j d li lj f g. one_then i j d f g (at_push seen x i li) (at_push seen x j lj) };
  classes_len = length-set met c true ∙ cl;
  nodes_len = length-set opened x true ∙ nl;
}
  where
    under : Parts heads graph (leads_to graph x) (Leaf (head_of_tree heads x)) t
    under = parts is

    means : MeansTree keys c t
    means = of_tree heads graph keys classes x c t s e is

    within : c < length met
    within = unset_within met c unmet

    inside : x < length opened
    inside = unset_within opened x unopened

    unknown : is_met t trees ≡ false
    unknown = sym (marks c t means) ∙ get_or_default met c false true within ∙ unmet

    opens_up : visit t trees ≡ visit_parts t (trees ++ t ∷ [])
    opens_up = ap (λ b. if b then trees else visit_parts t (trees ++ t ∷ [])) unknown

    here : get_or (set met c true) c false ≡ true
    here = get_or-set_same met c true false within

    marked : (d : ℕ) (u : Tree) → MeansTree keys d u → (d ≡ c) ⊎ (d ≡ c → ⊥) → get_or (set met c true) d false ≡ is_met u (trees ++ t ∷ [])
    marked d u m (inl q) =
        let same : u ≡ t = one_meaning (subst (λ n. MeansTree keys n u) q m) means in
        ap (λ n. get_or (set met c true) n false) q ∙ here ∙ sym (ap (λ w. is_met w (trees ++ t ∷ [])) same ∙ met_here t trees)
    marked d u m (inr ne) =
        get_or-set_other met c d true false ne ∙ marks d u m ∙ sym (met_other u t trees (λ same. ne (one_class distinct m means same)))

    old_met : (d : ℕ) → get_or met d false ≡ true → (d ≡ c) ⊎ (d ≡ c → ⊥) → get_or (set met c true) d false ≡ true
    old_met d h (inl q) = ap (λ n. get_or (set met c true) n false) q ∙ here
    old_met d h (inr ne) = get_or-set_other met c d true false ne ∙ h

    seen_then : (i d : ℕ) → tree_class classes (get_or (seen ++ x ∷ []) i 0) ≡ Some d → ((i < length seen) × (get_or (seen ++ x ∷ []) i 0 ≡ get_or seen i 0)) ⊎ ((i ≡ length seen) × (get_or (seen ++ x ∷ []) i 0 ≡ x)) → get_or (set met c true) d false ≡ true
    seen_then i d f (inl (lt, q)) = old_met d (sm i d lt (sym (ap (tree_class classes) q) ∙ f)) (cases_eq d c)
    seen_then i d f (inr (q, r)) =
        let g : Some c ≡ Some d = sym e ∙ sym (ap (tree_class classes) r) ∙ f in
        let h : c ≡ d = cc in
        sym (ap (λ n. get_or (set met c true) n false) h) ∙ here

    never_again : (i : ℕ) → i < length seen → tree_class classes (get_or seen i 0) ≡ Some c → ⊥
    never_again i lt f = true≢false (sym (sm i c lt f) ∙ get_or_default met c false true within ∙ unmet)

    one_then : (i j d : ℕ) → tree_class classes (get_or (seen ++ x ∷ []) i 0) ≡ Some d → tree_class classes (get_or (seen ++ x ∷ []) j 0) ≡ Some d → ((i < length seen) × (get_or (seen ++ x ∷ []) i 0 ≡ get_or seen i 0)) ⊎ ((i ≡ length seen) × (get_or (seen ++ x ∷ []) i 0 ≡ x)) → ((j < length seen) × (get_or (seen ++ x ∷ []) j 0 ≡ get_or seen j 0)) ⊎ ((j ≡ length seen) × (get_or (seen ++ x ∷ []) j 0 ≡ x)) → i ≡ j
    one_then i j d f g (inl (li, p)) (inl (lj, q)) = ap2.one i j d li lj (sym (ap (tree_class classes) p) ∙ f) (sym (ap (tree_class classes) q) ∙ g)
    one_then i j d f g (inr (ei, p)) (inr (ej, q)) = ei ∙ sym ej
    one_then i j d f g (inl (li, p)) (inr (ej, q)) =
        let h : Some d ≡ Some c = sym g ∙ ap (tree_class classes) q ∙ e in
        absurd (never_again i li (sym (ap (tree_class classes) p) ∙ f ∙ h))
    one_then i j d f g (inr (ei, p)) (inl (lj, q)) =
        let h : Some d ≡ Some c = sym f ∙ ap (tree_class classes) p ∙ e in
        absurd (never_again j lj (sym (ap (tree_class classes) q) ∙ g ∙ h))

    open_then : (y d : ℕ) → get_or (set opened x true) y false ≡ true → tree_class classes y ≡ Some d → (y ≡ x) ⊎ (y ≡ x → ⊥) → (d ≡ c) ⊎ (d ≡ c → ⊥) → get_or (set met c true) d false ≡ true
    open_then y d o f (inl q) (inl r) = ap (λ n. get_or (set met c true) n false) r ∙ here
    open_then y d o f (inl q) (inr ne) =
        let g : Some d ≡ Some c = sym f ∙ ap (tree_class classes) q ∙ e in
        let r : d ≡ c = cc in
        absurd (ne r)
    open_then y d o f (inr other) (inl r) = ap (λ n. get_or (set met c true) n false) r ∙ here
    open_then y d o f (inr other) (inr ne) = get_or-set_other met c d true false ne ∙ opens y d (sym (get_or-set_other opened x y true false other) ∙ o) f

-- neither was met: the node is, and those that it leads to are to be visited
pub meet_next : (heads : List Head) (graph : List (List ℕ)) (keys : List Key) (classes : List (Option ℕ)) (final : List Tree) (met opened : List Bool) (seen todo : List ℕ) (x c : ℕ) → AreTreeClasses heads graph keys classes → AreDistinct keys → Some c ≡ tree_class classes x → false ≡ get_or met c true → false ≡ get_or opened x true → IsVisit heads graph keys classes final met opened seen (x ∷ todo) → IsVisit heads graph keys classes final (set met c true) (set opened x true) (seen ++ x ∷ []) (leads_to graph x ++ todo)
meet_next heads graph keys classes final met opened seen todo x c s distinct e unmet unopened v =
    met_with heads graph keys classes final met opened seen todo x c v.coming v.trees s distinct (sym e) (sym unmet) (sym unopened) v.are_coming v.are_trees v.rest v.marks v.opens v.classed v.seen_classed v.seen_met v.apart v.classes_len v.nodes_len

-- ---- the beginning and the end

-- the trees of nodes that have classes
record Trees (heads : List Head) (graph : List (List ℕ)) (xs : List ℕ) : Type 0 where
  trees : List Tree
  are : AreTrees heads graph xs trees

trees_of : (heads : List Head) (graph : List (List ℕ)) (keys : List Key) (classes : List (Option ℕ)) (xs : List ℕ) → AreTreeClasses heads graph keys classes → AllClassed classes xs → Trees heads graph xs
trees_of heads graph keys classes [] s h = record { trees = []; are = NoTrees }
trees_of heads graph keys classes (x ∷ xs) s h =
    let r = trees_of heads graph keys classes xs s h.1 in
    let t = s.tree x h.0.number h.0.is in
    record { trees = t.tree ∷ r.trees; are = OneMore t.is r.are }

pub visit_begun : (heads : List Head) (graph : List (List ℕ)) (keys : List Key) (classes : List (Option ℕ)) (roots todo seen : List ℕ) (met opened : List Bool) → AreTreeClasses heads graph keys classes → AllClassed classes roots → met ≡ replicate (length keys) false → opened ≡ replicate (length graph) false → todo ≡ roots ++ [] → seen ≡ [] → IsVisitOf heads graph keys classes roots met opened seen todo
visit_begun heads graph keys classes roots todo seen met opened s classed marks opens is none =
    let r = trees_of heads graph keys classes roots s classed in
    record {
      trees = r.trees;
      rooted = r.are;
      visit = record {
        coming = r.trees;
        trees = [];
        are_coming = subst (λ xs. AreTrees heads graph xs r.trees) (sym same) r.are;
        are_trees = subst (λ xs. AreTrees heads graph xs []) (sym none) NoTrees;
        rest = refl;
        marks = λ c t m. ap (λ ms. get_or ms c false) marks ∙ no_marks (length keys) c;
        opens = λ x c o f. absurd (true≢false (sym o ∙ ap (λ ms. get_or ms x false) opens ∙ no_marks (length graph) x));
        classed = subst (AllClassed classes) (sym same) classed;
        seen_classed = subst (AllClassed classes) (sym none) tt;
        seen_met = λ i c lt f. absurd (nothing_seen i lt);
        apart = record { one = λ i j c li lj f g. absurd (nothing_seen i li) };
        classes_len = ap length marks ∙ length-replicate (length keys) false;
        nodes_len = ap length opens ∙ length-replicate (length graph) false;
      };
    }
  where
    append_none : (xs : List ℕ) → xs ++ [] ≡ xs
    append_none [] = refl
    append_none (x ∷ xs) = ap (λ ys. x ∷ ys) (append_none xs)

    nothing_seen : (i : ℕ) → i < length seen → ⊥
    nothing_seen i lt = below_zero i (subst (λ xs. i < length xs) none lt)

    same : todo ≡ roots
    same = is ∙ append_none roots

visited_with : (heads : List Head) (graph : List (List ℕ)) (seen : List ℕ) (coming trees final : List Tree) → AreTrees heads graph [] coming → AreTrees heads graph seen trees → visit_all coming trees ≡ final → AreTrees heads graph seen final
visited_with heads graph seen coming trees final NoTrees are rest = subst (AreTrees heads graph seen) rest are

pub visit_ended : (heads : List Head) (graph : List (List ℕ)) (keys : List Key) (classes : List (Option ℕ)) (roots : List ℕ) (met opened : List Bool) (seen todo : List ℕ) → IsVisitOf heads graph keys classes roots met opened seen todo → todo ≡ [] → IsVisited heads graph roots seen
visit_ended heads graph keys classes roots met opened seen todo v e = record {
  trees = v.trees;
  rooted = v.rooted;
  order = visited_with heads graph seen v.visit.coming v.visit.trees (visit_all v.trees []) (subst (λ xs. AreTrees heads graph xs v.visit.coming) e v.visit.are_coming) v.visit.are_trees v.visit.rest;
}

pub visit_classed : (heads : List Head) (graph : List (List ℕ)) (keys : List Key) (classes : List (Option ℕ)) (roots : List ℕ) (met opened : List Bool) (seen todo : List ℕ) → IsVisitOf heads graph keys classes roots met opened seen todo → AllClassed classes seen
visit_classed heads graph keys classes roots met opened seen todo v = v.visit.seen_classed

pub visit_apart : (heads : List Head) (graph : List (List ℕ)) (keys : List Key) (classes : List (Option ℕ)) (roots : List ℕ) (met opened : List Bool) (seen todo : List ℕ) → IsVisitOf heads graph keys classes roots met opened seen todo → HaveOwnClasses classes seen
visit_apart heads graph keys classes roots met opened seen todo v = v.visit.apart

-- the same, of what a visit was said to have become
pub moved : (heads : List Head) (graph : List (List ℕ)) (keys : List Key) (classes : List (Option ℕ)) (final : List Tree) (met met2 opened opened2 : List Bool) (seen seen2 todo todo2 : List ℕ) → met2 ≡ met → opened2 ≡ opened → seen2 ≡ seen → todo2 ≡ todo → IsVisit heads graph keys classes final met opened seen todo → IsVisit heads graph keys classes final met2 opened2 seen2 todo2
moved heads graph keys classes final met met2 opened opened2 seen seen2 todo todo2 a b c d v =
    subst (λ m. IsVisit heads graph keys classes final m opened2 seen2 todo2) (sym a)
    (subst (λ o. IsVisit heads graph keys classes final met o seen2 todo2) (sym b)
    (subst (λ s. IsVisit heads graph keys classes final met opened s todo2) (sym c) (subst (IsVisit heads graph keys classes final met opened seen) (sym d) v)))

pub less_then : (graph : List (List ℕ)) (marks marks2 : List Bool) (x : ℕ) (todo todo2 : List ℕ) → length marks ≡ length graph → false ≡ get_or marks x true → marks2 ≡ set marks x true → todo2 ≡ leads_to graph x ++ todo → effort_unmarked graph marks2 + length todo2 ≤ effort_unmarked graph marks + length todo
less_then graph marks marks2 x todo todo2 len fresh set_is todo_is =
    let l : length todo2 ≡ length (leads_to graph x) + length todo = ap length todo_is ∙ length-append (leads_to graph x) todo in
    let within : x < length marks = unset_within marks x (sym fresh) in
    let lt : x < length graph = omega arith in
    subst (λ m. effort_unmarked graph m + length todo2 ≤ effort_unmarked graph marks + length todo) (sym set_is) (opened_less graph marks x (length todo2) (length todo) len lt (sym fresh) l)

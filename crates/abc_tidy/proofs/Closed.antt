-- What is met has all trees under its root met too.
use Rattle.std.proofs.Common.{◌≡◌, ℕ, ◌⊎◌, inl, inr, List, [], ◌∷◌, ◌++◌, Bool, true, false, ◌||◌, if◌then◌else◌, refl, sym, ap, subst, ◌∙◌, append_assoc, append-nil, true≢false}
use Rattle.abc_base_graphs.specs.Graph.{leads_to}
use Rattle.abc_base_trees.specs.declared.heads.Head.{Head}
use Rattle.abc_base_trees.specs.Trees.{Tree, Leaf, Apply, AreTrees, NoTrees, OneMore, GrowsTrees, Done, More, IsTree, head_of_tree, tree_eq}
use Rattle.abc_base_trees.specs.Visits.{is_met, visit, visit_all, visit_parts}
use Rattle.abc_base_trees.proofs.TreeLaws.{trees_same}
use Rattle.abc_tidy.specs.Free.{root}
use Rattle.abc_tidy.proofs.Alike.{tree_parts}
use Rattle.abc_base_trees.specs.Orders.{StandsIn}
use Rattle.abc_tidy.proofs.Lists.{in_cases, in_left, in_right}

pub met_in : (t : Tree) (met : List Tree) → is_met t met ≡ true → StandsIn t met
met_in t [] e = absurd (true≢false (sym e))
met_in t (m ∷ met) e = by (tree_eq t m) refl (met_in t met)
  where
    by : (b : Bool) → tree_eq t m ≡ b → (is_met t met ≡ true → StandsIn t met) → StandsIn t (m ∷ met)
    by true f k = inl (trees_same t m f)
    by false f k = inr (k (sym (ap (λ b. b || is_met t met) f) ∙ e))

-- those that were met before still are, and each of the others has all of its parts met
record Grown (met all : List Tree) : Type 0 where
  keeps : (x : Tree) → StandsIn x met → StandsIn x all
  closed : (x : Tree) → StandsIn x all → StandsIn x met ⊎ ((p : Tree) → StandsIn p (tree_parts x) → StandsIn p all)

grown_none : (met : List Tree) → Grown met met
grown_none met = record { keeps = λ x h. h; closed = λ x h. inl h }

grown_then : (a b c : List Tree) → Grown a b → Grown b c → Grown a c
grown_then a b c f g = record { keeps = λ x h. g.keeps x (f.keeps x h); closed = λ x h. last x (g.closed x h) }
  where
    first : (x : Tree) → StandsIn x a ⊎ ((p : Tree) → StandsIn p (tree_parts x) → StandsIn p b) → StandsIn x a ⊎ ((p : Tree) → StandsIn p (tree_parts x) → StandsIn p c)
    first x (inl h) = inl h
    first x (inr k) = inr (λ p h. g.keeps p (k p h))

    last : (x : Tree) → StandsIn x b ⊎ ((p : Tree) → StandsIn p (tree_parts x) → StandsIn p c) → StandsIn x a ⊎ ((p : Tree) → StandsIn p (tree_parts x) → StandsIn p c)
    last x (inl h) = first x (f.closed x h)
    last x (inr k) = inr k

-- the parts of a tree are met too
record Went (t : Tree) (met all : List Tree) : Type 0 where
  grown : Grown met all
  under : (p : Tree) → StandsIn p (tree_parts t) → StandsIn p all

-- a tree that was not met before, once its parts were met
entered : (t : Tree) (met all : List Tree) → Went t (met ++ t ∷ []) all → Grown met all
entered t met all w = record { keeps = λ x h. w.grown.keeps x (in_left met (t ∷ []) x h); closed = λ x h. go x (w.grown.closed x h) }
  where
    old : (x : Tree) → StandsIn x met ⊎ StandsIn x (t ∷ []) → StandsIn x met ⊎ ((p : Tree) → StandsIn p (tree_parts x) → StandsIn p all)
    old x (inl h) = inl h
    old x (inr (inl e)) = inr (λ p h. w.under p (subst (λ y. StandsIn p (tree_parts y)) e h))
    old x (inr (inr h)) = absurd h

    go : (x : Tree) → StandsIn x (met ++ t ∷ []) ⊎ ((p : Tree) → StandsIn p (tree_parts x) → StandsIn p all) → StandsIn x met ⊎ ((p : Tree) → StandsIn p (tree_parts x) → StandsIn p all)
    go x (inl h) = old x (in_cases met (t ∷ []) x h)
    go x (inr k) = inr k

in_entered : (t : Tree) (met all : List Tree) → Went t (met ++ t ∷ []) all → StandsIn t all
in_entered t met all w = w.grown.keeps t (in_right met (t ∷ []) t (inl refl))

went_next : (t part : Tree) (met before all : List Tree) → Went t met before → Went part (before ++ part ∷ []) all → Went (Apply t part) met all
went_next t part met before all w u = record {
  grown = grown_then met before all w.grown (entered part before all u);
  under = λ p h. go p (in_cases (tree_parts t) (part ∷ []) p h);
}
  where
    go : (p : Tree) → StandsIn p (tree_parts t) ⊎ StandsIn p (part ∷ []) → StandsIn p all
    go p (inl h) = (entered part before all u).keeps p (w.under p h)
    go p (inr (inl e)) = subst (λ x. StandsIn x all) (sym e) (in_entered part before all u)
    go p (inr (inr h)) = absurd h

went_skip : (t part : Tree) (met before : List Tree) → Went t met before → StandsIn part before → Went (Apply t part) met before
went_skip t part met before w here = record { grown = w.grown; under = λ p h. go p (in_cases (tree_parts t) (part ∷ []) p h) }
  where
    go : (p : Tree) → StandsIn p (tree_parts t) ⊎ StandsIn p (part ∷ []) → StandsIn p before
    go p (inl h) = w.under p h
    go p (inr (inl e)) = subst (λ x. StandsIn x before) (sym e) here
    go p (inr (inr h)) = absurd h

parts_went : (t : Tree) (met : List Tree) → Went t met (visit_parts t met)
parts_went (Leaf h) met = record { grown = grown_none met; under = λ p h. absurd h }
parts_went (Apply t part) met = go (is_met part (visit_parts t met)) refl (parts_went t met) (parts_went part (visit_parts t met ++ part ∷ []))
  where
    go : (b : Bool) → is_met part (visit_parts t met) ≡ b → Went t met (visit_parts t met) → Went part (visit_parts t met ++ part ∷ []) (visit_parts part (visit_parts t met ++ part ∷ [])) → Went (Apply t part) met (if b then visit_parts t met else visit_parts part (visit_parts t met ++ part ∷ []))
    go true e w u = went_skip t part met (visit_parts t met) w (met_in part (visit_parts t met) e)
    go false e w u = went_next t part met (visit_parts t met) (visit_parts part (visit_parts t met ++ part ∷ [])) w u

visit_went : (t : Tree) (met : List Tree) → Grown met (visit t met) × StandsIn t (visit t met)
visit_went t met = go (is_met t met) refl (parts_went t (met ++ t ∷ []))
  where
    go : (b : Bool) → is_met t met ≡ b → Went t (met ++ t ∷ []) (visit_parts t (met ++ t ∷ [])) → Grown met (if b then met else visit_parts t (met ++ t ∷ [])) × StandsIn t (if b then met else visit_parts t (met ++ t ∷ []))
    go true e w = (grown_none met, met_in t met e)
    go false e w = (entered t met (visit_parts t (met ++ t ∷ [])) w, in_entered t met (visit_parts t (met ++ t ∷ [])) w)

all_went : (ts met : List Tree) → Grown met (visit_all ts met) × ((t : Tree) → StandsIn t ts → StandsIn t (visit_all ts met))
all_went [] met = (grown_none met, λ t h. absurd h)
all_went (t ∷ ts) met =
    let first = visit_went t met in
    let rest = all_went ts (visit t met) in
    (grown_then met (visit t met) (visit_all ts (visit t met)) first.0 rest.0, λ x h. go x h first.1 rest.0 rest.1)
  where
    go : (x : Tree) → StandsIn x (t ∷ ts) → StandsIn t (visit t met) → Grown (visit t met) (visit_all ts (visit t met)) → ((y : Tree) → StandsIn y ts → StandsIn y (visit_all ts (visit t met))) → StandsIn x (visit_all ts (visit t met))
    go x (inl e) here g k = subst (λ y. StandsIn y (visit_all ts (visit t met))) (sym e) (g.keeps t here)
    go x (inr h) here g k = k x h

pub rooted_met : (ts : List Tree) (t : Tree) → StandsIn t ts → StandsIn t (visit_all ts [])
rooted_met ts t h = (all_went ts []).1 t h

pub parts_met : (ts : List Tree) (t p : Tree) → StandsIn t (visit_all ts []) → StandsIn p (tree_parts t) → StandsIn p (visit_all ts [])
parts_met ts t p h k = go ((all_went ts []).0.closed t h)
  where
    go : StandsIn t [] ⊎ ((q : Tree) → StandsIn q (tree_parts t) → StandsIn q (visit_all ts [])) → StandsIn p (visit_all ts [])
    go (inl n) = absurd n
    go (inr f) = f p k

-- ---- the parts of the tree of a node

pub record Gained (heads : List Head) (graph : List (List ℕ)) (xs : List ℕ) (t u : Tree) : Type 0 where
  pub more : List Tree
  pub are : AreTrees heads graph xs more
  pub under : tree_parts u ≡ tree_parts t ++ more
  pub one_root : root u ≡ root t

pub gained : {heads : List Head} {graph : List (List ℕ)} {xs : List ℕ} {t u : Tree} → GrowsTrees heads graph xs t u → Gained heads graph xs t u
gained {t = t} Done = record { more = []; are = NoTrees; under = sym (append-nil (tree_parts t)); one_root = refl }
gained (More {t = t} {part = part} p g) =
    let r = gained g in
    record { more = part ∷ r.more; are = OneMore p r.are; under = r.under ∙ append_assoc (tree_parts t) (part ∷ []) r.more; one_root = r.one_root }

pub node_parts : (heads : List Head) (graph : List (List ℕ)) (x : ℕ) (t : Tree) → IsTree heads graph x t → AreTrees heads graph (leads_to graph x) (tree_parts t)
node_parts heads graph x t g = let r = gained g in subst (AreTrees heads graph (leads_to graph x)) (sym r.under) r.are

pub node_root : (heads : List Head) (graph : List (List ℕ)) (x : ℕ) (t : Tree) → IsTree heads graph x t → root t ≡ head_of_tree heads x
node_root heads graph x t g = (gained g).one_root

-- The numbers of a list, each once: they reach what all of them do, and the visit of their trees is that of all.
use Rattle.std.proofs.Common.{◌≡◌, ℕ, ◌+◌, ◌<◌, ◌⊎◌, inl, inr, All, List, [], ◌∷◌, ◌++◌, Bool, true, false, ◌||◌, if◌then◌else◌, nat_eq, eqb-true, eq-eqb, get_or, length, replicate, refl, sym, ap, subst, ◌∙◌, append_assoc, true≢false, get_or-set_other, get_or-set_same}
use Rattle.std.specs.declared.option.Option.{Option}
use Rattle.std.proofs.Math.ListN.{set, length-set}
use Rattle.std.proofs.lemmas.Bool.{cases_eq}
use Rattle.std.proofs.lemmas.List.{append-nil, get_or_default}
use Rattle.std.proofs.lemmas.List.Folds.{list_any-append}
use Rattle.abc_file_types.specs.declared.tables.Abc.{Abc}
use Rattle.abc_base_trees.specs.declared.heads.Head.{Head}
use Rattle.abc_base_trees.specs.Classes.{AllClassed}
use Rattle.abc_base_trees.specs.Orders.{StandsIn, IsVisitOrder, NoneReturns, Onward, ReachesNode, Root}
use Rattle.abc_base_trees.specs.Trees.{Apply, AreTrees, IsTree, Leaf, NoTrees, OneMore, Tree, tree_eq}
use Rattle.abc_base_trees.specs.Visits.{IsVisited, is_met, visit, visit_all, visit_parts}
use Rattle.abc_base_trees.proofs.TreeLaws.{met_here, met_push}
use Rattle.abc_base_trees.proofs.Visited.{no_marks}
use Rattle.abc_base_trees.proofs.Walked.{in_append, in_at, in_last, in_left}
use Rattle.abc_tidy_entries.specs.Entries.{graph_of}
use Rattle.abc_tidy_entries.specs.Once.{AreListMarks, is_in_list, once, with_all, with_one}
use Rattle.abc_tidy_entries.specs.Visited.{roots_of}
use Rattle.abc_tidy_entries.proofs.Acyclic.{classed_in}
use Rattle.abc_tidy_entries.proofs.NodeGraph.{root_within}
use Rattle.abc_tidy_entries.proofs.Ordered.{all_have}

-- ---- the marks

pub no_numbers : (n : ℕ) (marks : List Bool) → marks ≡ replicate n false → AreListMarks marks []
no_numbers n marks e = record { marks_are = λ y lt. ap (λ ms. get_or ms y false) e ∙ no_marks n y }

pub kept : (ys : List ℕ) (x : ℕ) → true ≡ is_in_list x ys → ys ≡ with_one ys x
kept ys x e = ap (λ b. if b then ys else ys ++ x ∷ []) e

pub added : (ys zs : List ℕ) (x : ℕ) → false ≡ is_in_list x ys → zs ≡ ys ++ x ∷ [] → zs ≡ with_one ys x
added ys zs x e is = is ∙ ap (λ b. if b then ys else ys ++ x ∷ []) e

or_none : (b : Bool) → (b || false) ≡ b
or_none true = refl
or_none false = refl

or_some : (b : Bool) → (b || true) ≡ true
or_some true = refl
or_some false = refl

in_push : (y x : ℕ) (ys : List ℕ) → is_in_list y (ys ++ x ∷ []) ≡ (is_in_list y ys || nat_eq y x)
in_push y x ys = list_any-append (nat_eq y) ys (x ∷ []) ∙ ap (λ b. is_in_list y ys || b) (or_none (nat_eq y x))

not_equal : (y x : ℕ) → (y ≡ x → ⊥) → nat_eq y x ≡ false
not_equal y x ne = by (nat_eq y x) refl
  where
    by : (b : Bool) → nat_eq y x ≡ b → nat_eq y x ≡ false
    by true e = absurd (ne (eqb-true y x e))
    by false e = e

marked_more : (marks : List Bool) (ys : List ℕ) (x : ℕ) → AreListMarks marks ys → x < length marks → AreListMarks (set marks x true) (ys ++ x ∷ [])
marked_more marks ys x m lt = record { marks_are = λ y l. go y (subst (λ k. y < k) (length-set marks x true) l) (cases_eq y x) }
  where
    go : (y : ℕ) → y < length marks → (y ≡ x) ⊎ (y ≡ x → ⊥) → get_or (set marks x true) y false ≡ is_in_list y (ys ++ x ∷ [])
    go y l (inl e) = ap (λ z. get_or (set marks x true) z false) e ∙ get_or-set_same marks x true false lt ∙ sym (in_push y x ys ∙ ap (λ b. is_in_list y ys || b) (eq-eqb y x e) ∙ or_some (is_in_list y ys))
    go y l (inr ne) = get_or-set_other marks x y true false ne ∙ m.marks_are y l ∙ sym (in_push y x ys ∙ ap (λ b. is_in_list y ys || b) (not_equal y x ne) ∙ or_none (is_in_list y ys))

pub marked_one : (marks marks2 : List Bool) (ys zs : List ℕ) (x : ℕ) → AreListMarks marks ys → x < length marks → marks2 ≡ set marks x true → zs ≡ ys ++ x ∷ [] → AreListMarks marks2 zs
marked_one marks marks2 ys zs x m lt e f = subst (λ ms. AreListMarks ms zs) (sym e) (subst (AreListMarks (set marks x true)) (sym f) (marked_more marks ys x m lt))

pub is_marked : (marks : List Bool) (ys : List ℕ) (x : ℕ) (b : Bool) → AreListMarks marks ys → x < length marks → get_or marks x b ≡ b → b ≡ is_in_list x ys
is_marked marks ys x b m lt at = sym at ∙ get_or_default marks x b false lt ∙ m.marks_are x lt

-- ---- what stands in the list

found : (x : ℕ) (ys : List ℕ) → is_in_list x ys ≡ true → StandsIn x ys
found x [] e = absurd (true≢false (sym e))
found x (y ∷ ys) e = by (nat_eq x y) refl e (found x ys)
  where
    by : (b : Bool) → nat_eq x y ≡ b → (b || is_in_list x ys) ≡ true → (is_in_list x ys ≡ true → StandsIn x ys) → StandsIn x (y ∷ ys)
    by true p q rest = inl (eqb-true x y p)
    by false p q rest = inr (rest q)

still_one : (y : ℕ) (ys : List ℕ) (x : ℕ) → StandsIn y ys → StandsIn y (with_one ys x)
still_one y ys x h = by (is_in_list x ys)
  where
    by : (b : Bool) → StandsIn y (if b then ys else ys ++ x ∷ [])
    by true = h
    by false = in_left y ys (x ∷ []) h

has_one : (ys : List ℕ) (x : ℕ) → StandsIn x (with_one ys x)
has_one ys x = by (is_in_list x ys) refl
  where
    by : (b : Bool) → is_in_list x ys ≡ b → StandsIn x (if b then ys else ys ++ x ∷ [])
    by true e = found x ys e
    by false e = in_last x ys

from_one : (y : ℕ) (ys : List ℕ) (x : ℕ) → StandsIn y (with_one ys x) → StandsIn y ys ⊎ (y ≡ x)
from_one y ys x h = by (is_in_list x ys) h
  where
    last : StandsIn y ys ⊎ StandsIn y (x ∷ []) → StandsIn y ys ⊎ (y ≡ x)
    last (inl k) = inl k
    last (inr (inl e)) = inr e
    last (inr (inr k)) = absurd k

    by : (b : Bool) → StandsIn y (if b then ys else ys ++ x ∷ []) → StandsIn y ys ⊎ (y ≡ x)
    by true k = inl k
    by false k = last (in_append y ys (x ∷ []) k)

still_all : (y : ℕ) (ys xs : List ℕ) → StandsIn y ys → StandsIn y (with_all ys xs)
still_all y ys [] h = h
still_all y ys (x ∷ xs) h = still_all y (with_one ys x) xs (still_one y ys x h)

has_all : (y : ℕ) (ys xs : List ℕ) → StandsIn y xs → StandsIn y (with_all ys xs)
has_all y ys [] h = absurd h
has_all y ys (x ∷ xs) (inl e) = still_all y (with_one ys x) xs (subst (λ z. StandsIn z (with_one ys x)) (sym e) (has_one ys x))
has_all y ys (x ∷ xs) (inr h) = has_all y (with_one ys x) xs h

from_all : (y : ℕ) (ys xs : List ℕ) → StandsIn y (with_all ys xs) → StandsIn y ys ⊎ StandsIn y xs
from_all y ys [] h = inl h
from_all y ys (x ∷ xs) h = go (from_all y (with_one ys x) xs h)
  where
    one : StandsIn y ys ⊎ (y ≡ x) → StandsIn y ys ⊎ StandsIn y (x ∷ xs)
    one (inl k) = inl k
    one (inr e) = inr (inl e)

    go : StandsIn y (with_one ys x) ⊎ StandsIn y xs → StandsIn y ys ⊎ StandsIn y (x ∷ xs)
    go (inl k) = one (from_one y ys x k)
    go (inr k) = inr (inr k)

in_list : (y : ℕ) (xs : List ℕ) → StandsIn y (once xs) → StandsIn y xs
in_list y xs h = go (from_all y [] xs h)
  where
    go : StandsIn y [] ⊎ StandsIn y xs → StandsIn y xs
    go (inl k) = absurd k
    go (inr k) = k

-- ---- what the numbers reach, and their classes

reached_from : {graph : List (List ℕ)} {xs : List ℕ} {y : ℕ} → ReachesNode graph (once xs) y → ReachesNode graph xs y
reached_from {graph} {xs} {y} (Root h) = Root (in_list y xs h)
reached_from (Onward r k) = Onward (reached_from r) k

none_returns : (graph : List (List ℕ)) (xs : List ℕ) → NoneReturns graph xs → NoneReturns graph (once xs)
none_returns graph xs n = record { never = λ x r. n.never x (reached_from r) }

order_of_all : (graph : List (List ℕ)) (xs order : List ℕ) → IsVisitOrder graph (once xs) order → IsVisitOrder graph xs order
order_of_all graph xs order o = record { behind = o.behind; rooted = λ y h. o.rooted y (has_all y [] xs h); reached = λ y h. reached_from (o.reached y h) }

pub ordered_all : (graph : List (List ℕ)) (roots xs order : List ℕ) → roots ≡ once xs → (NoneReturns graph roots → IsVisitOrder graph roots order) → NoneReturns graph xs → IsVisitOrder graph xs order
ordered_all graph roots xs order e is n =
    let o = is (subst (NoneReturns graph) (sym e) (none_returns graph xs n)) in
    order_of_all graph xs order (subst (λ rs. IsVisitOrder graph rs order) e o)

pub all_within : (v : Abc) (graph : List (List ℕ)) (roots : List ℕ) → graph ≡ graph_of v → roots ≡ once (roots_of v) → All (λ y. y < length graph) roots
all_within v graph roots e f =
    subst (λ g. All (λ y. y < length g) roots) (sym e)
    (subst (λ rs. All (λ y. y < length (graph_of v)) rs) (sym f) (λ k d lt. root_within v (get_or (once (roots_of v)) k d) (in_list (get_or (once (roots_of v)) k d) (roots_of v) (in_at (once (roots_of v)) k d lt))))

pub all_classed : (classes : List (Option ℕ)) (xs : List ℕ) → AllClassed classes (once xs) → AllClassed classes xs
all_classed classes xs h = all_have classes xs (λ y k. classed_in classes (once xs) y h (has_all y [] xs k))

pub once_classed : (classes : List (Option ℕ)) (roots xs : List ℕ) → roots ≡ once xs → AllClassed classes xs → AllClassed classes roots
once_classed classes roots xs e h = subst (AllClassed classes) (sym e) (all_have classes (once xs) (λ y k. classed_in classes xs y h (in_list y xs k)))

-- ---- the visit

met_more : (t u : Tree) (met : List Tree) → is_met t met ≡ true → is_met t (met ++ u ∷ []) ≡ true
met_more t u met h = met_push t u met ∙ ap (λ b. b || tree_eq t u) h

either : (t : Tree) (b : Bool) (xs ys : List Tree) → is_met t xs ≡ true → is_met t ys ≡ true → is_met t (if b then xs else ys) ≡ true
either t true xs ys p q = p
either t false xs ys p q = q

met_after : (t u : Tree) (met : List Tree) → is_met t met ≡ true → is_met t (visit_parts u met) ≡ true
met_after t (Leaf h) met p = p
met_after t (Apply a part) met p =
    let q = met_after t a met p in
    let before : List Tree = visit_parts a met in
    either t (is_met part before) before (visit_parts part (before ++ part ∷ [])) q (met_after t part (before ++ part ∷ []) (met_more t part before q))

met_still : (t u : Tree) (met : List Tree) → is_met t met ≡ true → is_met t (visit u met) ≡ true
met_still t u met p = either t (is_met u met) met (visit_parts u (met ++ u ∷ [])) p (met_after t u (met ++ u ∷ []) (met_more t u met p))

met_now : (t : Tree) (met : List Tree) → is_met t (visit t met) ≡ true
met_now t met = by (is_met t met) refl
  where
    by : (b : Bool) → is_met t met ≡ b → is_met t (if b then met else visit_parts t (met ++ t ∷ [])) ≡ true
    by true e = e
    by false e = met_after t t (met ++ t ∷ []) (met_here t met)

met_through : (t : Tree) (ts met : List Tree) → is_met t met ≡ true → is_met t (visit_all ts met) ≡ true
met_through t [] met p = p
met_through t (u ∷ ts) met p = met_through t ts (visit u met) (met_still t u met p)

met_among : (t : Tree) (ts met : List Tree) → StandsIn t ts → is_met t (visit_all ts met) ≡ true
met_among t [] met h = absurd h
met_among t (u ∷ ts) met (inl e) = met_through t ts (visit u met) (subst (λ z. is_met t (visit z met) ≡ true) e (met_now t met))
met_among t (u ∷ ts) met (inr h) = met_among t ts (visit u met) h

visit_append : (ts us met : List Tree) → visit_all (ts ++ us) met ≡ visit_all us (visit_all ts met)
visit_append [] us met = refl
visit_append (t ∷ ts) us met = visit_append ts us (visit t met)

record Split (heads : List Head) (graph : List (List ℕ)) (xs ys : List ℕ) (us : List Tree) : Type 0 where
  firsts : List Tree
  rests : List Tree
  left : AreTrees heads graph xs firsts
  right : AreTrees heads graph ys rests
  same : us ≡ firsts ++ rests

split : {heads : List Head} {graph : List (List ℕ)} (xs ys : List ℕ) {us : List Tree} → AreTrees heads graph (xs ++ ys) us → Split heads graph xs ys us
split [] ys {us} h = record { firsts = []; rests = us; left = NoTrees; right = h; same = refl }
split (x ∷ xs) ys (OneMore {t = t} p h) =
    let r = split xs ys h in
    record { firsts = t ∷ r.firsts; rests = r.rests; left = OneMore p r.left; right = r.right; same = ap (λ zs. t ∷ zs) r.same }

record TreeIn (heads : List Head) (graph : List (List ℕ)) (x : ℕ) (ts : List Tree) : Type 0 where
  tree : Tree
  is : IsTree heads graph x tree
  among : StandsIn tree ts

tree_in : {heads : List Head} {graph : List (List ℕ)} {xs : List ℕ} {ts : List Tree} (x : ℕ) → AreTrees heads graph xs ts → StandsIn x xs → TreeIn heads graph x ts
tree_in x NoTrees h = absurd h
tree_in {heads} {graph} x (OneMore {t = t} p rest) (inl e) = record { tree = t; is = subst (λ z. IsTree heads graph z t) (sym e) p; among = inl refl }
tree_in x (OneMore p rest) (inr h) = let r = tree_in x rest h in record { tree = r.tree; is = r.is; among = inr r.among }

joined : {heads : List Head} {graph : List (List ℕ)} {xs ys : List ℕ} {ts us : List Tree} → AreTrees heads graph xs ts → AreTrees heads graph ys us → AreTrees heads graph (xs ++ ys) (ts ++ us)
joined NoTrees b = b
joined (OneMore p a) b = OneMore p (joined a b)

-- trees of all the numbers, whose visit is that of some trees
record Spread (heads : List Head) (graph : List (List ℕ)) (zs : List ℕ) (ts : List Tree) : Type 0 where
  trees : List Tree
  are : AreTrees heads graph zs trees
  same : visit_all trees [] ≡ visit_all ts []

-- a number that stood before may stand again
again : {heads : List Head} {graph : List (List ℕ)} (ys xs : List ℕ) (x : ℕ) {ts : List Tree} → StandsIn x ys → Spread heads graph (ys ++ xs) ts → Spread heads graph (ys ++ x ∷ xs) ts
again {heads} {graph} ys xs x {ts} h s =
    let p = split ys xs s.are in
    let t = tree_in x p.left h in
    let met : List Tree = visit_all p.firsts [] in
    let known : visit t.tree met ≡ met = ap (λ b. if b then met else visit_parts t.tree (met ++ t.tree ∷ [])) (met_among t.tree p.firsts [] t.among) in
    record {
      trees = p.firsts ++ t.tree ∷ p.rests;
      are = joined p.left (OneMore t.is p.right);
      same = visit_append p.firsts (t.tree ∷ p.rests) [] ∙ ap (visit_all p.rests) known ∙ sym (visit_append p.firsts p.rests []) ∙ ap (λ us. visit_all us []) (sym p.same) ∙ s.same;
    }

spread : {heads : List Head} {graph : List (List ℕ)} (ys xs : List ℕ) (ts : List Tree) → AreTrees heads graph (with_all ys xs) ts → Spread heads graph (ys ++ xs) ts
spread {heads} {graph} ys [] ts h = record { trees = ts; are = subst (λ zs. AreTrees heads graph zs ts) (sym (append-nil ys)) h; same = refl }
spread {heads} {graph} ys (x ∷ xs) ts h = by (is_in_list x ys) refl h (spread ys xs ts) (spread (ys ++ x ∷ []) xs ts)
  where
    by : (b : Bool) → is_in_list x ys ≡ b → AreTrees heads graph (with_all (if b then ys else ys ++ x ∷ []) xs) ts → (AreTrees heads graph (with_all ys xs) ts → Spread heads graph (ys ++ xs) ts) → (AreTrees heads graph (with_all (ys ++ x ∷ []) xs) ts → Spread heads graph ((ys ++ x ∷ []) ++ xs) ts) → Spread heads graph (ys ++ x ∷ xs) ts
    by true e k old new = again ys xs x (found x ys e) (old k)
    by false e k old new = subst (λ zs. Spread heads graph zs ts) (append_assoc ys (x ∷ []) xs) (new k)

pub visited_all : (heads : List Head) (graph : List (List ℕ)) (roots xs seen : List ℕ) → roots ≡ once xs → IsVisited heads graph roots seen → IsVisited heads graph xs seen
visited_all heads graph roots xs seen e v =
    let s = spread [] xs v.trees (subst (λ rs. AreTrees heads graph rs v.trees) e v.rooted) in
    record { trees = s.trees; rooted = s.are; order = subst (AreTrees heads graph seen) (sym s.same) v.order }

-- Trees are equal exactly where their test says so; a node has one tree, a class stands for one, and a tree has one class.
use Rattle.std.proofs.Common.{◌≡◌, ◌≢◌, ℕ, List, [], ◌∷◌, ◌++◌, Bool, true, false, ◌||◌, nat_eq, eqb-true, eq-eqb, Some, refl, sym, ap, subst, ◌∙◌, true≢false, arith}
use Rattle.abc_base_trees.specs.declared.heads.Head.{Head}
use Rattle.abc_base_trees.specs.declared.keys.Key.{Key}
use Rattle.abc_base_trees.specs.Trees.{Tree, Leaf, Apply, no_head, GrowsTrees, Done, More, head_eq, tree_eq}
use Rattle.abc_base_trees.specs.Classes.{leaf_key, apply_key, MeansTree, MeansLeaf, MeansApply, AreDistinct}
use Rattle.abc_base_trees.specs.Visits.{is_met}
use Rattle.abc_base_trees.proofs.Keyed.{and-left, and-right}

-- ---- what a tree is made of

is_leaf : Tree → Bool
is_leaf (Leaf h) = true
is_leaf (Apply t u) = false

head_in : Tree → Head
head_in (Leaf h) = h
head_in (Apply t u) = no_head

tree_in : Tree → Tree
tree_in (Leaf h) = Leaf h
tree_in (Apply t u) = t

part_in : Tree → Tree
part_in (Leaf h) = Leaf h
part_in (Apply t u) = u

pub leaf_or_apply : (h : Head) (t u : Tree) → Leaf h ≡ Apply t u → ⊥
unfolding is_leaf
leaf_or_apply h t u e = true≢false (ap is_leaf e)

pub leaf_same : (h k : Head) → Leaf h ≡ Leaf k → h ≡ k
unfolding head_in
leaf_same h k e = ap head_in e

pub tree_same : (t u v w : Tree) → Apply t u ≡ Apply v w → t ≡ v
unfolding tree_in
tree_same t u v w e = ap tree_in e

pub part_same : (t u v w : Tree) → Apply t u ≡ Apply v w → u ≡ w
unfolding part_in
part_same t u v w e = ap part_in e

-- ---- the test

pub heads_same : (a b : Head) → head_eq a b ≡ true → a ≡ b
heads_same a b e =
    let kind : a.kind ≡ b.kind = eqb-true _ _ (and-left _ _ e) in
    let value : a.value ≡ b.value = eqb-true _ _ (and-right (nat_eq a.kind b.kind) _ e) in
    λ i. record { kind = kind i; value = value i }

pub heads_refl : (a : Head) → head_eq a a ≡ true
heads_refl a =
    let kind = eq-eqb a.kind a.kind refl in
    let value = eq-eqb a.value a.value refl in
    rw kind (rw value refl)

pub trees_same : (t u : Tree) → tree_eq t u ≡ true → t ≡ u
trees_same (Leaf a) (Leaf b) e = ap Leaf (heads_same a b e)
trees_same (Leaf a) (Apply t u) e = absurd (true≢false (sym e))
trees_same (Apply t u) (Leaf a) e = absurd (true≢false (sym e))
trees_same (Apply t u) (Apply v w) e =
    let p = trees_same t v (and-left _ _ e) in
    let q = trees_same u w (and-right (tree_eq t v) _ e) in
    λ i. Apply (p i) (q i)

pub trees_refl : (t : Tree) → tree_eq t t ≡ true
trees_refl (Leaf a) = heads_refl a
trees_refl (Apply t u) = let p = trees_refl t in let q = trees_refl u in rw p q

pub trees_apart : (t u : Tree) → t ≢ u → tree_eq t u ≡ false
trees_apart t u ne = by (tree_eq t u) refl
  where
    by : (b : Bool) → tree_eq t u ≡ b → tree_eq t u ≡ false
    by true e = absurd (ne (trees_same t u e))
    by false e = e

or_assoc : (a b c : Bool) → ((a || b) || c) ≡ (a || (b || c))
or_assoc true b c = refl
or_assoc false b c = refl

or_none : (a : Bool) → (a || false) ≡ a
or_none true = refl
or_none false = refl

or_some : (a : Bool) → (a || true) ≡ true
or_some true = refl
or_some false = refl

pub met_push : (t u : Tree) (met : List Tree) → is_met t (met ++ u ∷ []) ≡ (is_met t met || tree_eq t u)
met_push t u [] = or_none (tree_eq t u)
met_push t u (v ∷ met) = ap (λ b. tree_eq t v || b) (met_push t u met) ∙ sym (or_assoc (tree_eq t v) (is_met t met) (tree_eq t u))

pub met_here : (t : Tree) (met : List Tree) → is_met t (met ++ t ∷ []) ≡ true
met_here t met = met_push t t met ∙ ap (λ b. is_met t met || b) (trees_refl t) ∙ or_some (is_met t met)

pub met_other : (t u : Tree) (met : List Tree) → t ≢ u → is_met t (met ++ u ∷ []) ≡ is_met t met
met_other t u met ne = met_push t u met ∙ ap (λ b. is_met t met || b) (trees_apart t u ne) ∙ or_none (is_met t met)

-- ---- one tree

pub one_tree : {heads : List Head} {graph : List (List ℕ)} {xs : List ℕ} {t u w : Tree} → GrowsTrees heads graph xs t u → GrowsTrees heads graph xs t w → u ≡ w
one_tree Done Done = refl
one_tree {heads} {graph} {w = w} (More {xs = xs} {t = t} p g) (More q h) =
    one_tree g (subst (λ part. GrowsTrees heads graph xs (Apply t part) w) (sym (one_tree p q)) h)

steps_apart : (k l : Key) → k ≡ l → k.step ≡ 0 → l.step ≡ 1 → ⊥
steps_apart k l e a b = let f : k.step ≡ l.step = ap (λ k. k.step) e in omega arith

pub one_meaning : {keys : List Key} {c : ℕ} {t u : Tree} → MeansTree keys c t → MeansTree keys c u → t ≡ u
one_meaning (MeansLeaf {h = h} a) (MeansLeaf {h = k} b) =
    let e : Some (leaf_key h) ≡ Some (leaf_key k) = sym a ∙ b in
    let q : leaf_key h ≡ leaf_key k = cc in
    λ i. Leaf (record { kind = (q i).kind; value = (q i).first })
one_meaning (MeansLeaf {h = h} a) (MeansApply {tree = x} {part = y} b p q) =
    let e : Some (leaf_key h) ≡ Some (apply_key x y) = sym a ∙ b in
    let r : leaf_key h ≡ apply_key x y = cc in
    absurd (steps_apart (leaf_key h) (apply_key x y) r refl refl)
one_meaning (MeansApply {tree = x} {part = y} a p q) (MeansLeaf {h = h} b) =
    let e : Some (apply_key x y) ≡ Some (leaf_key h) = sym a ∙ b in
    let r : apply_key x y ≡ leaf_key h = cc in
    absurd (steps_apart (leaf_key h) (apply_key x y) (sym r) refl refl)
one_meaning {keys} {u = w} (MeansApply {tree = x} {part = y} {t = t} {u = u} a p q) (MeansApply {tree = x2} {part = y2} {t = t2} {u = u2} b p2 q2) =
    let e : Some (apply_key x y) ≡ Some (apply_key x2 y2) = sym a ∙ b in
    let r : apply_key x y ≡ apply_key x2 y2 = cc in
    let f : t ≡ t2 = one_meaning p (subst (λ n. MeansTree keys n t2) (sym (ap (λ k. k.first) r)) p2) in
    let g : u ≡ u2 = one_meaning q (subst (λ n. MeansTree keys n u2) (sym (ap (λ k. k.second) r)) q2) in
    λ i. Apply (f i) (g i)

pub one_class : {keys : List Key} {c d : ℕ} {t u : Tree} → AreDistinct keys → MeansTree keys c t → MeansTree keys d u → t ≡ u → c ≡ d
one_class {keys} {c} {d} s (MeansLeaf {h = h} a) (MeansLeaf {h = k} b) e =
    s.one c d (leaf_key h) a (b ∙ ap (λ n. Some (leaf_key n)) (sym (leaf_same h k e)))
one_class s (MeansLeaf {h = h} a) (MeansApply {t = t} {u = u} b p q) e = absurd (leaf_or_apply h t u e)
one_class s (MeansApply {t = t} {u = u} a p q) (MeansLeaf {h = h} b) e = absurd (leaf_or_apply h t u (sym e))
one_class {keys} {c} {d} s (MeansApply {tree = x} {part = y} {t = t} {u = u} a p q) (MeansApply {tree = x2} {part = y2} {t = t2} {u = u2} b p2 q2) e =
    let f : x ≡ x2 = one_class s p p2 (tree_same t u t2 u2 e) in
    let g : y ≡ y2 = one_class s q q2 (part_same t u t2 u2 e) in
    s.one c d (apply_key x y) a (b ∙ (λ i. Some (apply_key (sym f i) (sym g i))))

-- What classes stand for, as keys are added.
use Rattle.std.proofs.Common.{◌≡◌, ◌≢◌, ℕ, zero, suc, ◌+◌, ◌<◌, ◌≤◌, ◌⊎◌, inl, inr, List, [], ◌∷◌, replicate, length, get_or, slice_get, drop, Some, None, refl, sym, ap, subst, ◌∙◌, arith, get_or-set_other, get_or-set_same}
use Rattle.std.proofs.Math.ListN.{set, length-set}
use Rattle.std.specs.declared.option.Option.{Option}
use Rattle.std.proofs.lemmas.Bool.{cases_eq, cases_lt}
use Rattle.std.proofs.lemmas.List.{length-replicate}
use Rattle.indexmap.specs.IndexSet.{insert_key}
use Rattle.abc_base_graphs.specs.Graph.{leads_to}
use Rattle.abc_base_trees.specs.declared.heads.Head.{Head}
use Rattle.abc_base_trees.specs.declared.keys.Key.{Key}
use Rattle.abc_base_trees.specs.Trees.{Tree, Leaf, Apply, head_of_tree, GrowsTrees, Done, More, IsTree}
use Rattle.abc_base_trees.specs.Classes.{leaf_key, apply_key, tree_keys_eq, MeansTree, MeansLeaf, MeansApply, tree_class, HasTree, HasClass, AreTreeClasses, AreDistinct, Extends, IsBuilt, IsClassOf}
use Rattle.abc_base_trees.proofs.Efforts.{below_zero}
use Rattle.abc_base_trees.proofs.Keyed.{insert_extends, insert_distinct, extends_then}

-- ---- added keys leave what classes stand for

pub means_on : {old new : List Key} {c : ℕ} {t : Tree} → Extends old new → MeansTree old c t → MeansTree new c t
means_on e (MeansLeaf at) = MeansLeaf (e.keeps _ _ at)
means_on e (MeansApply at tree part) = MeansApply (e.keeps _ _ at) (means_on e tree) (means_on e part)

pub has_tree_on : (heads : List Head) (graph : List (List ℕ)) (old new : List Key) (x c : ℕ) → Extends old new → HasTree heads graph old x c → HasTree heads graph new x c
has_tree_on heads graph old new x c e h = record { tree = h.tree; is = h.is; means = means_on e h.means }

pub extended : (heads : List Head) (graph : List (List ℕ)) (old new : List Key) (classes : List (Option ℕ)) → AreTreeClasses heads graph old classes → Extends old new → AreTreeClasses heads graph new classes
extended heads graph old new classes s e = record {
  len = s.len;
  tree = λ x c h. has_tree_on heads graph old new x c e (s.tree x c h);
  closed = s.closed;
}

-- ---- a class is built part by part

pub built_leaf : (heads : List Head) (graph : List (List ℕ)) (x c : ℕ) (h : Head) (old keys : List Key) (classes : List (Option ℕ)) → AreDistinct old → keys ≡ insert_key tree_keys_eq old (leaf_key h) → slice_get keys c ≡ Some (leaf_key h) → h ≡ head_of_tree heads x → IsBuilt heads graph x 0 old keys classes c
built_leaf heads graph x c h old keys classes distinct is at same = record {
  distinct = subst AreDistinct (sym is) (insert_distinct old (leaf_key h) distinct);
  extends = subst (Extends old) (sym is) (insert_extends old (leaf_key h));
  tree = Leaf (head_of_tree heads x);
  means = subst (λ k. MeansTree keys c (Leaf k)) same (MeansLeaf at);
  grows = λ t g. g;
  classed = λ k lt. absurd (none k lt);
}
  where
    none : (k : ℕ) → k < 0 → ⊥
    none k l = omega arith

pub drop_cons : (xs : List ℕ) (i : ℕ) → i < length xs → drop i xs ≡ get_or xs i 0 ∷ drop (i + 1) xs
drop_cons [] i lt = absurd (below_zero i lt)
drop_cons (x ∷ xs) zero lt = refl
drop_cons (x ∷ xs) (suc i) lt =
    let e : suc i + 1 ≡ suc (i + 1) = omega arith in
    drop_cons xs i (omega arith) ∙ sym (ap (λ n. get_or xs i 0 ∷ drop n (x ∷ xs)) e)

pub built_next : (heads : List Head) (graph : List (List ℕ)) (x i : ℕ) (old keys keys2 : List Key) (classes : List (Option ℕ)) (c c2 d p : ℕ) → AreTreeClasses heads graph old classes → IsBuilt heads graph x i old keys classes c → i < length (leads_to graph x) → p ≡ get_or (leads_to graph x) i 0 → tree_class classes p ≡ Some d → keys2 ≡ insert_key tree_keys_eq keys (apply_key c d) → slice_get keys2 c2 ≡ Some (apply_key c d) → IsBuilt heads graph x (i + 1) old keys2 classes c2
built_next heads graph x i old keys keys2 classes c c2 d p s b lt is has made at = record {
  distinct = subst AreDistinct (sym made) (insert_distinct keys (apply_key c d) b.distinct);
  extends = extends_then old keys keys2 b.extends on;
  tree = Apply b.tree part.tree;
  means = MeansApply at (means_on on b.means) (means_on on (means_on b.extends part.means));
  grows = λ t g. b.grows t (subst (λ xs. GrowsTrees heads graph xs b.tree t) (sym (drop_cons (leads_to graph x) i lt)) (More (subst (λ q. IsTree heads graph q part.tree) is part.is) g));
  classed = λ k l. classed k l (cases_lt k i);
}
  where
    on : Extends keys keys2
    on = subst (Extends keys) (sym made) (insert_extends keys (apply_key c d))

    part : HasTree heads graph old p d
    part = s.tree p d has

    classed : (k : ℕ) → k < i + 1 → (k < i) ⊎ (i ≤ k) → HasClass classes (get_or (leads_to graph x) k 0)
    classed k l (inl h) = b.classed k h
    classed k l (inr h) =
        let q : i ≡ k = omega arith in
        subst (λ n. HasClass classes (get_or (leads_to graph x) n 0)) q (subst (HasClass classes) is (record { number = d; is = has }))

pub built_all : (heads : List Head) (graph : List (List ℕ)) (x i : ℕ) (old keys : List Key) (classes : List (Option ℕ)) (c : ℕ) → IsBuilt heads graph x i old keys classes c → i ≡ length (leads_to graph x) → IsClassOf heads graph x keys classes c
built_all heads graph x i old keys classes c b e = record {
  tree = record { tree = b.tree; is = b.grows b.tree (subst (λ xs. GrowsTrees heads graph xs b.tree b.tree) (sym (ends (leads_to graph x) i e)) Done); means = b.means };
  classed = λ k l. b.classed k (omega arith);
}
  where
    ends : (xs : List ℕ) (i : ℕ) → i ≡ length xs → drop i xs ≡ []
    ends xs i q = ap (λ n. drop n xs) q ∙ all xs
      where
        all : (ys : List ℕ) → drop (length ys) ys ≡ []
        all [] = refl
        all (y ∷ ys) = all ys

-- ---- a class is given to a node

pub has_class_on : (classes : List (Option ℕ)) (x c y : ℕ) → x < length classes → HasClass classes y → HasClass (set classes x (Some c)) y
has_class_on classes x c y lt h = go (cases_eq y x)
  where
    go : (y ≡ x) ⊎ (y ≡ x → ⊥) → HasClass (set classes x (Some c)) y
    go (inl q) = record { number = c; is = ap (tree_class (set classes x (Some c))) q ∙ get_or-set_same classes x (Some c) None lt }
    go (inr ne) = record { number = h.number; is = get_or-set_other classes x y (Some c) None ne ∙ h.is }

pub settled : (heads : List Head) (graph : List (List ℕ)) (keys : List Key) (classes : List (Option ℕ)) (x c : ℕ) → AreTreeClasses heads graph keys classes → x < length graph → IsClassOf heads graph x keys classes c → AreTreeClasses heads graph keys (set classes x (Some c))
settled heads graph keys classes x c s lt h = record {
  len = length-set classes x (Some c) ∙ s.len;
  tree = λ y d e. tree y d e (cases_eq y x);
  closed = λ y d e k l. has_class_on classes x c (get_or (leads_to graph y) k 0) within (closed y d e k l (cases_eq y x));
}
  where
    within : x < length classes
    within = let e = s.len in omega arith

    here : tree_class (set classes x (Some c)) x ≡ Some c
    here = get_or-set_same classes x (Some c) None within

    other : (y : ℕ) → y ≢ x → tree_class (set classes x (Some c)) y ≡ tree_class classes y
    other y ne = get_or-set_other classes x y (Some c) None ne

    tree : (y d : ℕ) → tree_class (set classes x (Some c)) y ≡ Some d → (y ≡ x) ⊎ (y ≡ x → ⊥) → HasTree heads graph keys y d
    tree y d e (inr ne) = s.tree y d (sym (other y ne) ∙ e)
    tree y d e (inl q) =
        let f : tree_class (set classes x (Some c)) y ≡ Some c = ap (tree_class (set classes x (Some c))) q ∙ here in
        let g : c ≡ d = cc in
        subst (λ n. HasTree heads graph keys n d) (sym q) (subst (HasTree heads graph keys x) g h.tree)

    closed : (y d : ℕ) → tree_class (set classes x (Some c)) y ≡ Some d → (k : ℕ) → k < length (leads_to graph y) → (y ≡ x) ⊎ (y ≡ x → ⊥) → HasClass classes (get_or (leads_to graph y) k 0)
    closed y d e k l (inr ne) = s.closed y d (sym (other y ne) ∙ e) k l
    closed y d e k l (inl q) = subst (λ n. HasClass classes (get_or (leads_to graph n) k 0)) (sym q) (h.classed k (subst (λ n. k < length (leads_to graph n)) q l))

pub none_classed : (heads : List Head) (graph : List (List ℕ)) (keys : List Key) (classes : List (Option ℕ)) → classes ≡ replicate (length graph) None → AreTreeClasses heads graph keys classes
none_classed heads graph keys classes e = record {
  len = ap length e ∙ length-replicate (length graph) None;
  tree = λ x c h. absurd (never x c h);
  closed = λ x c h. absurd (never x c h);
}
  where
    never : (x c : ℕ) → tree_class classes x ≡ Some c → ⊥
    never x c h = let n : tree_class classes x ≡ None = ap (λ cs. tree_class cs x) e ∙ nothing x (length graph) in cc
      where
        nothing : (x n : ℕ) → tree_class (replicate n None) x ≡ None
        nothing x zero = refl
        nothing zero (suc n) = refl
        nothing (suc x) (suc n) = nothing x n

-- The visit goes alike on trees whose heads are renamed one to one.
use Rattle.std.proofs.Common.{◌≡◌, ℕ, List, [], ◌∷◌, ◌++◌, Bool, true, false, ◌&&◌, ◌||◌, if◌then◌else◌, refl, sym, ap, subst, ◌∙◌, true≢false}
use Rattle.abc_base_trees.specs.declared.heads.Head.{Head}
use Rattle.abc_base_trees.specs.Trees.{Tree, Leaf, Apply, head_eq, tree_eq}
use Rattle.abc_base_trees.specs.Visits.{is_met, visit, visit_all, visit_parts}
use Rattle.abc_base_trees.proofs.TreeLaws.{trees_refl, trees_same}
use Rattle.abc_tidy.specs.Free.{root}
use Rattle.abc_base_trees.specs.Orders.{StandsIn}
use Rattle.abc_tidy.proofs.Lists.{Pairs, pairs_append, pairs_if}

-- two trees of one form, whose heads are related
abbrev pub Alike : (Head → Head → Type 0) → Tree → Tree → Type 0
Alike r (Leaf h) (Leaf k) = r h k
Alike r (Leaf h) (Apply u q) = ⊥
Alike r (Apply t p) (Leaf k) = ⊥
Alike r (Apply t p) (Apply u q) = Alike r t u × Alike r p q

-- related heads are equal on one side exactly where they are on the other
abbrev pub OneToOne : (Head → Head → Type 0) → Type 0
OneToOne r = (h k h2 k2 : Head) → r h k → r h2 k2 → head_eq h h2 ≡ head_eq k k2

pub alike_eq : (r : Head → Head → Type 0) → OneToOne r → (a b c d : Tree) → Alike r a b → Alike r c d → tree_eq a c ≡ tree_eq b d
alike_eq r one (Leaf h) (Leaf k) (Leaf h2) (Leaf k2) x y = one h k h2 k2 x y
alike_eq r one (Leaf h) (Leaf k) (Leaf h2) (Apply u2 q2) x y = absurd y
alike_eq r one (Leaf h) (Leaf k) (Apply t2 p2) (Leaf k2) x y = absurd y
alike_eq r one (Leaf h) (Leaf k) (Apply t2 p2) (Apply u2 q2) x y = refl
alike_eq r one (Leaf h) (Apply u q) c d x y = absurd x
alike_eq r one (Apply t p) (Leaf k) c d x y = absurd x
alike_eq r one (Apply t p) (Apply u q) (Leaf h2) (Leaf k2) x y = refl
alike_eq r one (Apply t p) (Apply u q) (Leaf h2) (Apply u2 q2) x y = absurd y
alike_eq r one (Apply t p) (Apply u q) (Apply t2 p2) (Leaf k2) x y = absurd y
alike_eq r one (Apply t p) (Apply u q) (Apply t2 p2) (Apply u2 q2) x y =
    let e : tree_eq t t2 ≡ tree_eq u u2 = alike_eq r one t u t2 u2 x.0 y.0 in
    let f : tree_eq p p2 ≡ tree_eq q q2 = alike_eq r one p q p2 q2 x.1 y.1 in
    λ i. e i && f i

pub met_alike : (r : Head → Head → Type 0) → OneToOne r → (a b : Tree) (ms ns : List Tree) → Alike r a b → Pairs (Alike r) ms ns → is_met a ms ≡ is_met b ns
met_alike r one a b [] [] x ps = refl
met_alike r one a b [] (n ∷ ns) x ps = absurd ps
met_alike r one a b (m ∷ ms) [] x ps = absurd ps
met_alike r one a b (m ∷ ms) (n ∷ ns) x ps =
    let e : tree_eq a m ≡ tree_eq b n = alike_eq r one a b m n x ps.0 in
    let f : is_met a ms ≡ is_met b ns = met_alike r one a b ms ns x ps.1 in
    λ i. e i || f i

pub parts_alike : (r : Head → Head → Type 0) → OneToOne r → (a b : Tree) (ms ns : List Tree) → Alike r a b → Pairs (Alike r) ms ns → Pairs (Alike r) (visit_parts a ms) (visit_parts b ns)
parts_alike r one (Leaf h) (Leaf k) ms ns x ps = ps
parts_alike r one (Leaf h) (Apply u q) ms ns x ps = absurd x
parts_alike r one (Apply t p) (Leaf k) ms ns x ps = absurd x
parts_alike r one (Apply t p) (Apply u q) ms ns x ps =
    let before : Pairs (Alike r) (visit_parts t ms) (visit_parts u ns) = parts_alike r one t u ms ns x.0 ps in
    let more : Pairs (Alike r) (visit_parts t ms ++ p ∷ []) (visit_parts u ns ++ q ∷ []) =
    pairs_append (Alike r) (visit_parts t ms) (visit_parts u ns) (p ∷ []) (q ∷ []) before (x.1, tt) in
    pairs_if (Alike r) (is_met p (visit_parts t ms)) (is_met q (visit_parts u ns)) (visit_parts t ms) (visit_parts u ns)
    (visit_parts p (visit_parts t ms ++ p ∷ [])) (visit_parts q (visit_parts u ns ++ q ∷ []))
    (met_alike r one p q (visit_parts t ms) (visit_parts u ns) x.1 before) before
    (parts_alike r one p q (visit_parts t ms ++ p ∷ []) (visit_parts u ns ++ q ∷ []) x.1 more)

pub visit_alike : (r : Head → Head → Type 0) → OneToOne r → (a b : Tree) (ms ns : List Tree) → Alike r a b → Pairs (Alike r) ms ns → Pairs (Alike r) (visit a ms) (visit b ns)
visit_alike r one a b ms ns x ps =
    pairs_if (Alike r) (is_met a ms) (is_met b ns) ms ns (visit_parts a (ms ++ a ∷ [])) (visit_parts b (ns ++ b ∷ []))
    (met_alike r one a b ms ns x ps) ps
    (parts_alike r one a b (ms ++ a ∷ []) (ns ++ b ∷ []) x (pairs_append (Alike r) ms ns (a ∷ []) (b ∷ []) ps (x, tt)))

pub all_alike : (r : Head → Head → Type 0) → OneToOne r → (ts us ms ns : List Tree) → Pairs (Alike r) ts us → Pairs (Alike r) ms ns → Pairs (Alike r) (visit_all ts ms) (visit_all us ns)
all_alike r one [] [] ms ns xs ps = ps
all_alike r one [] (u ∷ us) ms ns xs ps = absurd xs
all_alike r one (t ∷ ts) [] ms ns xs ps = absurd xs
all_alike r one (t ∷ ts) (u ∷ us) ms ns xs ps = all_alike r one ts us (visit t ms) (visit u ns) xs.1 (visit_alike r one t u ms ns xs.0 ps)

-- a tree is like one alone
pub alike_one : (r : Head → Head → Type 0) → OneToOne r → (a b c : Tree) → Alike r a b → Alike r a c → b ≡ c
alike_one r one a b c x y = trees_same b c (sym (alike_eq r one a b a c x y) ∙ trees_refl a)

pub alike_back : (r : Head → Head → Type 0) → OneToOne r → (a b c : Tree) → Alike r a b → Alike r c b → a ≡ c
alike_back r one a b c x y = trees_same a c (alike_eq r one a b c b x y ∙ trees_refl b)

-- ---- roots and parts

-- the trees under the root of a tree, in order
abbrev pub tree_parts : Tree → List Tree
tree_parts (Leaf h) = []
tree_parts (Apply t part) = tree_parts t ++ part ∷ []

pub root_alike : (r : Head → Head → Type 0) (a b : Tree) → Alike r a b → r (root a) (root b)
root_alike r (Leaf h) (Leaf k) x = x
root_alike r (Leaf h) (Apply u q) x = absurd x
root_alike r (Apply t p) (Leaf k) x = absurd x
root_alike r (Apply t p) (Apply u q) x = root_alike r t u x.0

pub under_alike : (r : Head → Head → Type 0) (a b : Tree) → Alike r a b → Pairs (Alike r) (tree_parts a) (tree_parts b)
under_alike r (Leaf h) (Leaf k) x = tt
under_alike r (Leaf h) (Apply u q) x = absurd x
under_alike r (Apply t p) (Leaf k) x = absurd x
under_alike r (Apply t p) (Apply u q) x = pairs_append (Alike r) (tree_parts t) (tree_parts u) (p ∷ []) (q ∷ []) (under_alike r t u x.0) (x.1, tt)

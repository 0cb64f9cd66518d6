-- Things are the trees of nodes with values in place of places, and files with equal things have trees that are alike.
use Rattle.std.proofs.Common.{◌≡◌, ℕ, zero, suc, ◌⊎◌, inl, inr, List, [], ◌∷◌, ◌++◌, map, get_or, drop, nat_eq, Bool, true, false, if◌then◌else◌, eq-eqb, refl, sym, ap, subst, ◌∙◌, true≢false}
use Rattle.std.specs.List.{flat_map}
use Rattle.abc_base_graphs.specs.Graph.{leads_to}
use Rattle.abc_tidy_refs.specs.Nodes.{counts_of}
use Rattle.abc_file_types.specs.declared.names.NsKind.{NsKind}
use Rattle.abc_file_types.specs.declared.names.NsKind.TheVariants as spaces
use Rattle.abc_file_types.specs.declared.tables.Abc.{Abc}
use Rattle.abc_file_types.specs.Pools.{namespace_code}
use Rattle.abc_base_trees.specs.declared.heads.Head.{Head}
use Rattle.abc_base_trees.specs.Trees.{Tree, Leaf, Apply, AreTrees, NoTrees, OneMore, GrowsTrees, Done, More, IsTree, head_of_tree, head_eq}
use Rattle.abc_base_trees.specs.Visits.{visit_all}
use Rattle.abc_base_trees.proofs.TreeLaws.{leaf_same, one_tree, trees_refl, trees_same}
use Rattle.abc_tidy_entries.specs.Entries.{graph_of, heads_of, space_told}
use Rattle.abc_tidy.specs.Free.{private_place, privates_among, root}
use Rattle.abc_tidy.specs.Things.{AreThings, NoThings, OneThing, Entry, NoEntry, IntEntry, UIntEntry, DoubleEntry, TextEntry, SpaceEntry, SetEntry, NameEntry, IsThing, Joined, Whole, Under, EntryLabel, Zero, Thing, Alone, With, entry_at, label_of_entry, parts}
use Rattle.abc_tidy.proofs.Alike.{Alike, OneToOne, tree_parts}
use Rattle.abc_tidy.proofs.Closed.{gained, node_root, parts_met, rooted_met}
use Rattle.abc_tidy.proofs.Entered.{entry_head, head_at, targets_at}
use Rattle.abc_tidy.proofs.Labelled.{Fine, FineSpace, head_found, head_of, label_found, label_of}
use Rattle.abc_base_trees.specs.Orders.{StandsIn}
use Rattle.abc_tidy.proofs.Lists.{Pairs, in_left, in_right}

-- ---- one thing, and one list of trees

pub one_thing : {v : Abc} {privates : List ℕ} {xs : List ℕ} {t u w : Thing} → Joined v privates xs t u → Joined v privates xs t w → u ≡ w
one_thing Whole Whole = refl
one_thing {v} {privates} {w = w} (Under {xs = xs} {t = t} p g) (Under q h) =
    one_thing g (subst (λ part. Joined v privates xs (With t part) w) (sym (one_thing p q)) h)

pub one_things : {v : Abc} {privates : List ℕ} {xs : List ℕ} {ts us : List Thing} → AreThings v privates xs ts → AreThings v privates xs us → ts ≡ us
one_things NoThings NoThings = refl
one_things (OneThing p ps) (OneThing q qs) = let e = one_thing p q in let f = one_things ps qs in λ i. e i ∷ f i

pub one_trees : {heads : List Head} {graph : List (List ℕ)} {xs : List ℕ} {ts us : List Tree} → AreTrees heads graph xs ts → AreTrees heads graph xs us → ts ≡ us
one_trees NoTrees NoTrees = refl
one_trees (OneMore p ps) (OneMore q qs) = let e = one_tree p q in let f = one_trees ps qs in λ i. e i ∷ f i

-- ---- the thing of a tree

abbrev pub thing_of : Abc → List ℕ → Tree → Thing
thing_of v privates (Leaf h) = Alone (label_of v privates h)
thing_of v privates (Apply t part) = With (thing_of v privates t) (thing_of v privates part)

pub label_at : (v : Abc) (privates : List ℕ) (x : ℕ) → label_of v privates (head_of_tree (heads_of v) x) ≡ label_of_entry privates (entry_at v x)
label_at v privates x = ap (label_of v privates) (head_at v x) ∙ label_found v privates x

joined : (v : Abc) (privates : List ℕ) {xs : List ℕ} {t u : Tree} → GrowsTrees (heads_of v) (graph_of v) xs t u → Joined v privates xs (thing_of v privates t) (thing_of v privates u)
joined v privates Done = Whole
joined v privates (More {x = x} {part = part} p g) =
    Under (subst (λ ys. Joined v privates ys (Alone (label_of_entry privates (entry_at v x))) (thing_of v privates part)) (targets_at v x)
    (subst (λ l. Joined v privates (leads_to (graph_of v) x) (Alone l) (thing_of v privates part)) (label_at v privates x) (joined v privates p))) (joined v privates g)

pub is_thing : (v : Abc) (privates : List ℕ) (x : ℕ) (t : Tree) → IsTree (heads_of v) (graph_of v) x t → IsThing v privates x (thing_of v privates t)
is_thing v privates x t g =
    subst (λ ys. Joined v privates ys (Alone (label_of_entry privates (entry_at v x))) (thing_of v privates t)) (targets_at v x)
    (subst (λ l. Joined v privates (leads_to (graph_of v) x) (Alone l) (thing_of v privates t)) (label_at v privates x) (joined v privates g))

pub are_things : (v : Abc) (privates : List ℕ) {xs : List ℕ} {ts : List Tree} → AreTrees (heads_of v) (graph_of v) xs ts → AreThings v privates xs (map (thing_of v privates) ts)
are_things v privates NoTrees = NoThings
are_things v privates (OneMore {x = x} {t = t} p ps) = OneThing (is_thing v privates x t p) (are_things v privates ps)

-- ---- heads that labels give back

abbrev pub Sound : Abc → List ℕ → Tree → Type 0
Sound v privates (Leaf h) = head_of v privates (label_of v privates h) ≡ h
Sound v privates (Apply t part) = Sound v privates t × Sound v privates part

in_privates : (all : List Tree) (t : Tree) → StandsIn t all → nat_eq (root t).kind (namespace_code spaces.Private) ≡ true → StandsIn (root t).value (privates_among all)
in_privates [] t h e = absurd h
in_privates (s ∷ all) t (inl same) e =
    subst (λ u. StandsIn (root t).value (private_place u ++ privates_among all)) same
    (in_left (private_place t) (privates_among all) (root t).value
    (subst (StandsIn (root t).value) (sym (ap (λ b. if b then (root t).value ∷ [] else []) e)) (inl refl)))
in_privates (s ∷ all) t (inr h) e = in_right (private_place s) (privates_among all) (root t).value (in_privates all t h e)

fine_space : (all : List Tree) (t : Tree) (kind : NsKind) (place : ℕ) → root t ≡ record { kind = namespace_code kind; value = space_told kind place } → StandsIn t all → FineSpace (privates_among all) kind place
fine_space all t spaces.Private place e h = subst (λ p. StandsIn p (privates_among all)) (ap (λ r. r.value) e) (in_privates all t h (ap (λ r. nat_eq r.kind (namespace_code spaces.Private)) e))
fine_space all t spaces.Namespace place e h = tt
fine_space all t spaces.Package place e h = tt
fine_space all t spaces.PackageInternal place e h = tt
fine_space all t spaces.Protected place e h = tt
fine_space all t spaces.Explicit place e h = tt
fine_space all t spaces.StaticProtected place e h = tt

fine_entry : (v : Abc) (all : List Tree) (t : Tree) (e : Entry) → root t ≡ entry_head v e → StandsIn t all → Fine (privates_among all) e
fine_entry v all t NoEntry e h = tt
fine_entry v all t (IntEntry x) e h = tt
fine_entry v all t (UIntEntry x) e h = tt
fine_entry v all t (DoubleEntry x) e h = tt
fine_entry v all t (TextEntry x) e h = tt
fine_entry v all t (SpaceEntry place n) e h = fine_space all t n.kind place e h
fine_entry v all t (SetEntry spaces) e h = tt
fine_entry v all t (NameEntry m) e h = tt

pub fine : (v : Abc) (all : List Tree) (x : ℕ) (t : Tree) → IsTree (heads_of v) (graph_of v) x t → StandsIn t all → Fine (privates_among all) (entry_at v x)
fine v all x t g h = fine_entry v all t (entry_at v x) (node_root (heads_of v) (graph_of v) x t g ∙ head_at v x) h

leaf_sound : (v : Abc) (all : List Tree) (x : ℕ) (t : Tree) → IsTree (heads_of v) (graph_of v) x t → StandsIn t all → Sound v (privates_among all) (Leaf (head_of_tree (heads_of v) x))
leaf_sound v all x t g h =
    ap (head_of v (privates_among all)) (label_at v (privates_among all) x) ∙ head_found v (privates_among all) (entry_at v x) (fine v all x t g h) ∙ sym (head_at v x)

grown_sound : (v : Abc) (ts : List Tree) {xs : List ℕ} {t u : Tree} → GrowsTrees (heads_of v) (graph_of v) xs t u → ((p : Tree) → StandsIn p (tree_parts u) → StandsIn p (visit_all ts [])) → Sound v (privates_among (visit_all ts [])) t → Sound v (privates_among (visit_all ts [])) u
grown_sound v ts Done h s = s
grown_sound v ts (More {x = x} {t = t} {part = part} {u = u} p g) h s =
    let r = gained g in
    let here : StandsIn part (visit_all ts []) =
    h part (subst (StandsIn part) (sym r.under) (in_left (tree_parts t ++ part ∷ []) r.more part (in_right (tree_parts t) (part ∷ []) part (inl refl)))) in
    let under : Sound v (privates_among (visit_all ts [])) part =
    grown_sound v ts p (λ q k. parts_met ts part q here k) (leaf_sound v (visit_all ts []) x part p here) in
    grown_sound v ts g h (s, under)

pub sound : (v : Abc) (ts : List Tree) (x : ℕ) (t : Tree) → IsTree (heads_of v) (graph_of v) x t → StandsIn t (visit_all ts []) → Sound v (privates_among (visit_all ts [])) t
sound v ts x t g h = grown_sound v ts g (λ q k. parts_met ts t q h k) (leaf_sound v (visit_all ts []) x t g h)

-- those that stand in a list of trees of nodes
pub all_sound : (v : Abc) (ts us : List Tree) (xs : List ℕ) → AreTrees (heads_of v) (graph_of v) xs us → ((t : Tree) → StandsIn t us → StandsIn t (visit_all ts [])) → (t : Tree) → StandsIn t us → Sound v (privates_among (visit_all ts [])) t
all_sound v ts us xs NoTrees h t k = absurd k
all_sound v ts us0 xs0 (OneMore {x = x} {t = u} g are) h t (inl e) = subst (Sound v (privates_among (visit_all ts []))) (sym e) (sound v ts x u g (h u (inl refl)))
all_sound v ts us0 xs0 (OneMore {xs = xs} {ts = us} g are) h t (inr k) = all_sound v ts us xs are (λ s l. h s (inr l)) t k

-- ---- heads of two files that say the same

abbrev pub Twins : Abc → List ℕ → Abc → List ℕ → Head → Head → Type 0
Twins v ps w qs h k = (label_of v ps h ≡ label_of w qs k) × (head_of v ps (label_of v ps h) ≡ h) × (head_of w qs (label_of w qs k) ≡ k)

same_bool : (b c : Bool) → (b ≡ true → c ≡ true) → (c ≡ true → b ≡ true) → b ≡ c
same_bool true c f g = sym (f refl)
same_bool false true f g = absurd (true≢false (sym (g refl)))
same_bool false false f g = refl

heads_equal : (h k : Head) → head_eq h k ≡ true → h ≡ k
heads_equal h k e = leaf_same h k (trees_same (Leaf h) (Leaf k) e)

heads_eq : (h k : Head) → h ≡ k → head_eq h k ≡ true
heads_eq h k e = subst (λ l. head_eq h l ≡ true) e (trees_refl (Leaf h))

pub twins_one : (v : Abc) (ps : List ℕ) (w : Abc) (qs : List ℕ) → OneToOne (Twins v ps w qs)
twins_one v ps w qs h k h2 k2 x y = same_bool (head_eq h h2) (head_eq k k2) forth back
  where
    forth : head_eq h h2 ≡ true → head_eq k k2 ≡ true
    forth e =
        let f : label_of w qs k ≡ label_of w qs k2 = sym x.0 ∙ ap (label_of v ps) (heads_equal h h2 e) ∙ y.0 in
        heads_eq k k2 (sym x.2 ∙ ap (head_of w qs) f ∙ y.2)

    back : head_eq k k2 ≡ true → head_eq h h2 ≡ true
    back e =
        let f : label_of v ps h ≡ label_of v ps h2 = x.0 ∙ ap (label_of w qs) (heads_equal k k2 e) ∙ sym y.0 in
        heads_eq h h2 (sym x.1 ∙ ap (head_of v ps) f ∙ y.1)

-- ---- equal things

is_alone : Thing → Bool
is_alone (Alone l) = true
is_alone (With t u) = false

label_in : Thing → EntryLabel
label_in (Alone l) = l
label_in (With t u) = Zero

thing_in : Thing → Thing
thing_in (Alone l) = Alone l
thing_in (With t u) = t

part_in : Thing → Thing
part_in (Alone l) = Alone l
part_in (With t u) = u

alone_or_with : (l : EntryLabel) (t u : Thing) → Alone l ≡ With t u → ⊥
unfolding is_alone
alone_or_with l t u e = true≢false (ap is_alone e)

alone_same : (l m : EntryLabel) → Alone l ≡ Alone m → l ≡ m
unfolding label_in
alone_same l m e = ap label_in e

with_same : (t u x y : Thing) → With t u ≡ With x y → t ≡ x
unfolding thing_in
with_same t u x y e = ap thing_in e

under_same : (t u x y : Thing) → With t u ≡ With x y → u ≡ y
unfolding part_in
under_same t u x y e = ap part_in e

pub alike_of : (v : Abc) (ps : List ℕ) (w : Abc) (qs : List ℕ) (a b : Tree) → thing_of v ps a ≡ thing_of w qs b → Sound v ps a → Sound w qs b → Alike (Twins v ps w qs) a b
alike_of v ps w qs (Leaf h) (Leaf k) e s t = (alone_same (label_of v ps h) (label_of w qs k) e, s, t)
alike_of v ps w qs (Leaf h) (Apply u q) e s t = alone_or_with (label_of v ps h) (thing_of w qs u) (thing_of w qs q) e
alike_of v ps w qs (Apply c p) (Leaf k) e s t = alone_or_with (label_of w qs k) (thing_of v ps c) (thing_of v ps p) (sym e)
alike_of v ps w qs (Apply c p) (Apply u q) e s t =
    (alike_of v ps w qs c u (with_same (thing_of v ps c) (thing_of v ps p) (thing_of w qs u) (thing_of w qs q) e) s.0 t.0, alike_of v ps w qs p q (under_same (thing_of v ps c) (thing_of v ps p) (thing_of w qs u) (thing_of w qs q) e) s.1 t.1)

pub thing_alike : (v : Abc) (ps : List ℕ) (w : Abc) (qs : List ℕ) (a b : Tree) → Alike (Twins v ps w qs) a b → thing_of v ps a ≡ thing_of w qs b
thing_alike v ps w qs (Leaf h) (Leaf k) x = ap Alone x.0
thing_alike v ps w qs (Leaf h) (Apply u q) x = absurd x
thing_alike v ps w qs (Apply c p) (Leaf k) x = absurd x
thing_alike v ps w qs (Apply c p) (Apply u q) x =
    let e : thing_of v ps c ≡ thing_of w qs u = thing_alike v ps w qs c u x.0 in
    let f : thing_of v ps p ≡ thing_of w qs q = thing_alike v ps w qs p q x.1 in
    λ i. With (e i) (f i)

pub pairs_of : (v : Abc) (ps : List ℕ) (w : Abc) (qs : List ℕ) (ts us : List Tree) → map (thing_of v ps) ts ≡ map (thing_of w qs) us → ((t : Tree) → StandsIn t ts → Sound v ps t) → ((u : Tree) → StandsIn u us → Sound w qs u) → Pairs (Alike (Twins v ps w qs)) ts us
pairs_of v ps w qs [] [] e s r = tt
pairs_of v ps w qs [] (u ∷ us) e s r = nil_or_cons e
  where
    nil_or_cons : [] ≡ thing_of w qs u ∷ map (thing_of w qs) us → ⊥
    nil_or_cons f = cc
pairs_of v ps w qs (t ∷ ts) [] e s r = cons_or_nil e
  where
    cons_or_nil : thing_of v ps t ∷ map (thing_of v ps) ts ≡ [] → ⊥
    cons_or_nil f = cc
pairs_of v ps w qs (t ∷ ts) (u ∷ us) e s r =
    (alike_of v ps w qs t u (ap (λ l. get_or l 0 (thing_of v ps t)) e) (s t (inl refl)) (r u (inl refl)), pairs_of v ps w qs ts us (ap (drop 1) e) (λ x h. s x (inr h)) (λ x h. r x (inr h)))

pub things_alike : (v : Abc) (ps : List ℕ) (w : Abc) (qs : List ℕ) (ts us : List Tree) → Pairs (Alike (Twins v ps w qs)) ts us → map (thing_of v ps) ts ≡ map (thing_of w qs) us
things_alike v ps w qs [] [] x = refl
things_alike v ps w qs [] (u ∷ us) x = absurd x
things_alike v ps w qs (t ∷ ts) [] x = absurd x
things_alike v ps w qs (t ∷ ts) (u ∷ us) x =
    let e : thing_of v ps t ≡ thing_of w qs u = thing_alike v ps w qs t u x.0 in
    let f : map (thing_of v ps) ts ≡ map (thing_of w qs) us = things_alike v ps w qs ts us x.1 in
    λ i. e i ∷ f i

-- The tidied value is a function of the free form.
use Rattle.std.proofs.Common.{◌≡◌, ℕ, zero, suc, ◌+◌, ◌<◌, ◌⊎◌, inl, inr, List, [], ◌∷◌, ◌++◌, All, map, length, get_or, refl, sym, ap, subst, ◌∙◌, arith}
use Rattle.std.proofs.lemmas.List.{length-map}
use Rattle.abc_base_graphs.specs.Graph.{leads_to}
use Rattle.abc_tidy_refs.specs.declared.nodes.Counts.{Counts}
use Rattle.abc_tidy_refs.specs.declared.refs.Ref.{Ref}
use Rattle.abc_tidy_refs.specs.Nodes.{counts_of, node_of, new_index}
use Rattle.abc_tidy_refs.specs.Refs.{file_refs, ref}
use Rattle.abc_tidy_refs.specs.Renumbered.{beside, new_file}
use Rattle.abc_file_types.specs.declared.opcodes.Pool.{Pool}
use Rattle.abc_file_types.specs.declared.opcodes.Pool.TheVariants as pools
use Rattle.abc_file_types.specs.declared.tables.Abc.{Abc}
use Rattle.abc_file_types.specs.Pools.{empty}
use Rattle.abc_base_trees.specs.declared.heads.Head.{Head}
use Rattle.abc_base_trees.specs.Trees.{Tree, AreTrees, NoTrees, OneMore, IsTree, head_of_tree}
use Rattle.abc_base_trees.specs.Visits.{visit_all}
use Rattle.abc_tidy_entries.specs.Entries.{graph_of, heads_of}
use Rattle.abc_tidy_entries.specs.NewPools.{new_pools}
use Rattle.abc_tidy_entries.specs.Visited.{IsAmong, IsNamed, IsTidiedValue, number_of_node, pool_of_node, roots_of}
use Rattle.abc_tidy.specs.Free.{Free, IsFreeForm, no_index, privates_among, root}
use Rattle.abc_tidy.specs.Things.{AreThings, EntryLabel, Thing, entries, entry_at, label_of_entry, parts}
use Rattle.abc_tidy.proofs.Alike.{Alike, OneToOne, all_alike, alike_one, root_alike, tree_parts, under_alike}
use Rattle.abc_tidy.proofs.Closed.{node_parts, node_root, parts_met, rooted_met}
use Rattle.abc_tidy.proofs.Entered.{graph_is, head_at, targets_at}
use Rattle.abc_tidy.proofs.Filling.{Fits, same_filled}
use Rattle.abc_tidy.proofs.Labelled.{label_of}
use Rattle.abc_base_trees.specs.Orders.{StandsIn}
use Rattle.abc_tidy.proofs.Lists.{Pairs, in_place, pairs_at, pairs_many, two_maps}
use Rattle.abc_tidy.proofs.Located.{entry_pool, locate, pool_at}
use Rattle.abc_tidy.proofs.Rows.{Row, entry_pool_is, label_pool, number, number_among_pools, number_by_pools, pools_are, pools_of, row_of, with_numbers}
use Rattle.abc_tidy.proofs.Twins.{Sound, Twins, all_sound, are_things, label_at, one_things, one_trees, pairs_of, thing_of, twins_one}

-- ---- nodes that are named, and trees by their places

pub named_root : (v : Abc) (seen : List ℕ) (y : ℕ) → StandsIn y (roots_of v) → IsNamed v seen y
named_root v seen y h = let p = in_place (roots_of v) y 0 h in inl (record { place = p.0; within = p.1; is = p.2 })

pub named_part : (v : Abc) (seen : List ℕ) (x y : ℕ) → StandsIn x seen → StandsIn y (leads_to (graph_of v) x) → IsNamed v seen y
named_part v seen x y h k =
    let p = in_place seen x 0 h in
    let q = in_place (leads_to (graph_of v) x) y 0 k in
    inr (record { by = p.0; within = p.1; among = subst (λ z. IsAmong (leads_to (graph_of v) z) y) (sym p.2) (record { place = q.0; within = q.1; is = q.2 }) })

pub trees_many : {heads : List Head} {graph : List (List ℕ)} {xs : List ℕ} {ts : List Tree} → AreTrees heads graph xs ts → length xs ≡ length ts
trees_many NoTrees = refl
trees_many (OneMore g are) = ap suc (trees_many are)

pub trees_at : (heads : List Head) (graph : List (List ℕ)) (xs : List ℕ) (ts : List Tree) (i : ℕ) (d : Tree) → AreTrees heads graph xs ts → i < length xs → IsTree heads graph (get_or xs i 0) (get_or ts i d)
trees_at heads graph xs ts i d NoTrees lt = absurd (none i lt)
  where
    none : (i : ℕ) → i < 0 → ⊥
    none i l = omega arith
trees_at heads graph xs ts zero d (OneMore g are) lt = g
trees_at heads graph xs ts (suc i) d (OneMore {xs = ys} {ts = us} g are) lt = trees_at heads graph ys us i d are (omega arith)

pub many_entries : (v : Abc) → length (graph_of v) ≡ length (entries v)
many_entries v = ap length (sym (graph_is v)) ∙ length-map (entries v) (parts (counts_of v))

-- ---- of one file

abbrev pub met : {v t : Abc} → IsTidiedValue v t → List Tree
met f = visit_all f.visited.trees []

abbrev pub privates : {v t : Abc} → IsTidiedValue v t → List ℕ
privates f = privates_among (visit_all f.visited.trees [])

pub within : (v t : Abc) (f : IsTidiedValue v t) → All (λ x. x < length (entries v)) f.seen
within v t f = subst (λ n. All (λ x. x < n) f.seen) (many_entries v) f.nodes

pub pools_by_labels : (v : Abc) (ps xs : List ℕ) → All (λ x. x < length (entries v)) xs → map (pool_of_node (counts_of v)) xs ≡ map label_pool (map (λ x. label_of_entry ps (entry_at v x)) xs)
pools_by_labels v ps [] h = refl
pools_by_labels v ps (x ∷ xs) h =
    let first : pool_of_node (counts_of v) x ≡ label_pool (label_of_entry ps (entry_at v x)) = pool_at v x (entry_at v x) (locate v x (h 0 0 (omega arith))) ∙ entry_pool_is ps (entry_at v x) in
    let rest = pools_by_labels v ps xs (λ k d lt. h (suc k) d (omega arith)) in
    λ i. first i ∷ rest i

pub numbers_fit : (v : Abc) (numbers : List ℕ) → Fits (new_index (with_numbers (counts_of v) numbers)) (λ r. number numbers (node_of (counts_of v) r.pool r.index))
numbers_fit v numbers pools.NoPool i = refl
numbers_fit v numbers pools.Int i = refl
numbers_fit v numbers pools.UInt i = refl
numbers_fit v numbers pools.Double i = refl
numbers_fit v numbers pools.Text i = refl
numbers_fit v numbers pools.Space i = refl
numbers_fit v numbers pools.Name i = refl

-- ---- of two files whose trees are alike

module _ (v t w u : Abc) (f : IsTidiedValue v t) (g : IsTidiedValue w u) (alike : Pairs (Alike (Twins v (privates f) w (privates g))) f.visited.trees g.visited.trees) where
  abbrev R : Head → Head → Type 0
  R = Twins v (privates f) w (privates g)

  one : OneToOne R
  one = twins_one v (privates f) w (privates g)

  pub all_pairs : Pairs (Alike R) (met f) (met g)
  all_pairs = all_alike R one f.visited.trees g.visited.trees [] [] alike tt

  label_pair : (x y : ℕ) (a b : Tree) → IsTree (heads_of v) (graph_of v) x a → IsTree (heads_of w) (graph_of w) y b → Alike R a b → label_of_entry (privates f) (entry_at v x) ≡ label_of_entry (privates g) (entry_at w y)
  label_pair x y a b p q r =
      sym (ap (label_of v (privates f)) (node_root (heads_of v) (graph_of v) x a p) ∙ label_at v (privates f) x) ∙ (root_alike R a b r).0
      ∙ ap (label_of w (privates g)) (node_root (heads_of w) (graph_of w) y b q) ∙ label_at w (privates g) y

  label_pairs : (xs ys : List ℕ) (ts us : List Tree) → AreTrees (heads_of v) (graph_of v) xs ts → AreTrees (heads_of w) (graph_of w) ys us → Pairs (Alike R) ts us → map (λ x. label_of_entry (privates f) (entry_at v x)) xs ≡ map (λ y. label_of_entry (privates g) (entry_at w y)) ys
  label_pairs xs ys ts us NoTrees NoTrees r = refl
  label_pairs xs ys ts us NoTrees (OneMore q qs) r = absurd r
  label_pairs xs ys ts us (OneMore p ps) NoTrees r = absurd r
  label_pairs xs0 ys0 ts0 us0 (OneMore {x = x} {xs = xs} {t = a} {ts = ts} p ps) (OneMore {x = y} {xs = ys} {t = b} {ts = us} q qs) r =
      let e = label_pair x y a b p q r.0 in
      let rest = label_pairs xs ys ts us ps qs r.1 in
      λ i. e i ∷ rest i

  pools_same : map (pool_of_node (counts_of v)) f.seen ≡ map (pool_of_node (counts_of w)) g.seen
  pools_same =
      pools_by_labels v (privates f) f.seen (within v t f) ∙ ap (map label_pool) (label_pairs f.seen g.seen (met f) (met g) f.visited.order g.visited.order all_pairs)
      ∙ sym (pools_by_labels w (privates g) g.seen (within w u g))

  place_same : (i : ℕ) → number_of_node (counts_of v) f.seen i ≡ number_of_node (counts_of w) g.seen i
  place_same i = number_by_pools (counts_of v) f.seen i ∙ ap (λ ps. number_among_pools ps i) pools_same ∙ sym (number_by_pools (counts_of w) g.seen i)

  number_same : (y z : ℕ) (a b : Tree) → IsNamed v f.seen y → IsNamed w g.seen z → IsTree (heads_of v) (graph_of v) y a → IsTree (heads_of w) (graph_of w) z b → StandsIn a (met f) → Alike R a b → number f.numbers y ≡ number g.numbers z
  number_same y z a b n m p q h r =
      let at = in_place (met f) a a h in
      let i = at.0 in
      let lt : i < length f.seen = omega (arith, at.1, trees_many f.visited.order) in
      let lt2 : i < length g.seen = omega (arith, at.1, pairs_length, trees_many g.visited.order) in
      let like : Alike R a (get_or (met g) i b) = subst (λ c. Alike R c (get_or (met g) i b)) at.2 (pairs_at (Alike R) (met f) (met g) i a b at.1 all_pairs) in
      let is : get_or (met g) i b ≡ b = alike_one R one a (get_or (met g) i b) b like r in
      let here : IsTree (heads_of v) (graph_of v) (get_or f.seen i 0) a = subst (IsTree (heads_of v) (graph_of v) (get_or f.seen i 0)) at.2 (trees_at (heads_of v) (graph_of v) f.seen (met f) i a f.visited.order lt) in
      let there : IsTree (heads_of w) (graph_of w) (get_or g.seen i 0) b = subst (IsTree (heads_of w) (graph_of w) (get_or g.seen i 0)) is (trees_at (heads_of w) (graph_of w) g.seen (met g) i b g.visited.order lt2) in
      f.numbered.numbers_of i y a lt n here p ∙ place_same i ∙ sym (g.numbered.numbers_of i z b lt2 m there q)
    where
      pairs_length : length (met f) ≡ length (met g)
      pairs_length = pairs_many (Alike R) (met f) (met g) all_pairs

  number_pairs : (xs ys : List ℕ) (ts us : List Tree) → AreTrees (heads_of v) (graph_of v) xs ts → AreTrees (heads_of w) (graph_of w) ys us → Pairs (Alike R) ts us → ((x : ℕ) → StandsIn x xs → IsNamed v f.seen x) → ((y : ℕ) → StandsIn y ys → IsNamed w g.seen y) → ((a : Tree) → StandsIn a ts → StandsIn a (met f)) → map (number f.numbers) xs ≡ map (number g.numbers) ys
  number_pairs xs ys ts us NoTrees NoTrees r n m h = refl
  number_pairs xs ys ts us NoTrees (OneMore q qs) r n m h = absurd r
  number_pairs xs ys ts us (OneMore p ps) NoTrees r n m h = absurd r
  number_pairs xs0 ys0 ts0 us0 (OneMore {x = x} {xs = xs} {t = a} {ts = ts} p ps) (OneMore {x = y} {xs = ys} {t = b} {ts = us} q qs) r n m h =
      let e = number_same x y a b (n x (inl refl)) (m y (inl refl)) p q (h a (inl refl)) r.0 in
      let rest = number_pairs xs ys ts us ps qs r.1 (λ z k. n z (inr k)) (λ z k. m z (inr k)) (λ z k. h z (inr k)) in
      λ i. e i ∷ rest i

  part_numbers : (x y : ℕ) (a b : Tree) → StandsIn x f.seen → StandsIn y g.seen → IsTree (heads_of v) (graph_of v) x a → IsTree (heads_of w) (graph_of w) y b → StandsIn a (met f) → Alike R a b → map (number f.numbers) (parts (counts_of v) (entry_at v x)) ≡ map (number g.numbers) (parts (counts_of w) (entry_at w y))
  part_numbers x y a b n m p q h r =
      ap (map (number f.numbers)) (sym (targets_at v x))
      ∙ number_pairs (leads_to (graph_of v) x) (leads_to (graph_of w) y) (tree_parts a) (tree_parts b) (node_parts (heads_of v) (graph_of v) x a p) (node_parts (heads_of w) (graph_of w) y b q) (under_alike R a b r) (λ z k. named_part v f.seen x z n k) (λ z k. named_part w g.seen y z m k) (λ c k. parts_met f.visited.trees a c h k)
      ∙ ap (map (number g.numbers)) (targets_at w y)

  row_pairs : (xs ys : List ℕ) (ts us : List Tree) → AreTrees (heads_of v) (graph_of v) xs ts → AreTrees (heads_of w) (graph_of w) ys us → Pairs (Alike R) ts us → ((x : ℕ) → StandsIn x xs → StandsIn x f.seen) → ((y : ℕ) → StandsIn y ys → StandsIn y g.seen) → ((a : Tree) → StandsIn a ts → StandsIn a (met f)) → map (row_of v (privates f) f.numbers) xs ≡ map (row_of w (privates g) g.numbers) ys
  row_pairs xs ys ts us NoTrees NoTrees r n m h = refl
  row_pairs xs ys ts us NoTrees (OneMore q qs) r n m h = absurd r
  row_pairs xs ys ts us (OneMore p ps) NoTrees r n m h = absurd r
  row_pairs xs0 ys0 ts0 us0 (OneMore {x = x} {xs = xs} {t = a} {ts = ts} p ps) (OneMore {x = y} {xs = ys} {t = b} {ts = us} q qs) r n m h =
      let e = label_pair x y a b p q r.0 in
      let k = part_numbers x y a b (n x (inl refl)) (m y (inl refl)) p q (h a (inl refl)) r.0 in
      let rest = row_pairs xs ys ts us ps qs r.1 (λ z l. n z (inr l)) (λ z l. m z (inr l)) (λ z l. h z (inr l)) in
      λ i. (e i, k i) ∷ rest i

  pools_equal : new_pools (with_numbers (counts_of v) f.numbers) v f.seen ≡ new_pools (with_numbers (counts_of w) g.numbers) w g.seen
  pools_equal =
      pools_are v f.numbers (privates f) f.seen (within v t f)
      ∙ ap pools_of (row_pairs f.seen g.seen (met f) (met g) f.visited.order g.visited.order all_pairs (λ x h. h) (λ y h. h) (λ a h. h))
      ∙ sym (pools_are w g.numbers (privates g) g.seen (within w u g))

  root_numbers : map (λ (r : Ref). number f.numbers (node_of (counts_of v) r.pool r.index)) (file_refs v) ≡ map (λ (r : Ref). number g.numbers (node_of (counts_of w) r.pool r.index)) (file_refs w)
  root_numbers =
      sym (two_maps (number f.numbers) (λ (r : Ref). node_of (counts_of v) r.pool r.index) (λ (r : Ref). number f.numbers (node_of (counts_of v) r.pool r.index)) (file_refs v) (λ r. refl))
      ∙ number_pairs (roots_of v) (roots_of w) f.visited.trees g.visited.trees f.visited.rooted g.visited.rooted alike (λ y h. named_root v f.seen y h) (λ y h. named_root w g.seen y h) (λ a h. rooted_met f.visited.trees a h)
      ∙ two_maps (number g.numbers) (λ (r : Ref). node_of (counts_of w) r.pool r.index) (λ (r : Ref). number g.numbers (node_of (counts_of w) r.pool r.index)) (file_refs w) (λ r. refl)

  pub tidied_equal : beside (new_file no_index v) empty ≡ beside (new_file no_index w) empty → t ≡ u
  tidied_equal e =
      let definitions = same_filled v w (new_index (with_numbers (counts_of v) f.numbers)) (new_index (with_numbers (counts_of w) g.numbers)) (λ r. number f.numbers (node_of (counts_of v) r.pool r.index)) (λ r. number g.numbers (node_of (counts_of w) r.pool r.index)) (numbers_fit v f.numbers) (numbers_fit w g.numbers) e root_numbers in
      f.is ∙ (λ i. beside (definitions i) (pools_equal i)) ∙ sym g.is

-- ---- by the free form

-- the things of the roots, by their trees
pub things_are : (v t : Abc) (free : Free) (f : IsTidiedValue v t) → IsFreeForm v free → map (thing_of v (privates f)) f.visited.trees ≡ free.things
things_are v t free f h =
    let trees : h.trees ≡ f.visited.trees = one_trees h.rooted f.visited.rooted in
    one_things (are_things v (privates f) f.visited.rooted) (subst (λ ts. AreThings v (privates_among (visit_all ts [])) (roots_of v) free.things) trees h.things)

pub roots_sound : (v t : Abc) (f : IsTidiedValue v t) (a : Tree) → StandsIn a f.visited.trees → Sound v (privates f) a
roots_sound v t f a h = all_sound v f.visited.trees f.visited.trees (roots_of v) f.visited.rooted (λ b k. rooted_met f.visited.trees b k) a h

pub same_tidied : (v t w u : Abc) (free : Free) → IsTidiedValue v t → IsTidiedValue w u → IsFreeForm v free → IsFreeForm w free → t ≡ u
same_tidied v t w u free f g h k =
    tidied_equal v t w u f g (pairs_of v (privates f) w (privates g) f.visited.trees g.visited.trees (things_are v t free f h ∙ sym (things_are w u free g k)) (λ a l. roots_sound v t f a l) (λ a l. roots_sound w u g a l)) (sym h.definitions ∙ k.definitions)

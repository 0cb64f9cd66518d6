-- The tidied file has the free form of the file.
use Rattle.std.proofs.Common.{◌≡◌, ℕ, zero, suc, ◌+◌, ◌-◌, ◌<◌, ◌≤◌, ◌⊎◌, inl, inr, List, [], ◌∷◌, ◌++◌, map, length, get_or, drop, flat_map, nat_eq, Bool, true, false, if◌then◌else◌, Some, None, count_by, take, unwrap_or, eqb-true, eq-eqb, refl, sym, ap, subst, ◌∙◌, arith, true≢false}
use Rattle.std.proofs.lemmas.Bool.{cases_lt}
use Rattle.std.proofs.lemmas.List.{length-map, map-append}
use Rattle.abc_base_graphs.specs.Graph.{leads_to}
use Rattle.abc_base_graphs.specs.Index.{first_from}
use Rattle.abc_tidy_refs.specs.declared.nodes.Counts.{Counts}
use Rattle.abc_tidy_refs.specs.declared.refs.Ref.{Ref}
use Rattle.abc_tidy_refs.specs.Nodes.{counts_of, node_of, new_index, set_node}
use Rattle.abc_tidy_refs.specs.Refs.{file_refs, ref}
use Rattle.abc_tidy_refs.specs.Renumbered.{beside, new_file}
use Rattle.abc_file_types.specs.declared.names.Multiname.{Multiname}
use Rattle.abc_file_types.specs.declared.names.Multiname.TheVariants as names
use Rattle.abc_file_types.specs.declared.names.Namespace.{Namespace}
use Rattle.abc_file_types.specs.declared.names.NsKind.{NsKind}
use Rattle.abc_file_types.specs.declared.names.NsKind.TheVariants as spaces
use Rattle.abc_file_types.specs.declared.opcodes.Pool.{Pool}
use Rattle.abc_file_types.specs.declared.opcodes.Pool.TheVariants as pools
use Rattle.abc_file_types.specs.declared.tables.Abc.{Abc}
use Rattle.abc_file_types.specs.Pools.{empty, namespace_code}
use Rattle.abc_base_trees.specs.declared.heads.Head.{Head}
use Rattle.abc_base_trees.specs.Trees.{Tree, Leaf, Apply, AreTrees, NoTrees, OneMore, GrowsTrees, Done, More, IsTree, head_of_tree}
use Rattle.abc_base_trees.specs.Visits.{visit_all}
use Rattle.abc_base_trees.proofs.TreeLaws.{leaf_same, one_tree}
use Rattle.abc_tidy_entries.specs.Entries.{graph_of, heads_of, name_head, place_among, space_told}
use Rattle.abc_tidy_entries.specs.Rules.{IsEntryThere, names_pool, pool_size}
use Rattle.abc_tidy_entries.specs.Visited.{IsNamed, IsTidiedValue, number_of_node, pool_of_node, roots_of}
use Rattle.abc_tidy.specs.Free.{Free, IsFreeForm, no_index, private_place, privates_among, root}
use Rattle.abc_tidy.specs.Things.{AreThings, Entry, NoEntry, IntEntry, UIntEntry, DoubleEntry, TextEntry, SpaceEntry, SetEntry, NameEntry, EntryLabel, Zero, Int, UInt, Double, Text, Space, Set, Name, Thing, entries, entry_at, kind_of_multiname, label_of_entry, parts}
use Rattle.abc_tidy.proofs.Alike.{Alike, OneToOne, all_alike, alike_one, root_alike, tree_parts}
use Rattle.abc_tidy.proofs.Closed.{node_parts, node_root, parts_met, rooted_met}
use Rattle.abc_tidy.proofs.Distinct.{Distinct, all_distinct, distinct_at, one_number, some_number}
use Rattle.abc_tidy.proofs.Entered.{entry_head, head_at, targets_at}
use Rattle.abc_tidy.proofs.Labelled.{Fine, FineSpace, head_found, head_of, label_found, label_of}
use Rattle.abc_base_trees.specs.Orders.{StandsIn}
use Rattle.abc_tidy.proofs.Lists.{Pairs, get_map, in_at, in_cases, in_left, in_place, in_right, pairs_append, pairs_at, pairs_many, same_maps, two_maps}
use Rattle.abc_tidy.proofs.Located.{Located, AtNone, AtInt, AtUInt, AtDouble, AtText, AtSpace, AtSet, AtName, locate}
use Rattle.abc_tidy.proofs.Moved.{doubles_moved, doubles_sized, entry_made, few, ints_moved, ints_sized, names_moved, names_sized, namespaces_moved, namespaces_sized, no_row, node_for, put, row_pools, sets_moved, size_for, strings_moved, strings_sized, uints_moved, uints_sized}
use Rattle.abc_tidy.proofs.Renewed.{refs_renewed, renewed, twice}
use Rattle.abc_tidy.proofs.Rows.{Row, label_pool, made_name, number, number_among_pools, number_by_pools, pools_are, pools_of, row_of, with_numbers}
use Rattle.abc_tidy.proofs.Same.{met, named_part, named_root, pools_by_labels, privates, roots_sound, things_are, trees_at, trees_many, within}
use Rattle.abc_tidy.proofs.Twins.{Sound, Twins, are_things, fine, label_at, one_things, one_trees, thing_of, things_alike, twins_one}

-- ---- lists by places

-- what is given at so many places, from one on
collect : {B : Type 0} → (ℕ → List B) → ℕ → ℕ → List B
collect g k zero = []
collect g k (suc n) = g k ++ collect g (suc k) n

collect_list : {A B : Type 0} (f : A → List B) (d : A) (xs : List A) (g : ℕ → List B) (k : ℕ) → ((i : ℕ) → i < length xs → f (get_or xs i d) ≡ g (k + i)) → flat_map f xs ≡ collect g k (length xs)
unfolding collect
collect_list f d [] g k e = refl
collect_list f d (x ∷ xs) g k e =
    let q : k + 0 ≡ k = omega arith in
    let first : f x ≡ g k = e 0 (omega arith) ∙ ap g q in
    let rest : flat_map f xs ≡ collect g (suc k) (length xs) = collect_list f d xs g (suc k) (λ i lt. e (suc i) (omega arith) ∙ ap g (moved i)) in
    λ i. first i ++ rest i
  where
    moved : (i : ℕ) → k + suc i ≡ suc k + i
    moved i = omega arith

collect_pairs : {B C : Type 0} (R : B → C → Type 0) (f : ℕ → List B) (g : ℕ → List C) (k n : ℕ) → ((i : ℕ) → i < k + n → Pairs R (f i) (g i)) → Pairs R (collect f k n) (collect g k n)
unfolding collect
collect_pairs R f g k zero h = tt
collect_pairs R f g k (suc n) h = pairs_append R (f k) (g k) (collect f (suc k) n) (collect g (suc k) n) (h k (omega arith)) (collect_pairs R f g (suc k) n (λ i lt. h i (omega arith)))

in_collect : {B : Type 0} (g : ℕ → List B) (k n i : ℕ) (y : B) → k ≤ i → i < k + n → StandsIn y (g i) → StandsIn y (collect g k n)
unfolding collect
in_collect g k zero i y le lt h = let no : ⊥ = omega (arith, le, lt) in absurd no
in_collect g k (suc n) i y le lt h = go (cases_lt k i) (λ l. in_collect g (suc k) n i y l (omega (arith, lt)) h)
  where
    go : (k < i) ⊎ (i ≤ k) → (suc k ≤ i → StandsIn y (collect g (suc k) n)) → StandsIn y (g k ++ collect g (suc k) n)
    go (inl l) rest = in_right (g k) (collect g (suc k) n) y (rest (omega arith))
    go (inr l) rest = let q : i ≡ k = omega arith in in_left (g k) (collect g (suc k) n) y (subst (λ j. StandsIn y (g j)) q h)

-- the places of two values among values that equal them alike
place_pairs : (a b : ℕ) (xs ys : List ℕ) (n : ℕ) → Pairs (λ x y. nat_eq a x ≡ nat_eq b y) xs ys → first_from (nat_eq a) n xs ≡ first_from (nat_eq b) n ys
place_pairs a b [] [] n p = refl
place_pairs a b [] (y ∷ ys) n p = absurd p
place_pairs a b (x ∷ xs) [] n p = absurd p
place_pairs a b (x ∷ xs) (y ∷ ys) n p =
    let e : nat_eq a x ≡ nat_eq b y = p.0 in
    let rest = place_pairs a b xs ys (n + 1) p.1 in
    λ i. if e i then Some n else rest i

same_bool : (b c : Bool) → (b ≡ true → c ≡ true) → (c ≡ true → b ≡ true) → b ≡ c
same_bool true c f g = sym (f refl)
same_bool false true f g = absurd (true≢false (sym (g refl)))
same_bool false false f g = refl

-- ---- trees that grow

grows_push : {heads : List Head} {graph : List (List ℕ)} {xs : List ℕ} {t u : Tree} (x : ℕ) {p : Tree} → GrowsTrees heads graph xs t u → IsTree heads graph x p → GrowsTrees heads graph (xs ++ x ∷ []) t (Apply u p)
grows_push x Done p = More p Done
grows_push x (More q g) p = More q (grows_push x g p)

record Pushed (heads : List Head) (graph : List (List ℕ)) (ys : List ℕ) (ts : List Tree) (p : Tree) : Type 0 where
  before : List ℕ
  last : ℕ
  is : ys ≡ before ++ last ∷ []
  are : AreTrees heads graph before ts
  tree : IsTree heads graph last p

pushed : (heads : List Head) (graph : List (List ℕ)) (ys : List ℕ) (ts : List Tree) (p : Tree) → AreTrees heads graph ys (ts ++ p ∷ []) → Pushed heads graph ys ts p
pushed heads graph ys [] p (OneMore {x = y} g NoTrees) = record { before = []; last = y; is = refl; are = NoTrees; tree = g }
pushed heads graph ys0 (t ∷ ts) p (OneMore {x = y} {xs = ys} g are) =
    let r = pushed heads graph ys ts p are in
    record { before = y ∷ r.before; last = r.last; is = ap (λ l. y ∷ l) r.is; are = OneMore g r.are; tree = r.tree }

-- ---- Private namespaces

private_space : (k : NsKind) (j : ℕ) → nat_eq (namespace_code k) (namespace_code spaces.Private) ≡ true → space_told k j ≡ j
private_space spaces.Private j e = refl
private_space spaces.Namespace j e = absurd (true≢false (sym e))
private_space spaces.Package j e = absurd (true≢false (sym e))
private_space spaces.PackageInternal j e = absurd (true≢false (sym e))
private_space spaces.Protected j e = absurd (true≢false (sym e))
private_space spaces.Explicit j e = absurd (true≢false (sym e))
private_space spaces.StaticProtected j e = absurd (true≢false (sym e))

no_private : (m : Multiname) → nat_eq (name_head m).kind (namespace_code spaces.Private) ≡ true → ⊥
no_private (names.QName true ns i) h = true≢false (sym h)
no_private (names.QName false ns i) h = true≢false (sym h)
no_private (names.Rt true i) h = true≢false (sym h)
no_private (names.Rt false i) h = true≢false (sym h)
no_private (names.RtL true) h = true≢false (sym h)
no_private (names.RtL false) h = true≢false (sym h)
no_private (names.Multi true i s) h = true≢false (sym h)
no_private (names.Multi false i s) h = true≢false (sym h)
no_private (names.MultiL true s) h = true≢false (sym h)
no_private (names.MultiL false s) h = true≢false (sym h)
no_private (names.TypeName base params) h = true≢false (sym h)

abbrev IsPrivate : Head → Type 0
IsPrivate h = nat_eq h.kind (namespace_code spaces.Private) ≡ true

-- where a Private namespace stands
spot : (v : Abc) (x : ℕ) (e : Entry) → Located v x e → IsPrivate (entry_head v e) → x ≡ length v.ints + length v.uints + length v.doubles + length v.strings + suc (entry_head v e).value
spot v x e (AtNone at) h = absurd (true≢false (sym h))
spot v x e (AtInt j at lt is) h = absurd (true≢false (sym h))
spot v x e (AtUInt j at lt is) h = absurd (true≢false (sym h))
spot v x e (AtDouble j at lt is) h = absurd (true≢false (sym h))
spot v x e (AtText j at lt is) h = absurd (true≢false (sym h))
spot v x e (AtSpace {z = z} j at lt is) h = at ∙ ap (λ k. length v.ints + length v.uints + length v.doubles + length v.strings + suc k) (sym (private_space z.kind j h))
spot v x e (AtSet j at lt is) h = absurd (true≢false (sym h))
spot v x e (AtName {z = z} j at lt is) h = absurd (no_private z h)

private_pool : (v : Abc) (ps : List ℕ) (e : Entry) → IsPrivate (entry_head v e) → label_pool (label_of_entry ps e) ≡ 5
private_pool v ps NoEntry h = absurd (true≢false (sym h))
private_pool v ps (IntEntry x) h = absurd (true≢false (sym h))
private_pool v ps (UIntEntry x) h = absurd (true≢false (sym h))
private_pool v ps (DoubleEntry x) h = absurd (true≢false (sym h))
private_pool v ps (TextEntry x) h = absurd (true≢false (sym h))
private_pool v ps (SpaceEntry p x) h = refl
private_pool v ps (SetEntry x) h = absurd (true≢false (sym h))
private_pool v ps (NameEntry m) h = absurd (no_private m h)

-- the label of an entry that a row makes
space_back : (ps qs : List ℕ) (k : NsKind) (p n : ℕ) → (nat_eq (namespace_code k) (namespace_code spaces.Private) ≡ true → place_among nat_eq qs n ≡ place_among nat_eq ps (space_told k p)) → Space k (space_told k (place_among nat_eq qs n)) ≡ Space k (space_told k (place_among nat_eq ps p))
space_back ps qs spaces.Private p n h = ap (Space spaces.Private) (h refl)
space_back ps qs spaces.Namespace p n h = refl
space_back ps qs spaces.Package p n h = refl
space_back ps qs spaces.PackageInternal p n h = refl
space_back ps qs spaces.Protected p n h = refl
space_back ps qs spaces.Explicit p n h = refl
space_back ps qs spaces.StaticProtected p n h = refl

name_back : (m : Multiname) (ns : List ℕ) → kind_of_multiname (made_name (kind_of_multiname m) ns) ≡ kind_of_multiname m
name_back (names.QName attr n i) ns = refl
name_back (names.Rt attr i) ns = refl
name_back (names.RtL attr) ns = refl
name_back (names.Multi attr i s) ns = refl
name_back (names.MultiL attr s) ns = refl
name_back (names.TypeName base params) ns = refl

label_back : (v : Abc) (ps qs ns : List ℕ) (n : ℕ) (e : Entry) → (IsPrivate (entry_head v e) → place_among nat_eq qs (n - 1) ≡ place_among nat_eq ps (entry_head v e).value) → label_of_entry qs (entry_made (label_of_entry ps e) ns n) ≡ label_of_entry ps e
label_back v ps qs ns n NoEntry h = refl
label_back v ps qs ns n (IntEntry x) h = refl
label_back v ps qs ns n (UIntEntry x) h = refl
label_back v ps qs ns n (DoubleEntry x) h = refl
label_back v ps qs ns n (TextEntry x) h = refl
label_back v ps qs ns n (SpaceEntry p x) h = space_back ps qs x.kind p (n - 1) h
label_back v ps qs ns n (SetEntry x) h = refl
label_back v ps qs ns n (NameEntry m) h = ap Name (name_back m ns)

fine_space_back : (qs : List ℕ) (k : NsKind) (n : ℕ) → (nat_eq (namespace_code k) (namespace_code spaces.Private) ≡ true → StandsIn n qs) → FineSpace qs k n
fine_space_back qs spaces.Private n h = h refl
fine_space_back qs spaces.Namespace n h = tt
fine_space_back qs spaces.Package n h = tt
fine_space_back qs spaces.PackageInternal n h = tt
fine_space_back qs spaces.Protected n h = tt
fine_space_back qs spaces.Explicit n h = tt
fine_space_back qs spaces.StaticProtected n h = tt

fine_back : (v : Abc) (ps qs ns : List ℕ) (n : ℕ) (e : Entry) → (IsPrivate (entry_head v e) → StandsIn (n - 1) qs) → Fine qs (entry_made (label_of_entry ps e) ns n)
fine_back v ps qs ns n NoEntry h = tt
fine_back v ps qs ns n (IntEntry x) h = tt
fine_back v ps qs ns n (UIntEntry x) h = tt
fine_back v ps qs ns n (DoubleEntry x) h = tt
fine_back v ps qs ns n (TextEntry x) h = tt
fine_back v ps qs ns n (SpaceEntry p x) h = fine_space_back qs x.kind (n - 1) h
fine_back v ps qs ns n (SetEntry x) h = tt
fine_back v ps qs ns n (NameEntry m) h = tt

abbrev place_if : Head → ℕ → List ℕ
place_if h n = if nat_eq h.kind (namespace_code spaces.Private) then n ∷ [] else []

place_space : (k : NsKind) (p n : ℕ) → place_if (record { kind = namespace_code k; value = space_told k n }) (space_told k n) ≡ place_if (record { kind = namespace_code k; value = space_told k p }) n
place_space spaces.Private p n = refl
place_space spaces.Namespace p n = refl
place_space spaces.Package p n = refl
place_space spaces.PackageInternal p n = refl
place_space spaces.Protected p n = refl
place_space spaces.Explicit p n = refl
place_space spaces.StaticProtected p n = refl

place_name : (m : Multiname) (a b : ℕ) → place_if (name_head m) a ≡ []
place_name (names.QName true ns i) a b = refl
place_name (names.QName false ns i) a b = refl
place_name (names.Rt true i) a b = refl
place_name (names.Rt false i) a b = refl
place_name (names.RtL true) a b = refl
place_name (names.RtL false) a b = refl
place_name (names.Multi true i s) a b = refl
place_name (names.Multi false i s) a b = refl
place_name (names.MultiL true s) a b = refl
place_name (names.MultiL false s) a b = refl
place_name (names.TypeName base params) a b = refl

-- the place of a Private namespace that a row makes
place_back : (v T : Abc) (ps ns : List ℕ) (n : ℕ) (e : Entry) → place_if (entry_head T (entry_made (label_of_entry ps e) ns n)) (entry_head T (entry_made (label_of_entry ps e) ns n)).value ≡ place_if (entry_head v e) (n - 1)
place_back v T ps ns n NoEntry = refl
place_back v T ps ns n (IntEntry x) = refl
place_back v T ps ns n (UIntEntry x) = refl
place_back v T ps ns n (DoubleEntry x) = refl
place_back v T ps ns n (TextEntry x) = refl
place_back v T ps ns n (SpaceEntry p x) = place_space x.kind p (n - 1)
place_back v T ps ns n (SetEntry x) = refl
place_back v T ps ns n (NameEntry m) = place_name (made_name (kind_of_multiname m) ns) 0 0 ∙ sym (place_name m (n - 1) 0)

one_or_none : {A B : Type 0} (R : A → B → Type 0) (b : Bool) (x : A) (y : B) → (b ≡ true → R x y) → Pairs R (if b then x ∷ [] else []) (if b then y ∷ [] else [])
one_or_none R true x y h = (h refl, tt)
one_or_none R false x y h = tt

-- ---- the tidied file

module _ (v t : Abc) (f : IsTidiedValue v t) where
  abbrev c : Counts
  c = counts_of v

  abbrev ps : List ℕ
  ps = privates f

  abbrev S : List Tree
  S = met f

  abbrev num : ℕ → ℕ
  num = number f.numbers

  abbrev rows : List Row
  rows = map (row_of v ps f.numbers) f.seen

  abbrev T : Abc
  T = beside (new_file (new_index (with_numbers c f.numbers)) v) (pools_of rows)

  abbrev d : Counts
  d = counts_of T

  abbrev entry : ℕ → Entry
  entry i = entry_at v (get_or f.seen i 0)

  -- the number of the entry that was met at a place, and its node in the tidied file
  abbrev place : ℕ → ℕ
  place i = number_among_pools (row_pools rows) i

  abbrev node : ℕ → ℕ
  node i = node_for d (label_of_entry ps (entry i)) (place i)

  abbrev moved : ℕ → ℕ
  moved y = node_for d (label_of_entry ps (entry_at v y)) (num y)

  abbrev made : ℕ → Entry
  made i = entry_made (label_of_entry ps (entry i)) (map num (parts c (entry i))) (place i)

  is_T : t ≡ T
  is_T = f.is ∙ ap (beside (new_file (new_index (with_numbers c f.numbers)) v)) (pools_are v f.numbers ps f.seen (within v t f))

  many_rows : length rows ≡ length f.seen
  many_rows = length-map f.seen (row_of v ps f.numbers)

  many_met : length S ≡ length f.seen
  many_met = sym (trees_many f.visited.order)

  row_at : (i : ℕ) → get_or rows i no_row ≡ row_of v ps f.numbers (get_or f.seen i 0)
  row_at i = get_map (row_of v ps f.numbers) f.seen i 0 no_row refl

  entry_there : (i : ℕ) → i < length f.seen → entry_at T (node i) ≡ made i
  entry_there i lt = put T rows i (label_of_entry ps (entry i)) (map num (parts c (entry i))) refl refl refl refl refl refl refl (omega (arith, lt, many_rows)) (row_at i)

  pools_rows : map (pool_of_node c) f.seen ≡ row_pools rows
  pools_rows =
      pools_by_labels v ps f.seen (within v t f)
      ∙ same_maps label_pool (λ x. label_of_entry ps (entry_at v x)) (λ (r : Row). label_pool r.0) (row_of v ps f.numbers) f.seen (λ x. refl)

  place_is : (i : ℕ) → number_of_node c f.seen i ≡ place i
  place_is i = number_by_pools c f.seen i ∙ ap (λ l. number_among_pools l i) pools_rows

  tree_at : (i : ℕ) (a : Tree) → i < length f.seen → IsTree (heads_of v) (graph_of v) (get_or f.seen i 0) (get_or S i a)
  tree_at i a lt = trees_at (heads_of v) (graph_of v) f.seen S i a f.visited.order lt

  met_at : (i : ℕ) (a : Tree) → i < length f.seen → StandsIn (get_or S i a) S
  met_at i a lt = in_at S i a (omega (arith, lt, many_met))

  root_at : (i : ℕ) (a : Tree) → i < length f.seen → root (get_or S i a) ≡ entry_head v (entry i)
  root_at i a lt = node_root (heads_of v) (graph_of v) (get_or f.seen i 0) (get_or S i a) (tree_at i a lt) ∙ head_at v (get_or f.seen i 0)

  distinct : Distinct S
  distinct = all_distinct f.visited.trees [] tt

  -- ---- a node that is named

  record Found (y : ℕ) (a : Tree) : Type 0 where
    at : ℕ
    lt : at < length f.seen
    is : get_or S at a ≡ a
    here : IsTree (heads_of v) (graph_of v) (get_or f.seen at 0) a
    number_is : num y ≡ place at
    labelled : label_of_entry ps (entry_at v y) ≡ label_of_entry ps (entry at)
    moves : moved y ≡ node at

  found : (y : ℕ) (a : Tree) → IsNamed v f.seen y → IsTree (heads_of v) (graph_of v) y a → StandsIn a S → Found y a
  found y a n g h =
      let p = in_place S a a h in
      let i = p.0 in
      let lt : i < length f.seen = omega (arith, p.1, many_met) in
      let here : IsTree (heads_of v) (graph_of v) (get_or f.seen i 0) a = subst (IsTree (heads_of v) (graph_of v) (get_or f.seen i 0)) p.2 (tree_at i a lt) in
      let is : num y ≡ place i = f.numbered.numbers_of i y a lt n here g ∙ place_is i in
      let same : label_of_entry ps (entry_at v y) ≡ label_of_entry ps (entry i) = sym (label_of_tree y a g) ∙ label_of_tree (get_or f.seen i 0) a here in
      record { at = i; lt = lt; is = p.2; here = here; number_is = is; labelled = same; moves = λ j. node_for d (same j) (is j) }
    where
      label_of_tree : (x : ℕ) (b : Tree) → IsTree (heads_of v) (graph_of v) x b → label_of v ps (root b) ≡ label_of_entry ps (entry_at v x)
      label_of_tree x b k = ap (label_of v ps) (node_root (heads_of v) (graph_of v) x b k) ∙ label_at v ps x

  -- the number of node 0 is 0
  zero_number : (a : Tree) → IsNamed v f.seen 0 → IsTree (heads_of v) (graph_of v) 0 a → StandsIn a S → num 0 ≡ 0
  zero_number a n g h =
      let r = found 0 a n g h in
      let zero_pool : get_or (row_pools rows) r.at 0 ≡ 0 =
      get_map (λ (r : Row). label_pool r.0) rows r.at no_row 0 refl ∙ ap (λ (r : Row). label_pool r.0) (row_at r.at) ∙ ap label_pool (zero_label r.at r.here) in
      r.number_is ∙ ap (λ p. if nat_eq p 0 then 0 else count_by (λ q. nat_eq q p) (take (r.at + 1) (row_pools rows))) zero_pool
    where
      zero_label : (i : ℕ) → IsTree (heads_of v) (graph_of v) (get_or f.seen i 0) a → label_of_entry ps (entry i) ≡ Zero
      zero_label i k =
          sym (ap (label_of v ps) (node_root (heads_of v) (graph_of v) (get_or f.seen i 0) a k) ∙ label_at v ps (get_or f.seen i 0))
          ∙ ap (label_of v ps) (node_root (heads_of v) (graph_of v) 0 a g) ∙ label_at v ps 0

  -- ---- the nodes that a moved entry leads to

  abbrev ZeroAmong : List ℕ → Type 0
  ZeroAmong ys = (y : ℕ) → StandsIn y ys → y ≡ 0 → num 0 ≡ 0

  spaces_moved : (is : List ℕ) → ZeroAmong (map (node_of c pools.Space) is) → map (node_of d pools.Space) (map num (map (node_of c pools.Space) is)) ≡ map moved (map (node_of c pools.Space) is)
  spaces_moved [] z = refl
  spaces_moved (i ∷ is) z =
      let e = namespaces_moved v d ps num i (λ q. z (node_of c pools.Space i) (inl refl) q) in
      let rest = spaces_moved is (λ y h. z y (inr h)) in
      λ j. e j ∷ rest j

  params_moved : (is : List ℕ) → ZeroAmong (map (node_of c pools.Name) is) → map (node_of d pools.Name) (map num (map (node_of c pools.Name) is)) ≡ map moved (map (node_of c pools.Name) is)
  params_moved [] z = refl
  params_moved (i ∷ is) z =
      let e = names_moved v d ps num i (λ q. z (node_of c pools.Name i) (inl refl) q) in
      let rest = params_moved is (λ y h. z y (inr h)) in
      λ j. e j ∷ rest j

  name_moved : (m : Multiname) (n : ℕ) → ZeroAmong (parts c (NameEntry m)) → parts d (entry_made (label_of_entry ps (NameEntry m)) (map num (parts c (NameEntry m))) n) ≡ map moved (parts c (NameEntry m))
  name_moved (names.QName attr ns i) n z =
      let e = namespaces_moved v d ps num ns (λ q. z (node_of c pools.Space ns) (inl refl) q) in
      let k = strings_moved v d ps num i (λ q. z (node_of c pools.Text i) (inr (inl refl)) q) in
      λ j. e j ∷ k j ∷ []
  name_moved (names.Rt attr i) n z = ap (λ x. x ∷ []) (strings_moved v d ps num i (λ q. z (node_of c pools.Text i) (inl refl) q))
  name_moved (names.RtL attr) n z = refl
  name_moved (names.Multi attr i s) n z =
      let e = strings_moved v d ps num i (λ q. z (node_of c pools.Text i) (inl refl) q) in
      let k = sets_moved v d ps num s (λ q. z (set_node c s) (inr (inl refl)) q) in
      λ j. e j ∷ k j ∷ []
  name_moved (names.MultiL attr s) n z = ap (λ x. x ∷ []) (sets_moved v d ps num s (λ q. z (set_node c s) (inl refl) q))
  name_moved (names.TypeName base params) n z =
      let e = names_moved v d ps num base (λ q. z (node_of c pools.Name base) (inl refl) q) in
      let k = params_moved params (λ y h. z y (inr h)) in
      λ j. e j ∷ k j

  parts_moved : (e : Entry) (n : ℕ) → ZeroAmong (parts c e) → parts d (entry_made (label_of_entry ps e) (map num (parts c e)) n) ≡ map moved (parts c e)
  parts_moved NoEntry n z = refl
  parts_moved (IntEntry x) n z = refl
  parts_moved (UIntEntry x) n z = refl
  parts_moved (DoubleEntry x) n z = refl
  parts_moved (TextEntry x) n z = refl
  parts_moved (SpaceEntry p x) n z = ap (λ y. y ∷ []) (strings_moved v d ps num x.name (λ q. z (node_of c pools.Text x.name) (inl refl) q))
  parts_moved (SetEntry x) n z = spaces_moved x z
  parts_moved (NameEntry m) n z = name_moved m n z

  -- nodes that are named, whose trees were met, have no zero but of number 0
  zero_among : (ys : List ℕ) (ts : List Tree) → AreTrees (heads_of v) (graph_of v) ys ts → ((y : ℕ) → StandsIn y ys → IsNamed v f.seen y) → ((a : Tree) → StandsIn a ts → StandsIn a S) → ZeroAmong ys
  zero_among ys ts NoTrees n h y k q = absurd k
  zero_among ys0 ts0 (OneMore {x = x} {t = a} g are) n h y (inl e) q =
      let z : x ≡ 0 = sym e ∙ q in
      zero_number a (subst (IsNamed v f.seen) z (n x (inl refl))) (subst (λ w. IsTree (heads_of v) (graph_of v) w a) z g) (h a (inl refl))
  zero_among ys0 ts0 (OneMore {xs = ys} {ts = ts} g are) n h y (inr k) q = zero_among ys ts are (λ w l. n w (inr l)) (λ b l. h b (inr l)) y k q

  named_parts : (i : ℕ) → i < length f.seen → (y : ℕ) → StandsIn y (leads_to (graph_of v) (get_or f.seen i 0)) → IsNamed v f.seen y
  named_parts i lt y h = named_part v f.seen (get_or f.seen i 0) y (in_at f.seen i 0 lt) h

  targets_there : (i : ℕ) (a : Tree) → i < length f.seen → IsTree (heads_of v) (graph_of v) (get_or f.seen i 0) a → StandsIn a S → leads_to (graph_of T) (node i) ≡ map moved (leads_to (graph_of v) (get_or f.seen i 0))
  targets_there i a lt g h =
      targets_at T (node i) ∙ ap (parts d) (entry_there i lt)
      ∙ parts_moved (entry i) (place i) (subst ZeroAmong (targets_at v (get_or f.seen i 0)) (zero_among (leads_to (graph_of v) (get_or f.seen i 0)) (tree_parts a) (node_parts (heads_of v) (graph_of v) (get_or f.seen i 0) a g) (named_parts i lt) (λ p k. parts_met f.visited.trees a p h k)))
      ∙ ap (map moved) (sym (targets_at v (get_or f.seen i 0)))

  -- ---- the Private namespaces of the tidied file

  abbrev none : Tree
  none = Leaf (record { kind = 0; value = 0 })

  -- the place in its new pool of a Private namespace that was met at a place
  abbrev new_private : ℕ → List ℕ
  new_private i = if nat_eq (root (get_or S i none)).kind (namespace_code spaces.Private) then (place i - 1) ∷ [] else []

  abbrev qs : List ℕ
  qs = collect new_private 0 (length f.seen)

  ps_are : ps ≡ collect (λ i. private_place (get_or S i none)) 0 (length f.seen)
  ps_are = collect_list private_place none S (λ i. private_place (get_or S i none)) 0 (λ i lt. ap (λ k. private_place (get_or S k none)) (zero_plus i)) ∙ ap (collect (λ i. private_place (get_or S i none)) 0) many_met
    where
      zero_plus : (i : ℕ) → i ≡ 0 + i
      zero_plus i = omega arith

  abbrev root_of : ℕ → Head
  root_of i = root (get_or S i none)

  space_pool : (i : ℕ) → i < length f.seen → IsPrivate (root_of i) → get_or (row_pools rows) i 0 ≡ 5
  space_pool i lt e =
      get_map (λ (r : Row). label_pool r.0) rows i no_row 0 refl ∙ ap (λ (r : Row). label_pool r.0) (row_at i)
      ∙ private_pool v ps (entry i) (subst IsPrivate (root_at i none lt) e)

  many_pools : length (row_pools rows) ≡ length f.seen
  many_pools = length-map rows (λ (r : Row). label_pool r.0) ∙ many_rows

  spot_at : (i : ℕ) → i < length f.seen → IsPrivate (root_of i) → get_or f.seen i 0 ≡ length v.ints + length v.uints + length v.doubles + length v.strings + suc (root_of i).value
  spot_at i lt e =
      spot v (get_or f.seen i 0) (entry i) (locate v (get_or f.seen i 0) (within v t f i 0 lt)) (subst IsPrivate (root_at i none lt) e)
      ∙ ap (λ h. length v.ints + length v.uints + length v.doubles + length v.strings + suc h.value) (sym (root_at i none lt))

  -- two that stand at one place were met at one place
  same_spot : (i j : ℕ) → i < length f.seen → j < length f.seen → IsPrivate (root_of i) → IsPrivate (root_of j) → (root_of i).value ≡ (root_of j).value → i ≡ j
  same_spot i j l m e k q =
      let x : get_or f.seen i 0 ≡ get_or f.seen j 0 = spot_at i l e ∙ ap (λ n. length v.ints + length v.uints + length v.doubles + length v.strings + suc n) q ∙ sym (spot_at j m k) in
      distinct_at S i j none distinct (omega (arith, l, many_met)) (omega (arith, m, many_met))
      (one_tree (tree_at i none l) (subst (λ y. IsTree (heads_of v) (graph_of v) y (get_or S j none)) (sym x) (tree_at j none m)))

  same_number : (i j : ℕ) → i < length f.seen → j < length f.seen → IsPrivate (root_of i) → IsPrivate (root_of j) → place i - 1 ≡ place j - 1 → i ≡ j
  same_number i j l m e k q =
      let a = some_number (row_pools rows) i 5 (omega (arith, l, many_pools)) (space_pool i l e) refl refl in
      let b = some_number (row_pools rows) j 5 (omega (arith, m, many_pools)) (space_pool j m k) refl refl in
      let same : place i ≡ place j = omega (arith, a, b, q) in
      one_number (row_pools rows) i j 5 (omega (arith, l, many_pools)) (omega (arith, m, many_pools)) (space_pool i l e) (space_pool j m k) refl refl same

  private_pairs : (i : ℕ) → i < length f.seen → IsPrivate (root_of i) → (j : ℕ) → j < length f.seen → Pairs (λ x y. nat_eq (root_of i).value x ≡ nat_eq (place i - 1) y) (private_place (get_or S j none)) (new_private j)
  private_pairs i l e j m =
      one_or_none (λ x y. nat_eq (root_of i).value x ≡ nat_eq (place i - 1) y) (nat_eq (root_of j).kind (namespace_code spaces.Private)) (root_of j).value (place j - 1)
      (λ k. same_bool (nat_eq (root_of i).value (root_of j).value) (nat_eq (place i - 1) (place j - 1)) (λ q. forth k (same_spot i j l m e k (eqb-true (root_of i).value (root_of j).value q))) (λ q. back k (same_number i j l m e k (eqb-true (place i - 1) (place j - 1) q))))
    where
      forth : IsPrivate (root_of j) → i ≡ j → nat_eq (place i - 1) (place j - 1) ≡ true
      forth k q = eq-eqb (place i - 1) (place j - 1) (ap (λ n. place n - 1) q)

      back : IsPrivate (root_of j) → i ≡ j → nat_eq (root_of i).value (root_of j).value ≡ true
      back k q = eq-eqb (root_of i).value (root_of j).value (ap (λ n. (root_of n).value) q)

  which_same : (i : ℕ) → i < length f.seen → IsPrivate (root_of i) → place_among nat_eq qs (place i - 1) ≡ place_among nat_eq ps (root_of i).value
  which_same i lt e =
      sym (ap (λ l. place_among nat_eq l (root_of i).value) ps_are
      ∙ ap (λ o. unwrap_or o 0) (place_pairs (root_of i).value (place i - 1) (collect (λ j. private_place (get_or S j none)) 0 (length f.seen)) qs 0
      (collect_pairs (λ x y. nat_eq (root_of i).value x ≡ nat_eq (place i - 1) y) (λ j. private_place (get_or S j none)) new_private 0 (length f.seen) (λ j m. private_pairs i lt e j (omega (arith, m))))))

  labels_back : (i : ℕ) → i < length f.seen → label_of_entry qs (made i) ≡ label_of_entry ps (entry i)
  labels_back i lt =
      label_back v ps qs (map num (parts c (entry i))) (place i) (entry i)
      (λ e. subst (λ h. place_among nat_eq qs (place i - 1) ≡ place_among nat_eq ps h.value) (root_at i none lt) (which_same i lt (subst IsPrivate (sym (root_at i none lt)) e)))

  fine_made : (i : ℕ) → i < length f.seen → Fine qs (made i)
  fine_made i lt =
      fine_back v ps qs (map num (parts c (entry i))) (place i) (entry i) (λ e. here (subst IsPrivate (sym (root_at i none lt)) e))
    where
      here : IsPrivate (root_of i) → StandsIn (place i - 1) qs
      here e = in_collect new_private 0 (length f.seen) i (place i - 1) (omega arith) (omega (arith, lt)) (subst (StandsIn (place i - 1)) (sym (ap (λ b. if b then (place i - 1) ∷ [] else []) e)) (inl refl))

  -- ---- the trees of the tidied file

  abbrev R : Head → Head → Type 0
  R = Twins v ps T qs

  one : OneToOne R
  one = twins_one v ps T qs

  twin : (i : ℕ) → i < length f.seen → R (entry_head v (entry i)) (head_of_tree (heads_of T) (node i))
  twin i lt = (
    label_found v ps (get_or f.seen i 0) ∙ sym (labels_back i lt) ∙ ap (label_of_entry qs) (sym (entry_there i lt)) ∙ sym (label_at T qs (node i)),
    ap (head_of v ps) (label_found v ps (get_or f.seen i 0)) ∙ head_found v ps (entry i) (fine v S (get_or f.seen i 0) (get_or S i none) (tree_at i none lt) (met_at i none lt)),
    ap (head_of T qs) (label_at T qs (node i)) ∙ head_found T qs (entry_at T (node i)) (subst (Fine qs) (sym (entry_there i lt)) (fine_made i lt)) ∙ sym (head_at T (node i)),
  )

  record Copied (a : Tree) (xs : List ℕ) (h : Head) : Type 0 where
    tree : Tree
    grows : GrowsTrees (heads_of T) (graph_of T) xs (Leaf h) tree
    alike : Alike R a tree

  record NodeCopied (a : Tree) (x : ℕ) : Type 0 where
    tree : Tree
    is : IsTree (heads_of T) (graph_of T) x tree
    alike : Alike R a tree

  abbrev Copies : Tree → Type 0
  Copies a = (ys : List ℕ) → AreTrees (heads_of v) (graph_of v) ys (tree_parts a) → ((y : ℕ) → StandsIn y ys → IsNamed v f.seen y) → ((p : Tree) → StandsIn p (tree_parts a) → StandsIn p S) → (h : Head) → R (root a) h → Copied a (map moved ys) h

  node_copied : (a : Tree) → Copies a → (y : ℕ) → IsNamed v f.seen y → IsTree (heads_of v) (graph_of v) y a → StandsIn a S → NodeCopied a (moved y)
  node_copied a copy y n g h =
      let w = found y a n g h in
      let r : R (root a) (head_of_tree (heads_of T) (node w.at)) = subst (λ k. R k (head_of_tree (heads_of T) (node w.at))) (sym (node_root (heads_of v) (graph_of v) (get_or f.seen w.at 0) a w.here ∙ head_at v (get_or f.seen w.at 0))) (twin w.at w.lt) in
      let k = copy (leads_to (graph_of v) (get_or f.seen w.at 0)) (node_parts (heads_of v) (graph_of v) (get_or f.seen w.at 0) a w.here) (named_parts w.at w.lt) (λ p l. parts_met f.visited.trees a p h l) (head_of_tree (heads_of T) (node w.at)) r in
      let grown : IsTree (heads_of T) (graph_of T) (node w.at) k.tree = subst (λ xs. GrowsTrees (heads_of T) (graph_of T) xs (Leaf (head_of_tree (heads_of T) (node w.at))) k.tree) (sym (targets_there w.at a w.lt w.here h)) k.grows in
      record { tree = k.tree; is = subst (λ x. IsTree (heads_of T) (graph_of T) x k.tree) (sym w.moves) grown; alike = k.alike }

  copied : (a : Tree) → Copies a
  copied (Leaf k) ys NoTrees n i h r = record { tree = Leaf h; grows = Done; alike = r }
  copied (Apply a p) ys are n i h r =
      let w = pushed (heads_of v) (graph_of v) ys (tree_parts a) p are in
      let before : Copied a (map moved w.before) h = copied a w.before w.are (λ y k. n y (subst (StandsIn y) (sym w.is) (in_left w.before (w.last ∷ []) y k))) (λ b k. i b (in_left (tree_parts a) (p ∷ []) b k)) h r in
      let last : NodeCopied p (moved w.last) = node_copied p (copied p) w.last (n w.last (subst (StandsIn w.last) (sym w.is) (in_right w.before (w.last ∷ []) w.last (inl refl)))) w.tree (i p (in_right (tree_parts a) (p ∷ []) p (inl refl))) in
      record {
        tree = Apply before.tree last.tree;
        grows = subst (λ xs. GrowsTrees (heads_of T) (graph_of T) xs (Leaf h) (Apply before.tree last.tree)) (sym (ap (map moved) w.is ∙ map-append moved w.before (w.last ∷ []))) (grows_push (moved w.last) before.grows last.is);
        alike = (before.alike, last.alike);
      }

  record AllCopied (xs : List ℕ) (ts : List Tree) : Type 0 where
    trees : List Tree
    are : AreTrees (heads_of T) (graph_of T) xs trees
    pairs : Pairs (Alike R) ts trees

  all_copied : (ys : List ℕ) (ts : List Tree) → AreTrees (heads_of v) (graph_of v) ys ts → ((y : ℕ) → StandsIn y ys → IsNamed v f.seen y) → ((a : Tree) → StandsIn a ts → StandsIn a S) → AllCopied (map moved ys) ts
  all_copied ys ts NoTrees n h = record { trees = []; are = NoTrees; pairs = tt }
  all_copied ys0 ts0 (OneMore {x = y} {xs = ys} {t = a} {ts = ts} g are) n h =
      let first = node_copied a (copied a) y (n y (inl refl)) g (h a (inl refl)) in
      let rest = all_copied ys ts are (λ z k. n z (inr k)) (λ b k. h b (inr k)) in
      record { trees = first.tree ∷ rest.trees; are = OneMore first.is rest.are; pairs = (first.alike, rest.pairs) }

  -- ---- the roots of the tidied file

  abbrev F : Pool → ℕ → ℕ
  F = new_index (with_numbers c f.numbers)

  root_moved : (pool : Pool) (i : ℕ) → (node_of c pool i ≡ 0 → num 0 ≡ 0) → node_of d pool (F pool i) ≡ moved (node_of c pool i)
  root_moved pools.NoPool i z = refl
  root_moved pools.Int i z = ints_moved v d ps num i z
  root_moved pools.UInt i z = uints_moved v d ps num i z
  root_moved pools.Double i z = doubles_moved v d ps num i z
  root_moved pools.Text i z = strings_moved v d ps num i z
  root_moved pools.Space i z = namespaces_moved v d ps num i z
  root_moved pools.Name i z = names_moved v d ps num i z

  refs_moved : (rs : List Ref) → ZeroAmong (map (λ (r : Ref). node_of c r.pool r.index) rs) → map (λ (r : Ref). node_of d r.pool r.index) (map (renewed F) rs) ≡ map moved (map (λ (r : Ref). node_of c r.pool r.index) rs)
  refs_moved [] z = refl
  refs_moved (r ∷ rs) z =
      let e = root_moved r.pool r.index (λ q. z (node_of c r.pool r.index) (inl refl) q) in
      let rest = refs_moved rs (λ y h. z y (inr h)) in
      λ i. e i ∷ rest i

  roots_moved : roots_of T ≡ map moved (roots_of v)
  roots_moved =
      ap (map (λ (r : Ref). node_of d r.pool r.index)) (refs_renewed F v)
      ∙ refs_moved (file_refs v) (zero_among (roots_of v) f.visited.trees f.visited.rooted (λ y h. named_root v f.seen y h) (λ a h. rooted_met f.visited.trees a h))

  copy : AllCopied (map moved (roots_of v)) f.visited.trees
  copy = all_copied (roots_of v) f.visited.trees f.visited.rooted (λ y h. named_root v f.seen y h) (λ a h. rooted_met f.visited.trees a h)

  new_met : Pairs (Alike R) S (visit_all copy.trees [])
  new_met = all_alike R one f.visited.trees copy.trees [] [] copy.pairs tt

  -- the root of the tree that was met at a place
  new_root : (i : ℕ) → i < length f.seen → root (get_or (visit_all copy.trees []) i none) ≡ entry_head T (made i)
  new_root i lt =
      let r : R (root_of i) (root (get_or (visit_all copy.trees []) i none)) = root_alike R (get_or S i none) (get_or (visit_all copy.trees []) i none) (pairs_at (Alike R) S (visit_all copy.trees []) i none none (omega (arith, lt, many_met)) new_met) in
      let k : R (root_of i) (head_of_tree (heads_of T) (node i)) = subst (λ h. R h (head_of_tree (heads_of T) (node i))) (sym (root_at i none lt)) (twin i lt) in
      let same : root (get_or (visit_all copy.trees []) i none) ≡ head_of_tree (heads_of T) (node i) = leaf_same (root (get_or (visit_all copy.trees []) i none)) (head_of_tree (heads_of T) (node i)) (alike_one R one (Leaf (root_of i)) (Leaf (root (get_or (visit_all copy.trees []) i none))) (Leaf (head_of_tree (heads_of T) (node i))) r k) in
      same ∙ head_at T (node i) ∙ ap (entry_head T) (entry_there i lt)

  new_privates : privates_among (visit_all copy.trees []) ≡ qs
  new_privates =
      collect_list private_place none (visit_all copy.trees []) new_private 0 (λ i lt. at i (omega (arith, lt, many_met, pairs_many (Alike R) S (visit_all copy.trees []) new_met)))
      ∙ ap (collect new_private 0) (sym (pairs_many (Alike R) S (visit_all copy.trees []) new_met) ∙ many_met)
    where
      zero_plus : (i : ℕ) → i ≡ 0 + i
      zero_plus i = omega arith

      at : (i : ℕ) → i < length f.seen → private_place (get_or (visit_all copy.trees []) i none) ≡ new_private (0 + i)
      at i lt =
          ap (λ h. place_if h h.value) (new_root i lt) ∙ place_back v T ps (map num (parts c (entry i))) (place i) (entry i)
          ∙ ap (λ h. place_if h (place i - 1)) (sym (root_at i none lt)) ∙ ap new_private (zero_plus i)

  blank_again : (pool : Pool) (i : ℕ) → no_index pool (F pool i) ≡ no_index pool i
  blank_again pools.NoPool i = refl
  blank_again pools.Int i = refl
  blank_again pools.UInt i = refl
  blank_again pools.Double i = refl
  blank_again pools.Text i = refl
  blank_again pools.Space i = refl
  blank_again pools.Name i = refl

  free_again : (free : Free) → IsFreeForm v free → IsFreeForm T free
  free_again free h = record {
    trees = copy.trees;
    rooted = subst (λ xs. AreTrees (heads_of T) (graph_of T) xs copy.trees) (sym roots_moved) copy.are;
    definitions = h.definitions ∙ sym (twice no_index F no_index blank_again v);
    things = subst (AreThings T (privates_among (visit_all copy.trees [])) (roots_of T)) things
        (are_things T (privates_among (visit_all copy.trees [])) (subst (λ xs. AreTrees (heads_of T) (graph_of T) xs copy.trees) (sym roots_moved) copy.are));
  }
    where
      things : map (thing_of T (privates_among (visit_all copy.trees []))) copy.trees ≡ free.things
      things = ap (λ ps. map (thing_of T ps) copy.trees) new_privates ∙ sym (things_alike v ps T qs f.visited.trees copy.trees copy.pairs) ∙ things_are v t free f h

  pub free_kept : (free : Free) → IsFreeForm v free → IsFreeForm t free
  free_kept free h = subst (λ x. IsFreeForm x free) (sym is_T) (free_again free h)

  -- ---- its indices are those of entries

  number_few : (y : ℕ) (a : Tree) → IsNamed v f.seen y → IsTree (heads_of v) (graph_of v) y a → StandsIn a S → num y ≤ size_for d (label_of_entry ps (entry_at v y))
  number_few y a n g h =
      let w = found y a n g h in
      let most : place w.at ≤ size_for d (label_of_entry ps (entry w.at)) = few T rows w.at (label_of_entry ps (entry w.at)) (map num (parts c (entry w.at))) refl refl refl refl refl refl refl (omega (arith, w.lt, many_rows)) (row_at w.at) in
      subst (λ k. k ≤ size_for d (label_of_entry ps (entry_at v y))) (sym w.number_is) (subst (λ l. place w.at ≤ size_for d l) (sym w.labelled) most)

  numbers_few : (ys : List ℕ) (ts : List Tree) → AreTrees (heads_of v) (graph_of v) ys ts → ((y : ℕ) → StandsIn y ys → IsNamed v f.seen y) → ((a : Tree) → StandsIn a ts → StandsIn a S) → (y : ℕ) → StandsIn y ys → num y ≤ size_for d (label_of_entry ps (entry_at v y))
  numbers_few ys ts NoTrees n h y k = absurd k
  numbers_few ys0 ts0 (OneMore {x = x} {t = a} g are) n h y (inl e) =
      subst (λ z. num z ≤ size_for d (label_of_entry ps (entry_at v z))) (sym e) (number_few x a (n x (inl refl)) g (h a (inl refl)))
  numbers_few ys0 ts0 (OneMore {xs = ys} {ts = ts} g are) n h y (inr k) = numbers_few ys ts are (λ w l. n w (inr l)) (λ b l. h b (inr l)) y k

  root_sized : (pool : Pool) (i : ℕ) → (node_of c pool i ≡ 0 → num 0 ≡ 0) → num (node_of c pool i) ≤ size_for d (label_of_entry ps (entry_at v (node_of c pool i))) → names_pool pool ≡ true → F pool i ≤ pool_size T pool
  root_sized pools.NoPool i z most e = absurd (true≢false (sym e))
  root_sized pools.Int i z most e = ints_sized v d ps num i z most
  root_sized pools.UInt i z most e = uints_sized v d ps num i z most
  root_sized pools.Double i z most e = doubles_sized v d ps num i z most
  root_sized pools.Text i z most e = strings_sized v d ps num i z most
  root_sized pools.Space i z most e = namespaces_sized v d ps num i z most
  root_sized pools.Name i z most e = names_sized v d ps num i z most

  in_nodes : (rs : List Ref) (r : Ref) → StandsIn r rs → StandsIn (node_of c r.pool r.index) (map (λ (q : Ref). node_of c q.pool q.index) rs)
  in_nodes [] r h = absurd h
  in_nodes (q ∷ rs) r (inl e) = inl (ap (λ (x : Ref). node_of c x.pool x.index) e)
  in_nodes (q ∷ rs) r (inr h) = inr (in_nodes rs r h)

  ref_there : (r : Ref) → StandsIn r (file_refs v) → IsEntryThere T (renewed F r)
  ref_there r h =
      let y = in_nodes (file_refs v) r h in
      root_sized r.pool r.index
      (λ q. zero_among (roots_of v) f.visited.trees f.visited.rooted (λ z k. named_root v f.seen z k) (λ a k. rooted_met f.visited.trees a k) (node_of c r.pool r.index) y q)
      (numbers_few (roots_of v) f.visited.trees f.visited.rooted (λ z k. named_root v f.seen z k) (λ a k. rooted_met f.visited.trees a k) (node_of c r.pool r.index) y)

  all_there : (rs : List Ref) → ((r : Ref) → StandsIn r rs → IsEntryThere T (renewed F r)) → (r : Ref) → StandsIn r (map (renewed F) rs) → IsEntryThere T r
  all_there [] h r k = absurd k
  all_there (q ∷ rs) h r (inl e) = subst (IsEntryThere T) (sym e) (h q (inl refl))
  all_there (q ∷ rs) h r (inr k) = all_there rs (λ x l. h x (inr l)) r k

  refs_there : (r : Ref) → StandsIn r (file_refs T) → IsEntryThere T r
  refs_there r h = all_there (file_refs v) ref_there r (subst (StandsIn r) (refs_renewed F v) h)

  -- every index of the definitions and bodies of the tidied file names an entry, or nothing
  pub all_refs_there : (r : Ref) → StandsIn r (file_refs t) → IsEntryThere t r
  all_refs_there = subst (λ x. (r : Ref) → StandsIn r (file_refs x) → IsEntryThere x r) (sym is_T) refs_there

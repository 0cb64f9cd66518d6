-- No rule is broken by a tidied file.
use Rattle.std.proofs.Common.{◌≡◌, ℕ, zero, suc, ◌+◌, ◌<◌, ◌≤◌, ◌⊎◌, inl, inr, List, [], ◌∷◌, ◌++◌, All, Contains, map, flat_map, filter, length, get_or, slice_get, cond, nat_eq, nat_le, not, ◌&&◌, Bool, true, false, if◌then◌else◌, Some, eqb-true, leb-true, refl, sym, ap, subst, ◌∙◌, arith, true≢false}
use Rattle.std.proofs.lemmas.Bool.{cases_lt}
use Rattle.std.proofs.lemmas.List.{get_or_past, length-map}
use Rattle.abc_base_graphs.specs.Graph.{Edge, Leads, Returns, Then, leads_to}
use Rattle.abc_tidy_refs.specs.declared.refs.Ref.{Ref}
use Rattle.abc_tidy_refs.specs.Nodes.{counts_of, node_in_pool, node_of}
use Rattle.abc_tidy_refs.specs.Refs.{body_refs, class_refs, refs_of, file_refs, handler_refs, instance_refs, instr_refs, metadata_refs, method_refs, option_refs, ref, script_refs, trait_refs}
use Rattle.abc_file_types.specs.declared.code.Body.{Body}
use Rattle.abc_file_types.specs.declared.methods.Method.{Method}
use Rattle.abc_file_types.specs.declared.names.Multiname.{Multiname}
use Rattle.abc_file_types.specs.declared.names.Multiname.TheVariants as names
use Rattle.abc_file_types.specs.declared.opcodes.Pool.{Pool}
use Rattle.abc_file_types.specs.declared.opcodes.Pool.TheVariants as pools
use Rattle.abc_file_types.specs.declared.tables.Abc.{Abc}
use Rattle.abc_base_trees.specs.declared.heads.Head.{Head}
use Rattle.abc_base_trees.specs.Trees.{Tree, Leaf, Apply, AreTrees, NoTrees, OneMore, IsTree}
use Rattle.abc_base_trees.proofs.TreeLaws.{one_tree}
use Rattle.abc_tidy_entries.specs.Entries.{graph_of, heads_of}
use Rattle.abc_tidy_entries.specs.NameGraph.{index_of_name, is_name_index, name_graph, name_indices, name_targets, names_among}
use Rattle.abc_tidy_entries.specs.Rules.{BodyHolds, IsSomeBroken, IsCyclic, IsEntryThere, MethodHolds}
use Rattle.abc_tidy_entries.specs.Visited.{roots_of}
use Rattle.abc_tidy.specs.Things.{NameEntry, entry_at, parts}
use Rattle.abc_tidy.proofs.Alike.{tree_parts}
use Rattle.abc_tidy.proofs.Closed.{node_parts}
use Rattle.abc_tidy.proofs.Entered.{targets_at}
use Rattle.abc_base_trees.specs.Orders.{StandsIn}
use Rattle.abc_tidy.proofs.Lists.{in_at, in_cases, in_left, in_right}
use Rattle.abc_tidy.proofs.Moved.{names_there, node_here}

-- ---- indices that name entries

all_from : {A : Type 0} (P : A → Type 0) (xs : List A) → ((x : A) → StandsIn x xs → P x) → All P xs
all_from P xs h k d lt = h (get_or xs k d) (in_at xs k d lt)

pub in_flat : {A B : Type 0} (f : A → List B) (xs : List A) (x : A) (y : B) → StandsIn x xs → StandsIn y (f x) → StandsIn y (flat_map f xs)
in_flat f [] x y h k = absurd h
in_flat f (z ∷ xs) x y (inl e) k = in_left (f z) (flat_map f xs) y (subst (λ w. StandsIn y (f w)) e k)
in_flat f (z ∷ xs) x y (inr h) k = in_right (f z) (flat_map f xs) y (in_flat f xs x y h k)

in_map : {A B : Type 0} (f : A → B) (xs : List A) (x : A) → StandsIn x xs → StandsIn (f x) (map f xs)
in_map f [] x h = absurd h
in_map f (y ∷ xs) x (inl e) = inl (ap f e)
in_map f (y ∷ xs) x (inr h) = inr (in_map f xs x h)

-- an item that is broken stands among the items
in_broken : {A : Type 0} (P : A → Type 0) (xs : List A) (i : ℕ) (b : IsSomeBroken P xs i) → StandsIn b.item xs
in_broken P xs i b = subst (λ x. StandsIn x xs) b.at (in_at xs i b.item b.within)

pub no_operand : (t : Abc) (i : ℕ) → ((r : Ref) → StandsIn r (file_refs t) → IsEntryThere t r) → IsSomeBroken (BodyHolds t) t.bodies i → ⊥
no_operand t i there b = b.breaks (all_from (IsEntryThere t) (flat_map instr_refs b.item.code) (λ r h. there r (in_file r h)))
  where
    in_file : (r : Ref) → StandsIn r (flat_map instr_refs b.item.code) → StandsIn r (file_refs t)
    in_file r h =
        in_right (flat_map method_refs t.methods ++ flat_map metadata_refs t.metadata ++ flat_map instance_refs t.instances ++ flat_map class_refs t.classes ++ flat_map script_refs t.scripts) (flat_map body_refs t.bodies) r
        (in_flat body_refs t.bodies b.item r (in_broken (BodyHolds t) t.bodies i b)
        (in_left (flat_map instr_refs b.item.code ++ flat_map handler_refs b.item.handlers) (flat_map trait_refs b.item.traits) r
        (in_left (flat_map instr_refs b.item.code) (flat_map handler_refs b.item.handlers) r h)))

pub no_param_name : (t : Abc) (i : ℕ) → ((r : Ref) → StandsIn r (file_refs t) → IsEntryThere t r) → IsSomeBroken (MethodHolds t) t.methods i → ⊥
no_param_name t i there b = b.breaks (all_from (λ name. name ≤ length t.strings) b.item.param_names (λ name h. there (ref pools.Text name) (in_file name h) refl))
  where
    in_file : (name : ℕ) → StandsIn name b.item.param_names → StandsIn (ref pools.Text name) (file_refs t)
    in_file name h =
        in_left (flat_map method_refs t.methods ++ flat_map metadata_refs t.metadata ++ flat_map instance_refs t.instances ++ flat_map class_refs t.classes ++ flat_map script_refs t.scripts) (flat_map body_refs t.bodies) (ref pools.Text name)
        (in_left (flat_map method_refs t.methods ++ flat_map metadata_refs t.metadata ++ flat_map instance_refs t.instances ++ flat_map class_refs t.classes) (flat_map script_refs t.scripts) (ref pools.Text name)
        (in_left (flat_map method_refs t.methods ++ flat_map metadata_refs t.metadata ++ flat_map instance_refs t.instances) (flat_map class_refs t.classes) (ref pools.Text name)
        (in_left (flat_map method_refs t.methods ++ flat_map metadata_refs t.metadata) (flat_map instance_refs t.instances) (ref pools.Text name)
        (in_left (flat_map method_refs t.methods) (flat_map metadata_refs t.metadata) (ref pools.Text name)
        (in_flat method_refs t.methods b.item (ref pools.Text name) (in_broken (MethodHolds t) t.methods i b)
        (in_right ((ref pools.Name b.item.ret ∷ []) ++ refs_of pools.Name b.item.params ++ (ref pools.Text b.item.name ∷ []) ++ flat_map option_refs b.item.options) (refs_of pools.Text b.item.param_names) (ref pools.Text name) (in_map (ref pools.Text) b.item.param_names name h)))))))

-- ---- a name that leads to itself has no tree

size : Tree → ℕ
size (Leaf h) = 1
size (Apply t p) = size t + size p

size_some : (t : Tree) → 0 < size t
unfolding size
size_some (Leaf h) = omega arith
size_some (Apply t p) = let a = size_some t in omega (arith, a)

smaller : (t p : Tree) → StandsIn p (tree_parts t) → size p < size t
unfolding size
smaller (Leaf h) p k = absurd k
smaller (Apply t q) p k = go (in_cases (tree_parts t) (q ∷ []) p k) (smaller t p)
  where
    go : StandsIn p (tree_parts t) ⊎ StandsIn p (q ∷ []) → (StandsIn p (tree_parts t) → size p < size t) → size p < size t + size q
    go (inl h) f = let a = f h in omega (arith, a)
    go (inr (inl e)) f = let a = size_some t in let b : size p ≡ size q = ap size e in omega (arith, a, b)
    go (inr (inr h)) f = absurd h

-- a node that has a tree
record HasTree (v : Abc) (x : ℕ) : Type 0 where
  tree : Tree
  is : IsTree (heads_of v) (graph_of v) x tree

one_of : {heads : List Head} {graph : List (List ℕ)} (ys : List ℕ) (ts : List Tree) (y : ℕ) → AreTrees heads graph ys ts → StandsIn y ys → (t : Tree) × StandsIn t ts × IsTree heads graph y t
one_of ys ts y NoTrees h = absurd h
one_of {heads} {graph} ys0 ts0 y (OneMore {t = t} g are) (inl e) = (t, inl refl, subst (λ z. IsTree heads graph z t) (sym e) g)
one_of ys0 ts0 y (OneMore {xs = ys} {ts = ts} g are) (inr h) = let r = one_of ys ts y are h in (r.0, inr r.1, r.2)

-- what it leads to has a smaller one
onward : (v : Abc) (x y : ℕ) (h : HasTree v x) → StandsIn y (leads_to (graph_of v) x) → (k : HasTree v y) × (size k.tree < size h.tree)
onward v x y h e =
    let r = one_of (leads_to (graph_of v) x) (tree_parts h.tree) y (node_parts (heads_of v) (graph_of v) x h.tree h.is) e in
    (record { tree = r.0; is = r.2 }, smaller h.tree r.0 r.1)

-- ---- edges between names

abbrev before_names : Abc → ℕ
before_names v = length v.ints + length v.uints + length v.doubles + length v.strings + length v.namespaces + length v.sets

in_contains : (xs : List ℕ) (y : ℕ) → Contains xs y → StandsIn y xs
in_contains xs y c = subst (λ z. StandsIn z xs) c.2 (in_at xs c.0 y c.1)

among : (count : ℕ) (xs : List ℕ) (y : ℕ) → StandsIn y (names_among count xs) → StandsIn y xs × (is_name_index count y ≡ true)
among count [] y h = absurd h
among count (x ∷ xs) y h = go (is_name_index count x) refl h (among count xs y)
  where
    go : (b : Bool) → is_name_index count x ≡ b → StandsIn y (cond b (x ∷ names_among count xs) (names_among count xs)) → (StandsIn y (names_among count xs) → StandsIn y xs × (is_name_index count y ≡ true)) → StandsIn y (x ∷ xs) × (is_name_index count y ≡ true)
    go true e (inl q) f = (inl q, ap (is_name_index count) q ∙ e)
    go true e (inr k) f = let r = f k in (inr r.0, r.1)
    go false e k f = let r = f k in (inr r.0, r.1)

record IsIndex (count y : ℕ) : Type 0 where
  place : ℕ
  is : y ≡ suc place
  within : place < count

index_of : (count y : ℕ) → is_name_index count y ≡ true → IsIndex count y
index_of count zero e = absurd (true≢false (sym e))
index_of count (suc j) e = go (nat_le (suc j) count) refl
  where
    go : (b : Bool) → nat_le (suc j) count ≡ b → IsIndex count (suc j)
    go true l = let le : suc j ≤ count = leb-true (suc j) count l in record { place = j; is = refl; within = omega (arith, le) }
    go false l = absurd (true≢false (sym e ∙ ap (λ b. not (nat_eq (suc j) 0) && b) l ∙ and_false (not (nat_eq (suc j) 0))))
      where
        and_false : (b : Bool) → (b && false) ≡ false
        and_false true = refl
        and_false false = refl

node_of_index : (v : Abc) (y : ℕ) → IsIndex (length v.names) y → node_of (counts_of v) pools.Name y ≡ before_names v + y
node_of_index v y k = ap (node_of (counts_of v) pools.Name) k.is ∙ node_here (before_names v) (length v.names) k.place k.within ∙ ap (λ n. before_names v + n) (sym k.is)

-- the names that a name names are led to
named_by : (v : Abc) (m : Multiname) (y : ℕ) → StandsIn y (name_targets (length v.names) m) → IsIndex (length v.names) y × StandsIn (node_of (counts_of v) pools.Name y) (parts (counts_of v) (NameEntry m))
named_by v (names.QName attr ns i) y h = absurd h
named_by v (names.Rt attr i) y h = absurd h
named_by v (names.RtL attr) y h = absurd h
named_by v (names.Multi attr i s) y h = absurd h
named_by v (names.MultiL attr s) y h = absurd h
named_by v (names.TypeName base params) y h =
    let r = among (length v.names) (base ∷ params) y h in
    (index_of (length v.names) y r.1, in_map (node_of (counts_of v) pools.Name) (base ∷ params) y r.0)

edge : (v : Abc) (j y : ℕ) → j < length v.names → StandsIn y (leads_to (name_graph v) (suc j)) → IsIndex (length v.names) y × StandsIn (before_names v + y) (leads_to (graph_of v) (before_names v + suc j))
edge v j y lt h =
    let r = names_there v j lt in
    let k = named_by v r.0 y (subst (StandsIn y) (row v.names j r.0 r.1) h) in (
      k.0,
      subst (λ z. StandsIn z (leads_to (graph_of v) (before_names v + suc j))) (node_of_index v y k.0)
          (subst (StandsIn (node_of (counts_of v) pools.Name y)) (sym (targets_at v (before_names v + suc j) ∙ ap (parts (counts_of v)) r.2)) k.1),
    )
  where
    row : (ms : List Multiname) (j : ℕ) (m : Multiname) → slice_get ms j ≡ Some m → get_or (map (name_targets (length v.names)) ms) j [] ≡ name_targets (length v.names) m
    row [] j m e = absurd (none e)
      where
        none : slice_get {X = Multiname} [] j ≡ Some m → ⊥
        none f = cc
    row (x ∷ ms) zero m e = ap (name_targets (length v.names)) (some_same x m e)
      where
        some_same : (a b : Multiname) → Some a ≡ Some b → a ≡ b
        some_same a b f = cc
    row (x ∷ ms) (suc i) m e = row ms i m e

name_refs : (v : Abc) (rs : List Ref) (y : ℕ) → StandsIn y (name_indices rs) → StandsIn (node_of (counts_of v) pools.Name y) (map (λ (r : Ref). node_of (counts_of v) r.pool r.index) rs)
name_refs v [] y h = absurd h
name_refs v (r ∷ rs) y h = go r.pool refl h (name_refs v rs y)
  where
    next : (StandsIn y (name_indices rs) → StandsIn (node_of (counts_of v) pools.Name y) (map (λ (q : Ref). node_of (counts_of v) q.pool q.index) rs)) → StandsIn y (name_indices rs) → StandsIn (node_of (counts_of v) pools.Name y) (map (λ (q : Ref). node_of (counts_of v) q.pool q.index) (r ∷ rs))
    next f k = inr (f k)

    go : (p : Pool) → r.pool ≡ p → StandsIn y (index_of_name p r.index ++ name_indices rs) → (StandsIn y (name_indices rs) → StandsIn (node_of (counts_of v) pools.Name y) (map (λ (q : Ref). node_of (counts_of v) q.pool q.index) rs)) → StandsIn (node_of (counts_of v) pools.Name y) (map (λ (q : Ref). node_of (counts_of v) q.pool q.index) (r ∷ rs))
    go pools.NoPool e k f = next f k
    go pools.Int e k f = next f k
    go pools.UInt e k f = next f k
    go pools.Double e k f = next f k
    go pools.Text e k f = next f k
    go pools.Space e k f = next f k
    go pools.Name e (inl q) f = inl (ap (node_of (counts_of v) pools.Name) q ∙ ap (λ p. node_of (counts_of v) p r.index) (sym e))
    go pools.Name e (inr k) f = next f k

first_edge : (v : Abc) (y : ℕ) → StandsIn y (leads_to (name_graph v) 0) → IsIndex (length v.names) y × StandsIn (before_names v + y) (roots_of v)
first_edge v y h =
    let r = among (length v.names) (name_indices (file_refs v)) y h in
    let k = index_of (length v.names) y r.1 in
    (k, subst (λ z. StandsIn z (roots_of v)) (node_of_index v y k) (name_refs v (file_refs v) y r.0))

-- ---- what a name that has a tree leads to

step : (v : Abc) (x y : ℕ) → IsIndex (length v.names) x → (h : HasTree v (before_names v + x)) → StandsIn y (leads_to (name_graph v) x) → IsIndex (length v.names) y × ((k : HasTree v (before_names v + y)) × (size k.tree < size h.tree))
step v x y i h e =
    let r = edge v i.place y i.within (subst (λ z. StandsIn y (leads_to (name_graph v) z)) i.is e) in
    (r.0, onward v (before_names v + x) (before_names v + y) h (subst (λ z. StandsIn (before_names v + y) (leads_to (graph_of v) (before_names v + z))) (sym i.is) r.1))

far : (v : Abc) (x y : ℕ) → Leads (name_graph v) x y → IsIndex (length v.names) x → (h : HasTree v (before_names v + x)) → IsIndex (length v.names) y × ((k : HasTree v (before_names v + y)) × (size k.tree < size h.tree))
far v x y (Edge c) i h = step v x y i h (in_contains (leads_to (name_graph v) x) y c)
far v x y (Then {y = z} c l) i h =
    let s = step v x z i h (in_contains (leads_to (name_graph v) x) z c) in
    let r = far v z y l s.0 s.1.0 in
    (r.0, (r.1.0, omega (arith, r.1.1, s.1.1)))

-- a name that is visited has a tree, where the roots have trees
visited : (v : Abc) (ts : List Tree) (i : ℕ) → AreTrees (heads_of v) (graph_of v) (roots_of v) ts → Leads (name_graph v) 0 i → IsIndex (length v.names) i × HasTree v (before_names v + i)
visited v ts i are (Edge c) = begin i c
  where
    begin : (y : ℕ) → Contains (leads_to (name_graph v) 0) y → IsIndex (length v.names) y × HasTree v (before_names v + y)
    begin y c =
        let r = first_edge v y (in_contains (leads_to (name_graph v) 0) y c) in
        let t = one_of (roots_of v) ts (before_names v + y) are r.1 in
        (r.0, record { tree = t.0; is = t.2 })
visited v ts i are (Then {y = z} c l) =
    let r = first_edge v z (in_contains (leads_to (name_graph v) 0) z c) in
    let t = one_of (roots_of v) ts (before_names v + z) are r.1 in
    let k = far v z i l r.0 (record { tree = t.0; is = t.2 }) in
    (k.0, k.1.0)

pub no_cycle : (v : Abc) (ts : List Tree) (i : ℕ) → AreTrees (heads_of v) (graph_of v) (roots_of v) ts → IsCyclic v i → ⊥
no_cycle v ts i are c =
    let h = visited v ts i are c.visited in
    let k = far v i i c.returns h.0 h.1 in
    let same : size k.1.0.tree ≡ size h.1.tree = ap size (one_tree k.1.0.is h.1.is) in
    omega (arith, same, k.1.1)

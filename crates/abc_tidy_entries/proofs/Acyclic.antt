-- Where all entries that the definitions and bodies name have classes, no name that is visited reaches itself: each edge
-- between names is one between entries, and what has a class has a tree.
use Rattle.std.proofs.Common.{◌≡◌, ℕ, zero, suc, ◌+◌, ◌<◌, ◌≤◌, ◌⊎◌, inl, inr, List, [], ◌∷◌, ◌++◌, Contains, Bool, true, false, ◌&&◌, not, cond, nat_eq, nat_le, if◌then◌else◌, map, length, get_or, slice_get, Some, refl, sym, ap, subst, ◌∙◌, arith, length-append, true≢false}
use Rattle.std.specs.declared.option.Option.{Option}
use Rattle.std.proofs.lemmas.List.{get_or-append-add, get_or_default, length-map}
use Rattle.abc_base_graphs.specs.Graph.{leads_to, Leads, Edge, Then, Returns}
use Rattle.abc_tidy_refs.specs.declared.refs.Ref.{Ref}
use Rattle.abc_tidy_refs.specs.Nodes.{counts_of, node_of}
use Rattle.abc_tidy_refs.specs.Refs.{file_refs}
use Rattle.abc_file_types.specs.declared.names.Multiname.{Multiname}
use Rattle.abc_file_types.specs.declared.names.Multiname.TheVariants as names
use Rattle.abc_file_types.specs.declared.opcodes.Pool.{Pool}
use Rattle.abc_file_types.specs.declared.opcodes.Pool.TheVariants as pools
use Rattle.abc_file_types.specs.declared.tables.Abc.{Abc}
use Rattle.abc_base_trees.specs.declared.heads.Head.{Head}
use Rattle.abc_base_trees.specs.declared.keys.Key.{Key}
use Rattle.abc_base_trees.specs.Classes.{AllClassed, AreTreeClasses, HasClass}
use Rattle.abc_base_trees.specs.Orders.{StandsIn}
use Rattle.abc_base_trees.proofs.Sizes.{never_returns}
use Rattle.abc_base_trees.proofs.Walked.{contains_of, in_append}
use Rattle.abc_tidy_entries.specs.declared.error.TidyRule.TheVariants as rules
use Rattle.abc_tidy_entries.specs.Entries.{graph_of, entry_name_parts, set_parts, space_parts, value_graph}
use Rattle.abc_tidy_entries.specs.NameGraph.{index_of_name, is_name_index, name_graph, name_indices, name_targets, names_among}
use Rattle.abc_tidy_entries.specs.Rules.{HoldsTidyRule, IsCyclic}
use Rattle.abc_tidy_entries.specs.Visited.{roots_of}
use Rattle.abc_tidy_entries.proofs.NodeGraph.{before_names, contained, got, sets_many}

-- ---- indices of names

some_name : (count : ℕ) → is_name_index count zero ≡ true → ⊥
some_name count e = true≢false (sym e)

among_in : (count i : ℕ) (xs : List ℕ) → StandsIn i (names_among count xs) → StandsIn i xs × (is_name_index count i ≡ true)
among_in count i [] h = absurd h
among_in count i (x ∷ xs) h = by (is_name_index count x) refl h (among_in count i xs)
  where
    later : StandsIn i xs × (is_name_index count i ≡ true) → StandsIn i (x ∷ xs) × (is_name_index count i ≡ true)
    later r = (inr r.0, r.1)

    by : (b : Bool) → is_name_index count x ≡ b → StandsIn i (cond b (x ∷ names_among count xs) (names_among count xs)) → (StandsIn i (names_among count xs) → StandsIn i xs × (is_name_index count i ≡ true)) → StandsIn i (x ∷ xs) × (is_name_index count i ≡ true)
    by true e (inl q) rest = (inl q, ap (is_name_index count) q ∙ e)
    by true e (inr k) rest = later (rest k)
    by false e k rest = later (rest k)

node_is : (v : Abc) (i : ℕ) → is_name_index (length v.names) i ≡ true → node_of (counts_of v) pools.Name i ≡ before_names v + i
node_is v i e = by (nat_eq i 0) (nat_le i (length v.names)) refl refl
  where
    by : (a b : Bool) → nat_eq i 0 ≡ a → nat_le i (length v.names) ≡ b → node_of (counts_of v) pools.Name i ≡ before_names v + i
    by true b p q = absurd (true≢false (sym e ∙ ap (λ t. not t && nat_le i (length v.names)) p))
    by false true p q = ap (λ t. if t then 0 else if nat_le i (length v.names) then before_names v + i else 0) p ∙ ap (λ t. if t then before_names v + i else 0) q
    by false false p q = absurd (true≢false (sym e ∙ (λ k. not (p k) && q k)))

mapped : (f : ℕ → ℕ) (i : ℕ) (xs : List ℕ) → StandsIn i xs → StandsIn (f i) (map f xs)
mapped f i [] h = absurd h
mapped f i (x ∷ xs) (inl e) = inl (ap f e)
mapped f i (x ∷ xs) (inr h) = inr (mapped f i xs h)

-- ---- the edges of the graph of names

-- what a name leads to is a name, and a part of its entry
abbrev IsTarget : Abc → ℕ → List ℕ → Type 0
IsTarget v i parts = (is_name_index (length v.names) i ≡ true) × StandsIn (before_names v + i) parts

targets_parts : (v : Abc) (m : Multiname) (i : ℕ) → StandsIn i (name_targets (length v.names) m) → IsTarget v i (entry_name_parts (counts_of v) m)
targets_parts v (names.QName attr ns name) i h = absurd h
targets_parts v (names.Rt attr name) i h = absurd h
targets_parts v (names.RtL attr) i h = absurd h
targets_parts v (names.Multi attr name set) i h = absurd h
targets_parts v (names.MultiL attr set) i h = absurd h
targets_parts v (names.TypeName base params) i h =
    let a = among_in (length v.names) i (base ∷ params) h in
    (a.1, subst (λ y. StandsIn y (map (node_of (counts_of v) pools.Name) (base ∷ params))) (node_is v i a.1) (mapped (node_of (counts_of v) pools.Name) i (base ∷ params) a.0))

row_got : (f : Multiname → List ℕ) (ms : List Multiname) (j : ℕ) (m : Multiname) → slice_get ms j ≡ Some m → get_or (map f ms) j [] ≡ f m
row_got f [] j m e = absurd (none e)
  where
    none : slice_get {X = Multiname} [] j ≡ Some m → ⊥
    none h = cc
row_got f (n ∷ ms) zero m e = ap f (same e)
  where
    same : Some n ≡ Some m → n ≡ m
    same h = cc
row_got f (n ∷ ms) (suc j) m e = row_got f ms j m e

-- the row of a name in the graph of the entries
name_row : (v : Abc) (j : ℕ) → leads_to (graph_of v) (before_names v + suc j) ≡ get_or (map (entry_name_parts (counts_of v)) v.names) j []
name_row v j =
    let at : before_names v + suc j ≡ length (value_graph v ++ map (space_parts (counts_of v)) v.namespaces ++ map (set_parts (counts_of v)) v.sets) + j = omega (arith, sets_many v) in
    ap (leads_to (graph_of v)) at
    ∙ get_or-append-add (value_graph v ++ map (space_parts (counts_of v)) v.namespaces ++ map (set_parts (counts_of v)) v.sets) (map (entry_name_parts (counts_of v)) v.names) j []

edge_to : (v : Abc) (x y : ℕ) → is_name_index (length v.names) x ≡ true → StandsIn y (leads_to (name_graph v) x) → IsTarget v y (leads_to (graph_of v) (before_names v + x))
edge_to v zero y e h = absurd (some_name (length v.names) e)
edge_to v (suc j) y e h =
    let r = got (name_targets (length v.names)) v.names j y h in
    let t = targets_parts v r.0 y r.2 in
    (t.0, subst (StandsIn (before_names v + y)) (sym (name_row v j ∙ row_got (entry_name_parts (counts_of v)) v.names j r.0 r.4)) t.1)

-- ---- what the definitions and bodies name

index_in : (v : Abc) (r : Ref) (i : ℕ) → is_name_index (length v.names) i ≡ true → StandsIn i (index_of_name r.pool r.index) → before_names v + i ≡ node_of (counts_of v) r.pool r.index
index_in v r i e h = go r.pool refl h
  where
    go : (p : Pool) → r.pool ≡ p → StandsIn i (index_of_name p r.index) → before_names v + i ≡ node_of (counts_of v) r.pool r.index
    go pools.NoPool q k = absurd k
    go pools.Int q k = absurd k
    go pools.UInt q k = absurd k
    go pools.Double q k = absurd k
    go pools.Text q k = absurd k
    go pools.Space q k = absurd k
    go pools.Name q (inl s) = sym (node_is v i e) ∙ ap (node_of (counts_of v) pools.Name) s ∙ ap (λ p. node_of (counts_of v) p r.index) (sym q)
    go pools.Name q (inr k) = absurd k

indices_in : (v : Abc) (rs : List Ref) (i : ℕ) → is_name_index (length v.names) i ≡ true → StandsIn i (name_indices rs) → StandsIn (before_names v + i) (map (λ r. node_of (counts_of v) r.pool r.index) rs)
indices_in v [] i e h = absurd h
indices_in v (r ∷ rs) i e h = go (in_append i (index_of_name r.pool r.index) (name_indices rs) h) (indices_in v rs i e)
  where
    go : StandsIn i (index_of_name r.pool r.index) ⊎ StandsIn i (name_indices rs) → (StandsIn i (name_indices rs) → StandsIn (before_names v + i) (map (λ r. node_of (counts_of v) r.pool r.index) rs)) → StandsIn (before_names v + i) (map (λ r. node_of (counts_of v) r.pool r.index) (r ∷ rs))
    go (inl k) rest = inl (index_in v r i e k)
    go (inr k) rest = inr (rest k)

root_to : (v : Abc) (y : ℕ) → StandsIn y (leads_to (name_graph v) zero) → IsTarget v y (roots_of v)
root_to v y h =
    let a = among_in (length v.names) y (name_indices (file_refs v)) h in
    (a.1, indices_in v (file_refs v) y a.1 a.0)

-- ---- ways

-- an edge from a name, or from the definitions and bodies, leads to a name
leads_to_name : (v : Abc) (x y : ℕ) → StandsIn y (leads_to (name_graph v) x) → is_name_index (length v.names) y ≡ true
leads_to_name v zero y h = (root_to v y h).0
leads_to_name v (suc j) y h =
    let r = got (name_targets (length v.names)) v.names j y h in
    (targets_parts v r.0 y r.2).0

is_lead : (v : Abc) (x y : ℕ) → Leads (name_graph v) x y → is_name_index (length v.names) y ≡ true
is_lead v x y (Edge c) = leads_to_name v x y (contained (leads_to (name_graph v) x) y c)
is_lead v x y (Then {y = z} c l) = is_lead v z y l

names_lead : (v : Abc) (x y : ℕ) → is_name_index (length v.names) x ≡ true → Leads (name_graph v) x y → Leads (graph_of v) (before_names v + x) (before_names v + y)
names_lead v x y e (Edge c) = Edge (contains_of (before_names v + y) (leads_to (graph_of v) (before_names v + x)) ((edge_to v x y e (contained (leads_to (name_graph v) x) y c)).1))
names_lead v x y e (Then {y = z} c l) =
    let t = edge_to v x z e (contained (leads_to (name_graph v) x) z c) in
    Then (contains_of (before_names v + z) (leads_to (graph_of v) (before_names v + x)) t.1) (names_lead v z y t.0 l)

-- ---- classes

pub classed_in : (classes : List (Option ℕ)) (xs : List ℕ) (x : ℕ) → AllClassed classes xs → StandsIn x xs → HasClass classes x
classed_in classes [] x all h = absurd h
classed_in classes (y ∷ xs) x all (inl e) = subst (HasClass classes) (sym e) all.0
classed_in classes (y ∷ xs) x all (inr h) = classed_in classes xs x all.1 h

class_on : (v : Abc) (heads : List Head) (keys : List Key) (classes : List (Option ℕ)) (x y : ℕ) → AreTreeClasses heads (graph_of v) keys classes → HasClass classes x → StandsIn y (leads_to (graph_of v) x) → HasClass classes y
class_on v heads keys classes x y valid h k =
    let c = contains_of y (leads_to (graph_of v) x) k in
    subst (HasClass classes) (get_or_default (leads_to (graph_of v) x) c.0 0 y c.1 ∙ c.2) (valid.closed x h.number h.is c.0 c.1)

way_on : (v : Abc) (heads : List Head) (keys : List Key) (classes : List (Option ℕ)) (x y : ℕ) → AreTreeClasses heads (graph_of v) keys classes → is_name_index (length v.names) x ≡ true → HasClass classes (before_names v + x) → Leads (name_graph v) x y → HasClass classes (before_names v + y)
way_on v heads keys classes x y valid e h (Edge c) =
    class_on v heads keys classes (before_names v + x) (before_names v + y) valid h ((edge_to v x y e (contained (leads_to (name_graph v) x) y c)).1)
way_on v heads keys classes x y valid e h (Then {y = z} c l) =
    let t = edge_to v x z e (contained (leads_to (name_graph v) x) z c) in
    way_on v heads keys classes z y valid t.0 (class_on v heads keys classes (before_names v + x) (before_names v + z) valid h t.1) l

visited_has : (v : Abc) (heads : List Head) (keys : List Key) (classes : List (Option ℕ)) (y : ℕ) → AreTreeClasses heads (graph_of v) keys classes → AllClassed classes (roots_of v) → Leads (name_graph v) 0 y → HasClass classes (before_names v + y)
visited_has v heads keys classes y valid all (Edge c) = classed_in classes (roots_of v) (before_names v + y) all ((root_to v y (contained (leads_to (name_graph v) 0) y c)).1)
visited_has v heads keys classes y valid all (Then {y = z} c l) =
    let t = root_to v z (contained (leads_to (name_graph v) 0) z c) in
    way_on v heads keys classes z y valid t.0 (classed_in classes (roots_of v) (before_names v + z) all t.1) l

none_cyclic : (v : Abc) (heads : List Head) (keys : List Key) (classes : List (Option ℕ)) (i : ℕ) → AreTreeClasses heads (graph_of v) keys classes → AllClassed classes (roots_of v) → IsCyclic v i → ⊥
none_cyclic v heads keys classes i valid all k =
    let h = visited_has v heads keys classes i valid all k.visited in
    let t = valid.tree (before_names v + i) h.number h.is in
    never_returns heads (graph_of v) (before_names v + i) t.tree t.is (names_lead v i i (is_lead v 0 i k.visited) k.returns)

pub acyclic : (v : Abc) (heads : List Head) (keys : List Key) (classes : List (Option ℕ)) (roots : List ℕ) → roots ≡ roots_of v → AreTreeClasses heads (graph_of v) keys classes → AllClassed classes roots → HoldsTidyRule v rules.NameCycle
acyclic v heads keys classes roots e valid all = λ i k. none_cyclic v heads keys classes i valid (subst (AllClassed classes) e all) k

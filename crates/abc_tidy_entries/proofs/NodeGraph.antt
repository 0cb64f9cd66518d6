-- The graph of the entries: how its edges run. Those between names are the edges of the graph of names, and all others lead
-- to lower nodes, which no name is among; so where no name that is visited reaches itself, no entry that is reached does.
use Rattle.std.proofs.Common.{◌≡◌, ℕ, zero, suc, ◌+◌, ◌-◌, ◌<◌, ◌≤◌, ◌⊎◌, inl, inr, List, [], ◌∷◌, ◌++◌, All, Contains, Bool, true, false, nat_eq, nat_le, if◌then◌else◌, not, ◌&&◌, cond, map, length, get_or, slice_get, Some, eqb-true, leb-true, refl, sym, ap, subst, ◌∙◌, arith, length-append}
use Rattle.std.proofs.Math.Seq.{get_or-append_right}
use Rattle.std.proofs.lemmas.Bool.{cases_lt}
use Rattle.std.proofs.lemmas.List.{get_or_append_left, get_or_default, length-map}
use Rattle.abc_base_graphs.specs.Graph.{leads_to, IsGraph, Leads, Edge, Then, Returns}
use Rattle.abc_base_graphs.proofs.Searched.{leads_on}
use Rattle.abc_tidy_refs.specs.declared.refs.Ref.{Ref}
use Rattle.abc_tidy_refs.specs.Nodes.{counts_of, node_of, set_node}
use Rattle.abc_tidy_refs.specs.Refs.{file_refs}
use Rattle.abc_file_types.specs.declared.names.Multiname.{Multiname}
use Rattle.abc_file_types.specs.declared.names.Multiname.TheVariants as names
use Rattle.abc_file_types.specs.declared.names.Namespace.{Namespace}
use Rattle.abc_file_types.specs.declared.opcodes.Pool.{Pool}
use Rattle.abc_file_types.specs.declared.opcodes.Pool.TheVariants as pools
use Rattle.abc_file_types.specs.declared.tables.Abc.{Abc}
use Rattle.abc_base_trees.specs.Orders.{StandsIn, NoneReturns, ReachesNode, Root, Onward}
use Rattle.abc_base_trees.proofs.Walked.{contains_of, in_at}
use Rattle.abc_tidy_entries.specs.declared.error.TidyRule.TheVariants as rules
use Rattle.abc_tidy_entries.specs.Entries.{double_places, graph_of, int_places, entry_name_parts, no_parts, set_parts, space_parts, text_places, uint_places, value_graph}
use Rattle.abc_tidy_entries.specs.NameGraph.{index_of_name, is_name_index, name_graph, name_indices, name_targets, names_among}
use Rattle.abc_tidy_entries.specs.Rules.{HoldsTidyRule}
use Rattle.abc_tidy_entries.specs.Visited.{roots_of}
use Rattle.abc_tidy_entries.proofs.Nodes.{node_at_most}

-- ---- lists

pub contained : (xs : List ℕ) (x : ℕ) → Contains xs x → StandsIn x xs
contained xs x c = subst (λ y. StandsIn y xs) c.2 (in_at xs c.0 x c.1)

-- ---- rows of a graph

abbrev Empties : List (List ℕ) → Type 0
Empties [] = Unit {0}
Empties (r ∷ rs) = (r ≡ []) × Empties rs

empties_append : (a b : List (List ℕ)) → Empties a → Empties b → Empties (a ++ b)
empties_append [] b e f = f
empties_append (r ∷ a) b e f = (e.0, empties_append a b e.1 f)

empties : (xs : List ℕ) → Empties (no_parts xs)
empties [] = tt
empties (x ∷ xs) = (refl, empties xs)

empty_at : (rs : List (List ℕ)) (x : ℕ) → Empties rs → get_or rs x [] ≡ []
empty_at [] x e = refl
empty_at (r ∷ rs) zero e = e.0
empty_at (r ∷ rs) (suc x) e = empty_at rs x e.1

values_empty : (v : Abc) (x : ℕ) → get_or (value_graph v) x [] ≡ []
values_empty v x =
    empty_at (value_graph v) x
    (empties_append (([] ∷ []) ++ no_parts (int_places v) ++ no_parts (uint_places v) ++ no_parts (double_places v)) (no_parts (text_places v))
    (empties_append (([] ∷ []) ++ no_parts (int_places v) ++ no_parts (uint_places v)) (no_parts (double_places v))
    (empties_append (([] ∷ []) ++ no_parts (int_places v)) (no_parts (uint_places v))
    (empties_append ([] ∷ []) (no_parts (int_places v)) (refl, tt) (empties (int_places v))) (empties (uint_places v))) (empties (double_places v))) (empties (text_places v)))

many : (xs : List ℕ) → length (no_parts xs) ≡ length xs
many xs = length-map xs (λ x. [])

length_values : (v : Abc) → length (value_graph v) ≡ suc (length v.ints + length v.uints + length v.doubles + length v.strings)
length_values v =
    let a = length-append (([] ∷ []) ++ no_parts (int_places v) ++ no_parts (uint_places v) ++ no_parts (double_places v)) (no_parts (text_places v)) in
    let b = length-append (([] ∷ []) ++ no_parts (int_places v) ++ no_parts (uint_places v)) (no_parts (double_places v)) in
    let c = length-append (([] ∷ []) ++ no_parts (int_places v)) (no_parts (uint_places v)) in
    let ints = many (int_places v) ∙ length-map v.ints _ in
    let uints = many (uint_places v) ∙ length-map v.uints _ in
    let doubles = many (double_places v) ∙ length-map (map (λ d. d.0) v.doubles) _ ∙ length-map v.doubles _ in
    let texts = many (text_places v) ∙ length-map v.strings _ in
    omega (arith, a, b, c, ints, uints, doubles, texts)

-- a row of two graphs in a row
parted : (a b : List (List ℕ)) (x : ℕ) → ((x < length a) × (get_or (a ++ b) x [] ≡ get_or a x [])) ⊎ ((j : ℕ) × (x ≡ length a + j) × (get_or (a ++ b) x [] ≡ get_or b j []))
parted a b x = go (cases_lt x (length a))
  where
    go : (x < length a) ⊎ (length a ≤ x) → ((x < length a) × (get_or (a ++ b) x [] ≡ get_or a x [])) ⊎ ((j : ℕ) × (x ≡ length a + j) × (get_or (a ++ b) x [] ≡ get_or b j []))
    go (inl l) = inl (l, get_or_append_left a b [] x l)
    go (inr le) = let at : x ≡ length a + (x - length a) = omega arith in inr (x - length a, at, get_or-append_right a b x [] le)

pub got : {A : Type 0} (f : A → List ℕ) (xs : List A) (j y : ℕ) → StandsIn y (get_or (map f xs) j []) → (a : A) × (j < length xs) × StandsIn y (f a) × (get_or (map f xs) j [] ≡ f a) × (slice_get xs j ≡ Some a)
got f [] j y h = absurd h
got f (x ∷ xs) zero y h = (x, omega arith, h, refl, refl)
got f (x ∷ xs) (suc j) y h = let r = got f xs j y h in (r.0, omega (arith, r.1), r.2, r.3, r.4)

-- ---- nodes of names

-- how many nodes there are before those of the names, without node 0
abbrev pub before_names : Abc → ℕ
before_names v = length v.ints + length v.uints + length v.doubles + length v.strings + length v.namespaces + length v.sets

not_zero : (j : ℕ) → nat_eq (suc j) 0 ≡ false
not_zero j = by (nat_eq (suc j) 0) refl
  where
    none : suc j ≡ 0 → ⊥
    none e = omega (arith, e)

    by : (b : Bool) → nat_eq (suc j) 0 ≡ b → nat_eq (suc j) 0 ≡ false
    by true e = absurd (none (eqb-true (suc j) 0 e))
    by false e = e

-- an index of a name stands for no entry, or for the name
index_cases : (v : Abc) (i : ℕ) → (node_of (counts_of v) pools.Name i ≡ 0) ⊎ ((node_of (counts_of v) pools.Name i ≡ before_names v + i) × (is_name_index (length v.names) i ≡ true) × (0 < i) × (i ≤ length v.names))
index_cases v zero = inl refl
index_cases v (suc j) = by (nat_le (suc j) (length v.names)) refl
  where
    open_up : node_of (counts_of v) pools.Name (suc j) ≡ (if nat_le (suc j) (length v.names) then before_names v + suc j else 0)
    open_up = ap (λ b. if b then 0 else if nat_le (suc j) (length v.names) then before_names v + suc j else 0) (not_zero j)

    by : (b : Bool) → nat_le (suc j) (length v.names) ≡ b → (node_of (counts_of v) pools.Name (suc j) ≡ 0) ⊎ ((node_of (counts_of v) pools.Name (suc j) ≡ before_names v + suc j) × (is_name_index (length v.names) (suc j) ≡ true) × (0 < suc j) × (suc j ≤ length v.names))
    by true e =
        let zero_not = not_zero j in
        inr (open_up ∙ ap (λ b. if b then before_names v + suc j else 0) e, (λ i. not (zero_not i) && e i), omega arith, leb-true (suc j) (length v.names) e)
    by false e = inl (open_up ∙ ap (λ b. if b then before_names v + suc j else 0) e)

kept_here : (count i : ℕ) (xs : List ℕ) → is_name_index count i ≡ true → StandsIn i (names_among count (i ∷ xs))
kept_here count i xs e = subst (λ b. StandsIn i (cond b (i ∷ names_among count xs) (names_among count xs))) (sym e) (inl refl)

kept_later : (count i x : ℕ) (xs : List ℕ) → StandsIn i (names_among count xs) → StandsIn i (names_among count (x ∷ xs))
kept_later count i x xs h = go (is_name_index count x)
  where
    go : (b : Bool) → StandsIn i (cond b (x ∷ names_among count xs) (names_among count xs))
    go true = inr h
    go false = h

-- a node that a name is, by an index among some
abbrev NameAmong : Abc → ℕ → List ℕ → Type 0
NameAmong v y xs = (i : ℕ) × (y ≡ before_names v + i) × (0 < i) × (i ≤ length v.names) × StandsIn i (names_among (length v.names) xs)

low_or_name : (v : Abc) (y i : ℕ) (xs : List ℕ) → y ≡ node_of (counts_of v) pools.Name i → (y ≤ before_names v) ⊎ NameAmong v y (i ∷ xs)
low_or_name v y i xs e = go (index_cases v i)
  where
    go : (node_of (counts_of v) pools.Name i ≡ 0) ⊎ ((node_of (counts_of v) pools.Name i ≡ before_names v + i) × (is_name_index (length v.names) i ≡ true) × (0 < i) × (i ≤ length v.names)) → (y ≤ before_names v) ⊎ NameAmong v y (i ∷ xs)
    go (inl z) = let q : y ≡ 0 = e ∙ z in inl (omega (arith, q))
    go (inr (at, is, some, most)) = inr (i, e ∙ at, some, most, kept_here (length v.names) i xs is)

one_more : (v : Abc) (y x : ℕ) (xs : List ℕ) → (y ≤ before_names v) ⊎ NameAmong v y xs → (y ≤ before_names v) ⊎ NameAmong v y (x ∷ xs)
one_more v y x xs (inl l) = inl l
one_more v y x xs (inr (i, at, some, most, h)) = inr (i, at, some, most, kept_later (length v.names) i x xs h)

params : (v : Abc) (xs : List ℕ) (y : ℕ) → StandsIn y (map (node_of (counts_of v) pools.Name) xs) → (y ≤ before_names v) ⊎ NameAmong v y xs
params v [] y h = absurd h
params v (x ∷ xs) y (inl e) = low_or_name v y x xs e
params v (x ∷ xs) y (inr h) = one_more v y x xs (params v xs y h)

-- what a name leads to
abbrev ToName : Abc → ℕ → Multiname → Type 0
ToName v y m = (i : ℕ) × (y ≡ before_names v + i) × (0 < i) × (i ≤ length v.names) × StandsIn i (name_targets (length v.names) m)

text_low : (v : Abc) (i : ℕ) → node_of (counts_of v) pools.Text i ≤ before_names v
text_low v i = let h = node_at_most (length v.ints + length v.uints + length v.doubles) (length v.strings) i in omega (arith, h)

space_low : (v : Abc) (i : ℕ) → node_of (counts_of v) pools.Space i ≤ before_names v
space_low v i = let h = node_at_most (length v.ints + length v.uints + length v.doubles + length v.strings) (length v.namespaces) i in omega (arith, h)

set_low : (v : Abc) (i : ℕ) → set_node (counts_of v) i ≤ before_names v
set_low v i = let h = node_at_most (length v.ints + length v.uints + length v.doubles + length v.strings + length v.namespaces) (length v.sets) i in omega (arith, h)

low : (v : Abc) (x y : ℕ) (m : Multiname) → x ≤ before_names v → y ≡ x → (y ≤ before_names v) ⊎ ToName v y m
low v x y m l e = inl (subst (λ z. z ≤ before_names v) (sym e) l)

of_name : (v : Abc) (m : Multiname) (y : ℕ) → StandsIn y (entry_name_parts (counts_of v) m) → (y ≤ before_names v) ⊎ ToName v y m
of_name v (names.QName attr ns i) y (inl e) = low v (node_of (counts_of v) pools.Space ns) y (names.QName attr ns i) (space_low v ns) e
of_name v (names.QName attr ns i) y (inr (inl e)) = low v (node_of (counts_of v) pools.Text i) y (names.QName attr ns i) (text_low v i) e
of_name v (names.QName attr ns i) y (inr (inr h)) = absurd h
of_name v (names.Rt attr i) y (inl e) = low v (node_of (counts_of v) pools.Text i) y (names.Rt attr i) (text_low v i) e
of_name v (names.Rt attr i) y (inr h) = absurd h
of_name v (names.RtL attr) y h = absurd h
of_name v (names.Multi attr i s) y (inl e) = low v (node_of (counts_of v) pools.Text i) y (names.Multi attr i s) (text_low v i) e
of_name v (names.Multi attr i s) y (inr (inl e)) = low v (set_node (counts_of v) s) y (names.Multi attr i s) (set_low v s) e
of_name v (names.Multi attr i s) y (inr (inr h)) = absurd h
of_name v (names.MultiL attr s) y (inl e) = low v (set_node (counts_of v) s) y (names.MultiL attr s) (set_low v s) e
of_name v (names.MultiL attr s) y (inr h) = absurd h
of_name v (names.TypeName base ps) y h = params v (base ∷ ps) y h

-- ---- edges

-- an edge between names
record NameEdge (v : Abc) (x y : ℕ) : Type 0 where
  from : ℕ
  to : ℕ
  from_is : x ≡ before_names v + from
  to_is : y ≡ before_names v + to
  some : 0 < from
  more : 0 < to
  most : to ≤ length v.names
  edge : StandsIn to (leads_to (name_graph v) from)

abbrev EdgeCase : Abc → ℕ → ℕ → Type 0
EdgeCase v x y = ((y < x) × (y ≤ before_names v)) ⊎ NameEdge v x y

space_edge : (v : Abc) (n : Namespace) (x y : ℕ) → length v.ints + length v.uints + length v.doubles + length v.strings < x → StandsIn y (space_parts (counts_of v) n) → (y < x) × (y ≤ before_names v)
space_edge v n x y l (inl e) =
    let h = node_at_most (length v.ints + length v.uints + length v.doubles) (length v.strings) n.name in
    (omega (arith, l, e, h), omega (arith, e, h))
space_edge v n x y l (inr h) = absurd h

set_edge : (v : Abc) (s : List ℕ) (x y : ℕ) → length v.ints + length v.uints + length v.doubles + length v.strings + length v.namespaces < x → StandsIn y (set_parts (counts_of v) s) → (y < x) × (y ≤ before_names v)
set_edge v [] x y l h = absurd h
set_edge v (n ∷ s) x y l (inl e) =
    let h = node_at_most (length v.ints + length v.uints + length v.doubles + length v.strings) (length v.namespaces) n in
    (omega (arith, l, e, h), omega (arith, e, h))
set_edge v (n ∷ s) x y l (inr h) = set_edge v s x y l h

spaces_many : (v : Abc) → length (value_graph v ++ map (space_parts (counts_of v)) v.namespaces) ≡ suc (length v.ints + length v.uints + length v.doubles + length v.strings + length v.namespaces)
spaces_many v = omega (arith, length_values v, length-append (value_graph v) (map (space_parts (counts_of v)) v.namespaces), length-map v.namespaces (space_parts (counts_of v)))

pub sets_many : (v : Abc) → length (value_graph v ++ map (space_parts (counts_of v)) v.namespaces ++ map (set_parts (counts_of v)) v.sets) ≡ suc (before_names v)
sets_many v = omega (arith, spaces_many v, length-append (value_graph v ++ map (space_parts (counts_of v)) v.namespaces) (map (set_parts (counts_of v)) v.sets), length-map v.sets (set_parts (counts_of v)))

edge_cases : (v : Abc) (x y : ℕ) → StandsIn y (leads_to (graph_of v) x) → EdgeCase v x y
edge_cases v x y h = names_or (parted (value_graph v ++ map (space_parts (counts_of v)) v.namespaces ++ map (set_parts (counts_of v)) v.sets) (map (entry_name_parts (counts_of v)) v.names) x)
  where
    in_spaces : StandsIn y (get_or (value_graph v ++ map (space_parts (counts_of v)) v.namespaces) x []) → ((x < length (value_graph v)) × (get_or (value_graph v ++ map (space_parts (counts_of v)) v.namespaces) x [] ≡ get_or (value_graph v) x [])) ⊎ ((j : ℕ) × (x ≡ length (value_graph v) + j) × (get_or (value_graph v ++ map (space_parts (counts_of v)) v.namespaces) x [] ≡ get_or (map (space_parts (counts_of v)) v.namespaces) j [])) → EdgeCase v x y
    in_spaces k (inl (l, e)) = absurd (subst (StandsIn y) (e ∙ values_empty v x) k)
    in_spaces k (inr (j, at, e)) =
        let r = got (space_parts (counts_of v)) v.namespaces j y (subst (StandsIn y) e k) in
        inl (space_edge v r.0 x y (omega (arith, at, length_values v)) r.2)

    in_sets : StandsIn y (get_or (value_graph v ++ map (space_parts (counts_of v)) v.namespaces ++ map (set_parts (counts_of v)) v.sets) x []) → ((x < length (value_graph v ++ map (space_parts (counts_of v)) v.namespaces)) × (get_or (value_graph v ++ map (space_parts (counts_of v)) v.namespaces ++ map (set_parts (counts_of v)) v.sets) x [] ≡ get_or (value_graph v ++ map (space_parts (counts_of v)) v.namespaces) x [])) ⊎ ((j : ℕ) × (x ≡ length (value_graph v ++ map (space_parts (counts_of v)) v.namespaces) + j) × (get_or (value_graph v ++ map (space_parts (counts_of v)) v.namespaces ++ map (set_parts (counts_of v)) v.sets) x [] ≡ get_or (map (set_parts (counts_of v)) v.sets) j [])) → EdgeCase v x y
    in_sets k (inl (l, e)) = in_spaces (subst (StandsIn y) e k) (parted (value_graph v) (map (space_parts (counts_of v)) v.namespaces) x)
    in_sets k (inr (j, at, e)) =
        let r = got (set_parts (counts_of v)) v.sets j y (subst (StandsIn y) e k) in
        inl (set_edge v r.0 x y (omega (arith, at, spaces_many v)) r.2)

    name_edge : (j : ℕ) (m : Multiname) → x ≡ before_names v + suc j → get_or (map (name_targets (length v.names)) v.names) j [] ≡ name_targets (length v.names) m → (y ≤ before_names v) ⊎ ToName v y m → EdgeCase v x y
    name_edge j m at row (inl l) = inl (omega (arith, at, l), l)
    name_edge j m at row (inr (i, is, some, most, k)) = inr (record { from = suc j; to = i; from_is = at; to_is = is; some = omega arith; more = some; most = most; edge = subst (StandsIn i) (sym row) k })

    names_or : ((x < length (value_graph v ++ map (space_parts (counts_of v)) v.namespaces ++ map (set_parts (counts_of v)) v.sets)) × (get_or (graph_of v) x [] ≡ get_or (value_graph v ++ map (space_parts (counts_of v)) v.namespaces ++ map (set_parts (counts_of v)) v.sets) x [])) ⊎ ((j : ℕ) × (x ≡ length (value_graph v ++ map (space_parts (counts_of v)) v.namespaces ++ map (set_parts (counts_of v)) v.sets) + j) × (get_or (graph_of v) x [] ≡ get_or (map (entry_name_parts (counts_of v)) v.names) j [])) → EdgeCase v x y
    names_or (inl (l, e)) = in_sets (subst (StandsIn y) e h) (parted (value_graph v ++ map (space_parts (counts_of v)) v.namespaces) (map (set_parts (counts_of v)) v.sets) x)
    names_or (inr (j, at, e)) =
        let r = got (entry_name_parts (counts_of v)) v.names j y (subst (StandsIn y) e h) in
        name_edge j r.0 (omega (arith, at, sets_many v)) (row_of v.names j r.0 r.4) (of_name v r.0 y r.2)
      where
        row_of : (ms : List Multiname) (j : ℕ) (m : Multiname) → slice_get ms j ≡ Some m → get_or (map (name_targets (length v.names)) ms) j [] ≡ name_targets (length v.names) m
        row_of [] j m e = absurd (none e)
          where
            none : slice_get {X = Multiname} [] j ≡ Some m → ⊥
            none f = cc
        row_of (n ∷ ms) zero m e = ap (name_targets (length v.names)) (same e)
          where
            same : Some n ≡ Some m → n ≡ m
            same f = cc
        row_of (n ∷ ms) (suc i) m e = row_of ms i m e

-- ---- ways

-- from a node that is no name all ways fall
falls : (v : Abc) (x y : ℕ) → Leads (graph_of v) x y → x ≤ before_names v → y < x
falls v x y (Edge c) low_x = go (edge_cases v x y (contained (leads_to (graph_of v) x) y c))
  where
    go : EdgeCase v x y → y < x
    go (inl h) = h.0
    go (inr e) = let no_name : ⊥ = omega (arith, e.from_is, e.some, low_x) in absurd no_name
falls v x y (Then {y = z} c l) low_x = go (edge_cases v x z (contained (leads_to (graph_of v) x) z c)) (falls v z y l)
  where
    go : EdgeCase v x z → (z ≤ before_names v → y < z) → y < x
    go (inl h) f = let k = f h.1 in omega (arith, k, h.0)
    go (inr e) f = let no_name : ⊥ = omega (arith, e.from_is, e.some, low_x) in absurd no_name

-- a way to a name goes over names alone
record NameWay (v : Abc) (x y : ℕ) : Type 0 where
  from : ℕ
  to : ℕ
  from_is : x ≡ before_names v + from
  to_is : y ≡ before_names v + to
  way : Leads (name_graph v) from to

names_lead : (v : Abc) (x y : ℕ) → Leads (graph_of v) x y → before_names v < y → NameWay v x y
names_lead v x y (Edge c) high = go (edge_cases v x y (contained (leads_to (graph_of v) x) y c))
  where
    go : EdgeCase v x y → NameWay v x y
    go (inl h) = let no_name : ⊥ = omega (arith, h.1, high) in absurd no_name
    go (inr e) = record { from = e.from; to = e.to; from_is = e.from_is; to_is = e.to_is; way = Edge (contains_of e.to (leads_to (name_graph v) e.from) e.edge) }
names_lead v x y (Then {y = z} c l) high = go (edge_cases v x z (contained (leads_to (graph_of v) x) z c)) (names_lead v z y l high) (falls v z y l)
  where
    go : EdgeCase v x z → NameWay v z y → (z ≤ before_names v → y < z) → NameWay v x y
    go (inl h) w f = let k = f h.1 in let no_name : ⊥ = omega (arith, k, h.1, high) in absurd no_name
    go (inr e) w f =
        let same : w.from ≡ e.to = omega (arith, w.from_is, e.to_is) in
        record { from = e.from; to = w.to; from_is = e.from_is; to_is = w.to_is; way = Then (contains_of e.to (leads_to (name_graph v) e.from) e.edge) (subst (λ n. Leads (name_graph v) n w.to) same w.way) }

-- ---- what the roots reach

root_cases : (v : Abc) (rs : List Ref) (y : ℕ) → StandsIn y (map (λ r. node_of (counts_of v) r.pool r.index) rs) → (y ≤ before_names v) ⊎ NameAmong v y (name_indices rs)
root_cases v [] y h = absurd h
root_cases v (r ∷ rs) y (inl e) = go r.pool refl
  where
    low_node : (p : Pool) → r.pool ≡ p → (n : ℕ) → node_of (counts_of v) p r.index ≤ n → n ≤ before_names v → y ≤ before_names v
    low_node p q n a b = let k : y ≡ node_of (counts_of v) p r.index = e ∙ ap (λ p. node_of (counts_of v) p r.index) q in omega (arith, k, a, b)

    go : (p : Pool) → r.pool ≡ p → (y ≤ before_names v) ⊎ NameAmong v y (index_of_name p r.index ++ name_indices rs)
    go pools.NoPool q = inl (low_node pools.NoPool q 0 (omega arith) (omega arith))
    go pools.Int q = inl (low_node pools.Int q (length v.ints) (let h = node_at_most 0 (length v.ints) r.index in omega (arith, h)) (omega arith))
    go pools.UInt q = inl (low_node pools.UInt q (length v.ints + length v.uints) (node_at_most (length v.ints) (length v.uints) r.index) (omega arith))
    go pools.Double q = inl (low_node pools.Double q (length v.ints + length v.uints + length v.doubles) (node_at_most (length v.ints + length v.uints) (length v.doubles) r.index) (omega arith))
    go pools.Text q = inl (low_node pools.Text q (before_names v) (text_low v r.index) (omega arith))
    go pools.Space q = inl (low_node pools.Space q (before_names v) (space_low v r.index) (omega arith))
    go pools.Name q = low_or_name v y r.index (name_indices rs) (e ∙ ap (λ p. node_of (counts_of v) p r.index) q)
root_cases v (r ∷ rs) y (inr h) = go r.pool (root_cases v rs y h)
  where
    go : (p : Pool) → (y ≤ before_names v) ⊎ NameAmong v y (name_indices rs) → (y ≤ before_names v) ⊎ NameAmong v y (index_of_name p r.index ++ name_indices rs)
    go pools.NoPool k = k
    go pools.Int k = k
    go pools.UInt k = k
    go pools.Double k = k
    go pools.Text k = k
    go pools.Space k = k
    go pools.Name k = one_more v y r.index (name_indices rs) k

-- a name that is reached is visited
record NameReached (v : Abc) (x : ℕ) : Type 0 where
  index : ℕ
  is : x ≡ before_names v + index
  visited : Leads (name_graph v) 0 index

name_reached : (v : Abc) (x : ℕ) → ReachesNode (graph_of v) (roots_of v) x → before_names v < x → NameReached v x
name_reached v x (Root h) high = go (root_cases v (file_refs v) x h)
  where
    go : (x ≤ before_names v) ⊎ NameAmong v x (name_indices (file_refs v)) → NameReached v x
    go (inl l) = let no_name : ⊥ = omega (arith, l, high) in absurd no_name
    go (inr (i, is, some, most, k)) = record { index = i; is = is; visited = Edge (contains_of i (leads_to (name_graph v) 0) k) }
name_reached v x (Onward {x = z} r h) high = go (edge_cases v z x h) (name_reached v z r)
  where
    go : EdgeCase v z x → (before_names v < z → NameReached v z) → NameReached v x
    go (inl k) f = let no_name : ⊥ = omega (arith, k.1, high) in absurd no_name
    go (inr e) f =
        let w = f (omega (arith, e.from_is, e.some)) in
        let same : w.index ≡ e.from = omega (arith, w.is, e.from_is) in
        record { index = e.to; is = e.to_is; visited = leads_on (name_graph v) 0 e.from e.to (subst (λ n. Leads (name_graph v) 0 n) same w.visited) (contains_of e.to (leads_to (name_graph v) e.from) e.edge) }

none_return : (v : Abc) → HoldsTidyRule v rules.NameCycle → NoneReturns (graph_of v) (roots_of v)
none_return v holds = record { never = λ x r back. go x r back (cases_lt (before_names v) x) }
  where
    go : (x : ℕ) → ReachesNode (graph_of v) (roots_of v) x → Returns (graph_of v) x → (before_names v < x) ⊎ (x ≤ before_names v) → ⊥
    go x r back (inr l) = let k = falls v x x back l in omega (arith, k)
    go x r back (inl high) =
        let a = name_reached v x r high in
        let b = names_lead v x x back high in
        let same : b.from ≡ a.index = omega (arith, a.is, b.from_is) in
        let again : b.to ≡ a.index = omega (arith, a.is, b.to_is) in
        holds a.index (record { visited = a.visited; returns = subst (λ n. Leads (name_graph v) n a.index) same (subst (Leads (name_graph v) b.from) again b.way) })

pub never_returns : (v : Abc) (graph : List (List ℕ)) (roots : List ℕ) → graph ≡ graph_of v → roots ≡ roots_of v → HoldsTidyRule v rules.NameCycle → NoneReturns graph roots
never_returns v graph roots e f holds = subst (λ g. NoneReturns g roots) (sym e) (subst (NoneReturns (graph_of v)) (sym f) (none_return v holds))

-- ---- each edge leads to a node

pub length_graph : (v : Abc) → length (graph_of v) ≡ suc (before_names v + length v.names)
length_graph v =
    omega (
      arith,
      length_values v,
      length-append (value_graph v) (map (space_parts (counts_of v)) v.namespaces),
      length-map v.namespaces (space_parts (counts_of v)),
      length-append (value_graph v ++ map (space_parts (counts_of v)) v.namespaces) (map (set_parts (counts_of v)) v.sets),
      length-map v.sets (set_parts (counts_of v)),
      length-append (value_graph v ++ map (space_parts (counts_of v)) v.namespaces ++ map (set_parts (counts_of v)) v.sets) (map (entry_name_parts (counts_of v)) v.names),
      length-map v.names (entry_name_parts (counts_of v)),
    )

edge_within : (v : Abc) (x y : ℕ) → StandsIn y (leads_to (graph_of v) x) → y < length (graph_of v)
edge_within v x y h = go (edge_cases v x y h)
  where
    go : EdgeCase v x y → y < length (graph_of v)
    go (inl k) = omega (arith, k.1, length_graph v)
    go (inr e) = omega (arith, e.to_is, e.most, length_graph v)

entries_are_graph : (v : Abc) → IsGraph (graph_of v)
entries_are_graph v x d lt k e l =
    let same : get_or (graph_of v) x d ≡ leads_to (graph_of v) x = get_or_default (graph_of v) x d [] lt in
    edge_within v x (get_or (get_or (graph_of v) x d) k e) (subst (StandsIn (get_or (get_or (graph_of v) x d) k e)) same (in_at (get_or (graph_of v) x d) k e l))

pub is_graph : (v : Abc) (graph : List (List ℕ)) → graph ≡ graph_of v → IsGraph graph
is_graph v graph e = subst IsGraph (sym e) (entries_are_graph v)

pub root_within : (v : Abc) (y : ℕ) → StandsIn y (roots_of v) → y < length (graph_of v)
root_within v y h = go (root_cases v (file_refs v) y h)
  where
    go : (y ≤ before_names v) ⊎ NameAmong v y (name_indices (file_refs v)) → y < length (graph_of v)
    go (inl l) = omega (arith, l, length_graph v)
    go (inr (i, is, some, most, k)) = omega (arith, is, most, length_graph v)

pub roots_within : (v : Abc) (graph : List (List ℕ)) (roots : List ℕ) → graph ≡ graph_of v → roots ≡ roots_of v → All (λ y. y < length graph) roots
roots_within v graph roots e f = subst (λ g. All (λ y. y < length g) roots) (sym e) (subst (λ rs. All (λ y. y < length (graph_of v)) rs) (sym f) (λ k d lt. root_within v (get_or (roots_of v) k d) (in_at (roots_of v) k d lt)))

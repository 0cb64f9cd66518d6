-- The first name that is visited and reaches itself.
use Rattle.std.proofs.Common.{◌≡◌, ℕ, zero, suc, ◌+◌, ◌<◌, ◌≤◌, ◌⊎◌, inl, inr, List, [], ◌∷◌, ◌++◌, All, Contains, Bool, true, false, if◌then◌else◌, map, length, get_or, Some, None, refl, sym, ap, subst, ◌∙◌, arith, true≢false, length-append}
use Rattle.std.specs.declared.option.Option.{Option}
use Rattle.std.specs.List.{AllByRecursion}
use Rattle.std.proofs.lemmas.Bool.{cases_lt}
use Rattle.std.proofs.lemmas.List.{get_or_past, get_or_push, get_or_append_left, length-map}
use Rattle.std.proofs.lemmas.List.Elements.{All-from_recursion}
use Rattle.abc_base_graphs.specs.Graph.{leads_to, IsGraph, Leads, Edge, Then, Has, AreReachMarks, IsFirstReturn}
use Rattle.abc_base_graphs.proofs.Searched.{contains_none, leads_on}
use Rattle.abc_tidy_refs.specs.Refs.{file_refs}
use Rattle.abc_file_types.specs.declared.names.Multiname.{Multiname}
use Rattle.abc_file_types.specs.declared.names.Multiname.TheVariants as names
use Rattle.abc_file_types.specs.declared.tables.Abc.{Abc}
use Rattle.abc_tidy_entries.specs.Firsts.{IsFirstCyclic}
use Rattle.abc_tidy_entries.specs.Kept.{row_kept, AreRowsKept, AreKeptBelow}
use Rattle.abc_tidy_entries.specs.NameGraph.{name_graph, name_indices, name_targets, names_among}
use Rattle.abc_tidy_entries.specs.Rules.{IsCyclic}
use Rattle.abc_tidy_entries.proofs.Filtered.{among_below}

-- ---- the graph of names is one

targets_below : (n m : ℕ) (x : Multiname) → m ≡ suc n → AllByRecursion (λ y. y < m) (name_targets n x)
targets_below n m (names.QName attr ns name) e = tt
targets_below n m (names.Rt attr name) e = tt
targets_below n m (names.RtL attr) e = tt
targets_below n m (names.Multi attr name set) e = tt
targets_below n m (names.MultiL attr set) e = tt
targets_below n m (names.TypeName base params) e = among_below n m (base ∷ params) e

rows_below : (n m : ℕ) (xs : List Multiname) → m ≡ suc n → AllByRecursion (All (λ y. y < m)) (map (name_targets n) xs)
rows_below n m [] e = tt
rows_below n m (x ∷ xs) e = (All-from_recursion (λ y. y < m) (name_targets n x) (targets_below n m x e), rows_below n m xs e)

pub names_are_graph : (v : Abc) (g : List (List ℕ)) → g ≡ name_graph v → IsGraph g
names_are_graph v g e =
    let count : length (name_graph v) ≡ suc (length v.names) = ap suc (length-map v.names (name_targets (length v.names))) in
    subst IsGraph (sym e) (All-from_recursion (All (λ y. y < length (name_graph v))) (name_graph v) (
      All-from_recursion (λ y. y < length (name_graph v)) (names_among (length v.names) (name_indices (file_refs v))) (among_below (length v.names) (length (name_graph v)) (name_indices (file_refs v)) count),
      rows_below (length v.names) (length (name_graph v)) v.names count,
    ))

pub names_count : (v : Abc) (g : List (List ℕ)) → g ≡ name_graph v → length g ≡ length v.names + 1
names_count v g e = let q : length g ≡ suc (length v.names) = ap length e ∙ ap suc (length-map v.names (name_targets (length v.names))) in omega arith

-- ---- the rows that are kept

kept_next_one : (marks : List Bool) (graph rows : List (List ℕ)) (n : ℕ) (r : List ℕ) → AreKeptBelow marks graph rows n → r ≡ row_kept marks graph n → AreKeptBelow marks graph (rows ++ r ∷ []) (n + 1)
kept_next_one marks graph rows n r s e = record {
  len = many;
  rows_are = λ x lt. go x lt (cases_lt x n);
}
  where
    many : length (rows ++ r ∷ []) ≡ n + 1
    many = length-append rows (r ∷ []) ∙ ap (λ k. k + 1) s.len

    go : (x : ℕ) → x < n + 1 → (x < n) ⊎ (n ≤ x) → leads_to (rows ++ r ∷ []) x ≡ row_kept marks graph x
    go x lt (inl h) = let within : x < length rows = let l = s.len in omega arith in get_or_append_left rows (r ∷ []) [] x within ∙ s.rows_are x h
    go x lt (inr h) =
        let q : x ≡ n = omega arith in
        get_or_push rows r [] x (s.len ∙ sym q) ∙ e ∙ ap (row_kept marks graph) (sym q)

pub kept_next : (marks : List Bool) (graph rows rows2 : List (List ℕ)) (n : ℕ) (r : List ℕ) → AreKeptBelow marks graph rows n → r ≡ row_kept marks graph n → rows2 ≡ rows ++ r ∷ [] → AreKeptBelow marks graph rows2 (n + 1)
kept_next marks graph rows rows2 n r s e is = subst (λ rs. AreKeptBelow marks graph rs (n + 1)) (sym is) (kept_next_one marks graph rows n r s e)

pub kept_none : (marks : List Bool) (graph rows : List (List ℕ)) → rows ≡ [] → AreKeptBelow marks graph rows 0
kept_none marks graph rows e = record { len = ap length e; rows_are = λ x lt. absurd (no x lt) }
  where
    no : (x : ℕ) → x < 0 → ⊥
    no x lt = omega arith

pub kept_all : (marks : List Bool) (graph rows : List (List ℕ)) (n : ℕ) → AreKeptBelow marks graph rows n → length graph ≤ n → n ≤ length graph → AreRowsKept marks graph rows
kept_all marks graph rows n s low high = record {
  len = let l = s.len in omega arith;
  rows_are = λ x. go x (cases_lt x n);
}
  where
    go : (x : ℕ) → (x < n) ⊎ (n ≤ x) → leads_to rows x ≡ row_kept marks graph x
    go x (inl h) = s.rows_are x h
    go x (inr h) =
        let past : length rows ≤ x = let l = s.len in omega arith in
        let far : length graph ≤ x = omega arith in
        get_or_past rows x [] past ∙ sym (none (get_or marks x false) (get_or_past graph x [] far))
      where
        none : (b : Bool) → leads_to graph x ≡ [] → (if b then leads_to graph x else []) ≡ []
        none true q = q
        none false q = refl

row_marked : (marks : List Bool) (graph : List (List ℕ)) (x : ℕ) → get_or marks x false ≡ true → row_kept marks graph x ≡ leads_to graph x
row_marked marks graph x e = ap (λ b. if b then leads_to graph x else []) e

row_unmarked : (marks : List Bool) (graph : List (List ℕ)) (x : ℕ) → get_or marks x false ≡ false → row_kept marks graph x ≡ []
row_unmarked marks graph x e = ap (λ b. if b then leads_to graph x else []) e

-- a node with an edge is marked
edge_marked : (marks : List Bool) (graph rows : List (List ℕ)) (x y : ℕ) → AreRowsKept marks graph rows → Contains (leads_to rows x) y → Has marks x
edge_marked marks graph rows x y k c = by (get_or marks x false) refl
  where
    by : (b : Bool) → get_or marks x false ≡ b → Has marks x
    by true e = record { marked = e }
    by false e = absurd (contains_none y (subst (λ ys. Contains ys y) (k.rows_are x ∙ row_unmarked marks graph x e) c))

edge_of : (marks : List Bool) (graph rows : List (List ℕ)) (x y : ℕ) → AreRowsKept marks graph rows → Contains (leads_to rows x) y → Contains (leads_to graph x) y
edge_of marks graph rows x y k c =
    let m = edge_marked marks graph rows x y k c in
    subst (λ ys. Contains ys y) (k.rows_are x ∙ row_marked marks graph x m.marked) c

edge_kept : (marks : List Bool) (graph rows : List (List ℕ)) (x y : ℕ) → AreRowsKept marks graph rows → Has marks x → Contains (leads_to graph x) y → Contains (leads_to rows x) y
edge_kept marks graph rows x y k m c = subst (λ ys. Contains ys y) (sym (k.rows_are x ∙ row_marked marks graph x m.marked)) c

leads_of : (marks : List Bool) (graph rows : List (List ℕ)) (x y : ℕ) → AreRowsKept marks graph rows → Leads rows x y → Leads graph x y
leads_of marks graph rows x y k (Edge c) = Edge (edge_of marks graph rows x y k c)
leads_of marks graph rows x y k (Then {y = m} c rest) = Then (edge_of marks graph rows x m k c) (leads_of marks graph rows m y k rest)

leads_kept : (marks : List Bool) (graph rows : List (List ℕ)) (from x y : ℕ) → AreRowsKept marks graph rows → AreReachMarks graph from marks → Has marks x → Leads graph x y → Leads rows x y
leads_kept marks graph rows from x y k r m (Edge c) = Edge (edge_kept marks graph rows x y k m c)
leads_kept marks graph rows from x y k r m (Then {y = z} c rest) =
    Then (edge_kept marks graph rows x z k m c) (leads_kept marks graph rows from z y k r (r.complete z (leads_on graph from x z (r.sound x m) c)) rest)

-- the first edge of a way
first_edge : (marks : List Bool) (graph rows : List (List ℕ)) (x y : ℕ) → AreRowsKept marks graph rows → Leads rows x y → Has marks x
first_edge marks graph rows x y k (Edge c) = edge_marked marks graph rows x y k c
first_edge marks graph rows x y k (Then {y = m} c rest) = edge_marked marks graph rows x m k c

pub kept_graph : (v : Abc) (marks : List Bool) (graph rows : List (List ℕ)) → graph ≡ name_graph v → AreRowsKept marks graph rows → IsGraph rows
kept_graph v marks graph rows e k = λ i d lt. subst (All (λ y. y < length rows)) (sym (at i d lt)) (within i)
  where
    at : (i : ℕ) (d : List ℕ) → i < length rows → get_or rows i d ≡ leads_to rows i
    at i d lt = default rows i d lt
      where
        no : (x : ℕ) → x < 0 → ⊥
        no x lt = omega arith

        default : (xs : List (List ℕ)) (i : ℕ) (d : List ℕ) → i < length xs → get_or xs i d ≡ get_or xs i []
        default [] i d l = absurd (no i l)
        default (x ∷ xs) zero d l = refl
        default (x ∷ xs) (suc i) d l = default xs i d (omega arith)

    all : (i : ℕ) → All (λ y. y < length graph) (leads_to graph i)
    all i = go (cases_lt i (length graph))
      where
        go : (i < length graph) ⊎ (length graph ≤ i) → All (λ y. y < length graph) (leads_to graph i)
        go (inl lt) = names_are_graph v graph e i [] lt
        go (inr le) = subst (All (λ y. y < length graph)) (sym (get_or_past graph i [] le)) (λ j d l. absurd (nothing j l))
          where
            nothing : (j : ℕ) → j < 0 → ⊥
            nothing j l = omega arith

    within : (i : ℕ) → All (λ y. y < length rows) (leads_to rows i)
    within i = subst (λ n. All (λ y. y < n) (leads_to rows i)) (sym k.len) (subst (All (λ y. y < length graph)) (sym (k.rows_are i)) (by (get_or marks i false)))
      where
        by : (b : Bool) → All (λ y. y < length graph) (if b then leads_to graph i else [])
        by true = all i
        by false = λ j d l. absurd (nothing j l)
          where
            nothing : (j : ℕ) → j < 0 → ⊥
            nothing j l = omega arith

marked_within : (marks : List Bool) (x : ℕ) → Has marks x → x < length marks
marked_within marks x m = go (cases_lt x (length marks))
  where
    go : (x < length marks) ⊎ (length marks ≤ x) → x < length marks
    go (inl lt) = lt
    go (inr le) = absurd (true≢false (sym m.marked ∙ get_or_past marks x false le))

pub first_cyclic : (v : Abc) (marks : List Bool) (graph rows : List (List ℕ)) (r : Option ℕ) → graph ≡ name_graph v → AreReachMarks graph 0 marks → AreRowsKept marks graph rows → IsFirstReturn rows r → IsFirstCyclic v r
first_cyclic v marks graph rows None e s k f = λ i c. f i (within i c) (returns i c)
  where
    on : (i : ℕ) → IsCyclic v i → Has marks i
    on i c = s.complete i (subst (λ g. Leads g 0 i) (sym e) c.visited)

    within : (i : ℕ) → IsCyclic v i → i < length rows
    within i c = let m = marked_within marks i (on i c) in let l = s.len in let q = k.len in omega arith

    returns : (i : ℕ) → IsCyclic v i → Leads rows i i
    returns i c = leads_kept marks graph rows 0 i i k s (on i c) (subst (λ g. Leads g i i) (sym e) c.returns)
first_cyclic v marks graph rows (Some x) e s k f = (
  record {
    visited = subst (λ g. Leads g 0 x) e (s.sound x (first_edge marks graph rows x x k f.1));
    returns = subst (λ g. Leads g x x) e (leads_of marks graph rows x x k f.1);
  },
  λ j lt c. f.2 j lt (leads_kept marks graph rows 0 j j k s (s.complete j (subst (λ g. Leads g 0 j) (sym e) c.visited)) (subst (λ g. Leads g j j) (sym e) c.returns)),
)

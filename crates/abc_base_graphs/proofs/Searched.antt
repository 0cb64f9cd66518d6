-- The steps of a search.
use Rattle.std.proofs.Common.{◌≡◌, ℕ, zero, suc, ◌+◌, ◌<◌, ◌≤◌, ◌⊎◌, inl, inr, List, [], ◌∷◌, ◌++◌, All, Contains, Bool, true, false, not, cond, replicate, length, get_or, take, refl, sym, ap, subst, ◌∙◌, arith, length-append, get_or-set_other, get_or-set_same}
use Rattle.std.proofs.Math.ListN.{set, length-set}
use Rattle.std.specs.List.{count_by}
use Rattle.std.proofs.lemmas.List.Elements.{All-get_or, Contains-append_left, Contains-append_right, Contains-push, Contains-push_cases}
use Rattle.std.proofs.lemmas.List.{take_more, get_or_past, get_or-replicate, length-replicate}
use Rattle.std.proofs.lemmas.List.Sums.{sum_by-set}
use Rattle.std.proofs.lemmas.Bool.{cases_eq, cases_lt}
use Rattle.abc_base_graphs.specs.Graph.{leads_to, IsGraph, Has, Leads, Edge, Then, AreReachMarks}
use Rattle.abc_base_graphs.specs.Searching.{effort, AddsNodes, IsSearch}

-- ---- nodes in a list

pub contains_one : (x y : ℕ) → Contains (y ∷ []) x → y ≡ x
contains_one x y (zero, lt, e) = e
contains_one x y (suc k, lt, e) = absurd (omega arith)

pub contains_none : (x : ℕ) → Contains [] x → ⊥
contains_none x (k, lt, e) = omega arith

-- ---- one mark set

pub has_set_same : (found : List Bool) (n : ℕ) → n < length found → Has (set found n true) n
has_set_same found n lt = record { marked = rw get_or-set_same }

pub has_set : (found : List Bool) (n x : ℕ) → n < length found → Has found x → Has (set found n true) x
has_set found n x lt h = go (cases_eq x n)
  where
    go : (x ≡ n) ⊎ (x ≡ n → ⊥) → Has (set found n true) x
    go (inl e) = subst (Has (set found n true)) (sym e) (has_set_same found n lt)
    go (inr ne) = record { marked = get_or-set_other found n x true false ne ∙ h.marked }

pub has_set_only : (found : List Bool) (n x : ℕ) → Has (set found n true) x → Has found x ⊎ (n ≡ x)
has_set_only found n x h = go (cases_eq x n)
  where
    go : (x ≡ n) ⊎ (x ≡ n → ⊥) → Has found x ⊎ (n ≡ x)
    go (inl e) = inr (sym e)
    go (inr ne) = inl (record { marked = sym (get_or-set_other found n x true false ne) ∙ h.marked })

pub count_set : (found : List Bool) (n : ℕ) → n < length found → get_or found n false ≡ false → count_by not (set found n true) + 1 ≡ count_by not found
count_set found n lt e =
    let f : Bool → ℕ = λ b. cond (not b) 1 0 in
    let s = sum_by-set f found n true false lt in
    let z : f (get_or found n false) ≡ 1 = ap f e in
    omega arith

-- ---- what is found

pub adds_none : (found : List Bool) (todo : List ℕ) → AddsNodes found todo [] found todo
adds_none found todo = record {
  len = refl;
  stays = λ x h. h;
  each = λ x h. absurd (contains_none x h);
  only = λ x h. inl h;
  keeps = λ x h. h;
  todo_new = λ x h. inl h;
  less = omega arith;
}

pub adds_known : (found : List Bool) (todo : List ℕ) (n : ℕ) → get_or found n false ≡ true → AddsNodes found todo (n ∷ []) found todo
adds_known found todo n e = record {
  len = refl;
  stays = λ x h. h;
  each = λ x h. let q = contains_one x n h in record { marked = ap (λ m. get_or found m false) (sym q) ∙ e };
  only = λ x h. inl h;
  keeps = λ x h. h;
  todo_new = λ x h. inl h;
  less = omega arith;
}

pub adds_new : (found : List Bool) (todo : List ℕ) (n : ℕ) → n < length found → get_or found n false ≡ false → AddsNodes found todo (n ∷ []) (set found n true) (todo ++ n ∷ [])
adds_new found todo n lt e =
    let added : Has (set found n true) n = has_set_same found n lt in
    let at : (x : ℕ) → n ≡ x → Has (set found n true) x = λ x q. subst (Has (set found n true)) q added in
    let fewer = count_set found n lt e in
    record {
      len = length-set found n true;
      stays = λ x h. has_set found n x lt h;
      each = λ x h. at x (contains_one x n h);
      only = λ x h. go x (has_set_only found n x h);
      keeps = λ x h. Contains-append_left todo (n ∷ []) x h;
      todo_new = λ x h. from x at (Contains-push_cases todo n x h);
      less = omega (arith, length-append todo (n ∷ []));
    }
  where
    go : (x : ℕ) → Has found x ⊎ (n ≡ x) → Has found x ⊎ (Contains (n ∷ []) x × Contains (todo ++ n ∷ []) x)
    go x (inl h) = inl h
    go x (inr q) = inr (subst (Contains (n ∷ [])) q (Contains-push [] n), subst (Contains (todo ++ n ∷ [])) q (Contains-push todo n))

    from : (x : ℕ) → ((x : ℕ) → n ≡ x → Has (set found n true) x) → Contains todo x ⊎ (n ≡ x) → Contains todo x ⊎ Has (set found n true) x
    from x at (inl h) = inl h
    from x at (inr q) = inr (at x q)

pub adds_more : (f f2 f3 : List Bool) (t t2 t3 nodes : List ℕ) (y : ℕ) → AddsNodes f t nodes f2 t2 → AddsNodes f2 t2 (y ∷ []) f3 t3 → AddsNodes f t (nodes ++ y ∷ []) f3 t3
adds_more f f2 f3 t t2 t3 nodes y a b = record {
  len = b.len ∙ a.len;
  stays = λ x h. b.stays x (a.stays x h);
  each = λ x h. each x (Contains-push_cases nodes y x h);
  only = λ x h. only x (b.only x h);
  keeps = λ x h. b.keeps x (a.keeps x h);
  todo_new = λ x h. new x (b.todo_new x h);
  less = let p = a.less in let q = b.less in omega arith;
}
  where
    each : (x : ℕ) → Contains nodes x ⊎ (y ≡ x) → Has f3 x
    each x (inl h) = b.stays x (a.each x h)
    each x (inr q) = b.each x (subst (Contains (y ∷ [])) q (Contains-push [] y))

    earlier : (x : ℕ) → Has f x ⊎ (Contains nodes x × Contains t2 x) → Has f x ⊎ (Contains (nodes ++ y ∷ []) x × Contains t3 x)
    earlier x (inl h) = inl h
    earlier x (inr p) = inr (Contains-append_left nodes (y ∷ []) x p.0, b.keeps x p.1)

    only : (x : ℕ) → Has f2 x ⊎ (Contains (y ∷ []) x × Contains t3 x) → Has f x ⊎ (Contains (nodes ++ y ∷ []) x × Contains t3 x)
    only x (inl h) = earlier x (a.only x h)
    only x (inr p) = inr (Contains-append_right nodes (y ∷ []) x p.0, p.1)

    before : (x : ℕ) → Contains t x ⊎ Has f2 x → Contains t x ⊎ Has f3 x
    before x (inl h) = inl h
    before x (inr h) = inr (b.stays x h)

    new : (x : ℕ) → Contains t2 x ⊎ Has f3 x → Contains t x ⊎ Has f3 x
    new x (inl h) = before x (a.todo_new x h)
    new x (inr h) = inr h

pub adds_next : (f f2 f3 : List Bool) (t t2 t3 nodes : List ℕ) (i : ℕ) → i < length nodes → AddsNodes f t (take i nodes) f2 t2 → AddsNodes f2 t2 (get_or nodes i 0 ∷ []) f3 t3 → AddsNodes f t (take (i + 1) nodes) f3 t3
adds_next f f2 f3 t t2 t3 nodes i lt a b = rw (take_more nodes i 0 lt) (adds_more f f2 f3 t t2 t3 (take i nodes) (get_or nodes i 0) a b)

pub in_range : (nodes : List ℕ) (n m i : ℕ) → m ≡ n → All (λ y. y < n) nodes → i < length nodes → get_or nodes i 0 < m
in_range nodes n m i e all lt = let h = all i 0 lt in omega arith

-- ---- the whole search

pub search_begun : (graph : List (List ℕ)) (from : ℕ) (found f2 : List Bool) (t2 : List ℕ) → length found ≡ length graph → ((x : ℕ) → Has found x → ⊥) → AddsNodes found [] (leads_to graph from) f2 t2 → IsSearch graph from f2 t2
search_begun graph from found f2 t2 len none a = record {
  len = a.len ∙ len;
  sound = λ x h. sound x (a.only x h);
  begun = a.each;
  closed = λ x h. inl (todo x (a.only x h));
  todo_found = λ x h. from_todo x (a.todo_new x h);
}
  where
    sound : (x : ℕ) → Has found x ⊎ (Contains (leads_to graph from) x × Contains t2 x) → Leads graph from x
    sound x (inl h) = absurd (none x h)
    sound x (inr p) = Edge p.0

    todo : (x : ℕ) → Has found x ⊎ (Contains (leads_to graph from) x × Contains t2 x) → Contains t2 x
    todo x (inl h) = absurd (none x h)
    todo x (inr p) = p.1

    from_todo : (x : ℕ) → Contains [] x ⊎ Has f2 x → Has f2 x
    from_todo x (inl h) = absurd (contains_none x h)
    from_todo x (inr h) = h

pub leads_on : (graph : List (List ℕ)) (x y z : ℕ) → Leads graph x y → Contains (leads_to graph y) z → Leads graph x z
leads_on graph x y z (Edge e) c = Then e (Edge c)
leads_on graph x y z (Then {y = m} e rest) c = Then e (leads_on graph m y z rest c)

-- what is to be done next is done
pub search_next : (graph : List (List ℕ)) (from : ℕ) (found f2 : List Bool) (todo t2 : List ℕ) (n : ℕ) → IsSearch graph from found (todo ++ n ∷ []) → AddsNodes found todo (leads_to graph n) f2 t2 → IsSearch graph from f2 t2
search_next graph from found f2 todo t2 n s a = record {
  len = a.len ∙ s.len;
  sound = λ x h. sound x (a.only x h);
  begun = λ y h. a.stays y (s.begun y h);
  closed = λ x h. closed x (a.only x h);
  todo_found = λ x h. todo_found x (a.todo_new x h);
}
  where
    here : Has found n
    here = s.todo_found n (Contains-push todo n)

    sound : (x : ℕ) → Has found x ⊎ (Contains (leads_to graph n) x × Contains t2 x) → Leads graph from x
    sound x (inl h) = s.sound x h
    sound x (inr p) = leads_on graph from n x (s.sound n here) p.0

    Closed : ℕ → Type 0
    Closed x = Contains t2 x ⊎ ((y : ℕ) → Contains (leads_to graph x) y → Has f2 y)

    still : (x : ℕ) → Contains todo x ⊎ (n ≡ x) → Closed x
    still x (inl h) = inl (a.keeps x h)
    still x (inr e) = inr (λ y c. a.each y (subst (λ m. Contains (leads_to graph m) y) (sym e) c))

    before : (x : ℕ) → Contains (todo ++ n ∷ []) x ⊎ ((y : ℕ) → Contains (leads_to graph x) y → Has found y) → Closed x
    before x (inl h) = still x (Contains-push_cases todo n x h)
    before x (inr all) = inr (λ y c. a.stays y (all y c))

    closed : (x : ℕ) → Has found x ⊎ (Contains (leads_to graph n) x × Contains t2 x) → Closed x
    closed x (inl h) = before x (s.closed x h)
    closed x (inr p) = inl p.1

    todo_found : (x : ℕ) → Contains todo x ⊎ Has f2 x → Has f2 x
    todo_found x (inl h) = a.stays x (s.todo_found x (Contains-append_left todo (n ∷ []) x h))
    todo_found x (inr h) = h

-- where nothing is left to do, all is found
pub search_done : (graph : List (List ℕ)) (from : ℕ) (found : List Bool) → IsSearch graph from found [] → AreReachMarks graph from found
search_done graph from found s = record {
  len = s.len;
  sound = s.sound;
  complete = λ y l. first y l;
}
  where
    closed : (x : ℕ) → Contains [] x ⊎ ((y : ℕ) → Contains (leads_to graph x) y → Has found y) → (y : ℕ) → Contains (leads_to graph x) y → Has found y
    closed x (inl h) y c = absurd (contains_none x h)
    closed x (inr all) y c = all y c

    along : (x y : ℕ) → Has found x → Leads graph x y → Has found y
    along x y h (Edge e) = closed x (s.closed x h) y e
    along x y h (Then {y = m} e rest) = along m y (closed x (s.closed x h) m e) rest

    first : (y : ℕ) → Leads graph from y → Has found y
    first y (Edge e) = s.begun y e
    first y (Then {y = m} e rest) = along m y (s.begun m e) rest

pub targets_in_range : (graph : List (List ℕ)) (x : ℕ) → IsGraph graph → x < length graph → All (λ y. y < length graph) (leads_to graph x)
targets_in_range graph x g lt = All-get_or (All (λ y. y < length graph)) graph x [] lt g

pub marked_in_range : (found : List Bool) (x : ℕ) → Has found x → x < length found
marked_in_range found x h = go (cases_lt x (length found))
  where
    go : (x < length found) ⊎ (length found ≤ x) → x < length found
    go (inl lt) = lt
    go (inr le) = let e : false ≡ true = sym (get_or_past found x false le) ∙ h.marked in cc

pub none_found : (n x : ℕ) → Has (replicate n false) x → ⊥
none_found n x h =
    let lt = marked_in_range (replicate n false) x h in
    let lt2 : x < n = omega (arith, length-replicate n false) in
    let e : false ≡ true = sym (get_or-replicate n x false false lt2) ∙ h.marked in cc

-- the effort falls with each node that is taken
pub effort_falls : (found f2 : List Bool) (todo t2 nodes : List ℕ) (n : ℕ) → AddsNodes found todo nodes f2 t2 → effort f2 t2 < effort found (todo ++ n ∷ [])
effort_falls found f2 todo t2 nodes n a = let l = a.less in omega (arith, length-append todo (n ∷ []))

pub todo_in_range : (graph : List (List ℕ)) (from : ℕ) (found : List Bool) (todo : List ℕ) (n : ℕ) → IsSearch graph from found (todo ++ n ∷ []) → n < length graph
todo_in_range graph from found todo n s = let lt = marked_in_range found n (s.todo_found n (Contains-push todo n)) in let e = s.len in omega arith

-- ---- the same, as the code meets it

pub begins : (graph : List (List ℕ)) (from n : ℕ) (found f2 : List Bool) (todo t2 : List ℕ) → found ≡ replicate n false → n ≡ length graph → todo ≡ [] → AddsNodes found todo (leads_to graph from) f2 t2 → IsSearch graph from f2 t2
begins graph from n found f2 todo t2 e len empty a =
    let len2 : length found ≡ length graph = ap length e ∙ length-replicate n false ∙ len in
    search_begun graph from found f2 t2 len2 (λ x h. none_found n x (subst (λ l. Has l x) e h)) (subst (λ l. AddsNodes found l (leads_to graph from) f2 t2) empty a)

-- a node was taken from what was to be done
pub taken : (graph : List (List ℕ)) (from : ℕ) (found f1 : List Bool) (todo t1 : List ℕ) (n : ℕ) → IsSearch graph from found todo → todo ≡ t1 ++ n ∷ [] → f1 ≡ found → IsSearch graph from f1 (t1 ++ n ∷ [])
taken graph from found f1 todo t1 n s e same = subst (λ l. IsSearch graph from l (t1 ++ n ∷ [])) (sym same) (subst (IsSearch graph from found) e s)

pub ends : (graph : List (List ℕ)) (from : ℕ) (found f1 : List Bool) (todo : List ℕ) → IsSearch graph from found todo → todo ≡ [] → f1 ≡ found → AreReachMarks graph from f1
ends graph from found f1 todo s e same = subst (AreReachMarks graph from) (sym same) (search_done graph from found (subst (IsSearch graph from found) e s))

-- Where no node returns to itself, a walk leaves each node behind those that it leads to.
use Rattle.std.proofs.Common.{◌≡◌, ℕ, zero, suc, ◌+◌, ◌<◌, ◌⊎◌, inl, inr, List, [], ◌∷◌, ◌++◌, All, Contains, Bool, true, false, length, get_or, take, refl, sym, ap, subst, ◌∙◌, arith, get_or-set_other, true≢false}
use Rattle.std.proofs.Math.ListN.{set}
use Rattle.std.proofs.Math.Seq.{take-suc}
use Rattle.std.proofs.lemmas.Bool.{cases_eq}
use Rattle.std.proofs.lemmas.List.{get_or_default}
use Rattle.abc_base_graphs.specs.Graph.{leads_to, IsGraph, Leads, Edge}
use Rattle.abc_base_graphs.proofs.Searched.{leads_on}
use Rattle.abc_base_trees.specs.declared.order.Task.{Task}
use Rattle.abc_base_trees.specs.Orders.{StandsIn, ReachesNode, Root, Onward, NoneReturns, IsBehindAll, IsVisitOrder}
use Rattle.abc_base_trees.specs.Walks.{enter, leave, with_entries, IsPath, CanLeaveAll, IsWalk}
use Rattle.abc_base_trees.proofs.Efforts.{below_zero}

-- ---- what stands in a list

pub contains_of : (x : ℕ) (xs : List ℕ) → StandsIn x xs → Contains xs x
contains_of x [] h = absurd h
contains_of x (y ∷ ys) (inl e) = (0, omega arith, sym e)
contains_of x (y ∷ ys) (inr h) = let c = contains_of x ys h in (suc c.0, omega (arith, c.1), c.2)

pub in_at : (xs : List ℕ) (k d : ℕ) → k < length xs → StandsIn (get_or xs k d) xs
in_at [] k d lt = absurd (below_zero k lt)
in_at (x ∷ xs) zero d lt = inl refl
in_at (x ∷ xs) (suc k) d lt = inr (in_at xs k d (omega arith))

pub in_append : {A : Type 0} (x : A) (xs ys : List A) → StandsIn x (xs ++ ys) → StandsIn x xs ⊎ StandsIn x ys
in_append x [] ys h = inr h
in_append x (y ∷ xs) ys (inl e) = inl (inl e)
in_append x (y ∷ xs) ys (inr h) = go (in_append x xs ys h)
  where
    go : StandsIn x xs ⊎ StandsIn x ys → StandsIn x (y ∷ xs) ⊎ StandsIn x ys
    go (inl a) = inl (inr a)
    go (inr b) = inr b

pub in_left : {A : Type 0} (x : A) (xs ys : List A) → StandsIn x xs → StandsIn x (xs ++ ys)
in_left x [] ys h = absurd h
in_left x (y ∷ xs) ys (inl e) = inl e
in_left x (y ∷ xs) ys (inr h) = inr (in_left x xs ys h)

pub in_last : {A : Type 0} (x : A) (xs : List A) → StandsIn x (xs ++ x ∷ [])
in_last x [] = inl refl
in_last x (y ∷ xs) = inr (in_last x xs)

-- ---- the stack

pub pushed_last : (xs : List ℕ) (x : ℕ) (todo : List Task) → with_entries (xs ++ x ∷ []) todo ≡ enter x ∷ with_entries xs todo
pushed_last [] x todo = refl
pushed_last (y ∷ xs) x todo = pushed_last xs x (enter y ∷ todo)

in_pushed : (t : Task) (xs : List ℕ) (todo : List Task) → StandsIn t (with_entries xs todo) → StandsIn t todo ⊎ ((x : ℕ) × StandsIn x xs × (t ≡ enter x))
in_pushed t [] todo h = inl h
in_pushed t (x ∷ xs) todo h = go (in_pushed t xs (enter x ∷ todo) h)
  where
    go : StandsIn t (enter x ∷ todo) ⊎ ((y : ℕ) × StandsIn y xs × (t ≡ enter y)) → StandsIn t todo ⊎ ((y : ℕ) × StandsIn y (x ∷ xs) × (t ≡ enter y))
    go (inl (inl e)) = inr (x, inl refl, e)
    go (inl (inr a)) = inl a
    go (inr (y, a, e)) = inr (y, inr a, e)

still_pushed : (t : Task) (xs : List ℕ) (todo : List Task) → StandsIn t todo → StandsIn t (with_entries xs todo)
still_pushed t [] todo h = h
still_pushed t (x ∷ xs) todo h = still_pushed t xs (enter x ∷ todo) (inr h)

newly_pushed : (x : ℕ) (xs : List ℕ) (todo : List Task) → StandsIn x xs → StandsIn (enter x) (with_entries xs todo)
newly_pushed x [] todo h = absurd h
newly_pushed x (y ∷ xs) todo (inl e) = still_pushed (enter x) xs (enter y ∷ todo) (inl (ap enter e))
newly_pushed x (y ∷ xs) todo (inr h) = newly_pushed x xs (enter y ∷ todo) h

leave_no_enter : (z x : ℕ) → leave z ≡ enter x → ⊥
leave_no_enter z x e = true≢false (ap (λ t. t.is_leaving) e)

leave_below : (z x : ℕ) (todo : List Task) → StandsIn (leave z) (enter x ∷ todo) → StandsIn (leave z) todo
leave_below z x todo (inl e) = absurd (leave_no_enter z x e)
leave_below z x todo (inr h) = h

path_pushed : (graph : List (List ℕ)) (xs : List ℕ) (todo : List Task) → ((x : ℕ) → StandsIn x xs → (z : ℕ) → StandsIn (leave z) todo → Leads graph z x) → IsPath graph todo → IsPath graph (with_entries xs todo)
path_pushed graph [] todo leads p = p
path_pushed graph (x ∷ xs) todo leads p =
    path_pushed graph xs (enter x ∷ todo) (λ y h z l. leads y (inr h) z (leave_below z x todo l)) (λ z l. leads x (inl refl) z l, p)

ready_on : (graph : List (List ℕ)) (order order2 above above2 : List ℕ) (todo : List Task) → ((y : ℕ) → StandsIn y order → StandsIn y order2) → ((y : ℕ) → StandsIn y above → StandsIn y order2 ⊎ StandsIn y above2) → CanLeaveAll graph order above todo → CanLeaveAll graph order2 above2 todo
ready_on graph order order2 above above2 [] f g r = tt
ready_on graph order order2 above above2 (t ∷ ts) f g r = (
  λ is y h. go y (r.0 is y h),
  ready_on graph order order2 (t.node ∷ above) (t.node ∷ above2) ts f g2 r.1,
)
  where
    go : (y : ℕ) → StandsIn y order ⊎ StandsIn y above → StandsIn y order2 ⊎ StandsIn y above2
    go y (inl a) = inl (f y a)
    go y (inr a) = g y a

    g2 : (y : ℕ) → StandsIn y (t.node ∷ above) → StandsIn y order2 ⊎ StandsIn y (t.node ∷ above2)
    g2 y (inl e) = inr (inl e)
    g2 y (inr a) = go2 (g y a)
      where
        go2 : StandsIn y order2 ⊎ StandsIn y above2 → StandsIn y order2 ⊎ StandsIn y (t.node ∷ above2)
        go2 (inl b) = inl b
        go2 (inr b) = inr (inr b)

ready_pushed : (graph : List (List ℕ)) (order xs above : List ℕ) (todo : List Task) → CanLeaveAll graph order (xs ++ above) todo → CanLeaveAll graph order above (with_entries xs todo)
ready_pushed graph order [] above todo r = r
ready_pushed graph order (x ∷ xs) above todo r = ready_pushed graph order xs above (enter x ∷ todo) (λ is. absurd (true≢false (sym is)), r)

behind_last : (graph : List (List ℕ)) (before order : List ℕ) (x : ℕ) → IsBehindAll graph before order → ((y : ℕ) → StandsIn y (leads_to graph x) → StandsIn y order ⊎ StandsIn y before) → IsBehindAll graph before (order ++ x ∷ [])
behind_last graph before [] x b f = (λ y h. go y (f y h), tt)
  where
    go : (y : ℕ) → StandsIn y [] ⊎ StandsIn y before → StandsIn y before
    go y (inl a) = absurd a
    go y (inr a) = a
behind_last graph before (z ∷ order) x b f = (b.0, behind_last graph (z ∷ before) order x b.1 (λ y h. go y (f y h)))
  where
    go : (y : ℕ) → StandsIn y (z ∷ order) ⊎ StandsIn y before → StandsIn y order ⊎ StandsIn y (z ∷ before)
    go y (inl (inl e)) = inr (inl e)
    go y (inl (inr a)) = inl a
    go y (inr a) = inr (inr a)

-- ---- the steps

alone : (x y : ℕ) → StandsIn y (x ∷ []) → y ≡ x
alone x y (inl e) = e
alone x y (inr h) = absurd h

pub walk_begun : (graph : List (List ℕ)) (roots : List ℕ) (entered : List Bool) (todo : List Task) → ((x : ℕ) → get_or entered x false ≡ true → ⊥) → todo ≡ with_entries roots [] → IsWalk graph roots entered [] todo
walk_begun graph roots entered todo none e = subst (IsWalk graph roots entered []) (sym e) (record {
  reach = λ t h. reach t (in_pushed t roots [] h);
  path = path_pushed graph roots [] (λ x h z l. absurd l) tt;
  placed = λ x h. absurd (none x h);
  ready = ready_pushed graph [] roots [] [] tt;
  behind = tt;
  reached = λ x h. absurd h;
  begun = λ y h. inr (enter y, newly_pushed y roots [] h, refl);
})
  where
    reach : (t : Task) → StandsIn t [] ⊎ ((x : ℕ) × StandsIn x roots × (t ≡ enter x)) → ReachesNode graph roots t.node
    reach t (inl h) = absurd h
    reach t (inr (x, h, q)) = Root (subst (λ n. StandsIn n roots) (sym (ap (λ s. s.node) q)) h)

-- a node that was entered is not entered again
pub walk_skips : (graph : List (List ℕ)) (roots : List ℕ) (entered : List Bool) (order : List ℕ) (x : ℕ) (todo : List Task) → NoneReturns graph roots → get_or entered x false ≡ true → IsWalk graph roots entered order (enter x ∷ todo) → IsWalk graph roots entered order todo
walk_skips graph roots entered order x todo never on w = record {
  reach = λ t h. w.reach t (inr h);
  path = w.path.1;
  placed = λ y h. below y (w.placed y h);
  ready = ready_on graph order order (x ∷ []) [] todo (λ y h. h) (λ y h. inl (subst (λ n. StandsIn n order) (sym (alone x y h)) left)) w.ready.1;
  behind = w.behind;
  reached = w.reached;
  begun = λ y h. begun y (w.begun y h);
}
  where
    left : StandsIn x order
    left = go (w.placed x on)
      where
        go : StandsIn x order ⊎ StandsIn (leave x) (enter x ∷ todo) → StandsIn x order
        go (inl h) = h
        go (inr h) = absurd (never.never x (w.reach (enter x) (inl refl)) (w.path.0 x (leave_below x x todo h)))

    below : (y : ℕ) → StandsIn y order ⊎ StandsIn (leave y) (enter x ∷ todo) → StandsIn y order ⊎ StandsIn (leave y) todo
    below y (inl h) = inl h
    below y (inr h) = inr (leave_below y x todo h)

    begun : (y : ℕ) → StandsIn y order ⊎ ((t : Task) × StandsIn t (enter x ∷ todo) × (t.node ≡ y)) → StandsIn y order ⊎ ((t : Task) × StandsIn t todo × (t.node ≡ y))
    begun y (inl h) = inl h
    begun y (inr (t, inl e, q)) = inl (subst (λ n. StandsIn n order) (sym (ap (λ s. s.node) e) ∙ q) left)
    begun y (inr (t, inr h, q)) = inr (t, h, q)

-- a node is entered
pub walk_enters : (graph : List (List ℕ)) (roots : List ℕ) (entered entered2 : List Bool) (order : List ℕ) (x : ℕ) (todo todo2 : List Task) → get_or entered x true ≡ false → entered2 ≡ set entered x true → todo2 ≡ with_entries (leads_to graph x) (leave x ∷ todo) → IsWalk graph roots entered order (enter x ∷ todo) → IsWalk graph roots entered2 order todo2
walk_enters graph roots entered entered2 order x todo todo2 fresh marked is w = subst (λ ts. IsWalk graph roots entered2 order ts) (sym is) (record {
  reach = λ t h. reach t (in_pushed t (leads_to graph x) (leave x ∷ todo) h);
  path = path_pushed graph (leads_to graph x) (leave x ∷ todo) (λ p h z l. leads p h z l) (w.path.0, w.path.1);
  placed = λ y h. placed y h (cases_eq y x);
  ready = ready_pushed graph order (leads_to graph x) [] (leave x ∷ todo) (λ leaving y h. inr (in_left y (leads_to graph x) [] h), ready_on graph order order (x ∷ []) (x ∷ (leads_to graph x ++ [])) todo (λ y h. h) (λ y h. inr (inl (alone x y h))) w.ready.1);
  behind = w.behind;
  reached = w.reached;
  begun = λ y h. begun y (w.begun y h);
})
  where
    here : ReachesNode graph roots x
    here = w.reach (enter x) (inl refl)

    reach : (t : Task) → StandsIn t (leave x ∷ todo) ⊎ ((p : ℕ) × StandsIn p (leads_to graph x) × (t ≡ enter p)) → ReachesNode graph roots t.node
    reach t (inl (inl e)) = subst (ReachesNode graph roots) (sym (ap (λ s. s.node) e)) here
    reach t (inl (inr h)) = w.reach t (inr h)
    reach t (inr (p, h, e)) = subst (ReachesNode graph roots) (sym (ap (λ s. s.node) e)) (Onward here h)

    leads : (p : ℕ) → StandsIn p (leads_to graph x) → (z : ℕ) → StandsIn (leave z) (leave x ∷ todo) → Leads graph z p
    leads p h z (inl e) = subst (λ n. Leads graph n p) (sym (ap (λ s. s.node) e)) (Edge (contains_of p (leads_to graph x) h))
    leads p h z (inr l) = leads_on graph z x p (w.path.0 z l) (contains_of p (leads_to graph x) h)

    again : (y : ℕ) → StandsIn y order ⊎ StandsIn (leave y) (enter x ∷ todo) → StandsIn y order ⊎ StandsIn (leave y) (with_entries (leads_to graph x) (leave x ∷ todo))
    again y (inl h) = inl h
    again y (inr h) = inr (still_pushed (leave y) (leads_to graph x) (leave x ∷ todo) (inr (leave_below y x todo h)))

    placed : (y : ℕ) → get_or entered2 y false ≡ true → (y ≡ x) ⊎ (y ≡ x → ⊥) → StandsIn y order ⊎ StandsIn (leave y) (with_entries (leads_to graph x) (leave x ∷ todo))
    placed y h (inl q) = inr (still_pushed (leave y) (leads_to graph x) (leave x ∷ todo) (inl (ap leave q)))
    placed y h (inr ne) = again y (w.placed y (sym (get_or-set_other entered x y true false ne) ∙ sym (ap (λ ms. get_or ms y false) marked) ∙ h))

    begun : (y : ℕ) → StandsIn y order ⊎ ((t : Task) × StandsIn t (enter x ∷ todo) × (t.node ≡ y)) → StandsIn y order ⊎ ((t : Task) × StandsIn t (with_entries (leads_to graph x) (leave x ∷ todo)) × (t.node ≡ y))
    begun y (inl h) = inl h
    begun y (inr (t, inl e, q)) = inr (leave x, still_pushed (leave x) (leads_to graph x) (leave x ∷ todo) (inl refl), sym (ap (λ s. s.node) e) ∙ q)
    begun y (inr (t, inr h, q)) = inr (t, still_pushed t (leads_to graph x) (leave x ∷ todo) (inr h), q)

-- a node is left
pub walk_leaves : (graph : List (List ℕ)) (roots : List ℕ) (entered : List Bool) (order order2 : List ℕ) (x : ℕ) (todo : List Task) → order2 ≡ order ++ x ∷ [] → IsWalk graph roots entered order (leave x ∷ todo) → IsWalk graph roots entered order2 todo
walk_leaves graph roots entered order order2 x todo is w = subst (λ o. IsWalk graph roots entered o todo) (sym is) (record {
  reach = λ t h. w.reach t (inr h);
  path = w.path.1;
  placed = λ y h. placed y (w.placed y h);
  ready = ready_on graph order (order ++ x ∷ []) (x ∷ []) [] todo (λ y h. in_left y order (x ∷ []) h) (λ y h. inl (subst (λ n. StandsIn n (order ++ x ∷ [])) (sym (alone x y h)) (in_last x order))) w.ready.1;
  behind = behind_last graph [] order x w.behind (λ y h. ready y (w.ready.0 refl y h));
  reached = λ y h. reached y (in_append y order (x ∷ []) h);
  begun = λ y h. begun y (w.begun y h);
})
  where
    ready : (y : ℕ) → StandsIn y order ⊎ StandsIn y [] → StandsIn y order ⊎ StandsIn y []
    ready y h = h

    reached : (y : ℕ) → StandsIn y order ⊎ StandsIn y (x ∷ []) → ReachesNode graph roots y
    reached y (inl h) = w.reached y h
    reached y (inr h) = subst (ReachesNode graph roots) (sym (alone x y h)) (w.reach (leave x) (inl refl))

    placed : (y : ℕ) → StandsIn y order ⊎ StandsIn (leave y) (leave x ∷ todo) → StandsIn y (order ++ x ∷ []) ⊎ StandsIn (leave y) todo
    placed y (inl h) = inl (in_left y order (x ∷ []) h)
    placed y (inr (inl e)) = inl (subst (λ n. StandsIn n (order ++ x ∷ [])) (sym (ap (λ s. s.node) e)) (in_last x order))
    placed y (inr (inr h)) = inr h

    begun : (y : ℕ) → StandsIn y order ⊎ ((t : Task) × StandsIn t (leave x ∷ todo) × (t.node ≡ y)) → StandsIn y (order ++ x ∷ []) ⊎ ((t : Task) × StandsIn t todo × (t.node ≡ y))
    begun y (inl h) = inl (in_left y order (x ∷ []) h)
    begun y (inr (t, inl e, q)) = inl (subst (λ n. StandsIn n (order ++ x ∷ [])) (sym (ap (λ s. s.node) e) ∙ q) (in_last x order))
    begun y (inr (t, inr h, q)) = inr (t, h, q)

pub walk_ended : (graph : List (List ℕ)) (roots : List ℕ) (entered : List Bool) (order : List ℕ) (todo : List Task) → todo ≡ [] → IsWalk graph roots entered order todo → IsVisitOrder graph roots order
walk_ended graph roots entered order todo e w = record {
  behind = w.behind;
  rooted = λ y h. go y (w.begun y h);
  reached = w.reached;
}
  where
    go : (y : ℕ) → StandsIn y order ⊎ ((t : Task) × StandsIn t todo × (t.node ≡ y)) → StandsIn y order
    go y (inl h) = h
    go y (inr (t, h, q)) = absurd (subst (StandsIn t) e h)

-- a node that some lead to is one of the graph
pub reached_within : (graph : List (List ℕ)) (roots : List ℕ) (x : ℕ) → IsGraph graph → All (λ y. y < length graph) roots → ReachesNode graph roots x → x < length graph
reached_within graph roots x g all (Root h) = let c = contains_of x roots h in subst (λ n. n < length graph) c.2 (all c.0 x c.1)
reached_within graph roots x g all (Onward {x = z} r h) =
    let c = contains_of x (leads_to graph z) h in
    subst (λ n. n < length graph) c.2 (g z [] (reached_within graph roots z g all r) c.0 x c.1)

-- ---- of calls

pub pushed_next : (xs : List ℕ) (todo now : List Task) (i x : ℕ) → now ≡ with_entries (take i xs) todo → i < length xs → x ≡ get_or xs i 0 → enter x ∷ now ≡ with_entries (take (i + 1) xs) todo
pushed_next xs todo now i x e lt at =
    let one : i + 1 ≡ suc i = omega arith in
    ap (λ ts. enter x ∷ ts) e ∙ sym (pushed_last (take i xs) x todo)
    ∙ ap (λ ys. with_entries ys todo) (ap (λ y. take i xs ++ y ∷ []) at ∙ sym (ap (λ n. take n xs) one ∙ take-suc xs i 0 lt))

pub length_pushed : (xs : List ℕ) (todo : List Task) → length (with_entries xs todo) ≡ length xs + length todo
length_pushed [] todo = omega arith
length_pushed (x ∷ xs) todo = let h = length_pushed xs (enter x ∷ todo) in omega arith

enter_is : (t : Task) → t.is_leaving ≡ false → t ≡ enter t.node
enter_is t e = λ i. record { node = t.node; is_leaving = e i }

leave_is : (t : Task) → t.is_leaving ≡ true → t ≡ leave t.node
leave_is t e = λ i. record { node = t.node; is_leaving = e i }

pub step_leaves : (graph : List (List ℕ)) (roots : List ℕ) (entered : List Bool) (order order2 : List ℕ) (t : Task) (todo : List Task) → t.is_leaving ≡ true → order2 ≡ order ++ t.node ∷ [] → NoneReturns graph roots → IsWalk graph roots entered order (t ∷ todo) → IsWalk graph roots entered order2 todo
step_leaves graph roots entered order order2 t todo l is never w =
    walk_leaves graph roots entered order order2 t.node todo is (subst (λ s. IsWalk graph roots entered order (s ∷ todo)) (leave_is t l) w)

pub step_skips : (graph : List (List ℕ)) (roots : List ℕ) (entered : List Bool) (order : List ℕ) (t : Task) (todo : List Task) → IsGraph graph → All (λ y. y < length graph) roots → length entered ≡ length graph → t.is_leaving ≡ false → true ≡ get_or entered t.node true → NoneReturns graph roots → IsWalk graph roots entered order (t ∷ todo) → IsWalk graph roots entered order todo
step_skips graph roots entered order t todo g all len l on never w =
    let within : t.node < length graph = reached_within graph roots t.node g all (w.reach t (inl refl)) in
    let inside : t.node < length entered = omega arith in
    walk_skips graph roots entered order t.node todo never (get_or_default entered t.node false true inside ∙ sym on) (subst (λ s. IsWalk graph roots entered order (s ∷ todo)) (enter_is t l) w)

pub step_enters : (graph : List (List ℕ)) (roots : List ℕ) (entered entered2 : List Bool) (order order2 : List ℕ) (t : Task) (todo todo2 : List Task) → t.is_leaving ≡ false → false ≡ get_or entered t.node true → entered2 ≡ set entered t.node true → todo2 ≡ with_entries (leads_to graph t.node) (leave t.node ∷ todo) → order2 ≡ order → NoneReturns graph roots → IsWalk graph roots entered order (t ∷ todo) → IsWalk graph roots entered2 order2 todo2
step_enters graph roots entered entered2 order order2 t todo todo2 l fresh marked is same never w =
    subst (λ o. IsWalk graph roots entered2 o todo2) (sym same)
    (walk_enters graph roots entered entered2 order t.node todo todo2 (sym fresh) marked is (subst (λ s. IsWalk graph roots entered order (s ∷ todo)) (enter_is t l) w))

pub ordered : (graph : List (List ℕ)) (roots : List ℕ) (entered : List Bool) (order : List ℕ) (todo : List Task) → todo ≡ [] → (NoneReturns graph roots → IsWalk graph roots entered order todo) → NoneReturns graph roots → IsVisitOrder graph roots order
ordered graph roots entered order todo e w never = walk_ended graph roots entered order todo e (w never)

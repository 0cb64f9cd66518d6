-- The new numbers of nodes.
use Rattle.std.proofs.Common.{◌≡◌, ◌≢◌, ℕ, zero, suc, ◌+◌, ◌<◌, ◌≤◌, ◌⊎◌, inl, inr, List, [], ◌∷◌, ◌++◌, replicate, Bool, true, false, nat_eq, eqb-true, eq-eqb, if◌then◌else◌, length, get_or, take, count_by, Some, None, refl, sym, ap, subst, ◌∙◌, arith, length-append, get_or-set_other, get_or-set_same}
use Rattle.std.proofs.Math.ListN.{set, length-set}
use Rattle.std.specs.declared.option.Option.{Option}
use Rattle.std.proofs.lemmas.Bool.{cases_eq, cases_lt}
use Rattle.std.proofs.lemmas.List.{get_or_append_left, get_or_past, get_or_push, length-replicate}
use Rattle.std.proofs.lemmas.List.Sums.{count_by_more_no, count_by_more_yes}
use Rattle.abc_base_graphs.specs.Graph.{leads_to}
use Rattle.abc_tidy_refs.specs.declared.nodes.Counts.{Counts}
use Rattle.abc_tidy_refs.specs.Nodes.{counts_of}
use Rattle.abc_file_types.specs.declared.tables.Abc.{Abc}
use Rattle.abc_base_trees.specs.declared.heads.Head.{Head}
use Rattle.abc_base_trees.specs.declared.keys.Key.{Key}
use Rattle.abc_base_trees.specs.Alike.{AreAlike}
use Rattle.abc_base_trees.specs.Trees.{Tree}
use Rattle.abc_base_trees.specs.Classes.{AllClassed, HaveOwnClasses, AreTreeClasses, AreDistinct, HasClass, tree_class}
use Rattle.abc_base_trees.proofs.Alike.{trees_alike}
use Rattle.abc_base_trees.proofs.TreeLaws.{one_class}
use Rattle.abc_base_trees.proofs.Visited.{class_within}
use Rattle.abc_tidy_entries.specs.Entries.{graph_of, heads_of}
use Rattle.abc_tidy_entries.specs.Numbered.{AreClassPlaces, AreNodeNumbers, AreNumbersMet, IsCounting, next_of_pool, with_place, node_number, number_of_entry}
use Rattle.abc_tidy_entries.specs.Visited.{NumberNodes, IsAmong, IsNamed, IsTreeIn, is_of_pool, number_of_node, pool_of_node, roots_of}

-- ---- nodes that have classes

pub classed_next : (classes : List (Option ℕ)) (xs : List ℕ) (i : ℕ) → ((k : ℕ) → k < i → HasClass classes (get_or xs k 0)) → HasClass classes (get_or xs i 0) → (k : ℕ) → k < i + 1 → HasClass classes (get_or xs k 0)
classed_next classes xs i before here k lt = go (cases_lt k i)
  where
    go : (k < i) ⊎ (i ≤ k) → HasClass classes (get_or xs k 0)
    go (inl h) = before k h
    go (inr h) = let q : i ≡ k = omega arith in subst (λ n. HasClass classes (get_or xs n 0)) q here

-- ---- the place of each class

pub places_begin : (classes : List (Option ℕ)) (seen places : List ℕ) → AreClassPlaces classes seen 0 places
places_begin classes seen places = record { places_are = λ i c lt e. absurd (no i lt) }
  where
    no : (i : ℕ) → i < 0 → ⊥
    no i lt = omega arith

pub class_small : (heads : List Head) (graph : List (List ℕ)) (keys : List Key) (classes : List (Option ℕ)) (x c : ℕ) → AreTreeClasses heads graph keys classes → tree_class classes x ≡ Some c → c < length keys
class_small heads graph keys classes x c s e = class_within ((s.tree x c e).means)

pub place_next : (classes : List (Option ℕ)) (seen places : List ℕ) (n c : ℕ) → HaveOwnClasses classes seen → AreClassPlaces classes seen n places → n < length seen → tree_class classes (get_or seen n 0) ≡ Some c → c < length places → AreClassPlaces classes seen (n + 1) (set places c n)
place_next classes seen places n c apart s lt e within = record { places_are = λ i d l f. go i d l f (cases_eq d c) (cases_lt i n) }
  where
    go : (i d : ℕ) → i < n + 1 → tree_class classes (get_or seen i 0) ≡ Some d → (d ≡ c) ⊎ (d ≡ c → ⊥) → (i < n) ⊎ (n ≤ i) → get_or (set places c n) d 0 ≡ i
    go i d l f (inl q) h =
        let li : i < length seen = omega arith in
        let same : i ≡ n = apart.one i n c li lt (f ∙ ap Some q) e in
        ap (λ k. get_or (set places c n) k 0) q ∙ get_or-set_same places c n 0 within ∙ sym same
    go i d l f (inr ne) (inl h) = get_or-set_other places c d n 0 ne ∙ s.places_are i d h f
    go i d l f (inr ne) (inr h) =
        let q : i ≡ n = omega arith in
        let g : Some d ≡ Some c = sym f ∙ ap (λ k. tree_class classes (get_or seen k 0)) q ∙ e in
        let r : d ≡ c = cc in
        absurd (ne r)

pub place_skipped : (classes : List (Option ℕ)) (seen places : List ℕ) (n : ℕ) → AreClassPlaces classes seen n places → None ≡ tree_class classes (get_or seen n 0) → AreClassPlaces classes seen (n + 1) places
place_skipped classes seen places n s e = record { places_are = λ i d l f. go i d l f (cases_lt i n) }
  where
    go : (i d : ℕ) → i < n + 1 → tree_class classes (get_or seen i 0) ≡ Some d → (i < n) ⊎ (n ≤ i) → get_or places d 0 ≡ i
    go i d l f (inl h) = s.places_are i d h f
    go i d l f (inr h) =
        let q : i ≡ n = omega arith in
        let g : tree_class classes (get_or seen i 0) ≡ None = ap (λ k. tree_class classes (get_or seen k 0)) q ∙ sym e in
        absurd (some_none g f)
      where
        some_none : {x : Option ℕ} → x ≡ None → x ≡ Some d → ⊥
        some_none a b = cc

pub place_noted : (classes : List (Option ℕ)) (seen places places2 : List ℕ) (n : ℕ) (o : Option ℕ) → HaveOwnClasses classes seen → AreClassPlaces classes seen n places → n < length seen → o ≡ tree_class classes (get_or seen n 0) → ((c : ℕ) → o ≡ Some c → c < length places) → places2 ≡ with_place places o n → AreClassPlaces classes seen (n + 1) places2
place_noted classes seen places places2 n None apart s lt e small is = subst (AreClassPlaces classes seen (n + 1)) (sym is) (place_skipped classes seen places n s e)
place_noted classes seen places places2 n (Some c) apart s lt e small is = subst (AreClassPlaces classes seen (n + 1)) (sym is) (place_next classes seen places n c apart s lt (sym e) (small c refl))

pub noted_length : (places : List ℕ) (o : Option ℕ) (n : ℕ) → length (with_place places o n) ≡ length places
noted_length places None n = refl
noted_length places (Some c) n = length-set places c n

-- ---- the numbers of those that were met

pub replicate_many : (n z : ℕ) → length (replicate n z) ≡ n
replicate_many n z = length-replicate n z

zeros : (n p z : ℕ) → z ≡ 0 → get_or (replicate n z) p 0 ≡ z
zeros zero p z e = sym e
zeros (suc n) zero z e = refl
zeros (suc n) (suc p) z e = zeros n p z e

pub met_begin : (c : Counts) (seen met numbers : List ℕ) → met ≡ replicate 8 0 → numbers ≡ [] → IsCounting c seen 0 met numbers
met_begin c seen met numbers e f = record {
  pools = ap length e ∙ replicate_many 8 0;
  counted = λ p lt. ap (λ ms. get_or ms p 0) e ∙ zeros 8 p 0 refl;
  many = ap length f;
  numbers_are = λ i lt. absurd (no i lt);
}
  where
    no : (i : ℕ) → i < 0 → ⊥
    no i lt = omega arith

pub counted : (c : Counts) (met : List ℕ) (x n : ℕ) (p : ℕ) → p ≡ pool_of_node c x → n ≡ get_or met p 0 + 1 → p ≢ 0 → n ≡ next_of_pool c met x
counted c met x n p e f ne =
    let g : nat_eq (pool_of_node c x) 0 ≡ false = subst (λ q. nat_eq q 0 ≡ false) e (apart p ne) in
    f ∙ ap (λ q. get_or met q 0 + 1) e ∙ sym (ap (λ b. if b then 0 else get_or met (pool_of_node c x) 0 + 1) g)
  where
    apart : (p : ℕ) → p ≢ 0 → nat_eq p 0 ≡ false
    apart p ne = by (nat_eq p 0) refl
      where
        by : (b : Bool) → nat_eq p 0 ≡ b → nat_eq p 0 ≡ false
        by true h = absurd (ne (eqb-true p 0 h))
        by false h = h

pub counted_none : (c : Counts) (met : List ℕ) (x p : ℕ) → p ≡ pool_of_node c x → p ≡ 0 → 0 ≡ next_of_pool c met x
counted_none c met x p e z =
    let g : nat_eq (pool_of_node c x) 0 ≡ true = eq-eqb (pool_of_node c x) 0 (sym e ∙ z) in
    sym (ap (λ b. if b then 0 else get_or met (pool_of_node c x) 0 + 1) g)

if_small : (b : Bool) (m n : ℕ) → m < 8 → n < 8 → (if b then m else n) < 8
if_small true m n p q = p
if_small false m n p q = q

pub pool_small : (c : Counts) (x : ℕ) → pool_of_node c x < 8
pool_small c x =
    if_small _ 0 _ (omega arith) (if_small _ 1 _ (omega arith) (if_small _ 2 _ (omega arith) (if_small _ 3 _ (omega arith)
    (if_small _ 4 _ (omega arith) (if_small _ 5 _ (omega arith) (if_small _ 6 7 (omega arith) (omega arith)))))))

met_next_one : (c : Counts) (seen met met2 numbers : List ℕ) (n x number : ℕ) → IsCounting c seen n met numbers → n < length seen → x ≡ get_or seen n 0 → pool_of_node c x < 8 → number ≡ next_of_pool c met x → met2 ≡ set met (pool_of_node c x) (get_or met (pool_of_node c x) 0 + 1) → IsCounting c seen (n + 1) met2 (numbers ++ number ∷ [])
met_next_one c seen met met2 numbers n x number s lt at small is moved = record {
  pools = ap length moved ∙ length-set met (pool_of_node c x) (get_or met (pool_of_node c x) 0 + 1) ∙ s.pools;
  counted = λ p l. ap (λ ms. get_or ms p 0) moved ∙ count p l (cases_eq p (pool_of_node c x));
  many = length-append numbers (number ∷ []) ∙ ap (λ k. k + 1) s.many;
  numbers_are = λ i l. go i l (cases_lt i n);
}
  where
    within : pool_of_node c x < length met
    within = let q = s.pools in omega arith

    here : is_of_pool c (pool_of_node c x) (get_or seen n 0) ≡ true
    here = eq-eqb (pool_of_node c (get_or seen n 0)) (pool_of_node c x) (ap (pool_of_node c) (sym at))

    one_more : count_by (is_of_pool c (pool_of_node c x)) (take (n + 1) seen) ≡ get_or met (pool_of_node c x) 0 + 1
    one_more = count_by_more_yes (is_of_pool c (pool_of_node c x)) seen n 0 lt here ∙ ap (λ k. k + 1) (sym (s.counted (pool_of_node c x) small))

    count : (p : ℕ) → p < 8 → (p ≡ pool_of_node c x) ⊎ (p ≡ pool_of_node c x → ⊥) → get_or (set met (pool_of_node c x) (get_or met (pool_of_node c x) 0 + 1)) p 0 ≡ count_by (is_of_pool c p) (take (n + 1) seen)
    count p l (inl q) =
        ap (λ k. get_or (set met (pool_of_node c x) (get_or met (pool_of_node c x) 0 + 1)) k 0) q ∙ get_or-set_same met (pool_of_node c x) (get_or met (pool_of_node c x) 0 + 1) 0 within
        ∙ sym one_more ∙ sym (ap (λ k. count_by (is_of_pool c k) (take (n + 1) seen)) q)
    count p l (inr ne) =
        get_or-set_other met (pool_of_node c x) p (get_or met (pool_of_node c x) 0 + 1) 0 ne ∙ s.counted p l
        ∙ sym (count_by_more_no (is_of_pool c p) seen n 0 lt (other (is_of_pool c p (get_or seen n 0)) refl))
      where
        other : (b : Bool) → is_of_pool c p (get_or seen n 0) ≡ b → is_of_pool c p (get_or seen n 0) ≡ false
        other true h = absurd (ne (sym (eqb-true (pool_of_node c (get_or seen n 0)) p h) ∙ ap (pool_of_node c) (sym at)))
        other false h = h

    the_number : number ≡ number_of_node c seen n
    the_number = is ∙ by (nat_eq (pool_of_node c x) 0) refl
      where
        by : (b : Bool) → nat_eq (pool_of_node c x) 0 ≡ b → next_of_pool c met x ≡ number_of_node c seen n
        by true e =
            ap (λ t. if t then 0 else get_or met (pool_of_node c x) 0 + 1) e
            ∙ sym (ap (λ y. number_if (nat_eq (pool_of_node c y) 0) (pool_of_node c y)) (sym at) ∙ ap (λ t. number_if t (pool_of_node c x)) e)
          where
            number_if : Bool → ℕ → ℕ
            number_if t p = if t then 0 else count_by (is_of_pool c p) (take (n + 1) seen)
        by false e =
            ap (λ t. if t then 0 else get_or met (pool_of_node c x) 0 + 1) e ∙ sym one_more
            ∙ sym (ap (λ y. number_if (nat_eq (pool_of_node c y) 0) (pool_of_node c y)) (sym at) ∙ ap (λ t. number_if t (pool_of_node c x)) e)
          where
            number_if : Bool → ℕ → ℕ
            number_if t p = if t then 0 else count_by (is_of_pool c p) (take (n + 1) seen)

    go : (i : ℕ) → i < n + 1 → (i < n) ⊎ (n ≤ i) → get_or (numbers ++ number ∷ []) i 0 ≡ number_of_node c seen i
    go i l (inl h) = let w : i < length numbers = let q = s.many in omega arith in get_or_append_left numbers (number ∷ []) 0 i w ∙ s.numbers_are i h
    go i l (inr h) =
        let q : i ≡ n = omega arith in
        get_or_push numbers number 0 i (s.many ∙ sym q) ∙ the_number ∙ ap (number_of_node c seen) (sym q)

pub met_next : (c : Counts) (seen met met2 numbers numbers2 : List ℕ) (n x number : ℕ) → IsCounting c seen n met numbers → n < length seen → x ≡ get_or seen n 0 → number ≡ next_of_pool c met x → met2 ≡ set met (pool_of_node c x) (get_or met (pool_of_node c x) 0 + 1) → numbers2 ≡ numbers ++ number ∷ [] → IsCounting c seen (n + 1) met2 numbers2
met_next c seen met met2 numbers numbers2 n x number s lt at is moved more = subst (IsCounting c seen (n + 1) met2) (sym more) (met_next_one c seen met met2 numbers n x number s lt at (pool_small c x) is moved)

pub met_all : (c : Counts) (seen met numbers : List ℕ) (n : ℕ) → IsCounting c seen n met numbers → length seen ≤ n → AreNumbersMet c seen numbers
met_all c seen met numbers n s le = record { numbers_are = λ i lt. s.numbers_are i (omega arith) }

-- ---- the numbers of all nodes

pub node_begin : (classes : List (Option ℕ)) (places numbers all : List ℕ) → all ≡ [] → AreNodeNumbers classes places numbers 0 all
node_begin classes places numbers all e = record { many = ap length e; numbers_are = λ x lt. absurd (no x lt) }
  where
    no : (i : ℕ) → i < 0 → ⊥
    no i lt = omega arith

node_next_one : (classes : List (Option ℕ)) (places numbers all : List ℕ) (n number : ℕ) → AreNodeNumbers classes places numbers n all → number ≡ node_number classes places numbers n → AreNodeNumbers classes places numbers (n + 1) (all ++ number ∷ [])
node_next_one classes places numbers all n number s e = record {
  many = length-append all (number ∷ []) ∙ ap (λ k. k + 1) s.many;
  numbers_are = λ x l. go x l (cases_lt x n);
}
  where
    go : (x : ℕ) → x < n + 1 → (x < n) ⊎ (n ≤ x) → get_or (all ++ number ∷ []) x 0 ≡ node_number classes places numbers x
    go x l (inl h) = let w : x < length all = let q = s.many in omega arith in get_or_append_left all (number ∷ []) 0 x w ∙ s.numbers_are x h
    go x l (inr h) =
        let q : x ≡ n = omega arith in
        get_or_push all number 0 x (s.many ∙ sym q) ∙ e ∙ ap (node_number classes places numbers) (sym q)

pub node_next : (classes : List (Option ℕ)) (places numbers all all2 : List ℕ) (n number : ℕ) → AreNodeNumbers classes places numbers n all → number ≡ node_number classes places numbers n → all2 ≡ all ++ number ∷ [] → AreNodeNumbers classes places numbers (n + 1) all2
node_next classes places numbers all all2 n number s e is = subst (AreNodeNumbers classes places numbers (n + 1)) (sym is) (node_next_one classes places numbers all n number s e)

-- a node of a list whose nodes have classes has one
classed_at : (classes : List (Option ℕ)) (xs : List ℕ) (k : ℕ) → AllClassed classes xs → k < length xs → HasClass classes (get_or xs k 0)
classed_at classes [] k h lt = absurd (no k lt)
  where
    no : (i : ℕ) → i < 0 → ⊥
    no i lt = omega arith
classed_at classes (x ∷ xs) zero h lt = h.0
classed_at classes (x ∷ xs) (suc k) h lt = classed_at classes xs k h.1 (omega arith)

among_classed : (classes : List (Option ℕ)) (xs : List ℕ) (y : ℕ) → ((k : ℕ) → k < length xs → HasClass classes (get_or xs k 0)) → IsAmong xs y → HasClass classes y
among_classed classes xs y h a = subst (HasClass classes) a.is (h a.place a.within)

numbered_in : (v : Abc) (heads : List Head) (keys : List Key) (classes : List (Option ℕ)) (seen places met all : List ℕ) (n : ℕ) → AreAlike classes heads (heads_of v) → AreTreeClasses heads (graph_of v) keys classes → AreDistinct keys → AllClassed classes (roots_of v) → AllClassed classes seen → AreClassPlaces classes seen (length seen) places → AreNumbersMet (counts_of v) seen met → AreNodeNumbers classes places met n all → n ≡ length (graph_of v) → NumberNodes v seen all
numbered_in v heads keys classes seen places met all n alike s distinct roots classed p m a many = record { numbers_of = go }
  where
    named : (y : ℕ) → IsNamed v seen y → HasClass classes y
    named y (inl h) = among_classed classes (roots_of v) y (λ k lt. classed_at classes (roots_of v) k roots lt) h
    named y (inr h) =
        let by = classed_at classes seen h.by classed h.within in
        among_classed classes (leads_to (graph_of v) (get_or seen h.by 0)) y (s.closed (get_or seen h.by 0) by.number by.is) h.among

    inside : (y c : ℕ) → tree_class classes y ≡ Some c → y < n
    inside y c e = go2 (cases_lt y (length classes))
      where
        go2 : (y < length classes) ⊎ (length classes ≤ y) → y < n
        go2 (inl lt) = let q = s.len in omega arith
        go2 (inr le) = absurd (some_none (get_or_past classes y None le) e)
          where
            some_none : {x : Option ℕ} → x ≡ None → x ≡ Some c → ⊥
            some_none f g = cc

    go : (i y : ℕ) (t : Tree) → i < length seen → IsNamed v seen y → IsTreeIn v (get_or seen i 0) t → IsTreeIn v y t → get_or all y 0 ≡ number_of_node (counts_of v) seen i
    go i y t lt is_named at here =
        let cy = named y is_named in
        let ci = classed_at classes seen i classed lt in
        let hy = s.tree y cy.number cy.is in
        let hi = s.tree (get_or seen i 0) ci.number ci.is in
        let same : cy.number ≡ ci.number = one_class distinct hy.means hi.means (trees_alike classes heads (heads_of v) (graph_of v) y (get_or seen i 0) t hy.tree hi.tree alike (λ z h. s.closed z h.number h.is) cy ci here at hy.is hi.is) in
        let e : tree_class classes (get_or seen i 0) ≡ Some cy.number = ci.is ∙ ap Some (sym same) in
        a.numbers_are y (inside y cy.number cy.is) ∙ ap (number_of_entry places met) cy.is ∙ ap (λ k. get_or met k 0) (p.places_are i cy.number lt e) ∙ m.numbers_are i lt

pub numbered : (v : Abc) (heads : List Head) (graph : List (List ℕ)) (keys : List Key) (classes : List (Option ℕ)) (roots seen places met all : List ℕ) (c : Counts) (n : ℕ) → c ≡ counts_of v → AreAlike classes heads (heads_of v) → graph ≡ graph_of v → roots ≡ roots_of v → AreTreeClasses heads graph keys classes → AreDistinct keys → AllClassed classes roots → AllClassed classes seen → AreClassPlaces classes seen (length seen) places → AreNumbersMet c seen met → AreNodeNumbers classes places met n all → n ≡ length graph → NumberNodes v seen all
numbered v heads graph keys classes roots seen places met all c n counts e f g s distinct rooted classed p m a many =
    numbered_in v heads keys classes seen places met all n e
    (subst (λ gr. AreTreeClasses heads gr keys classes) f s) distinct
    (subst (AllClassed classes) g rooted) classed p (subst (λ k. AreNumbersMet k seen met) counts m) a (many ∙ ap length f)

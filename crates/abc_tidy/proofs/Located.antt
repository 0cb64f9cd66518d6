-- Where the entries of each pool stand among all.
use Rattle.std.proofs.Common.{◌≡◌, ℕ, ℤ, zero, suc, ◌+◌, ◌-◌, ◌<◌, ◌≤◌, ◌⊎◌, inl, inr, List, [], ◌∷◌, ◌++◌, map, length, get_or, slice_get, option_to_list, nat_eq, nat_le, nat_lt, Bool, true, false, if◌then◌else◌, Some, None, eqb-true, le-leb, leb-true, refl, sym, ap, subst, ◌∙◌, arith, length-append}
use Rattle.std.proofs.Math.Seq.{get_or-append_right}
use Rattle.std.proofs.lemmas.Bool.{cases_lt}
use Rattle.std.proofs.lemmas.List.{get_or_append_left, length-map}
use Rattle.abc_tidy_refs.specs.declared.nodes.Counts.{Counts}
use Rattle.abc_tidy_refs.specs.Nodes.{counts_of}
use Rattle.abc_file_types.specs.declared.names.Multiname.{Multiname}
use Rattle.abc_file_types.specs.declared.names.Namespace.{Namespace}
use Rattle.abc_file_types.specs.declared.tables.Abc.{Abc}
use Rattle.abc_file_types.specs.declared.tables.Eight.{Eight}
use Rattle.abc_tidy_entries.specs.NewPools.{picked_at}
use Rattle.abc_tidy_entries.specs.Visited.{pool_of_node}
use Rattle.abc_tidy_entries.proofs.Picked.{a_pick, no_pick}
use Rattle.abc_tidy.specs.Things.{Entry, NoEntry, IntEntry, UIntEntry, DoubleEntry, TextEntry, SpaceEntry, SetEntry, NameEntry, entries, entry_at, space_entries}

below_zero : (i : ℕ) → i < 0 → ⊥
below_zero i l = omega arith

-- ---- how many entries there are up to each pool

abbrev pub up_to_ints : Abc → List Entry
up_to_ints v = (NoEntry ∷ []) ++ map IntEntry v.ints

abbrev pub up_to_uints : Abc → List Entry
up_to_uints v = up_to_ints v ++ map UIntEntry v.uints

abbrev pub up_to_doubles : Abc → List Entry
up_to_doubles v = up_to_uints v ++ map DoubleEntry v.doubles

abbrev pub up_to_texts : Abc → List Entry
up_to_texts v = up_to_doubles v ++ map TextEntry v.strings

abbrev pub up_to_spaces : Abc → List Entry
up_to_spaces v = up_to_texts v ++ space_entries 0 v.namespaces

abbrev pub up_to_sets : Abc → List Entry
up_to_sets v = up_to_spaces v ++ map SetEntry v.sets

length-entries : (place : ℕ) (ns : List Namespace) → length (space_entries place ns) ≡ length ns
length-entries place [] = refl
length-entries place (n ∷ ns) = ap suc (length-entries (place + 1) ns)

pub many_ints : (v : Abc) → length (up_to_ints v) ≡ suc (length v.ints)
many_ints v = ap suc (length-map v.ints IntEntry)

pub many_uints : (v : Abc) → length (up_to_uints v) ≡ suc (length v.ints + length v.uints)
many_uints v = let a = many_ints v in let b = length-append (up_to_ints v) (map UIntEntry v.uints) in let c = length-map v.uints UIntEntry in omega (arith, a, b, c)

pub many_doubles : (v : Abc) → length (up_to_doubles v) ≡ suc (length v.ints + length v.uints + length v.doubles)
many_doubles v = let a = many_uints v in let b = length-append (up_to_uints v) (map DoubleEntry v.doubles) in let c = length-map v.doubles DoubleEntry in omega (arith, a, b, c)

pub many_texts : (v : Abc) → length (up_to_texts v) ≡ suc (length v.ints + length v.uints + length v.doubles + length v.strings)
many_texts v = let a = many_doubles v in let b = length-append (up_to_doubles v) (map TextEntry v.strings) in let c = length-map v.strings TextEntry in omega (arith, a, b, c)

pub many_spaces : (v : Abc) → length (up_to_spaces v) ≡ suc (length v.ints + length v.uints + length v.doubles + length v.strings + length v.namespaces)
many_spaces v = let a = many_texts v in let b = length-append (up_to_texts v) (space_entries 0 v.namespaces) in let c = length-entries 0 v.namespaces in omega (arith, a, b, c)

pub many_sets : (v : Abc) → length (up_to_sets v) ≡ suc (length v.ints + length v.uints + length v.doubles + length v.strings + length v.namespaces + length v.sets)
many_sets v = let a = many_spaces v in let b = length-append (up_to_spaces v) (map SetEntry v.sets) in let c = length-map v.sets SetEntry in omega (arith, a, b, c)

-- ---- where an entry stands

pub data Located (v : Abc) (x : ℕ) : Entry → Type 0 where
  AtNone : x ≡ 0 → Located v x NoEntry
  AtInt : {z : ℤ} (j : ℕ) → x ≡ suc j → j < length v.ints → slice_get v.ints j ≡ Some z → Located v x (IntEntry z)
  AtUInt : {z : ℕ} (j : ℕ) → x ≡ length v.ints + suc j → j < length v.uints → slice_get v.uints j ≡ Some z → Located v x (UIntEntry z)
  AtDouble : {z : Eight} (j : ℕ) → x ≡ length v.ints + length v.uints + suc j → j < length v.doubles → slice_get v.doubles j ≡ Some z → Located v x (DoubleEntry z)
  AtText : {z : List ℕ} (j : ℕ) → x ≡ length v.ints + length v.uints + length v.doubles + suc j → j < length v.strings → slice_get v.strings j ≡ Some z → Located v x (TextEntry z)
  AtSpace : {z : Namespace} (j : ℕ) → x ≡ length v.ints + length v.uints + length v.doubles + length v.strings + suc j → j < length v.namespaces → slice_get v.namespaces j ≡ Some z → Located v x (SpaceEntry j z)
  AtSet : {z : List ℕ} (j : ℕ) → x ≡ length v.ints + length v.uints + length v.doubles + length v.strings + length v.namespaces + suc j → j < length v.sets → slice_get v.sets j ≡ Some z → Located v x (SetEntry z)
  AtName : {z : Multiname} (j : ℕ) → x ≡ length v.ints + length v.uints + length v.doubles + length v.strings + length v.namespaces + length v.sets + suc j → j < length v.names → slice_get v.names j ≡ Some z → Located v x (NameEntry z)

-- a place of two lists in a row
pub parted : (a b : List Entry) (x : ℕ) → x < length (a ++ b) → ((x < length a) × (get_or (a ++ b) x NoEntry ≡ get_or a x NoEntry)) ⊎ ((j : ℕ) × (x ≡ length a + j) × (j < length b) × (get_or (a ++ b) x NoEntry ≡ get_or b j NoEntry))
parted a b x lt = go (cases_lt x (length a))
  where
    go : (x < length a) ⊎ (length a ≤ x) → ((x < length a) × (get_or (a ++ b) x NoEntry ≡ get_or a x NoEntry)) ⊎ ((j : ℕ) × (x ≡ length a + j) × (j < length b) × (get_or (a ++ b) x NoEntry ≡ get_or b j NoEntry))
    go (inl l) = inl (l, get_or_append_left a b NoEntry x l)
    go (inr le) =
        let many : length (a ++ b) ≡ length a + length b = length-append a b in
        let at : x ≡ length a + (x - length a) = omega arith in
        let l : x - length a < length b = omega (arith, many, lt, le) in
        inr (x - length a, at, l, get_or-append_right a b x NoEntry le)

pub got : {A : Type 0} (c : A → Entry) (xs : List A) (j : ℕ) → j < length (map c xs) → (z : A) × (slice_get xs j ≡ Some z) × (get_or (map c xs) j NoEntry ≡ c z)
got c [] j lt = absurd (below_zero j lt)
got c (x ∷ xs) zero lt = (x, refl, refl)
got c (x ∷ xs) (suc j) lt = got c xs j (omega arith)

got_space : (place : ℕ) (ns : List Namespace) (j : ℕ) → j < length (space_entries place ns) → (z : Namespace) × (slice_get ns j ≡ Some z) × (get_or (space_entries place ns) j NoEntry ≡ SpaceEntry (place + j) z)
got_space place [] j lt = absurd (below_zero j lt)
got_space place (n ∷ ns) zero lt = let q : place ≡ place + zero = omega arith in (n, refl, ap (λ p. SpaceEntry p n) q)
got_space place (n ∷ ns) (suc j) lt =
    let r = got_space (place + 1) ns j (omega arith) in
    let q : place + 1 + j ≡ place + suc j = omega arith in
    (r.0, r.1, r.2 ∙ ap (λ p. SpaceEntry p r.0) q)

in_ints : (v : Abc) (x : ℕ) → x < length (up_to_ints v) → Located v x (get_or (up_to_ints v) x NoEntry)
in_ints v x lt = go (parted (NoEntry ∷ []) (map IntEntry v.ints) x lt)
  where
    go : ((x < length (NoEntry ∷ [])) × (get_or (up_to_ints v) x NoEntry ≡ get_or (NoEntry ∷ []) x NoEntry)) ⊎ ((j : ℕ) × (x ≡ length (NoEntry ∷ []) + j) × (j < length (map IntEntry v.ints)) × (get_or (up_to_ints v) x NoEntry ≡ get_or (map IntEntry v.ints) j NoEntry)) → Located v x (get_or (up_to_ints v) x NoEntry)
    go (inl (l, e)) =
        let z : x ≡ 0 = omega (arith, l) in
        subst (Located v x) (sym (e ∙ ap (λ k. get_or (NoEntry ∷ []) k NoEntry) z)) (AtNone z)
    go (inr (j, at, l, e)) =
        let r = got IntEntry v.ints j l in
        subst (Located v x) (sym (e ∙ r.2)) (AtInt j (omega (arith, at)) (omega (arith, l, length-map v.ints IntEntry)) r.1)

in_uints : (v : Abc) (x : ℕ) → x < length (up_to_uints v) → Located v x (get_or (up_to_uints v) x NoEntry)
in_uints v x lt = go (parted (up_to_ints v) (map UIntEntry v.uints) x lt)
  where
    go : ((x < length (up_to_ints v)) × (get_or (up_to_uints v) x NoEntry ≡ get_or (up_to_ints v) x NoEntry)) ⊎ ((j : ℕ) × (x ≡ length (up_to_ints v) + j) × (j < length (map UIntEntry v.uints)) × (get_or (up_to_uints v) x NoEntry ≡ get_or (map UIntEntry v.uints) j NoEntry)) → Located v x (get_or (up_to_uints v) x NoEntry)
    go (inl (l, e)) = subst (Located v x) (sym e) (in_ints v x l)
    go (inr (j, at, l, e)) =
        let r = got UIntEntry v.uints j l in
        subst (Located v x) (sym (e ∙ r.2)) (AtUInt j (omega (arith, at, many_ints v)) (omega (arith, l, length-map v.uints UIntEntry)) r.1)

in_doubles : (v : Abc) (x : ℕ) → x < length (up_to_doubles v) → Located v x (get_or (up_to_doubles v) x NoEntry)
in_doubles v x lt = go (parted (up_to_uints v) (map DoubleEntry v.doubles) x lt)
  where
    go : ((x < length (up_to_uints v)) × (get_or (up_to_doubles v) x NoEntry ≡ get_or (up_to_uints v) x NoEntry)) ⊎ ((j : ℕ) × (x ≡ length (up_to_uints v) + j) × (j < length (map DoubleEntry v.doubles)) × (get_or (up_to_doubles v) x NoEntry ≡ get_or (map DoubleEntry v.doubles) j NoEntry)) → Located v x (get_or (up_to_doubles v) x NoEntry)
    go (inl (l, e)) = subst (Located v x) (sym e) (in_uints v x l)
    go (inr (j, at, l, e)) =
        let r = got DoubleEntry v.doubles j l in
        subst (Located v x) (sym (e ∙ r.2)) (AtDouble j (omega (arith, at, many_uints v)) (omega (arith, l, length-map v.doubles DoubleEntry)) r.1)

in_texts : (v : Abc) (x : ℕ) → x < length (up_to_texts v) → Located v x (get_or (up_to_texts v) x NoEntry)
in_texts v x lt = go (parted (up_to_doubles v) (map TextEntry v.strings) x lt)
  where
    go : ((x < length (up_to_doubles v)) × (get_or (up_to_texts v) x NoEntry ≡ get_or (up_to_doubles v) x NoEntry)) ⊎ ((j : ℕ) × (x ≡ length (up_to_doubles v) + j) × (j < length (map TextEntry v.strings)) × (get_or (up_to_texts v) x NoEntry ≡ get_or (map TextEntry v.strings) j NoEntry)) → Located v x (get_or (up_to_texts v) x NoEntry)
    go (inl (l, e)) = subst (Located v x) (sym e) (in_doubles v x l)
    go (inr (j, at, l, e)) =
        let r = got TextEntry v.strings j l in
        subst (Located v x) (sym (e ∙ r.2)) (AtText j (omega (arith, at, many_doubles v)) (omega (arith, l, length-map v.strings TextEntry)) r.1)

in_spaces : (v : Abc) (x : ℕ) → x < length (up_to_spaces v) → Located v x (get_or (up_to_spaces v) x NoEntry)
in_spaces v x lt = go (parted (up_to_texts v) (space_entries 0 v.namespaces) x lt)
  where
    go : ((x < length (up_to_texts v)) × (get_or (up_to_spaces v) x NoEntry ≡ get_or (up_to_texts v) x NoEntry)) ⊎ ((j : ℕ) × (x ≡ length (up_to_texts v) + j) × (j < length (space_entries 0 v.namespaces)) × (get_or (up_to_spaces v) x NoEntry ≡ get_or (space_entries 0 v.namespaces) j NoEntry)) → Located v x (get_or (up_to_spaces v) x NoEntry)
    go (inl (l, e)) = subst (Located v x) (sym e) (in_texts v x l)
    go (inr (j, at, l, e)) =
        let r = got_space 0 v.namespaces j l in
        let q : 0 + j ≡ j = omega arith in
        subst (Located v x) (sym (e ∙ r.2 ∙ ap (λ p. SpaceEntry p r.0) q)) (AtSpace j (omega (arith, at, many_texts v)) (omega (arith, l, length-entries 0 v.namespaces)) r.1)

in_sets : (v : Abc) (x : ℕ) → x < length (up_to_sets v) → Located v x (get_or (up_to_sets v) x NoEntry)
in_sets v x lt = go (parted (up_to_spaces v) (map SetEntry v.sets) x lt)
  where
    go : ((x < length (up_to_spaces v)) × (get_or (up_to_sets v) x NoEntry ≡ get_or (up_to_spaces v) x NoEntry)) ⊎ ((j : ℕ) × (x ≡ length (up_to_spaces v) + j) × (j < length (map SetEntry v.sets)) × (get_or (up_to_sets v) x NoEntry ≡ get_or (map SetEntry v.sets) j NoEntry)) → Located v x (get_or (up_to_sets v) x NoEntry)
    go (inl (l, e)) = subst (Located v x) (sym e) (in_spaces v x l)
    go (inr (j, at, l, e)) =
        let r = got SetEntry v.sets j l in
        subst (Located v x) (sym (e ∙ r.2)) (AtSet j (omega (arith, at, many_spaces v)) (omega (arith, l, length-map v.sets SetEntry)) r.1)

pub locate : (v : Abc) (x : ℕ) → x < length (entries v) → Located v x (entry_at v x)
locate v x lt = go (parted (up_to_sets v) (map NameEntry v.names) x lt)
  where
    go : ((x < length (up_to_sets v)) × (get_or (entries v) x NoEntry ≡ get_or (up_to_sets v) x NoEntry)) ⊎ ((j : ℕ) × (x ≡ length (up_to_sets v) + j) × (j < length (map NameEntry v.names)) × (get_or (entries v) x NoEntry ≡ get_or (map NameEntry v.names) j NoEntry)) → Located v x (entry_at v x)
    go (inl (l, e)) = subst (Located v x) (sym e) (in_sets v x l)
    go (inr (j, at, l, e)) =
        let r = got NameEntry v.names j l in
        subst (Located v x) (sym (e ∙ r.2)) (AtName j (omega (arith, at, many_sets v)) (omega (arith, l, length-map v.names NameEntry)) r.1)

-- ---- the pool of a node is that of its entry

abbrev pub entry_pool : Entry → ℕ
entry_pool NoEntry = 0
entry_pool (IntEntry x) = 1
entry_pool (UIntEntry x) = 2
entry_pool (DoubleEntry x) = 3
entry_pool (TextEntry x) = 4
entry_pool (SpaceEntry place n) = 5
entry_pool (SetEntry spaces) = 6
entry_pool (NameEntry m) = 7

pub not_zero : (x : ℕ) → 0 < x → nat_eq x 0 ≡ false
not_zero x lt = by (nat_eq x 0) refl
  where
    no : x ≡ 0 → ⊥
    no e = omega (arith, lt, e)

    by : (b : Bool) → nat_eq x 0 ≡ b → nat_eq x 0 ≡ false
    by true e = absurd (no (eqb-true x 0 e))
    by false e = e

not_le : (x n : ℕ) → n < x → nat_le x n ≡ false
not_le x n lt = by (nat_le x n) refl
  where
    no : x ≤ n → ⊥
    no le = omega (arith, lt, le)

    by : (b : Bool) → nat_le x n ≡ b → nat_le x n ≡ false
    by true e = absurd (no (leb-true x n e))
    by false e = e

pub pool_at : (v : Abc) (x : ℕ) (e : Entry) → Located v x e → pool_of_node (counts_of v) x ≡ entry_pool e
pool_at v x e (AtNone at) = ap (pool_of_node (counts_of v)) at
pool_at v x e (AtInt {z = z} j at lt is) =
    let e0 = not_zero x (omega (arith, at)) in
    let e1 = le-leb x (length v.ints) (omega (arith, at, lt)) in
    rw e0 (rw e1 refl)
pool_at v x e (AtUInt {z = z} j at lt is) =
    let e0 = not_zero x (omega (arith, at)) in
    let e1 = not_le x (length v.ints) (omega (arith, at)) in
    let e2 = le-leb x (length v.ints + length v.uints) (omega (arith, at, lt)) in
    rw e0 (rw e1 (rw e2 refl))
pool_at v x e (AtDouble {z = z} j at lt is) =
    let e0 = not_zero x (omega (arith, at)) in
    let e1 = not_le x (length v.ints) (omega (arith, at)) in
    let e2 = not_le x (length v.ints + length v.uints) (omega (arith, at)) in
    let e3 = le-leb x (length v.ints + length v.uints + length v.doubles) (omega (arith, at, lt)) in
    rw e0 (rw e1 (rw e2 (rw e3 refl)))
pool_at v x e (AtText {z = z} j at lt is) =
    let e0 = not_zero x (omega (arith, at)) in
    let e1 = not_le x (length v.ints) (omega (arith, at)) in
    let e2 = not_le x (length v.ints + length v.uints) (omega (arith, at)) in
    let e3 = not_le x (length v.ints + length v.uints + length v.doubles) (omega (arith, at)) in
    let e4 = le-leb x (length v.ints + length v.uints + length v.doubles + length v.strings) (omega (arith, at, lt)) in
    rw e0 (rw e1 (rw e2 (rw e3 (rw e4 refl))))
pool_at v x e (AtSpace {z = z} j at lt is) =
    let e0 = not_zero x (omega (arith, at)) in
    let e1 = not_le x (length v.ints) (omega (arith, at)) in
    let e2 = not_le x (length v.ints + length v.uints) (omega (arith, at)) in
    let e3 = not_le x (length v.ints + length v.uints + length v.doubles) (omega (arith, at)) in
    let e4 = not_le x (length v.ints + length v.uints + length v.doubles + length v.strings) (omega (arith, at)) in
    let e5 = le-leb x (length v.ints + length v.uints + length v.doubles + length v.strings + length v.namespaces) (omega (arith, at, lt)) in
    rw e0 (rw e1 (rw e2 (rw e3 (rw e4 (rw e5 refl)))))
pool_at v x e (AtSet {z = z} j at lt is) =
    let e0 = not_zero x (omega (arith, at)) in
    let e1 = not_le x (length v.ints) (omega (arith, at)) in
    let e2 = not_le x (length v.ints + length v.uints) (omega (arith, at)) in
    let e3 = not_le x (length v.ints + length v.uints + length v.doubles) (omega (arith, at)) in
    let e4 = not_le x (length v.ints + length v.uints + length v.doubles + length v.strings) (omega (arith, at)) in
    let e5 = not_le x (length v.ints + length v.uints + length v.doubles + length v.strings + length v.namespaces) (omega (arith, at)) in
    let e6 = le-leb x (length v.ints + length v.uints + length v.doubles + length v.strings + length v.namespaces + length v.sets) (omega (arith, at, lt)) in
    rw e0 (rw e1 (rw e2 (rw e3 (rw e4 (rw e5 (rw e6 refl))))))
pool_at v x e (AtName {z = z} j at lt is) =
    let e0 = not_zero x (omega (arith, at)) in
    let e1 = not_le x (length v.ints) (omega (arith, at)) in
    let e2 = not_le x (length v.ints + length v.uints) (omega (arith, at)) in
    let e3 = not_le x (length v.ints + length v.uints + length v.doubles) (omega (arith, at)) in
    let e4 = not_le x (length v.ints + length v.uints + length v.doubles + length v.strings) (omega (arith, at)) in
    let e5 = not_le x (length v.ints + length v.uints + length v.doubles + length v.strings + length v.namespaces) (omega (arith, at)) in
    let e6 = not_le x (length v.ints + length v.uints + length v.doubles + length v.strings + length v.namespaces + length v.sets) (omega (arith, at)) in
    rw e0 (rw e1 (rw e2 (rw e3 (rw e4 (rw e5 (rw e6 refl))))))

-- ---- the entry that is picked

past : {A : Type 0} (xs : List A) (i : ℕ) → length xs ≤ i → slice_get xs i ≡ None
past [] i le = refl
past (x ∷ xs) zero le = absurd (below_zero (length xs) (omega arith))
past (x ∷ xs) (suc i) le = past xs i (omega arith)

pub picked_low : {A : Type 0} (before x : ℕ) (xs : List A) → x ≤ before → picked_at before xs x ≡ []
picked_low before x xs le = sym (no_pick before x xs le)

pub picked_high : {A : Type 0} (before x : ℕ) (xs : List A) → before + length xs < x → picked_at before xs x ≡ []
picked_high before x xs lt = sym (a_pick before x xs (omega arith)) ∙ ap option_to_list (past xs (x - before - 1) (omega arith))

pub picked_here : {A : Type 0} (before x : ℕ) (xs : List A) (j : ℕ) (z : A) → x ≡ before + suc j → slice_get xs j ≡ Some z → picked_at before xs x ≡ z ∷ []
picked_here before x xs j z at is =
    let q : x - before - 1 ≡ j = omega arith in
    sym (a_pick before x xs (omega arith)) ∙ ap option_to_list (ap (slice_get xs) q ∙ is)

abbrev pub ints_in : Entry → List ℤ
ints_in NoEntry = []
ints_in (IntEntry z) = z ∷ []
ints_in (UIntEntry z) = []
ints_in (DoubleEntry z) = []
ints_in (TextEntry z) = []
ints_in (SpaceEntry place z) = []
ints_in (SetEntry z) = []
ints_in (NameEntry z) = []

pub picked_ints : (v : Abc) (x : ℕ) (e : Entry) → Located v x e → picked_at 0 v.ints x ≡ ints_in e
picked_ints v x e (AtNone at) = picked_low 0 x v.ints (omega (arith, at))
picked_ints v x e (AtInt {z = z} j at lt is) = picked_here 0 x v.ints j z (omega (arith, at)) is
picked_ints v x e (AtUInt {z = z} j at lt is) = picked_high 0 x v.ints (omega (arith, at))
picked_ints v x e (AtDouble {z = z} j at lt is) = picked_high 0 x v.ints (omega (arith, at))
picked_ints v x e (AtText {z = z} j at lt is) = picked_high 0 x v.ints (omega (arith, at))
picked_ints v x e (AtSpace {z = z} j at lt is) = picked_high 0 x v.ints (omega (arith, at))
picked_ints v x e (AtSet {z = z} j at lt is) = picked_high 0 x v.ints (omega (arith, at))
picked_ints v x e (AtName {z = z} j at lt is) = picked_high 0 x v.ints (omega (arith, at))

abbrev pub uints_in : Entry → List ℕ
uints_in NoEntry = []
uints_in (IntEntry z) = []
uints_in (UIntEntry z) = z ∷ []
uints_in (DoubleEntry z) = []
uints_in (TextEntry z) = []
uints_in (SpaceEntry place z) = []
uints_in (SetEntry z) = []
uints_in (NameEntry z) = []

pub picked_uints : (v : Abc) (x : ℕ) (e : Entry) → Located v x e → picked_at (length v.ints) v.uints x ≡ uints_in e
picked_uints v x e (AtNone at) = picked_low (length v.ints) x v.uints (omega (arith, at))
picked_uints v x e (AtInt {z = z} j at lt is) = picked_low (length v.ints) x v.uints (omega (arith, at, lt))
picked_uints v x e (AtUInt {z = z} j at lt is) = picked_here (length v.ints) x v.uints j z (omega (arith, at)) is
picked_uints v x e (AtDouble {z = z} j at lt is) = picked_high (length v.ints) x v.uints (omega (arith, at))
picked_uints v x e (AtText {z = z} j at lt is) = picked_high (length v.ints) x v.uints (omega (arith, at))
picked_uints v x e (AtSpace {z = z} j at lt is) = picked_high (length v.ints) x v.uints (omega (arith, at))
picked_uints v x e (AtSet {z = z} j at lt is) = picked_high (length v.ints) x v.uints (omega (arith, at))
picked_uints v x e (AtName {z = z} j at lt is) = picked_high (length v.ints) x v.uints (omega (arith, at))

abbrev pub doubles_in : Entry → List Eight
doubles_in NoEntry = []
doubles_in (IntEntry z) = []
doubles_in (UIntEntry z) = []
doubles_in (DoubleEntry z) = z ∷ []
doubles_in (TextEntry z) = []
doubles_in (SpaceEntry place z) = []
doubles_in (SetEntry z) = []
doubles_in (NameEntry z) = []

pub picked_doubles : (v : Abc) (x : ℕ) (e : Entry) → Located v x e → picked_at (length v.ints + length v.uints) v.doubles x ≡ doubles_in e
picked_doubles v x e (AtNone at) = picked_low (length v.ints + length v.uints) x v.doubles (omega (arith, at))
picked_doubles v x e (AtInt {z = z} j at lt is) = picked_low (length v.ints + length v.uints) x v.doubles (omega (arith, at, lt))
picked_doubles v x e (AtUInt {z = z} j at lt is) = picked_low (length v.ints + length v.uints) x v.doubles (omega (arith, at, lt))
picked_doubles v x e (AtDouble {z = z} j at lt is) = picked_here (length v.ints + length v.uints) x v.doubles j z (omega (arith, at)) is
picked_doubles v x e (AtText {z = z} j at lt is) = picked_high (length v.ints + length v.uints) x v.doubles (omega (arith, at))
picked_doubles v x e (AtSpace {z = z} j at lt is) = picked_high (length v.ints + length v.uints) x v.doubles (omega (arith, at))
picked_doubles v x e (AtSet {z = z} j at lt is) = picked_high (length v.ints + length v.uints) x v.doubles (omega (arith, at))
picked_doubles v x e (AtName {z = z} j at lt is) = picked_high (length v.ints + length v.uints) x v.doubles (omega (arith, at))

abbrev pub strings_in : Entry → List (List ℕ)
strings_in NoEntry = []
strings_in (IntEntry z) = []
strings_in (UIntEntry z) = []
strings_in (DoubleEntry z) = []
strings_in (TextEntry z) = z ∷ []
strings_in (SpaceEntry place z) = []
strings_in (SetEntry z) = []
strings_in (NameEntry z) = []

pub picked_strings : (v : Abc) (x : ℕ) (e : Entry) → Located v x e → picked_at (length v.ints + length v.uints + length v.doubles) v.strings x ≡ strings_in e
picked_strings v x e (AtNone at) = picked_low (length v.ints + length v.uints + length v.doubles) x v.strings (omega (arith, at))
picked_strings v x e (AtInt {z = z} j at lt is) = picked_low (length v.ints + length v.uints + length v.doubles) x v.strings (omega (arith, at, lt))
picked_strings v x e (AtUInt {z = z} j at lt is) = picked_low (length v.ints + length v.uints + length v.doubles) x v.strings (omega (arith, at, lt))
picked_strings v x e (AtDouble {z = z} j at lt is) = picked_low (length v.ints + length v.uints + length v.doubles) x v.strings (omega (arith, at, lt))
picked_strings v x e (AtText {z = z} j at lt is) = picked_here (length v.ints + length v.uints + length v.doubles) x v.strings j z (omega (arith, at)) is
picked_strings v x e (AtSpace {z = z} j at lt is) = picked_high (length v.ints + length v.uints + length v.doubles) x v.strings (omega (arith, at))
picked_strings v x e (AtSet {z = z} j at lt is) = picked_high (length v.ints + length v.uints + length v.doubles) x v.strings (omega (arith, at))
picked_strings v x e (AtName {z = z} j at lt is) = picked_high (length v.ints + length v.uints + length v.doubles) x v.strings (omega (arith, at))

abbrev pub namespaces_in : Entry → List Namespace
namespaces_in NoEntry = []
namespaces_in (IntEntry z) = []
namespaces_in (UIntEntry z) = []
namespaces_in (DoubleEntry z) = []
namespaces_in (TextEntry z) = []
namespaces_in (SpaceEntry place z) = z ∷ []
namespaces_in (SetEntry z) = []
namespaces_in (NameEntry z) = []

pub picked_namespaces : (v : Abc) (x : ℕ) (e : Entry) → Located v x e → picked_at (length v.ints + length v.uints + length v.doubles + length v.strings) v.namespaces x ≡ namespaces_in e
picked_namespaces v x e (AtNone at) = picked_low (length v.ints + length v.uints + length v.doubles + length v.strings) x v.namespaces (omega (arith, at))
picked_namespaces v x e (AtInt {z = z} j at lt is) = picked_low (length v.ints + length v.uints + length v.doubles + length v.strings) x v.namespaces (omega (arith, at, lt))
picked_namespaces v x e (AtUInt {z = z} j at lt is) = picked_low (length v.ints + length v.uints + length v.doubles + length v.strings) x v.namespaces (omega (arith, at, lt))
picked_namespaces v x e (AtDouble {z = z} j at lt is) = picked_low (length v.ints + length v.uints + length v.doubles + length v.strings) x v.namespaces (omega (arith, at, lt))
picked_namespaces v x e (AtText {z = z} j at lt is) = picked_low (length v.ints + length v.uints + length v.doubles + length v.strings) x v.namespaces (omega (arith, at, lt))
picked_namespaces v x e (AtSpace {z = z} j at lt is) = picked_here (length v.ints + length v.uints + length v.doubles + length v.strings) x v.namespaces j z (omega (arith, at)) is
picked_namespaces v x e (AtSet {z = z} j at lt is) = picked_high (length v.ints + length v.uints + length v.doubles + length v.strings) x v.namespaces (omega (arith, at))
picked_namespaces v x e (AtName {z = z} j at lt is) = picked_high (length v.ints + length v.uints + length v.doubles + length v.strings) x v.namespaces (omega (arith, at))

abbrev pub sets_in : Entry → List (List ℕ)
sets_in NoEntry = []
sets_in (IntEntry z) = []
sets_in (UIntEntry z) = []
sets_in (DoubleEntry z) = []
sets_in (TextEntry z) = []
sets_in (SpaceEntry place z) = []
sets_in (SetEntry z) = z ∷ []
sets_in (NameEntry z) = []

pub picked_sets : (v : Abc) (x : ℕ) (e : Entry) → Located v x e → picked_at (length v.ints + length v.uints + length v.doubles + length v.strings + length v.namespaces) v.sets x ≡ sets_in e
picked_sets v x e (AtNone at) = picked_low (length v.ints + length v.uints + length v.doubles + length v.strings + length v.namespaces) x v.sets (omega (arith, at))
picked_sets v x e (AtInt {z = z} j at lt is) = picked_low (length v.ints + length v.uints + length v.doubles + length v.strings + length v.namespaces) x v.sets (omega (arith, at, lt))
picked_sets v x e (AtUInt {z = z} j at lt is) = picked_low (length v.ints + length v.uints + length v.doubles + length v.strings + length v.namespaces) x v.sets (omega (arith, at, lt))
picked_sets v x e (AtDouble {z = z} j at lt is) = picked_low (length v.ints + length v.uints + length v.doubles + length v.strings + length v.namespaces) x v.sets (omega (arith, at, lt))
picked_sets v x e (AtText {z = z} j at lt is) = picked_low (length v.ints + length v.uints + length v.doubles + length v.strings + length v.namespaces) x v.sets (omega (arith, at, lt))
picked_sets v x e (AtSpace {z = z} j at lt is) = picked_low (length v.ints + length v.uints + length v.doubles + length v.strings + length v.namespaces) x v.sets (omega (arith, at, lt))
picked_sets v x e (AtSet {z = z} j at lt is) = picked_here (length v.ints + length v.uints + length v.doubles + length v.strings + length v.namespaces) x v.sets j z (omega (arith, at)) is
picked_sets v x e (AtName {z = z} j at lt is) = picked_high (length v.ints + length v.uints + length v.doubles + length v.strings + length v.namespaces) x v.sets (omega (arith, at))

abbrev pub names_in : Entry → List Multiname
names_in NoEntry = []
names_in (IntEntry z) = []
names_in (UIntEntry z) = []
names_in (DoubleEntry z) = []
names_in (TextEntry z) = []
names_in (SpaceEntry place z) = []
names_in (SetEntry z) = []
names_in (NameEntry z) = z ∷ []

pub picked_names : (v : Abc) (x : ℕ) (e : Entry) → Located v x e → picked_at (length v.ints + length v.uints + length v.doubles + length v.strings + length v.namespaces + length v.sets) v.names x ≡ names_in e
picked_names v x e (AtNone at) = picked_low (length v.ints + length v.uints + length v.doubles + length v.strings + length v.namespaces + length v.sets) x v.names (omega (arith, at))
picked_names v x e (AtInt {z = z} j at lt is) = picked_low (length v.ints + length v.uints + length v.doubles + length v.strings + length v.namespaces + length v.sets) x v.names (omega (arith, at, lt))
picked_names v x e (AtUInt {z = z} j at lt is) = picked_low (length v.ints + length v.uints + length v.doubles + length v.strings + length v.namespaces + length v.sets) x v.names (omega (arith, at, lt))
picked_names v x e (AtDouble {z = z} j at lt is) = picked_low (length v.ints + length v.uints + length v.doubles + length v.strings + length v.namespaces + length v.sets) x v.names (omega (arith, at, lt))
picked_names v x e (AtText {z = z} j at lt is) = picked_low (length v.ints + length v.uints + length v.doubles + length v.strings + length v.namespaces + length v.sets) x v.names (omega (arith, at, lt))
picked_names v x e (AtSpace {z = z} j at lt is) = picked_low (length v.ints + length v.uints + length v.doubles + length v.strings + length v.namespaces + length v.sets) x v.names (omega (arith, at, lt))
picked_names v x e (AtSet {z = z} j at lt is) = picked_low (length v.ints + length v.uints + length v.doubles + length v.strings + length v.namespaces + length v.sets) x v.names (omega (arith, at, lt))
picked_names v x e (AtName {z = z} j at lt is) = picked_here (length v.ints + length v.uints + length v.doubles + length v.strings + length v.namespaces + length v.sets) x v.names j z (omega (arith, at)) is

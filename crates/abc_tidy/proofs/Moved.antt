-- The node of an index is where the entry of that index stands, and where a row puts its entry.
use Rattle.std.proofs.Common.{◌≡◌, ℕ, ℤ, zero, suc, ◌+◌, ◌-◌, ◌<◌, ◌≤◌, ◌⊎◌, inl, inr, List, [], ◌∷◌, ◌++◌, map, length, get_or, slice_get, flat_map, take, count_by, cond, nat_eq, nat_le, Bool, true, false, if◌then◌else◌, Some, None, unwrap_or, eqb-true, le-leb, leb-true, refl, sym, ap, subst, ◌∙◌, arith, length-append}
use Rattle.std.proofs.lemmas.Bool.{cases_lt}
use Rattle.std.proofs.lemmas.List.{length-map}
use Rattle.abc_tidy_refs.specs.declared.nodes.Counts.{Counts}
use Rattle.abc_tidy_refs.specs.Nodes.{counts_of, node_in_pool, node_of, set_node}
use Rattle.abc_file_types.specs.declared.names.Multiname.{Multiname}
use Rattle.abc_file_types.specs.declared.names.MultinameKind.{MultinameKind}
use Rattle.abc_file_types.specs.declared.names.Namespace.{Namespace}
use Rattle.abc_file_types.specs.declared.names.NsKind.{NsKind}
use Rattle.abc_file_types.specs.declared.opcodes.Pool.TheVariants as pools
use Rattle.abc_file_types.specs.declared.tables.Abc.{Abc}
use Rattle.abc_file_types.specs.declared.tables.Eight.{Eight}
use Rattle.abc_tidy.specs.Things.{Entry, NoEntry, IntEntry, UIntEntry, DoubleEntry, TextEntry, SpaceEntry, SetEntry, NameEntry, EntryLabel, Zero, Int, UInt, Double, Text, Space, Set, Name, entries, entry_at, label_of_entry}
use Rattle.abc_tidy.proofs.Distinct.{number_in_pool}
use Rattle.abc_tidy.proofs.Located.{Located, AtNone, AtInt, AtUInt, AtDouble, AtText, AtSpace, AtSet, AtName, locate, many_sets, not_zero, up_to_sets}
use Rattle.abc_tidy.proofs.Rows.{Row, count_cons, label_pool, made_doubles, made_ints, made_name, made_names, made_sets, made_spaces, made_strings, made_uints, number_among_pools}

below_zero : (i : ℕ) → i < 0 → ⊥
below_zero i l = omega arith

zero_plus : (j : ℕ) → 0 + suc j ≡ suc j
zero_plus j = omega arith

less : (m : ℕ) → m ≡ suc m - 1
less m = omega arith

-- ---- the entry at the place of a pool

ints_located : (v : Abc) (x j : ℕ) (e : Entry) → Located v x e → x ≡ suc j → j < length v.ints → (z : ℤ) × (slice_get v.ints j ≡ Some z) × (e ≡ IntEntry z)
ints_located v x j e (AtNone at) is lt = let no : ⊥ = omega (arith, at, is, lt) in absurd no
ints_located v x j e (AtInt {z = z} i at l get) is lt =
    let same : i ≡ j = omega (arith, at, is) in
    (z, subst (λ k. slice_get v.ints k ≡ Some z) same get, refl)
ints_located v x j e (AtUInt {z = z} i at l get) is lt = let no : ⊥ = omega (arith, at, is, lt, l) in absurd no
ints_located v x j e (AtDouble {z = z} i at l get) is lt = let no : ⊥ = omega (arith, at, is, lt, l) in absurd no
ints_located v x j e (AtText {z = z} i at l get) is lt = let no : ⊥ = omega (arith, at, is, lt, l) in absurd no
ints_located v x j e (AtSpace {z = z} i at l get) is lt = let no : ⊥ = omega (arith, at, is, lt, l) in absurd no
ints_located v x j e (AtSet {z = z} i at l get) is lt = let no : ⊥ = omega (arith, at, is, lt, l) in absurd no
ints_located v x j e (AtName {z = z} i at l get) is lt = let no : ⊥ = omega (arith, at, is, lt, l) in absurd no

uints_located : (v : Abc) (x j : ℕ) (e : Entry) → Located v x e → x ≡ length v.ints + suc j → j < length v.uints → (z : ℕ) × (slice_get v.uints j ≡ Some z) × (e ≡ UIntEntry z)
uints_located v x j e (AtNone at) is lt = let no : ⊥ = omega (arith, at, is, lt) in absurd no
uints_located v x j e (AtInt {z = z} i at l get) is lt = let no : ⊥ = omega (arith, at, is, lt, l) in absurd no
uints_located v x j e (AtUInt {z = z} i at l get) is lt =
    let same : i ≡ j = omega (arith, at, is) in
    (z, subst (λ k. slice_get v.uints k ≡ Some z) same get, refl)
uints_located v x j e (AtDouble {z = z} i at l get) is lt = let no : ⊥ = omega (arith, at, is, lt, l) in absurd no
uints_located v x j e (AtText {z = z} i at l get) is lt = let no : ⊥ = omega (arith, at, is, lt, l) in absurd no
uints_located v x j e (AtSpace {z = z} i at l get) is lt = let no : ⊥ = omega (arith, at, is, lt, l) in absurd no
uints_located v x j e (AtSet {z = z} i at l get) is lt = let no : ⊥ = omega (arith, at, is, lt, l) in absurd no
uints_located v x j e (AtName {z = z} i at l get) is lt = let no : ⊥ = omega (arith, at, is, lt, l) in absurd no

doubles_located : (v : Abc) (x j : ℕ) (e : Entry) → Located v x e → x ≡ length v.ints + length v.uints + suc j → j < length v.doubles → (z : Eight) × (slice_get v.doubles j ≡ Some z) × (e ≡ DoubleEntry z)
doubles_located v x j e (AtNone at) is lt = let no : ⊥ = omega (arith, at, is, lt) in absurd no
doubles_located v x j e (AtInt {z = z} i at l get) is lt = let no : ⊥ = omega (arith, at, is, lt, l) in absurd no
doubles_located v x j e (AtUInt {z = z} i at l get) is lt = let no : ⊥ = omega (arith, at, is, lt, l) in absurd no
doubles_located v x j e (AtDouble {z = z} i at l get) is lt =
    let same : i ≡ j = omega (arith, at, is) in
    (z, subst (λ k. slice_get v.doubles k ≡ Some z) same get, refl)
doubles_located v x j e (AtText {z = z} i at l get) is lt = let no : ⊥ = omega (arith, at, is, lt, l) in absurd no
doubles_located v x j e (AtSpace {z = z} i at l get) is lt = let no : ⊥ = omega (arith, at, is, lt, l) in absurd no
doubles_located v x j e (AtSet {z = z} i at l get) is lt = let no : ⊥ = omega (arith, at, is, lt, l) in absurd no
doubles_located v x j e (AtName {z = z} i at l get) is lt = let no : ⊥ = omega (arith, at, is, lt, l) in absurd no

strings_located : (v : Abc) (x j : ℕ) (e : Entry) → Located v x e → x ≡ length v.ints + length v.uints + length v.doubles + suc j → j < length v.strings → (z : List ℕ) × (slice_get v.strings j ≡ Some z) × (e ≡ TextEntry z)
strings_located v x j e (AtNone at) is lt = let no : ⊥ = omega (arith, at, is, lt) in absurd no
strings_located v x j e (AtInt {z = z} i at l get) is lt = let no : ⊥ = omega (arith, at, is, lt, l) in absurd no
strings_located v x j e (AtUInt {z = z} i at l get) is lt = let no : ⊥ = omega (arith, at, is, lt, l) in absurd no
strings_located v x j e (AtDouble {z = z} i at l get) is lt = let no : ⊥ = omega (arith, at, is, lt, l) in absurd no
strings_located v x j e (AtText {z = z} i at l get) is lt =
    let same : i ≡ j = omega (arith, at, is) in
    (z, subst (λ k. slice_get v.strings k ≡ Some z) same get, refl)
strings_located v x j e (AtSpace {z = z} i at l get) is lt = let no : ⊥ = omega (arith, at, is, lt, l) in absurd no
strings_located v x j e (AtSet {z = z} i at l get) is lt = let no : ⊥ = omega (arith, at, is, lt, l) in absurd no
strings_located v x j e (AtName {z = z} i at l get) is lt = let no : ⊥ = omega (arith, at, is, lt, l) in absurd no

namespaces_located : (v : Abc) (x j : ℕ) (e : Entry) → Located v x e → x ≡ length v.ints + length v.uints + length v.doubles + length v.strings + suc j → j < length v.namespaces → (z : Namespace) × (slice_get v.namespaces j ≡ Some z) × (e ≡ SpaceEntry j z)
namespaces_located v x j e (AtNone at) is lt = let no : ⊥ = omega (arith, at, is, lt) in absurd no
namespaces_located v x j e (AtInt {z = z} i at l get) is lt = let no : ⊥ = omega (arith, at, is, lt, l) in absurd no
namespaces_located v x j e (AtUInt {z = z} i at l get) is lt = let no : ⊥ = omega (arith, at, is, lt, l) in absurd no
namespaces_located v x j e (AtDouble {z = z} i at l get) is lt = let no : ⊥ = omega (arith, at, is, lt, l) in absurd no
namespaces_located v x j e (AtText {z = z} i at l get) is lt = let no : ⊥ = omega (arith, at, is, lt, l) in absurd no
namespaces_located v x j e (AtSpace {z = z} i at l get) is lt =
    let same : i ≡ j = omega (arith, at, is) in
    (z, subst (λ k. slice_get v.namespaces k ≡ Some z) same get, ap (λ k. SpaceEntry k z) same)
namespaces_located v x j e (AtSet {z = z} i at l get) is lt = let no : ⊥ = omega (arith, at, is, lt, l) in absurd no
namespaces_located v x j e (AtName {z = z} i at l get) is lt = let no : ⊥ = omega (arith, at, is, lt, l) in absurd no

sets_located : (v : Abc) (x j : ℕ) (e : Entry) → Located v x e → x ≡ length v.ints + length v.uints + length v.doubles + length v.strings + length v.namespaces + suc j → j < length v.sets → (z : List ℕ) × (slice_get v.sets j ≡ Some z) × (e ≡ SetEntry z)
sets_located v x j e (AtNone at) is lt = let no : ⊥ = omega (arith, at, is, lt) in absurd no
sets_located v x j e (AtInt {z = z} i at l get) is lt = let no : ⊥ = omega (arith, at, is, lt, l) in absurd no
sets_located v x j e (AtUInt {z = z} i at l get) is lt = let no : ⊥ = omega (arith, at, is, lt, l) in absurd no
sets_located v x j e (AtDouble {z = z} i at l get) is lt = let no : ⊥ = omega (arith, at, is, lt, l) in absurd no
sets_located v x j e (AtText {z = z} i at l get) is lt = let no : ⊥ = omega (arith, at, is, lt, l) in absurd no
sets_located v x j e (AtSpace {z = z} i at l get) is lt = let no : ⊥ = omega (arith, at, is, lt, l) in absurd no
sets_located v x j e (AtSet {z = z} i at l get) is lt =
    let same : i ≡ j = omega (arith, at, is) in
    (z, subst (λ k. slice_get v.sets k ≡ Some z) same get, refl)
sets_located v x j e (AtName {z = z} i at l get) is lt = let no : ⊥ = omega (arith, at, is, lt, l) in absurd no

names_located : (v : Abc) (x j : ℕ) (e : Entry) → Located v x e → x ≡ length v.ints + length v.uints + length v.doubles + length v.strings + length v.namespaces + length v.sets + suc j → j < length v.names → (z : Multiname) × (slice_get v.names j ≡ Some z) × (e ≡ NameEntry z)
names_located v x j e (AtNone at) is lt = let no : ⊥ = omega (arith, at, is, lt) in absurd no
names_located v x j e (AtInt {z = z} i at l get) is lt = let no : ⊥ = omega (arith, at, is, lt, l) in absurd no
names_located v x j e (AtUInt {z = z} i at l get) is lt = let no : ⊥ = omega (arith, at, is, lt, l) in absurd no
names_located v x j e (AtDouble {z = z} i at l get) is lt = let no : ⊥ = omega (arith, at, is, lt, l) in absurd no
names_located v x j e (AtText {z = z} i at l get) is lt = let no : ⊥ = omega (arith, at, is, lt, l) in absurd no
names_located v x j e (AtSpace {z = z} i at l get) is lt = let no : ⊥ = omega (arith, at, is, lt, l) in absurd no
names_located v x j e (AtSet {z = z} i at l get) is lt = let no : ⊥ = omega (arith, at, is, lt, l) in absurd no
names_located v x j e (AtName {z = z} i at l get) is lt =
    let same : i ≡ j = omega (arith, at, is) in
    (z, subst (λ k. slice_get v.names k ≡ Some z) same get, refl)

many_entries : (v : Abc) → length (entries v) ≡ suc (length v.ints + length v.uints + length v.doubles + length v.strings + length v.namespaces + length v.sets + length v.names)
many_entries v = let a = many_sets v in let b = length-append (up_to_sets v) (map NameEntry v.names) in let c = length-map v.names NameEntry in omega (arith, a, b, c)

pub ints_there : (v : Abc) (j : ℕ) → j < length v.ints → (z : ℤ) × (slice_get v.ints j ≡ Some z) × (entry_at v (suc j) ≡ IntEntry z)
ints_there v j lt = ints_located v (suc j) j (entry_at v (suc j)) (locate v (suc j) (omega (arith, many_entries v, lt))) refl lt

pub uints_there : (v : Abc) (j : ℕ) → j < length v.uints → (z : ℕ) × (slice_get v.uints j ≡ Some z) × (entry_at v (length v.ints + suc j) ≡ UIntEntry z)
uints_there v j lt = uints_located v (length v.ints + suc j) j (entry_at v (length v.ints + suc j)) (locate v (length v.ints + suc j) (omega (arith, many_entries v, lt))) refl lt

pub doubles_there : (v : Abc) (j : ℕ) → j < length v.doubles → (z : Eight) × (slice_get v.doubles j ≡ Some z) × (entry_at v (length v.ints + length v.uints + suc j) ≡ DoubleEntry z)
doubles_there v j lt = doubles_located v (length v.ints + length v.uints + suc j) j (entry_at v (length v.ints + length v.uints + suc j)) (locate v (length v.ints + length v.uints + suc j) (omega (arith, many_entries v, lt))) refl lt

pub strings_there : (v : Abc) (j : ℕ) → j < length v.strings → (z : List ℕ) × (slice_get v.strings j ≡ Some z) × (entry_at v (length v.ints + length v.uints + length v.doubles + suc j) ≡ TextEntry z)
strings_there v j lt = strings_located v (length v.ints + length v.uints + length v.doubles + suc j) j (entry_at v (length v.ints + length v.uints + length v.doubles + suc j)) (locate v (length v.ints + length v.uints + length v.doubles + suc j) (omega (arith, many_entries v, lt))) refl lt

pub namespaces_there : (v : Abc) (j : ℕ) → j < length v.namespaces → (z : Namespace) × (slice_get v.namespaces j ≡ Some z) × (entry_at v (length v.ints + length v.uints + length v.doubles + length v.strings + suc j) ≡ SpaceEntry j z)
namespaces_there v j lt = namespaces_located v (length v.ints + length v.uints + length v.doubles + length v.strings + suc j) j (entry_at v (length v.ints + length v.uints + length v.doubles + length v.strings + suc j)) (locate v (length v.ints + length v.uints + length v.doubles + length v.strings + suc j) (omega (arith, many_entries v, lt))) refl lt

pub sets_there : (v : Abc) (j : ℕ) → j < length v.sets → (z : List ℕ) × (slice_get v.sets j ≡ Some z) × (entry_at v (length v.ints + length v.uints + length v.doubles + length v.strings + length v.namespaces + suc j) ≡ SetEntry z)
sets_there v j lt = sets_located v (length v.ints + length v.uints + length v.doubles + length v.strings + length v.namespaces + suc j) j (entry_at v (length v.ints + length v.uints + length v.doubles + length v.strings + length v.namespaces + suc j)) (locate v (length v.ints + length v.uints + length v.doubles + length v.strings + length v.namespaces + suc j) (omega (arith, many_entries v, lt))) refl lt

pub names_there : (v : Abc) (j : ℕ) → j < length v.names → (z : Multiname) × (slice_get v.names j ≡ Some z) × (entry_at v (length v.ints + length v.uints + length v.doubles + length v.strings + length v.namespaces + length v.sets + suc j) ≡ NameEntry z)
names_there v j lt = names_located v (length v.ints + length v.uints + length v.doubles + length v.strings + length v.namespaces + length v.sets + suc j) j (entry_at v (length v.ints + length v.uints + length v.doubles + length v.strings + length v.namespaces + length v.sets + suc j)) (locate v (length v.ints + length v.uints + length v.doubles + length v.strings + length v.namespaces + length v.sets + suc j) (omega (arith, many_entries v, lt))) refl lt

-- ---- the node of an index

pub node_here : (before size k : ℕ) → k < size → node_in_pool before size (suc k) ≡ before + suc k
node_here before size k lt =
    ap (λ b. if b then 0 else if nat_le (suc k) size then before + suc k else 0) (not_zero (suc k) (omega arith))
    ∙ ap (λ b. if b then before + suc k else 0) (le-leb (suc k) size (omega arith))

pub node_cases : (before size i : ℕ) → (node_in_pool before size i ≡ 0) ⊎ ((j : ℕ) × (j < size) × (node_in_pool before size i ≡ before + suc j))
node_cases before size zero = inl refl
node_cases before size (suc j) = by (nat_le (suc j) size) refl
  where
    open_up : node_in_pool before size (suc j) ≡ (if nat_le (suc j) size then before + suc j else 0)
    open_up = ap (λ b. if b then 0 else if nat_le (suc j) size then before + suc j else 0) (not_zero (suc j) (omega arith))

    by : (b : Bool) → nat_le (suc j) size ≡ b → (node_in_pool before size (suc j) ≡ 0) ⊎ ((i : ℕ) × (i < size) × (node_in_pool before size (suc j) ≡ before + suc i))
    by true e = let l : suc j ≤ size = leb-true (suc j) size e in inr (j, omega (arith, l), open_up ∙ ap (λ b. if b then before + suc j else 0) e)
    by false e = inl (open_up ∙ ap (λ b. if b then before + suc j else 0) e)

-- the node that has a number in the pool of a label
abbrev pub node_for : Counts → EntryLabel → ℕ → ℕ
node_for c Zero n = 0
node_for c (Int x) n = node_of c pools.Int n
node_for c (UInt x) n = node_of c pools.UInt n
node_for c (Double x) n = node_of c pools.Double n
node_for c (Text x) n = node_of c pools.Text n
node_for c (Space k w) n = node_of c pools.Space n
node_for c Set n = set_node c n
node_for c (Name k) n = node_of c pools.Name n

-- the node of a number that an index was given
pub ints_moved : (v : Abc) (d : Counts) (ps : List ℕ) (num : ℕ → ℕ) (i : ℕ) → (node_of (counts_of v) pools.Int i ≡ 0 → num 0 ≡ 0) → node_of d pools.Int (num (node_of (counts_of v) pools.Int i)) ≡ node_for d (label_of_entry ps (entry_at v (node_of (counts_of v) pools.Int i))) (num (node_of (counts_of v) pools.Int i))
ints_moved v d ps num i zero_is = go (node_cases 0 (length v.ints) i)
  where
    go : ((node_of (counts_of v) pools.Int i) ≡ 0) ⊎ ((j : ℕ) × (j < length v.ints) × ((node_of (counts_of v) pools.Int i) ≡ 0 + suc j)) → node_of d pools.Int (num (node_of (counts_of v) pools.Int i)) ≡ node_for d (label_of_entry ps (entry_at v (node_of (counts_of v) pools.Int i))) (num (node_of (counts_of v) pools.Int i))
    go (inl e) = ap (λ x. node_of d pools.Int (num x)) e ∙ ap (λ n. node_of d pools.Int n) (zero_is e) ∙ sym (ap (λ x. node_for d (label_of_entry ps (entry_at v x)) (num x)) e)
    go (inr (j, lt, e)) =
        let r = ints_there v j lt in
        let at : entry_at v (node_of (counts_of v) pools.Int i) ≡ IntEntry r.0 = ap (entry_at v) (e ∙ zero_plus j) ∙ r.2 in
        sym (ap (λ x. node_for d (label_of_entry ps x) (num (node_of (counts_of v) pools.Int i))) at)

-- the node of a number that an index was given
pub uints_moved : (v : Abc) (d : Counts) (ps : List ℕ) (num : ℕ → ℕ) (i : ℕ) → (node_of (counts_of v) pools.UInt i ≡ 0 → num 0 ≡ 0) → node_of d pools.UInt (num (node_of (counts_of v) pools.UInt i)) ≡ node_for d (label_of_entry ps (entry_at v (node_of (counts_of v) pools.UInt i))) (num (node_of (counts_of v) pools.UInt i))
uints_moved v d ps num i zero_is = go (node_cases (length v.ints) (length v.uints) i)
  where
    go : ((node_of (counts_of v) pools.UInt i) ≡ 0) ⊎ ((j : ℕ) × (j < length v.uints) × ((node_of (counts_of v) pools.UInt i) ≡ (length v.ints) + suc j)) → node_of d pools.UInt (num (node_of (counts_of v) pools.UInt i)) ≡ node_for d (label_of_entry ps (entry_at v (node_of (counts_of v) pools.UInt i))) (num (node_of (counts_of v) pools.UInt i))
    go (inl e) = ap (λ x. node_of d pools.UInt (num x)) e ∙ ap (λ n. node_of d pools.UInt n) (zero_is e) ∙ sym (ap (λ x. node_for d (label_of_entry ps (entry_at v x)) (num x)) e)
    go (inr (j, lt, e)) =
        let r = uints_there v j lt in
        let at : entry_at v (node_of (counts_of v) pools.UInt i) ≡ UIntEntry r.0 = ap (entry_at v) e ∙ r.2 in
        sym (ap (λ x. node_for d (label_of_entry ps x) (num (node_of (counts_of v) pools.UInt i))) at)

-- the node of a number that an index was given
pub doubles_moved : (v : Abc) (d : Counts) (ps : List ℕ) (num : ℕ → ℕ) (i : ℕ) → (node_of (counts_of v) pools.Double i ≡ 0 → num 0 ≡ 0) → node_of d pools.Double (num (node_of (counts_of v) pools.Double i)) ≡ node_for d (label_of_entry ps (entry_at v (node_of (counts_of v) pools.Double i))) (num (node_of (counts_of v) pools.Double i))
doubles_moved v d ps num i zero_is = go (node_cases (length v.ints + length v.uints) (length v.doubles) i)
  where
    go : ((node_of (counts_of v) pools.Double i) ≡ 0) ⊎ ((j : ℕ) × (j < length v.doubles) × ((node_of (counts_of v) pools.Double i) ≡ (length v.ints + length v.uints) + suc j)) → node_of d pools.Double (num (node_of (counts_of v) pools.Double i)) ≡ node_for d (label_of_entry ps (entry_at v (node_of (counts_of v) pools.Double i))) (num (node_of (counts_of v) pools.Double i))
    go (inl e) = ap (λ x. node_of d pools.Double (num x)) e ∙ ap (λ n. node_of d pools.Double n) (zero_is e) ∙ sym (ap (λ x. node_for d (label_of_entry ps (entry_at v x)) (num x)) e)
    go (inr (j, lt, e)) =
        let r = doubles_there v j lt in
        let at : entry_at v (node_of (counts_of v) pools.Double i) ≡ DoubleEntry r.0 = ap (entry_at v) e ∙ r.2 in
        sym (ap (λ x. node_for d (label_of_entry ps x) (num (node_of (counts_of v) pools.Double i))) at)

-- the node of a number that an index was given
pub strings_moved : (v : Abc) (d : Counts) (ps : List ℕ) (num : ℕ → ℕ) (i : ℕ) → (node_of (counts_of v) pools.Text i ≡ 0 → num 0 ≡ 0) → node_of d pools.Text (num (node_of (counts_of v) pools.Text i)) ≡ node_for d (label_of_entry ps (entry_at v (node_of (counts_of v) pools.Text i))) (num (node_of (counts_of v) pools.Text i))
strings_moved v d ps num i zero_is = go (node_cases (length v.ints + length v.uints + length v.doubles) (length v.strings) i)
  where
    go : ((node_of (counts_of v) pools.Text i) ≡ 0) ⊎ ((j : ℕ) × (j < length v.strings) × ((node_of (counts_of v) pools.Text i) ≡ (length v.ints + length v.uints + length v.doubles) + suc j)) → node_of d pools.Text (num (node_of (counts_of v) pools.Text i)) ≡ node_for d (label_of_entry ps (entry_at v (node_of (counts_of v) pools.Text i))) (num (node_of (counts_of v) pools.Text i))
    go (inl e) = ap (λ x. node_of d pools.Text (num x)) e ∙ ap (λ n. node_of d pools.Text n) (zero_is e) ∙ sym (ap (λ x. node_for d (label_of_entry ps (entry_at v x)) (num x)) e)
    go (inr (j, lt, e)) =
        let r = strings_there v j lt in
        let at : entry_at v (node_of (counts_of v) pools.Text i) ≡ TextEntry r.0 = ap (entry_at v) e ∙ r.2 in
        sym (ap (λ x. node_for d (label_of_entry ps x) (num (node_of (counts_of v) pools.Text i))) at)

-- the node of a number that an index was given
pub namespaces_moved : (v : Abc) (d : Counts) (ps : List ℕ) (num : ℕ → ℕ) (i : ℕ) → (node_of (counts_of v) pools.Space i ≡ 0 → num 0 ≡ 0) → node_of d pools.Space (num (node_of (counts_of v) pools.Space i)) ≡ node_for d (label_of_entry ps (entry_at v (node_of (counts_of v) pools.Space i))) (num (node_of (counts_of v) pools.Space i))
namespaces_moved v d ps num i zero_is = go (node_cases (length v.ints + length v.uints + length v.doubles + length v.strings) (length v.namespaces) i)
  where
    go : ((node_of (counts_of v) pools.Space i) ≡ 0) ⊎ ((j : ℕ) × (j < length v.namespaces) × ((node_of (counts_of v) pools.Space i) ≡ (length v.ints + length v.uints + length v.doubles + length v.strings) + suc j)) → node_of d pools.Space (num (node_of (counts_of v) pools.Space i)) ≡ node_for d (label_of_entry ps (entry_at v (node_of (counts_of v) pools.Space i))) (num (node_of (counts_of v) pools.Space i))
    go (inl e) = ap (λ x. node_of d pools.Space (num x)) e ∙ ap (λ n. node_of d pools.Space n) (zero_is e) ∙ sym (ap (λ x. node_for d (label_of_entry ps (entry_at v x)) (num x)) e)
    go (inr (j, lt, e)) =
        let r = namespaces_there v j lt in
        let at : entry_at v (node_of (counts_of v) pools.Space i) ≡ SpaceEntry j r.0 = ap (entry_at v) e ∙ r.2 in
        sym (ap (λ x. node_for d (label_of_entry ps x) (num (node_of (counts_of v) pools.Space i))) at)

-- the node of a number that an index was given
pub sets_moved : (v : Abc) (d : Counts) (ps : List ℕ) (num : ℕ → ℕ) (i : ℕ) → (set_node (counts_of v) i ≡ 0 → num 0 ≡ 0) → set_node d (num (set_node (counts_of v) i)) ≡ node_for d (label_of_entry ps (entry_at v (set_node (counts_of v) i))) (num (set_node (counts_of v) i))
sets_moved v d ps num i zero_is = go (node_cases (length v.ints + length v.uints + length v.doubles + length v.strings + length v.namespaces) (length v.sets) i)
  where
    go : ((set_node (counts_of v) i) ≡ 0) ⊎ ((j : ℕ) × (j < length v.sets) × ((set_node (counts_of v) i) ≡ (length v.ints + length v.uints + length v.doubles + length v.strings + length v.namespaces) + suc j)) → set_node d (num (set_node (counts_of v) i)) ≡ node_for d (label_of_entry ps (entry_at v (set_node (counts_of v) i))) (num (set_node (counts_of v) i))
    go (inl e) = ap (λ x. set_node d (num x)) e ∙ ap (λ n. set_node d n) (zero_is e) ∙ sym (ap (λ x. node_for d (label_of_entry ps (entry_at v x)) (num x)) e)
    go (inr (j, lt, e)) =
        let r = sets_there v j lt in
        let at : entry_at v (set_node (counts_of v) i) ≡ SetEntry r.0 = ap (entry_at v) e ∙ r.2 in
        sym (ap (λ x. node_for d (label_of_entry ps x) (num (set_node (counts_of v) i))) at)

-- the node of a number that an index was given
pub names_moved : (v : Abc) (d : Counts) (ps : List ℕ) (num : ℕ → ℕ) (i : ℕ) → (node_of (counts_of v) pools.Name i ≡ 0 → num 0 ≡ 0) → node_of d pools.Name (num (node_of (counts_of v) pools.Name i)) ≡ node_for d (label_of_entry ps (entry_at v (node_of (counts_of v) pools.Name i))) (num (node_of (counts_of v) pools.Name i))
names_moved v d ps num i zero_is = go (node_cases (length v.ints + length v.uints + length v.doubles + length v.strings + length v.namespaces + length v.sets) (length v.names) i)
  where
    go : ((node_of (counts_of v) pools.Name i) ≡ 0) ⊎ ((j : ℕ) × (j < length v.names) × ((node_of (counts_of v) pools.Name i) ≡ (length v.ints + length v.uints + length v.doubles + length v.strings + length v.namespaces + length v.sets) + suc j)) → node_of d pools.Name (num (node_of (counts_of v) pools.Name i)) ≡ node_for d (label_of_entry ps (entry_at v (node_of (counts_of v) pools.Name i))) (num (node_of (counts_of v) pools.Name i))
    go (inl e) = ap (λ x. node_of d pools.Name (num x)) e ∙ ap (λ n. node_of d pools.Name n) (zero_is e) ∙ sym (ap (λ x. node_for d (label_of_entry ps (entry_at v x)) (num x)) e)
    go (inr (j, lt, e)) =
        let r = names_there v j lt in
        let at : entry_at v (node_of (counts_of v) pools.Name i) ≡ NameEntry r.0 = ap (entry_at v) e ∙ r.2 in
        sym (ap (λ x. node_for d (label_of_entry ps x) (num (node_of (counts_of v) pools.Name i))) at)

-- ---- where the entry of a row stands

slice_append : {A : Type 0} (xs ys : List A) (k : ℕ) → slice_get (xs ++ ys) (length xs + k) ≡ slice_get ys k
slice_append [] ys k = let q : 0 + k ≡ k = omega arith in ap (slice_get ys) q
slice_append (x ∷ xs) ys k = let q : suc (length xs) + k ≡ suc (length xs + k) = omega arith in ap (slice_get (x ∷ (xs ++ ys))) q ∙ slice_append xs ys k

slice_within : {A : Type 0} (xs : List A) (k : ℕ) (z : A) → slice_get xs k ≡ Some z → k < length xs
slice_within [] k z e = absurd (none e)
  where
    none : None ≡ Some z → ⊥
    none f = cc
slice_within (x ∷ xs) zero z e = omega arith
slice_within (x ∷ xs) (suc k) z e = let h = slice_within xs k z e in omega arith

abbrev pub no_row : Row
no_row = (Zero, [])

abbrev pub row_pools : List Row → List ℕ
row_pools rows = map (λ (r : Row). label_pool r.0) rows

-- what a row adds to a pool stands behind what the rows before it add
added : {B : Type 0} (made : EntryLabel → List ℕ → List B) (q : ℕ) → ((l : EntryLabel) (ns : List ℕ) → length (made l ns) ≡ cond (nat_eq (label_pool l) q) 1 0) → (rows : List Row) (i : ℕ) (z : B) → i < length rows → made (get_or rows i no_row).0 (get_or rows i no_row).1 ≡ z ∷ [] → slice_get (flat_map (λ (r : Row). made r.0 r.1) rows) (count_by (λ p. nat_eq p q) (take i (row_pools rows))) ≡ Some z
added made q many [] i z lt e = absurd (below_zero i lt)
added made q many (r ∷ rows) zero z lt e = ap (λ l. slice_get (l ++ flat_map (λ (r : Row). made r.0 r.1) rows) 0) e
added made q many (r ∷ rows) (suc i) z lt e =
    ap (slice_get (made r.0 r.1 ++ flat_map (λ (r : Row). made r.0 r.1) rows)) (count_cons (λ p. nat_eq p q) (label_pool r.0) (take i (row_pools rows)))
    ∙ ap (λ n. slice_get (made r.0 r.1 ++ flat_map (λ (r : Row). made r.0 r.1) rows) (n + count_by (λ p. nat_eq p q) (take i (row_pools rows)))) (sym (many r.0 r.1))
    ∙ slice_append (made r.0 r.1) (flat_map (λ (r : Row). made r.0 r.1) rows) (count_by (λ p. nat_eq p q) (take i (row_pools rows)))
    ∙ added made q many rows i z (omega arith) e

get_row : (rows : List Row) (i : ℕ) → get_or (row_pools rows) i 0 ≡ label_pool (get_or rows i no_row).0
get_row [] i = refl
get_row (r ∷ rows) zero = refl
get_row (r ∷ rows) (suc i) = get_row rows i

some_same : {A : Type 0} (x y : A) → Some x ≡ Some y → x ≡ y
some_same x y e = ap (λ o. unwrap_or o x) e

count_next : (q : ℕ) (xs : List ℕ) (i : ℕ) → i < length xs → nat_eq (get_or xs i 0) q ≡ true → count_by (λ p. nat_eq p q) (take (suc i) xs) ≡ suc (count_by (λ p. nat_eq p q) (take i xs))
count_next q [] i lt e = absurd (below_zero i lt)
count_next q (x ∷ xs) zero lt e =
    let f : cond {A = ℕ} (nat_eq x q) 1 0 ≡ 1 = ap (λ b. cond {A = ℕ} b 1 0) e in
    let a : count_by (λ p. nat_eq p q) (take (suc zero) (x ∷ xs)) ≡ cond {A = ℕ} (nat_eq x q) 1 0 + 0 = count_cons (λ p. nat_eq p q) x (take zero xs) in
    let b : count_by (λ p. nat_eq p q) (take zero (x ∷ xs)) ≡ 0 = refl in
    omega (arith, f, a, b)
count_next q (x ∷ xs) (suc i) lt e =
    let h = count_next q xs i (omega arith) e in
    let a : count_by (λ p. nat_eq p q) (take (suc (suc i)) (x ∷ xs)) ≡ cond {A = ℕ} (nat_eq x q) 1 0 + count_by (λ p. nat_eq p q) (take (suc i) xs) = count_cons (λ p. nat_eq p q) x (take (suc i) xs) in
    let b : count_by (λ p. nat_eq p q) (take (suc i) (x ∷ xs)) ≡ cond {A = ℕ} (nat_eq x q) 1 0 + count_by (λ p. nat_eq p q) (take i xs) = count_cons (λ p. nat_eq p q) x (take i xs) in
    omega (arith, h, a, b)

-- the entry that a row makes, with its number
abbrev pub entry_made : EntryLabel → List ℕ → ℕ → Entry
entry_made Zero ns n = NoEntry
entry_made (Int x) ns n = IntEntry x
entry_made (UInt x) ns n = UIntEntry x
entry_made (Double x) ns n = DoubleEntry x
entry_made (Text x) ns n = TextEntry x
entry_made (Space k w) ns n = SpaceEntry (n - 1) (record { kind = k; name = get_or ns 0 0 })
entry_made Set ns n = SetEntry ns
entry_made (Name k) ns n = NameEntry (made_name k ns)

ints_put : (v : Abc) (rows : List Row) (i : ℕ) (x : ℤ) (ns : List ℕ) → v.ints ≡ flat_map (λ (r : Row). made_ints r.0 r.1) rows → i < length rows → get_or rows i no_row ≡ ((Int x), ns) → entry_at v (node_for (counts_of v) (Int x) (number_among_pools (row_pools rows) i)) ≡ entry_made (Int x) ns (number_among_pools (row_pools rows) i)
ints_put v rows i x ns pool lt row =
    let at : get_or (row_pools rows) i 0 ≡ 1 = get_row rows i ∙ ap (λ (r : Row). label_pool r.0) row in
    let n : number_among_pools (row_pools rows) i ≡ suc (count_by (λ p. nat_eq p 1) (take i (row_pools rows))) =
    number_in_pool (row_pools rows) i 1 at refl ∙ count_next 1 (row_pools rows) i (omega (arith, lt, length-map rows (λ (r : Row). label_pool r.0))) (ap (λ p. nat_eq p 1) at) in
    let got : slice_get v.ints (count_by (λ p. nat_eq p 1) (take i (row_pools rows))) ≡ Some x =
    ap (λ l. slice_get l (count_by (λ p. nat_eq p 1) (take i (row_pools rows)))) pool ∙ added made_ints 1 many rows i x lt (ap (λ (r : Row). made_ints r.0 r.1) row) in
    let within : count_by (λ p. nat_eq p 1) (take i (row_pools rows)) < length v.ints = slice_within v.ints (count_by (λ p. nat_eq p 1) (take i (row_pools rows))) x got in
    let r = ints_there v (count_by (λ p. nat_eq p 1) (take i (row_pools rows))) within in
    let value : r.0 ≡ x = some_same r.0 x (sym r.1 ∙ got) in
    ap (λ m. entry_at v (node_for (counts_of v) (Int x) m)) n
    ∙ ap (entry_at v) (node_here 0 (length v.ints) (count_by (λ p. nat_eq p 1) (take i (row_pools rows))) within ∙ zero_plus (count_by (λ p. nat_eq p 1) (take i (row_pools rows))))
    ∙ r.2 ∙ ap (λ z. IntEntry z) value
  where
    many : (l : EntryLabel) (ns : List ℕ) → length (made_ints l ns) ≡ cond (nat_eq (label_pool l) 1) 1 0
    many Zero ns = refl
    many (Int x) ns = refl
    many (UInt x) ns = refl
    many (Double x) ns = refl
    many (Text x) ns = refl
    many (Space k n) ns = refl
    many Set ns = refl
    many (Name k) ns = refl

uints_put : (v : Abc) (rows : List Row) (i : ℕ) (x : ℕ) (ns : List ℕ) → v.uints ≡ flat_map (λ (r : Row). made_uints r.0 r.1) rows → i < length rows → get_or rows i no_row ≡ ((UInt x), ns) → entry_at v (node_for (counts_of v) (UInt x) (number_among_pools (row_pools rows) i)) ≡ entry_made (UInt x) ns (number_among_pools (row_pools rows) i)
uints_put v rows i x ns pool lt row =
    let at : get_or (row_pools rows) i 0 ≡ 2 = get_row rows i ∙ ap (λ (r : Row). label_pool r.0) row in
    let n : number_among_pools (row_pools rows) i ≡ suc (count_by (λ p. nat_eq p 2) (take i (row_pools rows))) =
    number_in_pool (row_pools rows) i 2 at refl ∙ count_next 2 (row_pools rows) i (omega (arith, lt, length-map rows (λ (r : Row). label_pool r.0))) (ap (λ p. nat_eq p 2) at) in
    let got : slice_get v.uints (count_by (λ p. nat_eq p 2) (take i (row_pools rows))) ≡ Some x =
    ap (λ l. slice_get l (count_by (λ p. nat_eq p 2) (take i (row_pools rows)))) pool ∙ added made_uints 2 many rows i x lt (ap (λ (r : Row). made_uints r.0 r.1) row) in
    let within : count_by (λ p. nat_eq p 2) (take i (row_pools rows)) < length v.uints = slice_within v.uints (count_by (λ p. nat_eq p 2) (take i (row_pools rows))) x got in
    let r = uints_there v (count_by (λ p. nat_eq p 2) (take i (row_pools rows))) within in
    let value : r.0 ≡ x = some_same r.0 x (sym r.1 ∙ got) in
    ap (λ m. entry_at v (node_for (counts_of v) (UInt x) m)) n
    ∙ ap (entry_at v) (node_here (length v.ints) (length v.uints) (count_by (λ p. nat_eq p 2) (take i (row_pools rows))) within)
    ∙ r.2 ∙ ap (λ z. UIntEntry z) value
  where
    many : (l : EntryLabel) (ns : List ℕ) → length (made_uints l ns) ≡ cond (nat_eq (label_pool l) 2) 1 0
    many Zero ns = refl
    many (Int x) ns = refl
    many (UInt x) ns = refl
    many (Double x) ns = refl
    many (Text x) ns = refl
    many (Space k n) ns = refl
    many Set ns = refl
    many (Name k) ns = refl

doubles_put : (v : Abc) (rows : List Row) (i : ℕ) (x : Eight) (ns : List ℕ) → v.doubles ≡ flat_map (λ (r : Row). made_doubles r.0 r.1) rows → i < length rows → get_or rows i no_row ≡ ((Double x), ns) → entry_at v (node_for (counts_of v) (Double x) (number_among_pools (row_pools rows) i)) ≡ entry_made (Double x) ns (number_among_pools (row_pools rows) i)
doubles_put v rows i x ns pool lt row =
    let at : get_or (row_pools rows) i 0 ≡ 3 = get_row rows i ∙ ap (λ (r : Row). label_pool r.0) row in
    let n : number_among_pools (row_pools rows) i ≡ suc (count_by (λ p. nat_eq p 3) (take i (row_pools rows))) =
    number_in_pool (row_pools rows) i 3 at refl ∙ count_next 3 (row_pools rows) i (omega (arith, lt, length-map rows (λ (r : Row). label_pool r.0))) (ap (λ p. nat_eq p 3) at) in
    let got : slice_get v.doubles (count_by (λ p. nat_eq p 3) (take i (row_pools rows))) ≡ Some x =
    ap (λ l. slice_get l (count_by (λ p. nat_eq p 3) (take i (row_pools rows)))) pool ∙ added made_doubles 3 many rows i x lt (ap (λ (r : Row). made_doubles r.0 r.1) row) in
    let within : count_by (λ p. nat_eq p 3) (take i (row_pools rows)) < length v.doubles = slice_within v.doubles (count_by (λ p. nat_eq p 3) (take i (row_pools rows))) x got in
    let r = doubles_there v (count_by (λ p. nat_eq p 3) (take i (row_pools rows))) within in
    let value : r.0 ≡ x = some_same r.0 x (sym r.1 ∙ got) in
    ap (λ m. entry_at v (node_for (counts_of v) (Double x) m)) n
    ∙ ap (entry_at v) (node_here (length v.ints + length v.uints) (length v.doubles) (count_by (λ p. nat_eq p 3) (take i (row_pools rows))) within)
    ∙ r.2 ∙ ap (λ z. DoubleEntry z) value
  where
    many : (l : EntryLabel) (ns : List ℕ) → length (made_doubles l ns) ≡ cond (nat_eq (label_pool l) 3) 1 0
    many Zero ns = refl
    many (Int x) ns = refl
    many (UInt x) ns = refl
    many (Double x) ns = refl
    many (Text x) ns = refl
    many (Space k n) ns = refl
    many Set ns = refl
    many (Name k) ns = refl

strings_put : (v : Abc) (rows : List Row) (i : ℕ) (x : List ℕ) (ns : List ℕ) → v.strings ≡ flat_map (λ (r : Row). made_strings r.0 r.1) rows → i < length rows → get_or rows i no_row ≡ ((Text x), ns) → entry_at v (node_for (counts_of v) (Text x) (number_among_pools (row_pools rows) i)) ≡ entry_made (Text x) ns (number_among_pools (row_pools rows) i)
strings_put v rows i x ns pool lt row =
    let at : get_or (row_pools rows) i 0 ≡ 4 = get_row rows i ∙ ap (λ (r : Row). label_pool r.0) row in
    let n : number_among_pools (row_pools rows) i ≡ suc (count_by (λ p. nat_eq p 4) (take i (row_pools rows))) =
    number_in_pool (row_pools rows) i 4 at refl ∙ count_next 4 (row_pools rows) i (omega (arith, lt, length-map rows (λ (r : Row). label_pool r.0))) (ap (λ p. nat_eq p 4) at) in
    let got : slice_get v.strings (count_by (λ p. nat_eq p 4) (take i (row_pools rows))) ≡ Some x =
    ap (λ l. slice_get l (count_by (λ p. nat_eq p 4) (take i (row_pools rows)))) pool ∙ added made_strings 4 many rows i x lt (ap (λ (r : Row). made_strings r.0 r.1) row) in
    let within : count_by (λ p. nat_eq p 4) (take i (row_pools rows)) < length v.strings = slice_within v.strings (count_by (λ p. nat_eq p 4) (take i (row_pools rows))) x got in
    let r = strings_there v (count_by (λ p. nat_eq p 4) (take i (row_pools rows))) within in
    let value : r.0 ≡ x = some_same r.0 x (sym r.1 ∙ got) in
    ap (λ m. entry_at v (node_for (counts_of v) (Text x) m)) n
    ∙ ap (entry_at v) (node_here (length v.ints + length v.uints + length v.doubles) (length v.strings) (count_by (λ p. nat_eq p 4) (take i (row_pools rows))) within)
    ∙ r.2 ∙ ap (λ z. TextEntry z) value
  where
    many : (l : EntryLabel) (ns : List ℕ) → length (made_strings l ns) ≡ cond (nat_eq (label_pool l) 4) 1 0
    many Zero ns = refl
    many (Int x) ns = refl
    many (UInt x) ns = refl
    many (Double x) ns = refl
    many (Text x) ns = refl
    many (Space k n) ns = refl
    many Set ns = refl
    many (Name k) ns = refl

namespaces_put : (v : Abc) (rows : List Row) (i : ℕ) (k : NsKind) (w : ℕ) (ns : List ℕ) → v.namespaces ≡ flat_map (λ (r : Row). made_spaces r.0 r.1) rows → i < length rows → get_or rows i no_row ≡ ((Space k w), ns) → entry_at v (node_for (counts_of v) (Space k w) (number_among_pools (row_pools rows) i)) ≡ entry_made (Space k w) ns (number_among_pools (row_pools rows) i)
namespaces_put v rows i k w ns pool lt row =
    let at : get_or (row_pools rows) i 0 ≡ 5 = get_row rows i ∙ ap (λ (r : Row). label_pool r.0) row in
    let n : number_among_pools (row_pools rows) i ≡ suc (count_by (λ p. nat_eq p 5) (take i (row_pools rows))) =
    number_in_pool (row_pools rows) i 5 at refl ∙ count_next 5 (row_pools rows) i (omega (arith, lt, length-map rows (λ (r : Row). label_pool r.0))) (ap (λ p. nat_eq p 5) at) in
    let got : slice_get v.namespaces (count_by (λ p. nat_eq p 5) (take i (row_pools rows))) ≡ Some (record { kind = k; name = get_or ns 0 0 }) =
    ap (λ l. slice_get l (count_by (λ p. nat_eq p 5) (take i (row_pools rows)))) pool ∙ added made_spaces 5 many rows i (record { kind = k; name = get_or ns 0 0 }) lt (ap (λ (r : Row). made_spaces r.0 r.1) row) in
    let within : count_by (λ p. nat_eq p 5) (take i (row_pools rows)) < length v.namespaces = slice_within v.namespaces (count_by (λ p. nat_eq p 5) (take i (row_pools rows))) (record { kind = k; name = get_or ns 0 0 }) got in
    let r = namespaces_there v (count_by (λ p. nat_eq p 5) (take i (row_pools rows))) within in
    let value : r.0 ≡ (record { kind = k; name = get_or ns 0 0 }) = some_same r.0 (record { kind = k; name = get_or ns 0 0 }) (sym r.1 ∙ got) in
    ap (λ m. entry_at v (node_for (counts_of v) (Space k w) m)) n
    ∙ ap (entry_at v) (node_here (length v.ints + length v.uints + length v.doubles + length v.strings) (length v.namespaces) (count_by (λ p. nat_eq p 5) (take i (row_pools rows))) within)
    ∙ r.2 ∙ ap (λ z. SpaceEntry (count_by (λ p. nat_eq p 5) (take i (row_pools rows))) z) value ∙ ap (λ m. SpaceEntry m (record { kind = k; name = get_or ns 0 0 })) (less (count_by (λ p. nat_eq p 5) (take i (row_pools rows))) ∙ ap (λ m. m - 1) (sym n))
  where
    many : (l : EntryLabel) (ns : List ℕ) → length (made_spaces l ns) ≡ cond (nat_eq (label_pool l) 5) 1 0
    many Zero ns = refl
    many (Int x) ns = refl
    many (UInt x) ns = refl
    many (Double x) ns = refl
    many (Text x) ns = refl
    many (Space k n) ns = refl
    many Set ns = refl
    many (Name k) ns = refl

sets_put : (v : Abc) (rows : List Row) (i : ℕ) (ns : List ℕ) → v.sets ≡ flat_map (λ (r : Row). made_sets r.0 r.1) rows → i < length rows → get_or rows i no_row ≡ (Set, ns) → entry_at v (node_for (counts_of v) Set (number_among_pools (row_pools rows) i)) ≡ entry_made Set ns (number_among_pools (row_pools rows) i)
sets_put v rows i ns pool lt row =
    let at : get_or (row_pools rows) i 0 ≡ 6 = get_row rows i ∙ ap (λ (r : Row). label_pool r.0) row in
    let n : number_among_pools (row_pools rows) i ≡ suc (count_by (λ p. nat_eq p 6) (take i (row_pools rows))) =
    number_in_pool (row_pools rows) i 6 at refl ∙ count_next 6 (row_pools rows) i (omega (arith, lt, length-map rows (λ (r : Row). label_pool r.0))) (ap (λ p. nat_eq p 6) at) in
    let got : slice_get v.sets (count_by (λ p. nat_eq p 6) (take i (row_pools rows))) ≡ Some ns =
    ap (λ l. slice_get l (count_by (λ p. nat_eq p 6) (take i (row_pools rows)))) pool ∙ added made_sets 6 many rows i ns lt (ap (λ (r : Row). made_sets r.0 r.1) row) in
    let within : count_by (λ p. nat_eq p 6) (take i (row_pools rows)) < length v.sets = slice_within v.sets (count_by (λ p. nat_eq p 6) (take i (row_pools rows))) ns got in
    let r = sets_there v (count_by (λ p. nat_eq p 6) (take i (row_pools rows))) within in
    let value : r.0 ≡ ns = some_same r.0 ns (sym r.1 ∙ got) in
    ap (λ m. entry_at v (node_for (counts_of v) Set m)) n
    ∙ ap (entry_at v) (node_here (length v.ints + length v.uints + length v.doubles + length v.strings + length v.namespaces) (length v.sets) (count_by (λ p. nat_eq p 6) (take i (row_pools rows))) within)
    ∙ r.2 ∙ ap (λ z. SetEntry z) value
  where
    many : (l : EntryLabel) (ns : List ℕ) → length (made_sets l ns) ≡ cond (nat_eq (label_pool l) 6) 1 0
    many Zero ns = refl
    many (Int x) ns = refl
    many (UInt x) ns = refl
    many (Double x) ns = refl
    many (Text x) ns = refl
    many (Space k n) ns = refl
    many Set ns = refl
    many (Name k) ns = refl

names_put : (v : Abc) (rows : List Row) (i : ℕ) (k : MultinameKind) (ns : List ℕ) → v.names ≡ flat_map (λ (r : Row). made_names r.0 r.1) rows → i < length rows → get_or rows i no_row ≡ ((Name k), ns) → entry_at v (node_for (counts_of v) (Name k) (number_among_pools (row_pools rows) i)) ≡ entry_made (Name k) ns (number_among_pools (row_pools rows) i)
names_put v rows i k ns pool lt row =
    let at : get_or (row_pools rows) i 0 ≡ 7 = get_row rows i ∙ ap (λ (r : Row). label_pool r.0) row in
    let n : number_among_pools (row_pools rows) i ≡ suc (count_by (λ p. nat_eq p 7) (take i (row_pools rows))) =
    number_in_pool (row_pools rows) i 7 at refl ∙ count_next 7 (row_pools rows) i (omega (arith, lt, length-map rows (λ (r : Row). label_pool r.0))) (ap (λ p. nat_eq p 7) at) in
    let got : slice_get v.names (count_by (λ p. nat_eq p 7) (take i (row_pools rows))) ≡ Some (made_name k ns) =
    ap (λ l. slice_get l (count_by (λ p. nat_eq p 7) (take i (row_pools rows)))) pool ∙ added made_names 7 many rows i (made_name k ns) lt (ap (λ (r : Row). made_names r.0 r.1) row) in
    let within : count_by (λ p. nat_eq p 7) (take i (row_pools rows)) < length v.names = slice_within v.names (count_by (λ p. nat_eq p 7) (take i (row_pools rows))) (made_name k ns) got in
    let r = names_there v (count_by (λ p. nat_eq p 7) (take i (row_pools rows))) within in
    let value : r.0 ≡ (made_name k ns) = some_same r.0 (made_name k ns) (sym r.1 ∙ got) in
    ap (λ m. entry_at v (node_for (counts_of v) (Name k) m)) n
    ∙ ap (entry_at v) (node_here (length v.ints + length v.uints + length v.doubles + length v.strings + length v.namespaces + length v.sets) (length v.names) (count_by (λ p. nat_eq p 7) (take i (row_pools rows))) within)
    ∙ r.2 ∙ ap (λ z. NameEntry z) value
  where
    many : (l : EntryLabel) (ns : List ℕ) → length (made_names l ns) ≡ cond (nat_eq (label_pool l) 7) 1 0
    many Zero ns = refl
    many (Int x) ns = refl
    many (UInt x) ns = refl
    many (Double x) ns = refl
    many (Text x) ns = refl
    many (Space k n) ns = refl
    many Set ns = refl
    many (Name k) ns = refl

-- a row's entry stands at its number
pub put : (v : Abc) (rows : List Row) (i : ℕ) (l : EntryLabel) (ns : List ℕ) → v.ints ≡ flat_map (λ (r : Row). made_ints r.0 r.1) rows → v.uints ≡ flat_map (λ (r : Row). made_uints r.0 r.1) rows → v.doubles ≡ flat_map (λ (r : Row). made_doubles r.0 r.1) rows → v.strings ≡ flat_map (λ (r : Row). made_strings r.0 r.1) rows → v.namespaces ≡ flat_map (λ (r : Row). made_spaces r.0 r.1) rows → v.sets ≡ flat_map (λ (r : Row). made_sets r.0 r.1) rows → v.names ≡ flat_map (λ (r : Row). made_names r.0 r.1) rows → i < length rows → get_or rows i no_row ≡ (l, ns) → entry_at v (node_for (counts_of v) l (number_among_pools (row_pools rows) i)) ≡ entry_made l ns (number_among_pools (row_pools rows) i)
put v rows i Zero ns e1 e2 e3 e4 e5 e6 e7 lt row = refl
put v rows i (Int x) ns e1 e2 e3 e4 e5 e6 e7 lt row = ints_put v rows i x ns e1 lt row
put v rows i (UInt x) ns e1 e2 e3 e4 e5 e6 e7 lt row = uints_put v rows i x ns e2 lt row
put v rows i (Double x) ns e1 e2 e3 e4 e5 e6 e7 lt row = doubles_put v rows i x ns e3 lt row
put v rows i (Text x) ns e1 e2 e3 e4 e5 e6 e7 lt row = strings_put v rows i x ns e4 lt row
put v rows i (Space k w) ns e1 e2 e3 e4 e5 e6 e7 lt row = namespaces_put v rows i k w ns e5 lt row
put v rows i Set ns e1 e2 e3 e4 e5 e6 e7 lt row = sets_put v rows i ns e6 lt row
put v rows i (Name k) ns e1 e2 e3 e4 e5 e6 e7 lt row = names_put v rows i k ns e7 lt row

-- ---- how large a number is

-- how many entries the pool of a label has
abbrev pub size_for : Counts → EntryLabel → ℕ
size_for c Zero = 0
size_for c (Int x) = c.ints
size_for c (UInt x) = c.uints
size_for c (Double x) = c.doubles
size_for c (Text x) = c.strings
size_for c (Space k w) = c.namespaces
size_for c Set = c.sets
size_for c (Name k) = c.names

few_added : {B : Type 0} (made : EntryLabel → List ℕ → List B) (q : ℕ) → ((l : EntryLabel) (ns : List ℕ) → length (made l ns) ≡ cond (nat_eq (label_pool l) q) 1 0) → (rows : List Row) (i : ℕ) (z : B) → i < length rows → made (get_or rows i no_row).0 (get_or rows i no_row).1 ≡ z ∷ [] → label_pool (get_or rows i no_row).0 ≡ q → nat_eq q 0 ≡ false → nat_eq q q ≡ true → number_among_pools (row_pools rows) i ≤ length (flat_map (λ (r : Row). made r.0 r.1) rows)
few_added made q many rows i z lt e at zero_not same =
    let pool : get_or (row_pools rows) i 0 ≡ q = get_row rows i ∙ at in
    let n : number_among_pools (row_pools rows) i ≡ suc (count_by (λ p. nat_eq p q) (take i (row_pools rows))) =
    number_in_pool (row_pools rows) i q pool zero_not ∙ count_next q (row_pools rows) i (omega (arith, lt, length-map rows (λ (r : Row). label_pool r.0))) (ap (λ p. nat_eq p q) pool ∙ same) in
    let within = slice_within (flat_map (λ (r : Row). made r.0 r.1) rows) (count_by (λ p. nat_eq p q) (take i (row_pools rows))) z (added made q many rows i z lt e) in
    omega (arith, n, within)

ints_many : (l : EntryLabel) (ns : List ℕ) → length (made_ints l ns) ≡ cond (nat_eq (label_pool l) 1) 1 0
ints_many Zero ns = refl
ints_many (Int x) ns = refl
ints_many (UInt x) ns = refl
ints_many (Double x) ns = refl
ints_many (Text x) ns = refl
ints_many (Space k n) ns = refl
ints_many Set ns = refl
ints_many (Name k) ns = refl

uints_many : (l : EntryLabel) (ns : List ℕ) → length (made_uints l ns) ≡ cond (nat_eq (label_pool l) 2) 1 0
uints_many Zero ns = refl
uints_many (Int x) ns = refl
uints_many (UInt x) ns = refl
uints_many (Double x) ns = refl
uints_many (Text x) ns = refl
uints_many (Space k n) ns = refl
uints_many Set ns = refl
uints_many (Name k) ns = refl

doubles_many : (l : EntryLabel) (ns : List ℕ) → length (made_doubles l ns) ≡ cond (nat_eq (label_pool l) 3) 1 0
doubles_many Zero ns = refl
doubles_many (Int x) ns = refl
doubles_many (UInt x) ns = refl
doubles_many (Double x) ns = refl
doubles_many (Text x) ns = refl
doubles_many (Space k n) ns = refl
doubles_many Set ns = refl
doubles_many (Name k) ns = refl

strings_many : (l : EntryLabel) (ns : List ℕ) → length (made_strings l ns) ≡ cond (nat_eq (label_pool l) 4) 1 0
strings_many Zero ns = refl
strings_many (Int x) ns = refl
strings_many (UInt x) ns = refl
strings_many (Double x) ns = refl
strings_many (Text x) ns = refl
strings_many (Space k n) ns = refl
strings_many Set ns = refl
strings_many (Name k) ns = refl

namespaces_many : (l : EntryLabel) (ns : List ℕ) → length (made_spaces l ns) ≡ cond (nat_eq (label_pool l) 5) 1 0
namespaces_many Zero ns = refl
namespaces_many (Int x) ns = refl
namespaces_many (UInt x) ns = refl
namespaces_many (Double x) ns = refl
namespaces_many (Text x) ns = refl
namespaces_many (Space k n) ns = refl
namespaces_many Set ns = refl
namespaces_many (Name k) ns = refl

sets_many : (l : EntryLabel) (ns : List ℕ) → length (made_sets l ns) ≡ cond (nat_eq (label_pool l) 6) 1 0
sets_many Zero ns = refl
sets_many (Int x) ns = refl
sets_many (UInt x) ns = refl
sets_many (Double x) ns = refl
sets_many (Text x) ns = refl
sets_many (Space k n) ns = refl
sets_many Set ns = refl
sets_many (Name k) ns = refl

names_many : (l : EntryLabel) (ns : List ℕ) → length (made_names l ns) ≡ cond (nat_eq (label_pool l) 7) 1 0
names_many Zero ns = refl
names_many (Int x) ns = refl
names_many (UInt x) ns = refl
names_many (Double x) ns = refl
names_many (Text x) ns = refl
names_many (Space k n) ns = refl
names_many Set ns = refl
names_many (Name k) ns = refl

pub few : (v : Abc) (rows : List Row) (i : ℕ) (l : EntryLabel) (ns : List ℕ) → v.ints ≡ flat_map (λ (r : Row). made_ints r.0 r.1) rows → v.uints ≡ flat_map (λ (r : Row). made_uints r.0 r.1) rows → v.doubles ≡ flat_map (λ (r : Row). made_doubles r.0 r.1) rows → v.strings ≡ flat_map (λ (r : Row). made_strings r.0 r.1) rows → v.namespaces ≡ flat_map (λ (r : Row). made_spaces r.0 r.1) rows → v.sets ≡ flat_map (λ (r : Row). made_sets r.0 r.1) rows → v.names ≡ flat_map (λ (r : Row). made_names r.0 r.1) rows → i < length rows → get_or rows i no_row ≡ (l, ns) → number_among_pools (row_pools rows) i ≤ size_for (counts_of v) l
few v rows i Zero ns e1 e2 e3 e4 e5 e6 e7 lt row =
    let pool : get_or (row_pools rows) i 0 ≡ 0 = get_row rows i ∙ ap (λ (r : Row). label_pool r.0) row in
    let n : number_among_pools (row_pools rows) i ≡ 0 = ap (λ p. if nat_eq p 0 then 0 else count_by (λ q. nat_eq q p) (take (i + 1) (row_pools rows))) pool in
    omega (arith, n)
few v rows i (Int x) ns e1 e2 e3 e4 e5 e6 e7 lt row = subst (λ (l : List ℤ). number_among_pools (row_pools rows) i ≤ length l) (sym e1) (few_added made_ints 1 ints_many rows i x lt (ap (λ (r : Row). made_ints r.0 r.1) row) (ap (λ (r : Row). label_pool r.0) row) refl refl)
few v rows i (UInt x) ns e1 e2 e3 e4 e5 e6 e7 lt row = subst (λ (l : List ℕ). number_among_pools (row_pools rows) i ≤ length l) (sym e2) (few_added made_uints 2 uints_many rows i x lt (ap (λ (r : Row). made_uints r.0 r.1) row) (ap (λ (r : Row). label_pool r.0) row) refl refl)
few v rows i (Double x) ns e1 e2 e3 e4 e5 e6 e7 lt row = subst (λ (l : List Eight). number_among_pools (row_pools rows) i ≤ length l) (sym e3) (few_added made_doubles 3 doubles_many rows i x lt (ap (λ (r : Row). made_doubles r.0 r.1) row) (ap (λ (r : Row). label_pool r.0) row) refl refl)
few v rows i (Text x) ns e1 e2 e3 e4 e5 e6 e7 lt row = subst (λ (l : List (List ℕ)). number_among_pools (row_pools rows) i ≤ length l) (sym e4) (few_added made_strings 4 strings_many rows i x lt (ap (λ (r : Row). made_strings r.0 r.1) row) (ap (λ (r : Row). label_pool r.0) row) refl refl)
few v rows i (Space k w) ns e1 e2 e3 e4 e5 e6 e7 lt row = subst (λ (l : List Namespace). number_among_pools (row_pools rows) i ≤ length l) (sym e5) (few_added made_spaces 5 namespaces_many rows i (record { kind = k; name = get_or ns 0 0 }) lt (ap (λ (r : Row). made_spaces r.0 r.1) row) (ap (λ (r : Row). label_pool r.0) row) refl refl)
few v rows i Set ns e1 e2 e3 e4 e5 e6 e7 lt row = subst (λ (l : List (List ℕ)). number_among_pools (row_pools rows) i ≤ length l) (sym e6) (few_added made_sets 6 sets_many rows i ns lt (ap (λ (r : Row). made_sets r.0 r.1) row) (ap (λ (r : Row). label_pool r.0) row) refl refl)
few v rows i (Name k) ns e1 e2 e3 e4 e5 e6 e7 lt row = subst (λ (l : List Multiname). number_among_pools (row_pools rows) i ≤ length l) (sym e7) (few_added made_names 7 names_many rows i (made_name k ns) lt (ap (λ (r : Row). made_names r.0 r.1) row) (ap (λ (r : Row). label_pool r.0) row) refl refl)

pub ints_sized : (v : Abc) (d : Counts) (ps : List ℕ) (num : ℕ → ℕ) (i : ℕ) → (node_of (counts_of v) pools.Int i ≡ 0 → num 0 ≡ 0) → num (node_of (counts_of v) pools.Int i) ≤ size_for d (label_of_entry ps (entry_at v (node_of (counts_of v) pools.Int i))) → num (node_of (counts_of v) pools.Int i) ≤ d.ints
ints_sized v d ps num i zero_is few_is = go (node_cases 0 (length v.ints) i)
  where
    go : ((node_of (counts_of v) pools.Int i) ≡ 0) ⊎ ((j : ℕ) × (j < length v.ints) × ((node_of (counts_of v) pools.Int i) ≡ 0 + suc j)) → num (node_of (counts_of v) pools.Int i) ≤ d.ints
    go (inl e) = let z : num (node_of (counts_of v) pools.Int i) ≡ 0 = ap num e ∙ zero_is e in omega (arith, z)
    go (inr (j, lt, e)) =
        let r = ints_there v j lt in
        let at : entry_at v (node_of (counts_of v) pools.Int i) ≡ IntEntry r.0 = ap (entry_at v) (e ∙ zero_plus j) ∙ r.2 in
        subst (λ x. num (node_of (counts_of v) pools.Int i) ≤ size_for d (label_of_entry ps x)) at few_is

pub uints_sized : (v : Abc) (d : Counts) (ps : List ℕ) (num : ℕ → ℕ) (i : ℕ) → (node_of (counts_of v) pools.UInt i ≡ 0 → num 0 ≡ 0) → num (node_of (counts_of v) pools.UInt i) ≤ size_for d (label_of_entry ps (entry_at v (node_of (counts_of v) pools.UInt i))) → num (node_of (counts_of v) pools.UInt i) ≤ d.uints
uints_sized v d ps num i zero_is few_is = go (node_cases (length v.ints) (length v.uints) i)
  where
    go : ((node_of (counts_of v) pools.UInt i) ≡ 0) ⊎ ((j : ℕ) × (j < length v.uints) × ((node_of (counts_of v) pools.UInt i) ≡ (length v.ints) + suc j)) → num (node_of (counts_of v) pools.UInt i) ≤ d.uints
    go (inl e) = let z : num (node_of (counts_of v) pools.UInt i) ≡ 0 = ap num e ∙ zero_is e in omega (arith, z)
    go (inr (j, lt, e)) =
        let r = uints_there v j lt in
        let at : entry_at v (node_of (counts_of v) pools.UInt i) ≡ UIntEntry r.0 = ap (entry_at v) e ∙ r.2 in
        subst (λ x. num (node_of (counts_of v) pools.UInt i) ≤ size_for d (label_of_entry ps x)) at few_is

pub doubles_sized : (v : Abc) (d : Counts) (ps : List ℕ) (num : ℕ → ℕ) (i : ℕ) → (node_of (counts_of v) pools.Double i ≡ 0 → num 0 ≡ 0) → num (node_of (counts_of v) pools.Double i) ≤ size_for d (label_of_entry ps (entry_at v (node_of (counts_of v) pools.Double i))) → num (node_of (counts_of v) pools.Double i) ≤ d.doubles
doubles_sized v d ps num i zero_is few_is = go (node_cases (length v.ints + length v.uints) (length v.doubles) i)
  where
    go : ((node_of (counts_of v) pools.Double i) ≡ 0) ⊎ ((j : ℕ) × (j < length v.doubles) × ((node_of (counts_of v) pools.Double i) ≡ (length v.ints + length v.uints) + suc j)) → num (node_of (counts_of v) pools.Double i) ≤ d.doubles
    go (inl e) = let z : num (node_of (counts_of v) pools.Double i) ≡ 0 = ap num e ∙ zero_is e in omega (arith, z)
    go (inr (j, lt, e)) =
        let r = doubles_there v j lt in
        let at : entry_at v (node_of (counts_of v) pools.Double i) ≡ DoubleEntry r.0 = ap (entry_at v) e ∙ r.2 in
        subst (λ x. num (node_of (counts_of v) pools.Double i) ≤ size_for d (label_of_entry ps x)) at few_is

pub strings_sized : (v : Abc) (d : Counts) (ps : List ℕ) (num : ℕ → ℕ) (i : ℕ) → (node_of (counts_of v) pools.Text i ≡ 0 → num 0 ≡ 0) → num (node_of (counts_of v) pools.Text i) ≤ size_for d (label_of_entry ps (entry_at v (node_of (counts_of v) pools.Text i))) → num (node_of (counts_of v) pools.Text i) ≤ d.strings
strings_sized v d ps num i zero_is few_is = go (node_cases (length v.ints + length v.uints + length v.doubles) (length v.strings) i)
  where
    go : ((node_of (counts_of v) pools.Text i) ≡ 0) ⊎ ((j : ℕ) × (j < length v.strings) × ((node_of (counts_of v) pools.Text i) ≡ (length v.ints + length v.uints + length v.doubles) + suc j)) → num (node_of (counts_of v) pools.Text i) ≤ d.strings
    go (inl e) = let z : num (node_of (counts_of v) pools.Text i) ≡ 0 = ap num e ∙ zero_is e in omega (arith, z)
    go (inr (j, lt, e)) =
        let r = strings_there v j lt in
        let at : entry_at v (node_of (counts_of v) pools.Text i) ≡ TextEntry r.0 = ap (entry_at v) e ∙ r.2 in
        subst (λ x. num (node_of (counts_of v) pools.Text i) ≤ size_for d (label_of_entry ps x)) at few_is

pub namespaces_sized : (v : Abc) (d : Counts) (ps : List ℕ) (num : ℕ → ℕ) (i : ℕ) → (node_of (counts_of v) pools.Space i ≡ 0 → num 0 ≡ 0) → num (node_of (counts_of v) pools.Space i) ≤ size_for d (label_of_entry ps (entry_at v (node_of (counts_of v) pools.Space i))) → num (node_of (counts_of v) pools.Space i) ≤ d.namespaces
namespaces_sized v d ps num i zero_is few_is = go (node_cases (length v.ints + length v.uints + length v.doubles + length v.strings) (length v.namespaces) i)
  where
    go : ((node_of (counts_of v) pools.Space i) ≡ 0) ⊎ ((j : ℕ) × (j < length v.namespaces) × ((node_of (counts_of v) pools.Space i) ≡ (length v.ints + length v.uints + length v.doubles + length v.strings) + suc j)) → num (node_of (counts_of v) pools.Space i) ≤ d.namespaces
    go (inl e) = let z : num (node_of (counts_of v) pools.Space i) ≡ 0 = ap num e ∙ zero_is e in omega (arith, z)
    go (inr (j, lt, e)) =
        let r = namespaces_there v j lt in
        let at : entry_at v (node_of (counts_of v) pools.Space i) ≡ SpaceEntry j r.0 = ap (entry_at v) e ∙ r.2 in
        subst (λ x. num (node_of (counts_of v) pools.Space i) ≤ size_for d (label_of_entry ps x)) at few_is

pub names_sized : (v : Abc) (d : Counts) (ps : List ℕ) (num : ℕ → ℕ) (i : ℕ) → (node_of (counts_of v) pools.Name i ≡ 0 → num 0 ≡ 0) → num (node_of (counts_of v) pools.Name i) ≤ size_for d (label_of_entry ps (entry_at v (node_of (counts_of v) pools.Name i))) → num (node_of (counts_of v) pools.Name i) ≤ d.names
names_sized v d ps num i zero_is few_is = go (node_cases (length v.ints + length v.uints + length v.doubles + length v.strings + length v.namespaces + length v.sets) (length v.names) i)
  where
    go : ((node_of (counts_of v) pools.Name i) ≡ 0) ⊎ ((j : ℕ) × (j < length v.names) × ((node_of (counts_of v) pools.Name i) ≡ (length v.ints + length v.uints + length v.doubles + length v.strings + length v.namespaces + length v.sets) + suc j)) → num (node_of (counts_of v) pools.Name i) ≤ d.names
    go (inl e) = let z : num (node_of (counts_of v) pools.Name i) ≡ 0 = ap num e ∙ zero_is e in omega (arith, z)
    go (inr (j, lt, e)) =
        let r = names_there v j lt in
        let at : entry_at v (node_of (counts_of v) pools.Name i) ≡ NameEntry r.0 = ap (entry_at v) e ∙ r.2 in
        subst (λ x. num (node_of (counts_of v) pools.Name i) ≤ size_for d (label_of_entry ps x)) at few_is

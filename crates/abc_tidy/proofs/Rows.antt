-- What is written of a file: for each entry that was met its label and the new numbers of its parts.
use Rattle.std.proofs.Common.{◌≡◌, ℕ, ℤ, zero, suc, ◌+◌, ◌<◌, List, [], ◌∷◌, ◌++◌, All, map, length, get_or, drop, flat_map, nat_eq, Bool, true, false, if◌then◌else◌, count_by, take, cond, sum_by, refl, sym, ap, subst, ◌∙◌, arith}
use Rattle.std.proofs.lemmas.List.{map-append, take-map}
use Rattle.std.proofs.lemmas.List.Sums.{sum_by-cons}
use Rattle.abc_tidy_refs.specs.declared.nodes.Counts.{Counts}
use Rattle.abc_tidy_refs.specs.declared.nodes.Numbers.{Numbers}
use Rattle.abc_tidy_refs.specs.Nodes.{counts_of, node_of, new_index, set_node, set_number_in}
use Rattle.abc_file_types.specs.declared.names.Multiname.{Multiname}
use Rattle.abc_file_types.specs.declared.names.Multiname.TheVariants as names
use Rattle.abc_file_types.specs.declared.names.MultinameKind.{MultinameKind}
use Rattle.abc_file_types.specs.declared.names.MultinameKind.TheVariants as kinds
use Rattle.abc_file_types.specs.declared.names.Namespace.{Namespace}
use Rattle.abc_file_types.specs.declared.opcodes.Pool.TheVariants as pools
use Rattle.abc_file_types.specs.declared.tables.Abc.{Abc}
use Rattle.abc_file_types.specs.declared.tables.Eight.{Eight}
use Rattle.abc_file_types.specs.Pools.{empty}
use Rattle.abc_tidy_entries.specs.NewPools.{same_entry, new_name, new_pools, new_set, new_space, entries_of_nodes, picked_at}
use Rattle.abc_tidy_entries.specs.Visited.{is_of_pool, number_of_node, pool_of_node}
use Rattle.abc_tidy.specs.Things.{Entry, NoEntry, IntEntry, UIntEntry, DoubleEntry, TextEntry, SpaceEntry, SetEntry, NameEntry, EntryLabel, Zero, Int, UInt, Double, Text, Space, Set, Name, entries, entry_at, label_of_entry, parts}
use Rattle.abc_tidy.proofs.Lists.{get_map, two_maps}
use Rattle.abc_tidy.proofs.Located.{Located, doubles_in, entry_pool, ints_in, locate, names_in, namespaces_in, picked_doubles, picked_ints, picked_names, picked_namespaces, picked_sets, picked_strings, picked_uints, pool_at, sets_in, strings_in, uints_in}

abbrev pub Row : Type 0
Row = EntryLabel × List ℕ

-- ---- what a row adds to each pool

abbrev pub made_ints : EntryLabel → List ℕ → List ℤ
made_ints Zero ns = []
made_ints (Int x) ns = x ∷ []
made_ints (UInt x) ns = []
made_ints (Double x) ns = []
made_ints (Text x) ns = []
made_ints (Space k n) ns = []
made_ints Set ns = []
made_ints (Name k) ns = []

abbrev pub made_uints : EntryLabel → List ℕ → List ℕ
made_uints Zero ns = []
made_uints (Int x) ns = []
made_uints (UInt x) ns = x ∷ []
made_uints (Double x) ns = []
made_uints (Text x) ns = []
made_uints (Space k n) ns = []
made_uints Set ns = []
made_uints (Name k) ns = []

abbrev pub made_doubles : EntryLabel → List ℕ → List Eight
made_doubles Zero ns = []
made_doubles (Int x) ns = []
made_doubles (UInt x) ns = []
made_doubles (Double x) ns = x ∷ []
made_doubles (Text x) ns = []
made_doubles (Space k n) ns = []
made_doubles Set ns = []
made_doubles (Name k) ns = []

abbrev pub made_strings : EntryLabel → List ℕ → List (List ℕ)
made_strings Zero ns = []
made_strings (Int x) ns = []
made_strings (UInt x) ns = []
made_strings (Double x) ns = []
made_strings (Text x) ns = x ∷ []
made_strings (Space k n) ns = []
made_strings Set ns = []
made_strings (Name k) ns = []

abbrev pub made_spaces : EntryLabel → List ℕ → List Namespace
made_spaces Zero ns = []
made_spaces (Int x) ns = []
made_spaces (UInt x) ns = []
made_spaces (Double x) ns = []
made_spaces (Text x) ns = []
made_spaces (Space k n) ns = record { kind = k; name = get_or ns 0 0 } ∷ []
made_spaces Set ns = []
made_spaces (Name k) ns = []

abbrev pub made_sets : EntryLabel → List ℕ → List (List ℕ)
made_sets Zero ns = []
made_sets (Int x) ns = []
made_sets (UInt x) ns = []
made_sets (Double x) ns = []
made_sets (Text x) ns = []
made_sets (Space k n) ns = []
made_sets Set ns = ns ∷ []
made_sets (Name k) ns = []

abbrev pub made_name : MultinameKind → List ℕ → Multiname
made_name (kinds.QName attr) ns = names.QName attr (get_or ns 0 0) (get_or ns 1 0)
made_name (kinds.Rt attr) ns = names.Rt attr (get_or ns 0 0)
made_name (kinds.RtL attr) ns = names.RtL attr
made_name (kinds.Multi attr) ns = names.Multi attr (get_or ns 0 0) (get_or ns 1 0)
made_name (kinds.MultiL attr) ns = names.MultiL attr (get_or ns 0 0)
made_name kinds.TypeName ns = names.TypeName (get_or ns 0 0) (drop 1 ns)

abbrev pub made_names : EntryLabel → List ℕ → List Multiname
made_names Zero ns = []
made_names (Int x) ns = []
made_names (UInt x) ns = []
made_names (Double x) ns = []
made_names (Text x) ns = []
made_names (Space k n) ns = []
made_names Set ns = []
made_names (Name k) ns = made_name k ns ∷ []

-- the pools that rows make
abbrev pub pools_of : List Row → Abc
pools_of rows = record empty {
  ints = flat_map (λ (r : Row). made_ints r.0 r.1) rows;
  uints = flat_map (λ (r : Row). made_uints r.0 r.1) rows;
  doubles = flat_map (λ (r : Row). made_doubles r.0 r.1) rows;
  strings = flat_map (λ (r : Row). made_strings r.0 r.1) rows;
  namespaces = flat_map (λ (r : Row). made_spaces r.0 r.1) rows;
  sets = flat_map (λ (r : Row). made_sets r.0 r.1) rows;
  names = flat_map (λ (r : Row). made_names r.0 r.1) rows;
}

-- ---- the row of a node

abbrev pub number : List ℕ → ℕ → ℕ
number numbers y = get_or numbers y 0

abbrev pub with_numbers : Counts → List ℕ → Numbers
with_numbers c numbers = record { counts = c; numbers = numbers }

abbrev pub row_of : Abc → List ℕ → List ℕ → ℕ → Row
row_of v privates numbers x = (label_of_entry privates (entry_at v x), map (number numbers) (parts (counts_of v) (entry_at v x)))

ints_made : (c : Counts) (ns ps : List ℕ) (e : Entry) → map (same_entry (with_numbers c ns)) (ints_in e) ≡ made_ints (label_of_entry ps e) (map (number ns) (parts c e))
ints_made c ns ps NoEntry = refl
ints_made c ns ps (IntEntry x) = refl
ints_made c ns ps (UIntEntry x) = refl
ints_made c ns ps (DoubleEntry x) = refl
ints_made c ns ps (TextEntry x) = refl
ints_made c ns ps (SpaceEntry place n) = refl
ints_made c ns ps (SetEntry x) = refl
ints_made c ns ps (NameEntry m) = refl

uints_made : (c : Counts) (ns ps : List ℕ) (e : Entry) → map (same_entry (with_numbers c ns)) (uints_in e) ≡ made_uints (label_of_entry ps e) (map (number ns) (parts c e))
uints_made c ns ps NoEntry = refl
uints_made c ns ps (IntEntry x) = refl
uints_made c ns ps (UIntEntry x) = refl
uints_made c ns ps (DoubleEntry x) = refl
uints_made c ns ps (TextEntry x) = refl
uints_made c ns ps (SpaceEntry place n) = refl
uints_made c ns ps (SetEntry x) = refl
uints_made c ns ps (NameEntry m) = refl

doubles_made : (c : Counts) (ns ps : List ℕ) (e : Entry) → map (same_entry (with_numbers c ns)) (doubles_in e) ≡ made_doubles (label_of_entry ps e) (map (number ns) (parts c e))
doubles_made c ns ps NoEntry = refl
doubles_made c ns ps (IntEntry x) = refl
doubles_made c ns ps (UIntEntry x) = refl
doubles_made c ns ps (DoubleEntry x) = refl
doubles_made c ns ps (TextEntry x) = refl
doubles_made c ns ps (SpaceEntry place n) = refl
doubles_made c ns ps (SetEntry x) = refl
doubles_made c ns ps (NameEntry m) = refl

strings_made : (c : Counts) (ns ps : List ℕ) (e : Entry) → map (same_entry (with_numbers c ns)) (strings_in e) ≡ made_strings (label_of_entry ps e) (map (number ns) (parts c e))
strings_made c ns ps NoEntry = refl
strings_made c ns ps (IntEntry x) = refl
strings_made c ns ps (UIntEntry x) = refl
strings_made c ns ps (DoubleEntry x) = refl
strings_made c ns ps (TextEntry x) = refl
strings_made c ns ps (SpaceEntry place n) = refl
strings_made c ns ps (SetEntry x) = refl
strings_made c ns ps (NameEntry m) = refl

spaces_made : (c : Counts) (ns ps : List ℕ) (e : Entry) → map (new_space (with_numbers c ns)) (namespaces_in e) ≡ made_spaces (label_of_entry ps e) (map (number ns) (parts c e))
spaces_made c ns ps NoEntry = refl
spaces_made c ns ps (IntEntry x) = refl
spaces_made c ns ps (UIntEntry x) = refl
spaces_made c ns ps (DoubleEntry x) = refl
spaces_made c ns ps (TextEntry x) = refl
spaces_made c ns ps (SpaceEntry place n) = refl
spaces_made c ns ps (SetEntry x) = refl
spaces_made c ns ps (NameEntry m) = refl

sets_made : (c : Counts) (ns ps : List ℕ) (e : Entry) → map (new_set (with_numbers c ns)) (sets_in e) ≡ made_sets (label_of_entry ps e) (map (number ns) (parts c e))
sets_made c ns ps NoEntry = refl
sets_made c ns ps (IntEntry x) = refl
sets_made c ns ps (UIntEntry x) = refl
sets_made c ns ps (DoubleEntry x) = refl
sets_made c ns ps (TextEntry x) = refl
sets_made c ns ps (SpaceEntry place n) = refl
sets_made c ns ps (SetEntry x) = ap (λ l. l ∷ []) (sym (two_maps (number ns) (node_of c pools.Space) (new_index (with_numbers c ns) pools.Space) x (λ y. refl)))
sets_made c ns ps (NameEntry m) = refl

name_made : (c : Counts) (ns ps : List ℕ) (m : Multiname) → map (new_name (with_numbers c ns)) (m ∷ []) ≡ made_names (label_of_entry ps (NameEntry m)) (map (number ns) (parts c (NameEntry m)))
name_made c ns ps (names.QName attr n i) = refl
name_made c ns ps (names.Rt attr i) = refl
name_made c ns ps (names.RtL attr) = refl
name_made c ns ps (names.Multi attr i s) = refl
name_made c ns ps (names.MultiL attr s) = refl
name_made c ns ps (names.TypeName base params) =
    ap (λ l. names.TypeName (new_index (with_numbers c ns) pools.Name base) l ∷ []) (sym (two_maps (number ns) (node_of c pools.Name) (new_index (with_numbers c ns) pools.Name) params (λ y. refl)))

names_made : (c : Counts) (ns ps : List ℕ) (e : Entry) → map (new_name (with_numbers c ns)) (names_in e) ≡ made_names (label_of_entry ps e) (map (number ns) (parts c e))
names_made c ns ps NoEntry = refl
names_made c ns ps (IntEntry x) = refl
names_made c ns ps (UIntEntry x) = refl
names_made c ns ps (DoubleEntry x) = refl
names_made c ns ps (TextEntry x) = refl
names_made c ns ps (SpaceEntry place n) = refl
names_made c ns ps (SetEntry x) = refl
names_made c ns ps (NameEntry m) = name_made c ns ps m

-- ---- the new pools are those that rows make

pool_rows : {A B : Type 0} (before : ℕ) (xs : List A) (new : A → B) (row : ℕ → Row) (made : EntryLabel → List ℕ → List B) (seen : List ℕ) (most : ℕ) → ((x : ℕ) → x < most → map new (picked_at before xs x) ≡ made (row x).0 (row x).1) → All (λ x. x < most) seen → map new (entries_of_nodes before xs seen) ≡ flat_map (λ (r : Row). made r.0 r.1) (map row seen)
pool_rows before xs new row made [] most h within = refl
pool_rows before xs new row made (x ∷ seen) most h within =
    let first : map new (picked_at before xs x) ≡ made (row x).0 (row x).1 = h x (within 0 0 (omega arith)) in
    let rest : map new (entries_of_nodes before xs seen) ≡ flat_map (λ (r : Row). made r.0 r.1) (map row seen) = pool_rows before xs new row made seen most h (λ k d lt. within (suc k) d (omega arith)) in
    map-append new (picked_at before xs x) (entries_of_nodes before xs seen) ∙ (λ i. first i ++ rest i)

pub pools_are : (v : Abc) (numbers ps seen : List ℕ) → All (λ x. x < length (entries v)) seen → new_pools (with_numbers (counts_of v) numbers) v seen ≡ pools_of (map (row_of v ps numbers) seen)
pools_are v ns ps seen within = λ i. record empty { ints = ints i; uints = uints i; doubles = doubles i; strings = strings i; namespaces = spaces i; sets = sets i; names = multinames i }
  where
    ints : map (same_entry (with_numbers (counts_of v) ns)) (entries_of_nodes 0 v.ints seen) ≡ flat_map (λ (r : Row). made_ints r.0 r.1) (map (row_of v ps ns) seen)
    ints = pool_rows 0 v.ints (same_entry (with_numbers (counts_of v) ns)) (row_of v ps ns) made_ints seen (length (entries v)) (λ x lt. ap (map (same_entry (with_numbers (counts_of v) ns))) (picked_ints v x (entry_at v x) (locate v x lt)) ∙ ints_made (counts_of v) ns ps (entry_at v x)) within

    uints : map (same_entry (with_numbers (counts_of v) ns)) (entries_of_nodes (length v.ints) v.uints seen) ≡ flat_map (λ (r : Row). made_uints r.0 r.1) (map (row_of v ps ns) seen)
    uints = pool_rows (length v.ints) v.uints (same_entry (with_numbers (counts_of v) ns)) (row_of v ps ns) made_uints seen (length (entries v)) (λ x lt. ap (map (same_entry (with_numbers (counts_of v) ns))) (picked_uints v x (entry_at v x) (locate v x lt)) ∙ uints_made (counts_of v) ns ps (entry_at v x)) within

    doubles : map (same_entry (with_numbers (counts_of v) ns)) (entries_of_nodes (length v.ints + length v.uints) v.doubles seen) ≡ flat_map (λ (r : Row). made_doubles r.0 r.1) (map (row_of v ps ns) seen)
    doubles = pool_rows (length v.ints + length v.uints) v.doubles (same_entry (with_numbers (counts_of v) ns)) (row_of v ps ns) made_doubles seen (length (entries v)) (λ x lt. ap (map (same_entry (with_numbers (counts_of v) ns))) (picked_doubles v x (entry_at v x) (locate v x lt)) ∙ doubles_made (counts_of v) ns ps (entry_at v x)) within

    strings : map (same_entry (with_numbers (counts_of v) ns)) (entries_of_nodes (length v.ints + length v.uints + length v.doubles) v.strings seen) ≡ flat_map (λ (r : Row). made_strings r.0 r.1) (map (row_of v ps ns) seen)
    strings = pool_rows (length v.ints + length v.uints + length v.doubles) v.strings (same_entry (with_numbers (counts_of v) ns)) (row_of v ps ns) made_strings seen (length (entries v)) (λ x lt. ap (map (same_entry (with_numbers (counts_of v) ns))) (picked_strings v x (entry_at v x) (locate v x lt)) ∙ strings_made (counts_of v) ns ps (entry_at v x)) within

    spaces : map (new_space (with_numbers (counts_of v) ns)) (entries_of_nodes (length v.ints + length v.uints + length v.doubles + length v.strings) v.namespaces seen) ≡ flat_map (λ (r : Row). made_spaces r.0 r.1) (map (row_of v ps ns) seen)
    spaces = pool_rows (length v.ints + length v.uints + length v.doubles + length v.strings) v.namespaces (new_space (with_numbers (counts_of v) ns)) (row_of v ps ns) made_spaces seen (length (entries v)) (λ x lt. ap (map (new_space (with_numbers (counts_of v) ns))) (picked_namespaces v x (entry_at v x) (locate v x lt)) ∙ spaces_made (counts_of v) ns ps (entry_at v x)) within

    sets : map (new_set (with_numbers (counts_of v) ns)) (entries_of_nodes (length v.ints + length v.uints + length v.doubles + length v.strings + length v.namespaces) v.sets seen) ≡ flat_map (λ (r : Row). made_sets r.0 r.1) (map (row_of v ps ns) seen)
    sets = pool_rows (length v.ints + length v.uints + length v.doubles + length v.strings + length v.namespaces) v.sets (new_set (with_numbers (counts_of v) ns)) (row_of v ps ns) made_sets seen (length (entries v)) (λ x lt. ap (map (new_set (with_numbers (counts_of v) ns))) (picked_sets v x (entry_at v x) (locate v x lt)) ∙ sets_made (counts_of v) ns ps (entry_at v x)) within

    multinames : map (new_name (with_numbers (counts_of v) ns)) (entries_of_nodes (length v.ints + length v.uints + length v.doubles + length v.strings + length v.namespaces + length v.sets) v.names seen) ≡ flat_map (λ (r : Row). made_names r.0 r.1) (map (row_of v ps ns) seen)
    multinames = pool_rows (length v.ints + length v.uints + length v.doubles + length v.strings + length v.namespaces + length v.sets) v.names (new_name (with_numbers (counts_of v) ns)) (row_of v ps ns) made_names seen (length (entries v)) (λ x lt. ap (map (new_name (with_numbers (counts_of v) ns))) (picked_names v x (entry_at v x) (locate v x lt)) ∙ names_made (counts_of v) ns ps (entry_at v x)) within

-- ---- numbers by pools

abbrev pub label_pool : EntryLabel → ℕ
label_pool Zero = 0
label_pool (Int x) = 1
label_pool (UInt x) = 2
label_pool (Double x) = 3
label_pool (Text x) = 4
label_pool (Space k n) = 5
label_pool Set = 6
label_pool (Name k) = 7

pub entry_pool_is : (ps : List ℕ) (e : Entry) → entry_pool e ≡ label_pool (label_of_entry ps e)
entry_pool_is ps NoEntry = refl
entry_pool_is ps (IntEntry x) = refl
entry_pool_is ps (UIntEntry x) = refl
entry_pool_is ps (DoubleEntry x) = refl
entry_pool_is ps (TextEntry x) = refl
entry_pool_is ps (SpaceEntry place n) = refl
entry_pool_is ps (SetEntry x) = refl
entry_pool_is ps (NameEntry m) = refl

-- the number at a place of a list of pools
abbrev pub number_among_pools : List ℕ → ℕ → ℕ
number_among_pools pools i = if nat_eq (get_or pools i 0) 0 then 0 else count_by (λ q. nat_eq q (get_or pools i 0)) (take (i + 1) pools)

-- how many of one more
pub count_cons : (test : ℕ → Bool) (x : ℕ) (xs : List ℕ) → count_by test (x ∷ xs) ≡ cond {A = ℕ} (test x) 1 0 + count_by test xs
count_cons test x xs = sum_by-cons (λ y. cond {A = ℕ} (test y) 1 0) x xs

count_map : (f : ℕ → ℕ) (test : ℕ → Bool) (xs : List ℕ) → count_by test (map f xs) ≡ count_by (λ x. test (f x)) xs
count_map f test [] = refl
count_map f test (x ∷ xs) = count_cons test (f x) (map f xs) ∙ ap (λ n. cond {A = ℕ} (test (f x)) 1 0 + n) (count_map f test xs) ∙ sym (count_cons (λ y. test (f y)) x xs)

pub number_by_pools : (c : Counts) (seen : List ℕ) (i : ℕ) → number_of_node c seen i ≡ number_among_pools (map (pool_of_node c) seen) i
number_by_pools c seen i =
    let at : get_or (map (pool_of_node c) seen) i 0 ≡ pool_of_node c (get_or seen i 0) = get_map (pool_of_node c) seen i 0 0 refl in
    let counts : count_by (λ q. nat_eq q (pool_of_node c (get_or seen i 0))) (take (i + 1) (map (pool_of_node c) seen)) ≡ count_by (is_of_pool c (pool_of_node c (get_or seen i 0))) (take (i + 1) seen) =
    ap (count_by (λ q. nat_eq q (pool_of_node c (get_or seen i 0)))) (take-map (pool_of_node c) (i + 1) seen) ∙ count_map (pool_of_node c) (λ q. nat_eq q (pool_of_node c (get_or seen i 0))) (take (i + 1) seen) in
    ap (λ n. if nat_eq (pool_of_node c (get_or seen i 0)) 0 then 0 else n) (sym counts)
    ∙ ap (λ p. if nat_eq p 0 then 0 else count_by (λ q. nat_eq q p) (take (i + 1) (map (pool_of_node c) seen))) (sym at)

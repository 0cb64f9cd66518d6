-- What an entry is by itself says as much as its head does.
use Rattle.std.proofs.Common.{◌≡◌, ℕ, ℤ, pos, zero, suc, ◌+◌, ◌<◌, ◌⊎◌, inl, inr, List, [], ◌∷◌, ◌++◌, map, get_or, nat_eq, Bool, true, false, if◌then◌else◌, Some, None, unwrap_or, Decides, eqb-true, eq-eqb, refl, sym, ap, subst, ◌∙◌, arith, bytes_eq, int_eq, true≢false}
use Rattle.std.specs.Cmp.Lexicographic.{pointwise}
use Rattle.std.specs.Cmp.{signed_Decides}
use Rattle.std.specs.declared.option.Option.{Option}
use Rattle.std.proofs.lemmas.Slice.Eq.{bytes_eq-Decides}
use Rattle.abc_base_graphs.specs.Texts.{number_among, texts_of}
use Rattle.abc_file_types.specs.declared.names.Multiname.{Multiname}
use Rattle.abc_file_types.specs.declared.names.Multiname.TheVariants as names
use Rattle.abc_file_types.specs.declared.names.MultinameKind.{MultinameKind}
use Rattle.abc_file_types.specs.declared.names.MultinameKind.TheVariants as kinds
use Rattle.abc_file_types.specs.declared.names.Namespace.{Namespace}
use Rattle.abc_file_types.specs.declared.names.NsKind.{NsKind}
use Rattle.abc_file_types.specs.declared.names.NsKind.TheVariants as spaces
use Rattle.abc_file_types.specs.declared.tables.Abc.{Abc}
use Rattle.abc_file_types.specs.declared.tables.Eight.{Eight}
use Rattle.abc_file_types.specs.Pools.{is_namespace_kind, multiname_code, multiname_kind_of, namespace_code, namespace_kind_of}
use Rattle.abc_base_trees.specs.declared.heads.Head.{Head}
use Rattle.abc_base_trees.specs.Trees.{no_head}
use Rattle.abc_tidy_entries.specs.Entries.{doubles_kind, ints_kind, name_head, place_among, sets_kind, space_head, space_told, texts_kind, uints_kind, value_head}
use Rattle.abc_tidy_entries.proofs.Found.{place_found}
use Rattle.abc_tidy.specs.Things.{Entry, NoEntry, IntEntry, UIntEntry, DoubleEntry, TextEntry, SpaceEntry, SetEntry, NameEntry, EntryLabel, Zero, Int, UInt, Double, Text, Space, Set, Name, entries, entry_at, kind_of_multiname, label_of_entry, space_entries}
use Rattle.abc_tidy.proofs.Entered.{double_bits, entry_head}
use Rattle.abc_tidy.proofs.Lists.{Each, each_append, each_at, each_map}
use Rattle.abc_base_trees.specs.Orders.{StandsIn}

pub nat_decides : (x y : ℕ) → Decides (nat_eq x y) (x ≡ y)
nat_decides x y = (eqb-true x y, eq-eqb x y)

-- ---- from heads to labels and back

abbrev pub label_of : Abc → List ℕ → Head → EntryLabel
label_of v privates h =
    if nat_eq h.kind 0 then Zero
    else if nat_eq h.kind ints_kind then Int (get_or v.ints h.value (pos 0))
    else if nat_eq h.kind uints_kind then UInt (get_or v.uints h.value 0)
    else if nat_eq h.kind doubles_kind then Double (record { 0 = get_or (double_bits v) h.value [] })
    else if nat_eq h.kind texts_kind then Text (get_or (texts_of v.strings) h.value [])
    else if nat_eq h.kind sets_kind then Set
    else if is_namespace_kind h.kind then Space (namespace_kind_of h.kind) (space_told (namespace_kind_of h.kind) (place_among nat_eq privates h.value))
    else Name (multiname_kind_of h.kind)

abbrev pub head_of : Abc → List ℕ → EntryLabel → Head
head_of v privates Zero = no_head
head_of v privates (Int x) = value_head ints_kind (place_among int_eq v.ints x)
head_of v privates (UInt x) = value_head uints_kind (place_among nat_eq v.uints x)
head_of v privates (Double x) = value_head doubles_kind (place_among (pointwise nat_eq) (double_bits v) x.0)
head_of v privates (Text x) = value_head texts_kind (number_among (texts_of v.strings) x)
head_of v privates (Space kind n) = record { kind = namespace_code kind; value = space_told kind (get_or privates n 0) }
head_of v privates Set = value_head sets_kind 0
head_of v privates (Name kind) = record { kind = multiname_code kind; value = 0 }

space_label : (v : Abc) (privates : List ℕ) (kind : NsKind) (place : ℕ) → label_of v privates (record { kind = namespace_code kind; value = space_told kind place }) ≡ Space kind (space_told kind (place_among nat_eq privates place))
space_label v privates spaces.Private place = refl
space_label v privates spaces.Namespace place = refl
space_label v privates spaces.Package place = refl
space_label v privates spaces.PackageInternal place = refl
space_label v privates spaces.Protected place = refl
space_label v privates spaces.Explicit place = refl
space_label v privates spaces.StaticProtected place = refl

name_label : (v : Abc) (privates : List ℕ) (kind : MultinameKind) → label_of v privates (record { kind = multiname_code kind; value = 0 }) ≡ Name kind
name_label v privates (kinds.QName false) = refl
name_label v privates (kinds.QName true) = refl
name_label v privates (kinds.Rt false) = refl
name_label v privates (kinds.Rt true) = refl
name_label v privates (kinds.RtL false) = refl
name_label v privates (kinds.RtL true) = refl
name_label v privates (kinds.Multi false) = refl
name_label v privates (kinds.Multi true) = refl
name_label v privates (kinds.MultiL false) = refl
name_label v privates (kinds.MultiL true) = refl
name_label v privates kinds.TypeName = refl

pub name_head_is : (m : Multiname) → name_head m ≡ record { kind = multiname_code (kind_of_multiname m); value = 0 }
name_head_is (names.QName attr ns name) = refl
name_head_is (names.Rt attr name) = refl
name_head_is (names.RtL attr) = refl
name_head_is (names.Multi attr name set) = refl
name_head_is (names.MultiL attr set) = refl
name_head_is (names.TypeName base params) = refl

abbrev Labels : Abc → List ℕ → Entry → Type 0
Labels v privates e = label_of v privates (entry_head v e) ≡ label_of_entry privates e

spaces_labels : (v : Abc) (privates : List ℕ) (place : ℕ) (ns : List Namespace) → Each (Labels v privates) (space_entries place ns)
spaces_labels v privates place [] = tt
spaces_labels v privates place (n ∷ ns) = (space_label v privates n.kind place, spaces_labels v privates (place + 1) ns)

all_labels : (v : Abc) (privates : List ℕ) → Each (Labels v privates) (entries v)
all_labels v privates =
    each_append (Labels v privates) ((NoEntry ∷ []) ++ map IntEntry v.ints ++ map UIntEntry v.uints ++ map DoubleEntry v.doubles ++ map TextEntry v.strings ++ space_entries 0 v.namespaces ++ map SetEntry v.sets) (map NameEntry v.names)
    (each_append (Labels v privates) ((NoEntry ∷ []) ++ map IntEntry v.ints ++ map UIntEntry v.uints ++ map DoubleEntry v.doubles ++ map TextEntry v.strings ++ space_entries 0 v.namespaces) (map SetEntry v.sets)
    (each_append (Labels v privates) ((NoEntry ∷ []) ++ map IntEntry v.ints ++ map UIntEntry v.uints ++ map DoubleEntry v.doubles ++ map TextEntry v.strings) (space_entries 0 v.namespaces)
    (each_append (Labels v privates) ((NoEntry ∷ []) ++ map IntEntry v.ints ++ map UIntEntry v.uints ++ map DoubleEntry v.doubles) (map TextEntry v.strings)
    (each_append (Labels v privates) ((NoEntry ∷ []) ++ map IntEntry v.ints ++ map UIntEntry v.uints) (map DoubleEntry v.doubles)
    (each_append (Labels v privates) ((NoEntry ∷ []) ++ map IntEntry v.ints) (map UIntEntry v.uints)
    (each_append (Labels v privates) (NoEntry ∷ []) (map IntEntry v.ints) (refl, tt) ints) uints) doubles) texts) (spaces_labels v privates 0 v.namespaces)) sets) labels
  where
    ints : Each (Labels v privates) (map IntEntry v.ints)
    ints = each_map (Labels v privates) IntEntry v.ints (λ x h. ap Int (place_found int_eq signed_Decides x (pos 0) v.ints h))

    uints : Each (Labels v privates) (map UIntEntry v.uints)
    uints = each_map (Labels v privates) UIntEntry v.uints (λ x h. ap UInt (place_found nat_eq nat_decides x 0 v.uints h))

    bits : (ds : List Eight) (x : Eight) → StandsIn x ds → StandsIn x.0 (map (λ d. d.0) ds)
    bits [] x h = absurd h
    bits (d ∷ ds) x (inl e) = inl (ap (λ y. y.0) e)
    bits (d ∷ ds) x (inr h) = inr (bits ds x h)

    doubles : Each (Labels v privates) (map DoubleEntry v.doubles)
    doubles = each_map (Labels v privates) DoubleEntry v.doubles (λ x h. ap (λ b. Double (record { 0 = b })) (place_found (pointwise nat_eq) bytes_eq-Decides x.0 [] (double_bits v) (bits v.doubles x h)))

    texts : Each (Labels v privates) (map TextEntry v.strings)
    texts = each_map (Labels v privates) TextEntry v.strings (λ x h. ap Text (place_found bytes_eq bytes_eq-Decides x [] (texts_of v.strings) (inr h)))

    sets : Each (Labels v privates) (map SetEntry v.sets)
    sets = each_map (Labels v privates) SetEntry v.sets (λ x h. refl)

    labels : Each (Labels v privates) (map NameEntry v.names)
    labels = each_map (Labels v privates) NameEntry v.names (λ m h. ap (label_of v privates) (name_head_is m) ∙ name_label v privates (kind_of_multiname m))

-- the label of a node is that of its head
pub label_found : (v : Abc) (privates : List ℕ) (x : ℕ) → label_of v privates (entry_head v (entry_at v x)) ≡ label_of_entry privates (entry_at v x)
label_found v privates x = each_at (Labels v privates) (entries v) x NoEntry refl (all_labels v privates)

-- ---- a Private namespace is among those that are visited

abbrev pub FineSpace : List ℕ → NsKind → ℕ → Type 0
FineSpace privates spaces.Private place = StandsIn place privates
FineSpace privates spaces.Namespace place = Unit {0}
FineSpace privates spaces.Package place = Unit {0}
FineSpace privates spaces.PackageInternal place = Unit {0}
FineSpace privates spaces.Protected place = Unit {0}
FineSpace privates spaces.Explicit place = Unit {0}
FineSpace privates spaces.StaticProtected place = Unit {0}

abbrev pub Fine : List ℕ → Entry → Type 0
Fine privates NoEntry = Unit {0}
Fine privates (IntEntry x) = Unit {0}
Fine privates (UIntEntry x) = Unit {0}
Fine privates (DoubleEntry x) = Unit {0}
Fine privates (TextEntry x) = Unit {0}
Fine privates (SpaceEntry place n) = FineSpace privates n.kind place
Fine privates (SetEntry spaces) = Unit {0}
Fine privates (NameEntry m) = Unit {0}

space_found : (v : Abc) (privates : List ℕ) (kind : NsKind) (place : ℕ) → FineSpace privates kind place → head_of v privates (Space kind (space_told kind (place_among nat_eq privates place))) ≡ record { kind = namespace_code kind; value = space_told kind place }
space_found v privates spaces.Private place h = ap (λ p. record { kind = namespace_code spaces.Private; value = p }) (place_found nat_eq nat_decides place 0 privates h)
space_found v privates spaces.Namespace place h = refl
space_found v privates spaces.Package place h = refl
space_found v privates spaces.PackageInternal place h = refl
space_found v privates spaces.Protected place h = refl
space_found v privates spaces.Explicit place h = refl
space_found v privates spaces.StaticProtected place h = refl

pub head_found : (v : Abc) (privates : List ℕ) (e : Entry) → Fine privates e → head_of v privates (label_of_entry privates e) ≡ entry_head v e
head_found v privates NoEntry h = refl
head_found v privates (IntEntry x) h = refl
head_found v privates (UIntEntry x) h = refl
head_found v privates (DoubleEntry x) h = refl
head_found v privates (TextEntry x) h = refl
head_found v privates (SpaceEntry place n) h = space_found v privates n.kind place h
head_found v privates (SetEntry spaces) h = refl
head_found v privates (NameEntry m) h = sym (name_head_is m)

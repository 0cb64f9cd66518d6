-- The things that the indices of a file stand for: what an entry is by itself, and under it the things of the entries that its own indices name, in
-- order. No index stands in a thing (profile: docs/TIDYING.md, "The free form").
use Rattle.std.specs.Prelude.{ℕ, ℤ, ◌+◌, List, [], ◌∷◌, ◌++◌, map, get_or, nat_eq}
use Rattle.abc_tidy_refs.specs.declared.nodes.Counts.{Counts}
use Rattle.abc_tidy_refs.specs.Nodes.{counts_of}
use Rattle.abc_file_types.specs.declared.names.Multiname.{Multiname}
use Rattle.abc_file_types.specs.declared.names.Multiname.TheVariants as names
use Rattle.abc_file_types.specs.declared.names.MultinameKind.{MultinameKind}
use Rattle.abc_file_types.specs.declared.names.MultinameKind.TheVariants as kinds
use Rattle.abc_file_types.specs.declared.names.Namespace.{Namespace}
use Rattle.abc_file_types.specs.declared.names.NsKind.{NsKind}
use Rattle.abc_file_types.specs.declared.tables.Abc.{Abc}
use Rattle.abc_file_types.specs.declared.tables.Eight.{Eight}
use Rattle.abc_tidy_entries.specs.Entries.{entry_name_parts, place_among, set_parts, space_parts, space_told}

-- What an entry is by itself. The number of a namespace tells which of the visited Private ones it is; of other kinds it is 0.
-- The kind of a multiname tells whether it names an attribute.
pub data EntryLabel : Type 0 where
  Zero : EntryLabel
  Int : ℤ → EntryLabel
  UInt : ℕ → EntryLabel
  Double : Eight → EntryLabel
  Text : List ℕ → EntryLabel
  Space : NsKind → ℕ → EntryLabel
  Set : EntryLabel
  Name : MultinameKind → EntryLabel

-- A thing: what an entry is alone, or a thing with one more under it.
pub data Thing : Type 0 where
  Alone : EntryLabel → Thing
  With : Thing → Thing → Thing

-- ---- the entries that indices name

-- An entry of any pool, or none. A namespace stands beside its place in its pool.
pub data Entry : Type 0 where
  NoEntry : Entry
  IntEntry : ℤ → Entry
  UIntEntry : ℕ → Entry
  DoubleEntry : Eight → Entry
  TextEntry : List ℕ → Entry
  SpaceEntry : ℕ → Namespace → Entry
  SetEntry : List ℕ → Entry
  NameEntry : Multiname → Entry

-- from a place on
abbrev pub space_entries : ℕ → List Namespace → List Entry
space_entries place [] = []
space_entries place (n ∷ ns) = SpaceEntry place n ∷ space_entries (place + 1) ns

-- no entry, and then those of all pools in file order
abbrev pub entries : Abc → List Entry
entries v =
    (NoEntry ∷ []) ++ map IntEntry v.ints ++ map UIntEntry v.uints ++ map DoubleEntry v.doubles ++ map TextEntry v.strings
    ++ space_entries 0 v.namespaces ++ map SetEntry v.sets ++ map NameEntry v.names

-- the entry that a node stands for
abbrev pub entry_at : Abc → ℕ → Entry
entry_at v x = get_or (entries v) x NoEntry

-- the kind of a multiname
abbrev pub kind_of_multiname : Multiname → MultinameKind
kind_of_multiname (names.QName attr ns name) = kinds.QName attr
kind_of_multiname (names.Rt attr name) = kinds.Rt attr
kind_of_multiname (names.RtL attr) = kinds.RtL attr
kind_of_multiname (names.Multi attr name set) = kinds.Multi attr
kind_of_multiname (names.MultiL attr set) = kinds.MultiL attr
kind_of_multiname (names.TypeName base params) = kinds.TypeName

-- what an entry is, where the Private namespaces that are visited stand at these places
abbrev pub label_of_entry : List ℕ → Entry → EntryLabel
label_of_entry privates NoEntry = Zero
label_of_entry privates (IntEntry x) = Int x
label_of_entry privates (UIntEntry x) = UInt x
label_of_entry privates (DoubleEntry x) = Double x
label_of_entry privates (TextEntry x) = Text x
label_of_entry privates (SpaceEntry place n) = Space n.kind (space_told n.kind (place_among nat_eq privates place))
label_of_entry privates (SetEntry spaces) = Set
label_of_entry privates (NameEntry m) = Name (kind_of_multiname m)

-- the nodes that its indices name, in file order
abbrev pub parts : Counts → Entry → List ℕ
parts c NoEntry = []
parts c (IntEntry x) = []
parts c (UIntEntry x) = []
parts c (DoubleEntry x) = []
parts c (TextEntry x) = []
parts c (SpaceEntry place n) = space_parts c n
parts c (SetEntry spaces) = set_parts c spaces
parts c (NameEntry m) = entry_name_parts c m

-- ---- things

-- With the things of some nodes under it, the first thing is the second.
pub data Joined (v : Abc) (privates : List ℕ) : List ℕ → Thing → Thing → Type 0 where
  Whole : {t : Thing} → Joined v privates [] t t
  Under : {x : ℕ} {xs : List ℕ} {t part u : Thing} → Joined v privates (parts (counts_of v) (entry_at v x)) (Alone (label_of_entry privates (entry_at v x))) part → Joined v privates xs (With t part) u → Joined v privates (x ∷ xs) t u

-- The thing of a node. A name that leads back to itself has none.
abbrev pub IsThing : Abc → List ℕ → ℕ → Thing → Type 0
IsThing v privates x t = Joined v privates (parts (counts_of v) (entry_at v x)) (Alone (label_of_entry privates (entry_at v x))) t

-- the things of some nodes
pub data AreThings (v : Abc) (privates : List ℕ) : List ℕ → List Thing → Type 0 where
  NoThings : AreThings v privates [] []
  OneThing : {x : ℕ} {xs : List ℕ} {t : Thing} {ts : List Thing} → IsThing v privates x t → AreThings v privates xs ts → AreThings v privates (x ∷ xs) (t ∷ ts)

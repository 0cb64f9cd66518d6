-- The entries of a file's pools as nodes: what each is by itself, and the entries that its indices name, in order
-- (profile: docs/TIDYING.md, "When two entries are one").
use Rattle.std.specs.Prelude.{ℕ, ◌+◌, Bool, List, [], ◌∷◌, ◌++◌, map, unwrap_or, nat_eq}
use Rattle.std.specs.Ordering.{int_eq}
use Rattle.std.specs.Cmp.Lexicographic.{pointwise}
use Rattle.abc_base_graphs.specs.Index.{first}
use Rattle.abc_base_graphs.specs.Texts.{number_among, texts_of}
use Rattle.abc_tidy_refs.specs.declared.nodes.Counts.{Counts}
use Rattle.abc_tidy_refs.specs.Nodes.{counts_of, node_of, set_node}
use Rattle.abc_file_types.specs.declared.names.Multiname.{Multiname}
use Rattle.abc_file_types.specs.declared.names.Multiname.TheVariants as names
use Rattle.abc_file_types.specs.declared.names.MultinameKind.TheVariants as kinds
use Rattle.abc_file_types.specs.declared.names.Namespace.{Namespace}
use Rattle.abc_file_types.specs.declared.names.NsKind.{NsKind}
use Rattle.abc_file_types.specs.declared.names.NsKind.TheVariants as spaces
use Rattle.abc_file_types.specs.declared.opcodes.Pool.TheVariants as pools
use Rattle.abc_file_types.specs.declared.tables.Abc.{Abc}
use Rattle.abc_file_types.specs.Pools.{multiname_code, namespace_code}
use Rattle.abc_base_trees.specs.declared.heads.Head.{Head}
use Rattle.abc_base_trees.specs.Trees.{no_head}

-- ---- what an entry is by itself: the kind byte of a namespace or multiname, and of the others a kind of their own

-- which of equal values: the place of the first
abbrev pub place_among : {A : Type 0} → (A → A → Bool) → List A → A → ℕ
place_among eq xs x = unwrap_or (first (eq x) xs) 0

abbrev pub value_head : ℕ → ℕ → Head
value_head kind place = record { kind = kind; value = place }

abbrev pub ints_kind : ℕ
ints_kind = 1

abbrev pub uints_kind : ℕ
uints_kind = 2

abbrev pub doubles_kind : ℕ
doubles_kind = 3

abbrev pub texts_kind : ℕ
texts_kind = 4

abbrev pub sets_kind : ℕ
sets_kind = 6

-- a Private namespace is the one at its place; any other is told by its kind and name
abbrev pub space_told : NsKind → ℕ → ℕ
space_told spaces.Private place = place
space_told spaces.Namespace place = 0
space_told spaces.Package place = 0
space_told spaces.PackageInternal place = 0
space_told spaces.Protected place = 0
space_told spaces.Explicit place = 0
space_told spaces.StaticProtected place = 0

abbrev pub space_head : Namespace → ℕ → Head
space_head n place = record { kind = namespace_code n.kind; value = space_told n.kind place }

-- from a place on
abbrev pub space_heads : ℕ → List Namespace → List Head
space_heads place [] = []
space_heads place (n ∷ ns) = space_head n place ∷ space_heads (place + 1) ns

abbrev pub name_kind : Multiname → ℕ
name_kind (names.QName attr ns name) = multiname_code (kinds.QName attr)
name_kind (names.Rt attr name) = multiname_code (kinds.Rt attr)
name_kind (names.RtL attr) = multiname_code (kinds.RtL attr)
name_kind (names.Multi attr name set) = multiname_code (kinds.Multi attr)
name_kind (names.MultiL attr set) = multiname_code (kinds.MultiL attr)
name_kind (names.TypeName base params) = multiname_code kinds.TypeName

abbrev pub name_head : Multiname → Head
name_head m = record { kind = name_kind m; value = 0 }

abbrev pub int_places : Abc → List ℕ
int_places v = map (place_among int_eq v.ints) v.ints

abbrev pub uint_places : Abc → List ℕ
uint_places v = map (place_among nat_eq v.uints) v.uints

abbrev pub double_places : Abc → List ℕ
double_places v = let doubles = map (λ d. d.0) v.doubles in map (place_among (pointwise nat_eq) doubles) doubles

abbrev pub text_places : Abc → List ℕ
text_places v = map (number_among (texts_of v.strings)) v.strings

-- the heads of node 0 and of the entries without indices
abbrev pub value_heads : Abc → List Head
value_heads v =
    (no_head ∷ []) ++ map (value_head ints_kind) (int_places v) ++ map (value_head uints_kind) (uint_places v)
    ++ map (value_head doubles_kind) (double_places v) ++ map (value_head texts_kind) (text_places v)

-- the heads of all entries, in file order, after that of nothing
abbrev pub heads_of : Abc → List Head
heads_of v = value_heads v ++ space_heads 0 v.namespaces ++ map (λ s. value_head sets_kind 0) v.sets ++ map name_head v.names

-- ---- the entries that an entry names, in file order

abbrev pub space_parts : Counts → Namespace → List ℕ
space_parts c n = node_of c pools.Text n.name ∷ []

abbrev pub set_parts : Counts → List ℕ → List ℕ
set_parts c spaces = map (node_of c pools.Space) spaces

abbrev pub entry_name_parts : Counts → Multiname → List ℕ
entry_name_parts c (names.QName attr ns name) = node_of c pools.Space ns ∷ node_of c pools.Text name ∷ []
entry_name_parts c (names.Rt attr name) = node_of c pools.Text name ∷ []
entry_name_parts c (names.RtL attr) = []
entry_name_parts c (names.Multi attr name set) = node_of c pools.Text name ∷ set_node c set ∷ []
entry_name_parts c (names.MultiL attr set) = set_node c set ∷ []
entry_name_parts c (names.TypeName base params) = node_of c pools.Name base ∷ map (node_of c pools.Name) params

abbrev pub no_parts : {A : Type 0} → List A → List (List ℕ)
no_parts xs = map (λ x. []) xs

abbrev pub value_graph : Abc → List (List ℕ)
value_graph v = ([] ∷ []) ++ no_parts (int_places v) ++ no_parts (uint_places v) ++ no_parts (double_places v) ++ no_parts (text_places v)

-- for each node those that its entry names; node 0, numbers, doubles and strings name none
abbrev pub graph_of : Abc → List (List ℕ)
graph_of v =
    value_graph v ++ map (space_parts (counts_of v)) v.namespaces ++ map (set_parts (counts_of v)) v.sets ++ map (entry_name_parts (counts_of v)) v.names

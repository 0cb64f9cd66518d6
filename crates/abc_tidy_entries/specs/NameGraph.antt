-- The names of a file as nodes by their indices: a type name leads to its base and its parameters, and node 0, which is no name, leads to the names
-- that the definitions and bodies name (profile: docs/TIDYING.md, "What is refused").
use Rattle.std.specs.Prelude.{ℕ, ◌&&◌, Bool, not, List, [], ◌∷◌, map, filter, length, nat_eq, nat_le}
use Rattle.std.specs.List.{flat_map}
use Rattle.abc_tidy_refs.specs.declared.refs.Ref.{Ref}
use Rattle.abc_tidy_refs.specs.Refs.{file_refs}
use Rattle.abc_file_types.specs.declared.names.Multiname.{Multiname}
use Rattle.abc_file_types.specs.declared.names.Multiname.TheVariants as names
use Rattle.abc_file_types.specs.declared.opcodes.Pool.{Pool}
use Rattle.abc_file_types.specs.declared.opcodes.Pool.TheVariants as pools
use Rattle.abc_file_types.specs.declared.tables.Abc.{Abc}

-- an index of one of so many names, and not 0
abbrev pub is_name_index : ℕ → ℕ → Bool
is_name_index count i = not (nat_eq i 0) && nat_le i count

abbrev pub names_among : ℕ → List ℕ → List ℕ
names_among count xs = filter (is_name_index count) xs

abbrev pub name_targets : ℕ → Multiname → List ℕ
name_targets count (names.QName attr ns name) = []
name_targets count (names.Rt attr name) = []
name_targets count (names.RtL attr) = []
name_targets count (names.Multi attr name set) = []
name_targets count (names.MultiL attr set) = []
name_targets count (names.TypeName base params) = names_among count (base ∷ params)

abbrev pub index_of_name : Pool → ℕ → List ℕ
index_of_name pools.NoPool i = []
index_of_name pools.Int i = []
index_of_name pools.UInt i = []
index_of_name pools.Double i = []
index_of_name pools.Text i = []
index_of_name pools.Space i = []
index_of_name pools.Name i = i ∷ []

-- the indices of names among some indices
abbrev pub name_indices : List Ref → List ℕ
name_indices refs = flat_map (λ r. index_of_name r.pool r.index) refs

abbrev pub name_graph : Abc → List (List ℕ)
name_graph v = names_among (length v.names) (name_indices (file_refs v)) ∷ map (name_targets (length v.names)) v.names

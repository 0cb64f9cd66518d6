-- The pools of a tidied file: the entries that were met, pool by pool in the order in which they were met, each with new numbers in place of its
-- indices (profile: docs/TIDYING.md, "The visit").
use Rattle.std.specs.Prelude.{ℕ, ◌+◌, ◌-◌, List, [], map, nat_lt, slice_get, if◌then◌else◌}
use Rattle.std.specs.List.{flat_map}
use Rattle.std.specs.Option.{option_to_list}
use Rattle.abc_tidy_refs.specs.declared.nodes.Numbers.{Numbers}
use Rattle.abc_tidy_refs.specs.Nodes.{new_index, set_number_in}
use Rattle.abc_file_types.specs.declared.names.Multiname.{Multiname}
use Rattle.abc_file_types.specs.declared.names.Multiname.TheVariants as names
use Rattle.abc_file_types.specs.declared.names.Namespace.{Namespace}
use Rattle.abc_file_types.specs.declared.opcodes.Pool.TheVariants as pools
use Rattle.abc_file_types.specs.declared.tables.Abc.{Abc}
use Rattle.abc_file_types.specs.Pools.{empty}

-- the entry of a pool that a node is, if it is one; there are so many entries before those of the pool
abbrev pub picked_at : {A : Type 0} → ℕ → List A → ℕ → List A
picked_at before xs x = if nat_lt before x then option_to_list (slice_get xs (x - before - 1)) else []

-- the entries of a pool that these nodes are
abbrev pub entries_of_nodes : {A : Type 0} → ℕ → List A → List ℕ → List A
entries_of_nodes before xs nodes = flat_map (picked_at before xs) nodes

-- ---- an entry with new numbers

-- one that has no indices stays
abbrev pub same_entry : {A : Type 0} → Numbers → A → A
same_entry f x = x

abbrev pub new_space : Numbers → Namespace → Namespace
new_space f n = record { kind = n.kind; name = new_index f pools.Text n.name }

abbrev pub new_set : Numbers → List ℕ → List ℕ
new_set f spaces = map (new_index f pools.Space) spaces

abbrev pub new_name : Numbers → Multiname → Multiname
new_name f (names.QName attr ns name) = names.QName attr (new_index f pools.Space ns) (new_index f pools.Text name)
new_name f (names.Rt attr name) = names.Rt attr (new_index f pools.Text name)
new_name f (names.RtL attr) = names.RtL attr
new_name f (names.Multi attr name set) = names.Multi attr (new_index f pools.Text name) (set_number_in f set)
new_name f (names.MultiL attr set) = names.MultiL attr (set_number_in f set)
new_name f (names.TypeName base params) = names.TypeName (new_index f pools.Name base) (map (new_index f pools.Name) params)

-- a file with the entries that were met in its pools
abbrev pub pools_over : Abc → Numbers → Abc → List ℕ → Abc
pools_over w f v seen = let c = f.counts in record w {
  ints = map (same_entry f) (entries_of_nodes 0 v.ints seen);
  uints = map (same_entry f) (entries_of_nodes c.ints v.uints seen);
  doubles = map (same_entry f) (entries_of_nodes (c.ints + c.uints) v.doubles seen);
  strings = map (same_entry f) (entries_of_nodes (c.ints + c.uints + c.doubles) v.strings seen);
  namespaces = map (new_space f) (entries_of_nodes (c.ints + c.uints + c.doubles + c.strings) v.namespaces seen);
  sets = map (new_set f) (entries_of_nodes (c.ints + c.uints + c.doubles + c.strings + c.namespaces) v.sets seen);
  names = map (new_name f) (entries_of_nodes (c.ints + c.uints + c.doubles + c.strings + c.namespaces + c.sets) v.names seen);
}

-- a file that has nothing but the pools of the entries that were met, with new numbers
abbrev pub new_pools : Numbers → Abc → List ℕ → Abc
new_pools = pools_over empty

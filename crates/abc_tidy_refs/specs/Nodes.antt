-- The entries of all pools as nodes, numbered one after the other: node 0 stands for every index 0 and for every index of no entry, and then come the
-- entries of the pools in file order (profile: docs/TIDYING.md, "What an index names" and "What is refused").
use Rattle.std.specs.Prelude.{ℕ, ◌+◌, ◌<◌, ◌^◌, List, length, nat_eq, nat_le, get_or, if◌then◌else◌}
use Rattle.abc_tidy_refs.specs.declared.nodes.Counts.{Counts}
use Rattle.abc_tidy_refs.specs.declared.nodes.Numbers.{Numbers}
use Rattle.abc_file_types.specs.declared.opcodes.Pool.{Pool}
use Rattle.abc_file_types.specs.declared.opcodes.Pool.TheVariants as pools
use Rattle.abc_file_types.specs.declared.tables.Abc.{Abc}

-- how many entries the pools have
abbrev pub counts_of : Abc → Counts
counts_of v = record {
  ints = length v.ints;
  uints = length v.uints;
  doubles = length v.doubles;
  strings = length v.strings;
  namespaces = length v.namespaces;
  sets = length v.sets;
  names = length v.names;
}

-- how many nodes there are: node 0, and one for each entry
abbrev pub node_count : Counts → ℕ
node_count c = c.ints + c.uints + c.doubles + c.strings + c.namespaces + c.sets + c.names + 1

-- the node of an index, in a pool of so many entries, before which there are so many others
abbrev pub node_in_pool : ℕ → ℕ → ℕ → ℕ
node_in_pool before size index = if nat_eq index 0 then 0 else if nat_le index size then before + index else 0

-- the node of the index of a set; it is 0 where there is no such set
abbrev pub set_node : Counts → ℕ → ℕ
set_node c index = node_in_pool (c.ints + c.uints + c.doubles + c.strings + c.namespaces) c.sets index

-- the node of an index into a pool; it is 0 where the index is of no entry
abbrev pub node_of : Counts → Pool → ℕ → ℕ
node_of c pools.NoPool index = 0
node_of c pools.Int index = node_in_pool 0 c.ints index
node_of c pools.UInt index = node_in_pool c.ints c.uints index
node_of c pools.Double index = node_in_pool (c.ints + c.uints) c.doubles index
node_of c pools.Text index = node_in_pool (c.ints + c.uints + c.doubles) c.strings index
node_of c pools.Space index = node_in_pool (c.ints + c.uints + c.doubles + c.strings) c.namespaces index
node_of c pools.Name index = node_in_pool (c.ints + c.uints + c.doubles + c.strings + c.namespaces + c.sets) c.names index

-- ---- new numbers

-- the new index for an index; what is no index of a pool stays
abbrev pub new_index : Numbers → Pool → ℕ → ℕ
new_index n pools.NoPool index = index
new_index n pools.Int index = get_or n.numbers (node_of n.counts pools.Int index) 0
new_index n pools.UInt index = get_or n.numbers (node_of n.counts pools.UInt index) 0
new_index n pools.Double index = get_or n.numbers (node_of n.counts pools.Double index) 0
new_index n pools.Text index = get_or n.numbers (node_of n.counts pools.Text index) 0
new_index n pools.Space index = get_or n.numbers (node_of n.counts pools.Space index) 0
new_index n pools.Name index = get_or n.numbers (node_of n.counts pools.Name index) 0

-- the new index for the index of a set
abbrev pub set_number_in : Numbers → ℕ → ℕ
set_number_in n index = get_or n.numbers (set_node n.counts index) 0

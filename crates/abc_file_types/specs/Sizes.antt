-- Sizes of tables, as far as an index can tell them.
use Rattle.std.specs.Prelude.{◌^◌, min}
use Rattle.abc_file_types.specs.declared.tables.Sizes.{Sizes}

-- an index is below 2^30, so a greater size is as good as 2^30
abbrev pub capped_sizes : Sizes → Sizes
capped_sizes v = record {
  ints = min v.ints (2 ^ 30);
  uints = min v.uints (2 ^ 30);
  doubles = min v.doubles (2 ^ 30);
  strings = min v.strings (2 ^ 30);
  namespaces = min v.namespaces (2 ^ 30);
  sets = min v.sets (2 ^ 30);
  names = min v.names (2 ^ 30);
  methods = min v.methods (2 ^ 30);
  metadata = min v.metadata (2 ^ 30);
  classes = min v.classes (2 ^ 30);
}

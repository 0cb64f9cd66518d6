-- A file and its layouts, as a linked file.
use Rattle.abc_link_layouts.specs.declared.layouts.Layouts.{Layouts}
use Rattle.abc_link_names.specs.Linked.{LinkedFile}
use Rattle.abc_file_types.specs.declared.tables.Abc.{Abc}

-- the linked file: a file, and the parts of its layouts
abbrev pub linked_file : Abc → Layouts → LinkedFile
linked_file v l = record { file = v; parts = l.parts }

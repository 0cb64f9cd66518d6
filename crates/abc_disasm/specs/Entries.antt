-- Bodies as they are listed.
use Rattle.std.specs.Prelude.{ℕ, List}
use Rattle.abc_text_lines.specs.Listing.{body_text}
use Rattle.abc_file_types.specs.declared.code.Body.{Body}
use Rattle.abc_file_types.specs.declared.tables.Abc.{Abc}

-- the lines of a body of a file, wherever its instructions started
abbrev pub entry_text : Abc → Body × List ℕ → List ℕ
entry_text v x = body_text v x.0

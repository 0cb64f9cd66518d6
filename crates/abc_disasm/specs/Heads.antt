-- The fronts of the lines of instructions.
use Rattle.std.specs.Prelude.{ℕ, List, [], ◌∷◌, ◌++◌, Some}
use Rattle.std.specs.declared.option.Option.{Option}
use Rattle.abc_text_lines.specs.declared.word.Word.TheVariants as words
use Rattle.abc_file_types.specs.declared.opcodes.Form.{Form}
use Rattle.abc_file_types.specs.declared.opcodes.Form.TheVariants as forms
use Rattle.abc_file_types.specs.Opcodes.{form_at}
use Rattle.abc_text_lines.specs.Listing.{word_name}

-- what follows the name: the line's end behind a plain instruction's, and else a space
abbrev pub line_behind_name : Option Form → List ℕ
line_behind_name (Some forms.Plain) = 0x0a ∷ []
line_behind_name _ = 0x20 ∷ []

-- what the line of an opcode begins with: the instruction's name, and a space or the line's end
unfoldable pub line_head : ℕ → List ℕ
line_head op = word_name (words.Instruction op) ++ line_behind_name (form_at op)

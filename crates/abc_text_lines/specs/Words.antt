-- Where the lines of a text stand among each other (profile: docs/ASSEMBLY.md, "Lines").
use Rattle.std.specs.Prelude.{ℕ}
use Rattle.abc_text_lines.specs.declared.word.Word.{Word}
use Rattle.abc_text_lines.specs.declared.word.Word.TheVariants as words

-- the place of a line word in the order of the lines; instructions and label lines have one
abbrev pub place_of : Word → ℕ
place_of words.Abc = 0
place_of words.Int = 1
place_of words.UInt = 2
place_of words.Double = 3
place_of words.Text = 4
place_of words.Namespace = 5
place_of words.Set = 6
place_of words.Name = 7
place_of words.Method = 8
place_of words.Param = 9
place_of words.Optional = 10
place_of words.ParamName = 11
place_of words.Metadata = 12
place_of words.Entry = 13
place_of words.Instance = 14
place_of words.Protected = 15
place_of words.Implements = 16
place_of words.Initializer = 17
place_of words.Trait = 18
place_of words.TraitMetadata = 19
place_of words.Class = 20
place_of words.Script = 21
place_of words.Body = 22
place_of (words.Instruction _) = 23
place_of words.Label = 23
place_of words.Catch = 24
place_of words.Unknown = 25

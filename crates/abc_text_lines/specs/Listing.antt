-- The one text of a file (profile: docs/ASSEMBLY.md, "The text that `dis` writes").
use Rattle.std.specs.Prelude.{ℕ, ◌+◌, ◌-◌, ◌/◌, ◌%◌, Bool, true, false, ◌&&◌, nat_eq, nat_le, List, [], ◌∷◌, ◌++◌, codes, decimal, length, map, take, slice_get, Some, None, if◌then◌else◌}
use Rattle.std.specs.Fmt.{signed_decimal}
use Rattle.std.specs.List.{flat_map}
use Rattle.std.specs.declared.option.Option.{Option}
use Rattle.abc_base.specs.Escapes.{with_escapes, hex_digit}
use Rattle.abc_text_lines.specs.declared.word.Word.{Word}
use Rattle.abc_text_lines.specs.declared.word.Word.TheVariants as words
use Rattle.abc_text_lines.specs.Tokens.{Token, Bare, Quoted}
use Rattle.abc_text_lines.specs.Writing.{written_line}
use Rattle.abc_file_types.specs.declared.code.Body.{Body}
use Rattle.abc_file_types.specs.declared.names.Multiname.{Multiname}
use Rattle.abc_file_types.specs.declared.names.Multiname.TheVariants as names
use Rattle.abc_file_types.specs.declared.names.MultinameKind.{MultinameKind}
use Rattle.abc_file_types.specs.declared.names.MultinameKind.TheVariants as kinds
use Rattle.abc_file_types.specs.declared.opcodes.Pool.{Pool}
use Rattle.abc_file_types.specs.declared.opcodes.Pool.TheVariants as pools
use Rattle.abc_file_types.specs.declared.tables.Abc.{Abc}
use Rattle.abc_file_types.specs.Classes.{sizes_of}
use Rattle.abc_file_types.specs.Opcodes.{name_at, pool_of}
use Rattle.abc_text_lines.specs.Lines.{Item, Number, Signed, Text, Eight, Kind, Target, Shown, Line, Labels}
use Rattle.abc_text_lines.specs.Wordlines.{among, lookup}
use Rattle.abc_text_lines.specs.Answers.{outline}
use Rattle.abc_text_lines.specs.File as file
use Rattle.abc_text_lines.specs.Kinds.{multiname_words}
use Rattle.abc_text_lines.specs.Texts.{or_else}

-- ---- lines

-- the word at the head of a line
abbrev pub word_name : Word → List ℕ
word_name words.Abc = codes "abc"
word_name words.Int = codes "int"
word_name words.UInt = codes "uint"
word_name words.Double = codes "double"
word_name words.Text = codes "string"
word_name words.Namespace = codes "ns"
word_name words.Set = codes "set"
word_name words.Name = codes "name"
word_name words.Method = codes "method"
word_name words.Param = codes "param"
word_name words.Optional = codes "option"
word_name words.ParamName = codes "pname"
word_name words.Metadata = codes "metadata"
word_name words.Entry = codes "item"
word_name words.Instance = codes "instance"
word_name words.Protected = codes "protected"
word_name words.Implements = codes "implements"
word_name words.Initializer = codes "iinit"
word_name words.Trait = codes "trait"
word_name words.TraitMetadata = codes "tmeta"
word_name words.Class = codes "class"
word_name words.Script = codes "script"
word_name words.Body = codes "body"
word_name (words.Instruction op) = or_else (name_at op) []
word_name words.Catch = codes "catch"
word_name words.Label = []
word_name words.Unknown = []

-- two hexadecimal digits for each byte, in lower case
abbrev pub listing_hex : List ℕ → List ℕ
listing_hex bytes = flat_map (λ byte. hex_digit (byte / 16) ∷ hex_digit (byte % 16) ∷ []) bytes

-- the label of an instruction: `L` and its number
abbrev pub label_of : ℕ → List ℕ
label_of n = 0x4c ∷ decimal n

abbrev pub token_of : Item → Token
token_of (Number n) = Bare (decimal n)
token_of (Signed z) = Bare (signed_decimal z)
token_of (Text bytes) = Quoted bytes
token_of (Eight bytes) = Bare (listing_hex bytes)
token_of (Kind kind) = Bare kind
token_of (Target n) = Bare (label_of n)

-- ---- comments

-- a space, `;`, a space and the first 16 bytes of a text between quotes
abbrev pub quoted_comment : List ℕ → List ℕ
quoted_comment text = codes " ; \"" ++ (with_escapes (take 16 text) ++ codes "\"")

-- the string of an index that counts from 1; 0 is the empty text
abbrev pub string_at : Abc → ℕ → List ℕ
string_at v n = if nat_eq n 0 then [] else or_else (slice_get v.strings (n - 1)) []

-- of a string that names something; 0 is any name
abbrev pub name_comment : Abc → ℕ → List ℕ
name_comment v n = if nat_eq n 0 then codes " ; *" else quoted_comment (string_at v n)

-- the string that a multiname has, or 0
abbrev pub string_of_name : Option Multiname → ℕ
string_of_name (Some (names.QName attr ns name)) = name
string_of_name (Some (names.Rt attr name)) = name
string_of_name (Some (names.Multi attr name set)) = name
string_of_name _ = 0

-- of a multiname's index, which counts from 1
abbrev pub multiname_comment : Abc → ℕ → List ℕ
multiname_comment v n = name_comment v (string_of_name (slice_get v.names (n - 1)))

-- the string of a multiname by its line
abbrev pub name_shown : Option MultinameKind → List Item → ℕ
name_shown (Some (kinds.QName attr)) (Number ns ∷ Number name ∷ items) = name
name_shown (Some (kinds.Rt attr)) (Number name ∷ items) = name
name_shown (Some (kinds.Multi attr)) (Number name ∷ items) = name
name_shown _ items = 0

-- the pool that an instruction's first operand names, as its line shows the operands: of debug it is a plain number
abbrev pub pool_shown : ℕ → Pool
pool_shown op = if nat_eq op 0xef then pools.NoPool else pool_of op

-- a name or a string that is in range and not 0
abbrev pub operand_comment : Abc → Pool → ℕ → List ℕ
operand_comment v pools.Name n = if nat_le 1 n && nat_le n (length v.names) then multiname_comment v n else []
operand_comment v pools.Text n = if nat_le 1 n && nat_le n (length v.strings) then quoted_comment (string_at v n) else []
operand_comment v _ n = []

-- what ends a line of a file
abbrev pub comment_of : Abc → Word → List Item → List ℕ
comment_of v words.Namespace (Kind kind ∷ Number n ∷ items) = quoted_comment (string_at v n)
comment_of v words.Name (Kind kind ∷ items) = name_comment v (name_shown (lookup multiname_words kind) items)
comment_of v words.Instance (Number n ∷ items) = multiname_comment v n
comment_of v words.Trait (Kind kind ∷ Number attrs ∷ Number n ∷ items) = multiname_comment v n
comment_of v (words.Instruction op) (Number n ∷ items) = operand_comment v (pool_shown op) n
comment_of v _ items = []

-- ---- the text

-- a line, with one space between tokens and its comment
abbrev pub line_bytes : Abc → Word → List Item → List ℕ
line_bytes v w items = written_line (Bare (word_name w) ∷ map token_of items) ++ (comment_of v w items ++ 0x0a ∷ [])

-- the line of an instruction's label
abbrev pub label_bytes : ℕ → List ℕ
label_bytes n = label_of n ++ codes ":\n"

-- a label line stands before an instruction whose number is named
abbrev pub shown_bytes : Abc → List ℕ → Shown → List ℕ
shown_bytes v named (Line w items) = line_bytes v w items
shown_bytes v named (Labels n) = if among n named then label_bytes n else []

abbrev pub listing_bytes : Abc → List ℕ → List Shown → List ℕ
listing_bytes v named lines = flat_map (shown_bytes v named) lines

abbrev pub target_in : Item → List ℕ
target_in (Target n) = n ∷ []
target_in _ = []

abbrev pub targets_of_line : Shown → List ℕ
targets_of_line (Line w items) = flat_map target_in items
targets_of_line (Labels n) = []

module _ (v : Abc) where
  -- the lines before the bodies
  abbrev pub quiet_lines : List Shown
  quiet_lines =
      let s = sizes_of v in
      let i = length v.instances in
      let x = outline v in
      Line words.Abc (Number 16 ∷ Number 46 ∷ [])
      ∷ ((file.pools s i 0).shows x.0 ++ ((file.methods s i 0).shows x.1.0 ++ ((file.metadata s i 0).shows x.1.1.0 ++ ((file.instance_lines s i 0).shows x.1.1.1.0 ++ ((file.classes s i 0).shows x.1.1.1.1.0 ++ (file.scripts s i 0).shows x.1.1.1.1.1.0)))))

  -- the lines of a body
  abbrev pub lines_of_body : Body → List Shown
  lines_of_body body = (file.body_lines (sizes_of v) (length v.instances) 0).shows (body ∷ [])

  -- a body, with a label before each instruction that a branch, a switch or a handler names, and at the end if it is named
  abbrev pub body_text : Body → List ℕ
  body_text body = listing_bytes v (flat_map targets_of_line (lines_of_body body)) (lines_of_body body)

  -- the bytes of the one text of a file: the lines before the bodies, and then each body
  unfoldable pub listing : List ℕ
  listing = listing_bytes v [] quiet_lines ++ flat_map body_text v.bodies

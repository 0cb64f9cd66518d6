-- The lines of a file: the one table that the assembler and the disassembler share (profile: docs/ASSEMBLY.md, "Lines" and "Why a text is refused").
use Rattle.std.specs.Prelude.{◌≡◌, ℕ, ◌-◌, ◌^◌, ℤ, Bool, true, false, ◌&&◌, ◌||◌, nat_eq, nat_le, IsSome, List, [], ◌∷◌, length, map, Ok, Err, if◌then◌else◌}
use Rattle.std.specs.declared.option.Option.{Option}
use Rattle.std.specs.declared.result.Result.{Result}
use Rattle.abc_text_lines.specs.declared.reason.AsmReason.{AsmReason}
use Rattle.abc_text_lines.specs.declared.reason.AsmReason.TheVariants as reasons
use Rattle.abc_text_lines.specs.declared.word.Word.{Word}
use Rattle.abc_text_lines.specs.declared.word.Word.TheVariants as words
use Rattle.abc_text_lines.specs.Tokens.{Token}
use Rattle.abc_text_lines.specs.Words.{place_of}
use Rattle.abc_file_types.specs.declared.classes.ClassInfo.{ClassInfo}
use Rattle.abc_file_types.specs.declared.classes.Script.{Script}
use Rattle.abc_file_types.specs.declared.code.Body.{Body}
use Rattle.abc_file_types.specs.declared.code.Handler.{Handler}
use Rattle.abc_file_types.specs.declared.code.Instr.{Instr}
use Rattle.abc_file_types.specs.declared.code.Instr.TheVariants as instrs
use Rattle.abc_file_types.specs.declared.methods.Method.{Method}
use Rattle.abc_file_types.specs.declared.methods.OptionValue.{OptionValue}
use Rattle.abc_file_types.specs.declared.names.Multiname.{Multiname}
use Rattle.abc_file_types.specs.declared.names.Namespace.{Namespace}
use Rattle.abc_file_types.specs.declared.tables.Eight.{Eight}
use Rattle.abc_file_types.specs.declared.tables.Sizes.{Sizes}
use Rattle.abc_file_types.specs.declared.traits.TraitInfo.{TraitInfo}
use Rattle.abc_file_types.specs.CodeBytes.{code_len}
use Rattle.abc_file_types.specs.Methods.{has_flag}
use Rattle.abc_text_lines.specs.Lines.{Label, Row}
use Rattle.abc_text_lines.specs.Operands.{none, reasons_of}
use Rattle.abc_text_lines.specs.Rows.{Fault, Faults, Head, Rows, both_rows, code_rows, image_rows, many, optional}
use Rattle.abc_text_lines.specs.Wordlines.{Rules, always, closed_to, count_all, count_lines, faults_by_rules, flat_lines, instruction, lines_of_word}
use Rattle.abc_text_lines.specs.Lineforms.{BodyHead, InstanceHead, MethodHead, TraitHead, body_line, catch_line, double_line, entry_line, implements_line, instance_line, instruction_operands, int_line, method_index_line, method_line, name_line, namespace_line, number_line, opcode_of, option_line, param_line, protected_line, set_line, string_index_line, string_line, trait_line, trait_metadata_line, uint_line, version_line}

-- ---- which lines are counted

-- instructions, label lines and lines of an unknown word end no part
abbrev pub skipped_words : List ℕ
skipped_words = 23 ∷ 25 ∷ []

-- param, option and pname
abbrev pub method_part : List ℕ
method_part = 9 ∷ 10 ∷ 11 ∷ skipped_words

-- protected, implements, iinit, trait and tmeta
abbrev pub instance_part : List ℕ
instance_part = 15 ∷ 16 ∷ 17 ∷ 18 ∷ 19 ∷ skipped_words

-- tmeta
abbrev pub trait_part : List ℕ
trait_part = 19 ∷ skipped_words

-- every line but a body's
abbrev pub body_part : List ℕ
body_part = 0 ∷ 1 ∷ 2 ∷ 3 ∷ 4 ∷ 5 ∷ 6 ∷ 7 ∷ 8 ∷ 9 ∷ 10 ∷ 11 ∷ 12 ∷ 13 ∷ 14 ∷ 15 ∷ 16 ∷ 17 ∷ 18 ∷ 19 ∷ 20 ∷ 21 ∷ 23 ∷ 24 ∷ 25 ∷ []

abbrev pub count_unless : Bool → List AsmReason
count_unless fine = if fine then [] else reasons.Count ∷ []

-- so many where a flag is set, and none where it isn't
abbrev pub where_set : Bool → ℕ → ℕ
where_set set n = if set then n else 0

-- at most as many optional values as parameters, and as many names, where the flags ask for them
abbrev pub method_counts : ℕ → List Row → Bool
method_counts flags after =
    nat_le (count_lines method_part 10 after) (where_set (has_flag flags 0x08) (count_lines method_part 9 after))
    && nat_eq (count_lines method_part 11 after) (where_set (has_flag flags 0x80) (count_lines method_part 9 after))

-- one protected line where the flag asks for it, an iinit line, and a class line for the instance: the k-th of so many instances needs k class lines
abbrev pub instance_counts : ℕ → ℕ → ℕ → List Row → Bool
instance_counts classes instances flags after =
    nat_eq (count_lines instance_part 15 after) (where_set (has_flag flags 0x08) 1)
    && nat_le 1 (count_lines instance_part 17 after)
    && nat_le (instances - count_all 14 after) classes

-- an instance line for the class
abbrev pub class_counts : ℕ → ℕ → List Row → Bool
class_counts classes instances after = nat_le (classes - count_all 20 after) instances

-- tmeta lines only where the attribute asks for them
abbrev pub trait_counts : ℕ → List Row → Bool
trait_counts attrs after = has_flag attrs 4 || nat_eq (count_lines trait_part 19 after) 0

-- ---- the reasons at each line, by the sizes of the tables and the number of instances

module _ (v : Sizes) (instances : ℕ) where
  abbrev pub own : Word → List Label → List Token → List AsmReason
  own words.Abc = reasons_of version_line
  own words.Int = reasons_of int_line
  own words.UInt = reasons_of uint_line
  own words.Double = reasons_of double_line
  own words.Text = reasons_of string_line
  own words.Namespace = reasons_of (namespace_line v)
  own words.Set = reasons_of (set_line v)
  own words.Name = reasons_of (name_line v)
  own words.Method = reasons_of (method_line v)
  own words.Param = reasons_of (param_line v)
  own words.Optional = reasons_of (option_line v)
  own words.ParamName = reasons_of number_line
  own words.Metadata = reasons_of (string_index_line v)
  own words.Entry = reasons_of (entry_line v)
  own words.Instance = reasons_of (instance_line v)
  own words.Protected = reasons_of (protected_line v)
  own words.Implements = reasons_of (implements_line v)
  own words.Initializer = reasons_of (method_index_line v)
  own words.Trait = reasons_of (trait_line v)
  own words.TraitMetadata = reasons_of (trait_metadata_line v)
  own words.Class = reasons_of (method_index_line v)
  own words.Script = reasons_of (method_index_line v)
  own words.Body = reasons_of (body_line v)
  own (words.Instruction op) = reasons_of (instruction_operands op)
  own words.Label = reasons_of none
  own words.Catch = reasons_of (catch_line v)
  own words.Unknown = λ labels tokens. reasons.Word ∷ []

  abbrev pub others : Row → List Row → Word → List AsmReason
  others row after words.Method = count_unless (method_counts ((method_line v).value row.labels row.operands).flags after)
  others row after words.Instance = count_unless (instance_counts v.classes instances ((instance_line v).value row.labels row.operands).flags after)
  others row after words.Class = count_unless (class_counts v.classes instances after)
  others row after words.Trait = count_unless (trait_counts ((trait_line v).value row.labels row.operands).attrs after)
  others row after _ = []

  -- ---- parts that stand below others

  abbrev pub MetadataAgrees : TraitHead → List ℕ → Type 0
  MetadataAgrees t metadata = (has_flag t.attrs 4 || nat_eq (length metadata) 0) ≡ true

  unfoldable pub traits : Faults → ℕ → Rows (List TraitInfo)
  traits faults n = image_rows
      (map (λ (x : TraitHead × List ℕ). record { name = x.0.name; attrs = x.0.attrs; body = x.0.body; metadata = x.1 }))
      (map (λ (t : TraitInfo). (record { attrs = t.attrs; name = t.name; body = t.body }, t.metadata)))
      (many faults (lines_of_word words.Trait (trait_line v) MetadataAgrees) (closed_to skipped_words (flat_lines faults words.TraitMetadata (trait_metadata_line v) n)) n)

  abbrev pub instructions : Head Instr (Unit {0})
  instructions = instruction opcode_of instruction_operands (instrs.Plain 0)

  -- the code, handlers and traits of a body, up to the next body
  unfoldable pub body_below : Faults → ℕ → Rows (List Instr × (List Handler × List TraitInfo))
  body_below faults n = closed_to body_part (both_rows (code_rows faults instructions 0) (both_rows (flat_lines faults words.Catch (catch_line v) n) (traits faults n)))

  -- ---- code that is too long

  abbrev pub ends_body : List Row → Bool
  ends_body [] = true
  ends_body (row ∷ rows) = nat_eq (place_of row.word) 22

  -- of lines that are read as those of a body, up to the next body's line or the end
  abbrev pub long_code : Result ((List Instr × (List Handler × List TraitInfo)) × List Row) Fault → List AsmReason
  long_code (Ok x) = if ends_body x.1 && nat_le (2 ^ 23) (code_len x.0.0) then reasons.CodeTooLong ∷ [] else []
  long_code (Err f) = []

  abbrev pub plain_rules : Rules
  plain_rules = record { own = own; others = others; extra = λ row after. [] }

  abbrev pub extra : Row → List Row → Word → List AsmReason
  extra row after words.Body = long_code ((body_below (faults_by_rules plain_rules) (length after)).reads after)
  extra row after _ = []

  abbrev pub rules : Rules
  rules = record { own = own; others = others; extra = λ row after. extra row after row.word }

  abbrev pub faults : Faults
  faults = faults_by_rules rules

  -- ---- the table

  abbrev pub MethodAgrees : MethodHead → List ℕ × (List OptionValue × List ℕ) → Type 0
  MethodAgrees m y = (nat_le (length y.1.0) (where_set (has_flag m.flags 0x08) (length y.0)) && nat_eq (length y.1.1) (where_set (has_flag m.flags 0x80) (length y.0))) ≡ true

  unfoldable pub method_below : ℕ → Rows (List ℕ × (List OptionValue × List ℕ))
  method_below n = closed_to skipped_words (both_rows (flat_lines faults words.Param (param_line v) n) (both_rows (flat_lines faults words.Optional (option_line v) n) (flat_lines faults words.ParamName number_line n)))

  unfoldable pub methods : ℕ → Rows (List Method)
  methods n = image_rows
      (map (λ (x : MethodHead × (List ℕ × (List OptionValue × List ℕ))). record { ret = x.0.ret; params = x.1.0; name = x.0.name; flags = x.0.flags; options = x.1.1.0; param_names = x.1.1.1 }))
      (map (λ (m : Method). (record { ret = m.ret; name = m.name; flags = m.flags }, (m.params, (m.options, m.param_names)))))
      (many faults (lines_of_word words.Method (method_line v) MethodAgrees) (method_below n) n)

  unfoldable pub metadata : ℕ → Rows (List (ℕ × List (ℕ × ℕ)))
  metadata n = many faults (lines_of_word words.Metadata (string_index_line v) always) (flat_lines faults words.Entry (entry_line v) n) n

  -- as many instances as classes
  abbrev pub IsBalanced : Type 0
  IsBalanced = v.classes ≡ instances

  -- what stands below an instance: protected and implements lines, and an iinit line with the traits, which no instance lacks
  abbrev pub InstanceBelow : Type 0
  InstanceBelow = List ℕ × (List ℕ × Option (ℕ × List TraitInfo))

  abbrev pub InstanceAgrees : InstanceHead → InstanceBelow → Type 0
  InstanceAgrees i y = (length y.0 ≡ where_set (has_flag i.flags 0x08) 1) × IsSome y.1.1 × IsBalanced

  unfoldable pub instance_below : ℕ → Rows InstanceBelow
  instance_below n =
      closed_to skipped_words (both_rows (flat_lines faults words.Protected (protected_line v) n) (both_rows (flat_lines faults words.Implements (implements_line v) n)
      (optional faults (lines_of_word words.Initializer (method_index_line v) always) (traits faults n))))

  unfoldable pub instance_lines : ℕ → Rows (List (InstanceHead × InstanceBelow))
  instance_lines n = many faults (lines_of_word words.Instance (instance_line v) InstanceAgrees) (instance_below n) n

  abbrev pub ClassAgrees : ℕ → List TraitInfo → Type 0
  ClassAgrees c y = IsBalanced

  unfoldable pub classes : ℕ → Rows (List ClassInfo)
  classes n = image_rows
      (map (λ (x : ℕ × List TraitInfo). record { cinit = x.0; traits = x.1 }))
      (map (λ (c : ClassInfo). (c.cinit, c.traits)))
      (many faults (lines_of_word words.Class (method_index_line v) ClassAgrees) (traits faults n) n)

  unfoldable pub scripts : ℕ → Rows (List Script)
  scripts n = image_rows
      (map (λ (x : ℕ × List TraitInfo). record { init = x.0; traits = x.1 }))
      (map (λ (s : Script). (s.init, s.traits)))
      (many faults (lines_of_word words.Script (method_index_line v) always) (traits faults n) n)

  abbrev pub BodyAgrees : BodyHead → List Instr × (List Handler × List TraitInfo) → Type 0
  BodyAgrees b y = nat_le (2 ^ 23) (code_len y.0) ≡ false

  unfoldable pub body_lines : ℕ → Rows (List Body)
  body_lines n = image_rows
      (map (λ (x : BodyHead × (List Instr × (List Handler × List TraitInfo))). record {
        method = x.0.method;
        max_stack = x.0.max_stack;
        local_count = x.0.local_count;
        init_scope = x.0.init_scope;
        max_scope = x.0.max_scope;
        code = x.1.0;
        handlers = x.1.1.0;
        traits = x.1.1.1;
      }))
      (map (λ (b : Body). (
        record { method = b.method; max_stack = b.max_stack; local_count = b.local_count; init_scope = b.init_scope; max_scope = b.max_scope },
        (b.code, (b.handlers, b.traits)),
      )))
      (many faults (lines_of_word words.Body (body_line v) BodyAgrees) (body_below faults n) n)

  -- the values of the pools
  abbrev pub PoolValues : Type 0
  PoolValues = List ℤ × (List ℕ × (List Eight × (List (List ℕ) × (List Namespace × (List (List ℕ) × List Multiname)))))

  unfoldable pub pools : ℕ → Rows PoolValues
  pools n =
      both_rows (flat_lines faults words.Int int_line n) (both_rows (flat_lines faults words.UInt uint_line n) (both_rows (flat_lines faults words.Double double_line n)
      (both_rows (flat_lines faults words.Text string_line n) (both_rows (flat_lines faults words.Namespace (namespace_line v) n) (both_rows (flat_lines faults words.Set (set_line v) n)
      (flat_lines faults words.Name (name_line v) n))))))

  -- The tables as lines have them: the entries of metadata in pairs, and below an instance what lines there may be.
  abbrev pub Outline : Type 0
  Outline = PoolValues × (List Method × (List (ℕ × List (ℕ × ℕ)) × (List (InstanceHead × InstanceBelow) × (List ClassInfo × (List Script × List Body)))))

  -- the lines after the first
  unfoldable pub file : ℕ → Rows Outline
  file n = both_rows (pools n) (both_rows (methods n) (both_rows (metadata n) (both_rows (instance_lines n) (both_rows (classes n) (both_rows (scripts n) (body_lines n))))))

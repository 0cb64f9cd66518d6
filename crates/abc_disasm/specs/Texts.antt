-- The lines of each value of a file, as they are appended.
use Rattle.std.specs.Prelude.{◌≡◌, ◌<◌, ℕ, ℤ, ◌+◌, List, [], ◌∷◌, ◌++◌, codes, length, map, Some, None, if◌then◌else◌}
use Rattle.std.specs.List.{flat_map}
use Rattle.std.specs.declared.option.Option.{Option}
use Rattle.abc_text_lines.specs.declared.word.Word.TheVariants as words
use Rattle.abc_text_lines.specs.Writing.{spaced_tokens}
use Rattle.abc_file_types.specs.declared.classes.ClassInfo.{ClassInfo}
use Rattle.abc_file_types.specs.declared.classes.Instance.{Instance}
use Rattle.abc_file_types.specs.declared.classes.Script.{Script}
use Rattle.abc_file_types.specs.declared.code.Body.{Body}
use Rattle.abc_file_types.specs.declared.code.Handler.{Handler}
use Rattle.abc_file_types.specs.declared.code.Instr.{Instr}
use Rattle.abc_file_types.specs.declared.code.Instr.TheVariants as instrs
use Rattle.abc_file_types.specs.declared.methods.Metadata.{Metadata}
use Rattle.abc_file_types.specs.declared.methods.Method.{Method}
use Rattle.abc_file_types.specs.declared.methods.OptionValue.{OptionValue}
use Rattle.abc_file_types.specs.declared.names.Multiname.{Multiname}
use Rattle.abc_file_types.specs.declared.names.Namespace.{Namespace}
use Rattle.abc_file_types.specs.declared.tables.Abc.{Abc}
use Rattle.abc_file_types.specs.declared.tables.Eight.{Eight}
use Rattle.abc_file_types.specs.declared.traits.TraitBody.{TraitBody}
use Rattle.abc_file_types.specs.declared.traits.TraitInfo.{TraitInfo}
use Rattle.abc_file_types.specs.Classes.{sizes_of}
use Rattle.abc_file_types.specs.declared.opcodes.Form.TheVariants as forms
use Rattle.abc_file_types.specs.Opcodes.{form_at}
use Rattle.abc_file_types.specs.Traits.{trait_kind_in}
use Rattle.abc_text_lines.specs.Lines.{Item}
use Rattle.abc_text_lines.specs.Wordlines.{among}
use Rattle.abc_text_lines.specs.Answers.{instance_head, pairs}
use Rattle.abc_text_lines.specs.Lineforms.{body_line, catch_line, double_line, entry_line, int_line, name_line, namespace_line, set_line, string_line, uint_line, instance_line, instruction_operands, kind_in, method_line, multiname_operands, opcode_of, option_line, slot_value_operand, trait_operands, trait_line}
use Rattle.abc_text_writer.specs.Numbers.{number_line_bytes, number_lines}
use Rattle.abc_text_lines.specs.Listing.{label_bytes, label_of, line_bytes, token_of}

-- operands behind a line's first word
abbrev pub operand_bytes : List Item → List ℕ
operand_bytes items = spaced_tokens (map token_of items)

-- labels, each behind a space
abbrev pub labels : List ℕ → List ℕ
labels ts = flat_map (λ t. 0x20 ∷ label_of t) ts

-- the line of a label, if its number is named
abbrev pub label_if : List ℕ → ℕ → List ℕ
label_if named n = if among n named then label_bytes n else []

-- The form of an instruction is that of its opcode, and a switch has a case.
abbrev pub HasShownForm : Instr → Type 0
HasShownForm (instrs.Plain op) = form_at op ≡ Some forms.Plain
HasShownForm (instrs.One op n) = form_at op ≡ Some forms.One
HasShownForm (instrs.Two op n m) = form_at op ≡ Some forms.Two
HasShownForm (instrs.Branch op t) = form_at op ≡ Some forms.Branch
HasShownForm (instrs.Switch t ts) = 0 < length ts
HasShownForm _ = Unit {0}

-- the numbers of instructions that an instruction names
abbrev pub instr_targets : Instr → List ℕ
instr_targets (instrs.Branch op t) = t ∷ []
instr_targets (instrs.Switch t ts) = t ∷ ts
instr_targets _ = []

abbrev pub handler_targets : Handler → List ℕ
handler_targets h = h.from ∷ h.to ∷ h.target ∷ []

-- the numbers of instructions that the code and the handlers of a body name: these get labels
abbrev pub body_targets : Body → List ℕ
body_targets b = flat_map instr_targets b.code ++ flat_map handler_targets b.handlers

-- the first line of every text
abbrev pub version_text : List ℕ
version_text = codes "abc 16 46\n"

module _ (v : Abc) where
  abbrev pub int_text : ℤ → List ℕ
  int_text n = line_bytes v words.Int (int_line.items n)

  abbrev pub uint_text : ℕ → List ℕ
  uint_text n = line_bytes v words.UInt (uint_line.items n)

  abbrev pub double_text : Eight → List ℕ
  double_text d = line_bytes v words.Double (double_line.items d)

  abbrev pub string_text : List ℕ → List ℕ
  string_text b = line_bytes v words.Text (string_line.items b)

  abbrev pub namespace_text : Namespace → List ℕ
  namespace_text n = line_bytes v words.Namespace ((namespace_line (sizes_of v)).items n)

  abbrev pub set_text : List ℕ → List ℕ
  set_text xs = line_bytes v words.Set ((set_line (sizes_of v)).items xs)

  abbrev pub name_text : Multiname → List ℕ
  name_text m = line_bytes v words.Name ((name_line (sizes_of v)).items m)

  abbrev pub pools_text : List ℕ
  pools_text =
      flat_map int_text v.ints ++ (flat_map uint_text v.uints ++ (flat_map double_text v.doubles ++ (flat_map string_text v.strings
      ++ (flat_map namespace_text v.namespaces ++ (flat_map set_text v.sets ++ flat_map name_text v.names)))))

  -- the indices of a multiname
  abbrev pub name_fields : Multiname → List ℕ
  name_fields m = operand_bytes ((multiname_operands (sizes_of v) (kind_in m)).items m)

  abbrev pub option_text : OptionValue → List ℕ
  option_text o = line_bytes v words.Optional ((option_line (sizes_of v)).items o)

  abbrev pub method_text : Method → List ℕ
  method_text m =
      line_bytes v words.Method ((method_line (sizes_of v)).items (record { ret = m.ret; name = m.name; flags = m.flags }))
      ++ (number_lines (codes "param") m.params ++ (flat_map option_text m.options ++ number_lines (codes "pname") m.param_names))

  abbrev pub entry_text : ℕ × ℕ → List ℕ
  entry_text e = line_bytes v words.Entry ((entry_line (sizes_of v)).items e)

  abbrev pub metadata_text : Metadata → List ℕ
  metadata_text m = number_line_bytes (codes "metadata") m.name ++ flat_map entry_text (pairs m.items)

  abbrev pub slot_text : Option OptionValue → List ℕ
  slot_text o = operand_bytes ((slot_value_operand (sizes_of v)).items o)

  abbrev pub fields_text : TraitBody → List ℕ
  fields_text b = operand_bytes ((trait_operands (sizes_of v) (trait_kind_in b)).items b)

  abbrev pub trait_text : TraitInfo → List ℕ
  trait_text t = line_bytes v words.Trait ((trait_line (sizes_of v)).items (record { attrs = t.attrs; name = t.name; body = t.body })) ++ number_lines (codes "tmeta") t.metadata

  abbrev pub protected_text : Option ℕ → List ℕ
  protected_text (Some n) = number_line_bytes (codes "protected") n
  protected_text None = []

  abbrev pub instance_head_text : Instance → List ℕ
  instance_head_text i = line_bytes v words.Instance ((instance_line (sizes_of v)).items (instance_head i))

  abbrev pub instance_text : Instance → List ℕ
  instance_text i =
      instance_head_text i
      ++ (protected_text i.protected_ns ++ (number_lines (codes "implements") i.interfaces ++ (number_line_bytes (codes "iinit") i.iinit ++ flat_map trait_text i.traits)))

  abbrev pub class_text : ClassInfo → List ℕ
  class_text c = number_line_bytes (codes "class") c.cinit ++ flat_map trait_text c.traits

  abbrev pub script_text : Script → List ℕ
  script_text s = number_line_bytes (codes "script") s.init ++ flat_map trait_text s.traits

  -- the line of an instruction
  abbrev pub instr_text : Instr → List ℕ
  instr_text i = line_bytes v (words.Instruction (opcode_of i)) ((instruction_operands (opcode_of i)).items i)

  -- instructions, of which the first has the number n, with a label before each that is named and at the end
  abbrev pub code_text : List ℕ → ℕ → List Instr → List ℕ
  code_text named n [] = label_if named n
  code_text named n (i ∷ is) = label_if named n ++ (instr_text i ++ code_text named (n + 1) is)

  abbrev pub handler_text : Handler → List ℕ
  handler_text h = line_bytes v words.Catch ((catch_line (sizes_of v)).items h)

  abbrev pub body_head_text : Body → List ℕ
  body_head_text b =
      line_bytes v words.Body ((body_line (sizes_of v)).items (record { method = b.method; max_stack = b.max_stack; local_count = b.local_count; init_scope = b.init_scope; max_scope = b.max_scope }))

  -- all lines of a body: its own, and those of its code, its handlers and its traits
  abbrev pub whole_body : Body → List ℕ
  whole_body b = body_head_text b ++ (code_text (body_targets b) 0 b.code ++ (flat_map handler_text b.handlers ++ flat_map trait_text b.traits))

  abbrev pub definitions_text : List ℕ
  definitions_text =
      flat_map method_text v.methods ++ (flat_map metadata_text v.metadata ++ (flat_map instance_text v.instances ++ (flat_map class_text v.classes ++ flat_map script_text v.scripts)))

  -- the lines before those of bodies
  abbrev pub front_text : List ℕ
  front_text = version_text ++ (pools_text ++ definitions_text)

  abbrev pub whole_text : List ℕ
  whole_text = version_text ++ (pools_text ++ (definitions_text ++ flat_map whole_body v.bodies))

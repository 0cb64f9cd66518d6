-- The narrow text: that of files without multinames of kind 1D and without opcode 53. It is made of the lines of the one
-- text, with two tables that lack a row each.
use Rattle.std.specs.Prelude.{ℕ, ◌+◌, nat_eq, not, List, [], ◌∷◌, ◌++◌, codes, map, Some, if◌then◌else◌}
use Rattle.std.specs.List.{filter, flat_map}
use Rattle.abc_disasm.specs.Texts.{body_head_text, body_targets, definitions_text, double_text, handler_text, int_text, label_if, namespace_text, set_text, string_text, trait_text, uint_text, version_text}
use Rattle.abc_text_lines.specs.Kinds.{multiname_words}
use Rattle.abc_text_lines.specs.Lineforms.{instruction_operands, kind_in, multiname_operands, opcode_of}
use Rattle.abc_text_lines.specs.Listing.{comment_of, name_comment, string_of_name, token_of}
use Rattle.abc_text_lines.specs.Texts.{or_else}
use Rattle.abc_file_types.specs.declared.code.Body.{Body}
use Rattle.abc_file_types.specs.declared.code.Instr.{Instr}
use Rattle.abc_file_types.specs.declared.names.Multiname.{Multiname}
use Rattle.abc_file_types.specs.declared.names.MultinameKind.{MultinameKind}
use Rattle.abc_file_types.specs.declared.tables.Abc.{Abc}
use Rattle.abc_file_types.specs.Classes.{sizes_of}
use Rattle.abc_file_types.specs.Opcodes as opcodes
use Rattle.abc_file_types.specs.Opcodes.{names_of_opcodes}
use Rattle.abc_file_types.specs.Pools.{multiname_code}
use Rattle.abc_text_lines.specs.declared.word.Word.TheVariants as words
use Rattle.abc_text_lines.specs.Tokens.{Bare}
use Rattle.abc_text_lines.specs.Writing.{written_line}

-- the words of the kinds of multinames, without that of kind 1D
abbrev pub narrow_words : List (List ℕ × MultinameKind)
narrow_words = filter (λ row. not (nat_eq (multiname_code row.1) 0x1d)) multiname_words

-- the names of instructions, without that of opcode 53
abbrev pub narrow_named : List (ℕ × List ℕ)
narrow_named = filter (λ row. not (nat_eq row.0 0x53)) names_of_opcodes

-- the word that a table has for a kind
abbrev pub kind_word : List (List ℕ × MultinameKind) → MultinameKind → List ℕ
kind_word [] k = []
kind_word (row ∷ rows) k = if nat_eq (multiname_code row.1) (multiname_code k) then row.0 else kind_word rows k

module _ (v : Abc) where
  abbrev pub narrow_name : Multiname → List ℕ
  narrow_name m =
      written_line (Bare (codes "name") ∷ Bare (kind_word narrow_words (kind_in m)) ∷ map token_of ((multiname_operands (sizes_of v) (kind_in m)).items m))
      ++ (name_comment v (string_of_name (Some m)) ++ 0x0a ∷ [])

  abbrev pub narrow_instr : Instr → List ℕ
  narrow_instr i =
      let items = (instruction_operands (opcode_of i)).items i in
      written_line (Bare (or_else (opcodes.name_in narrow_named (opcode_of i)) []) ∷ map token_of items) ++ (comment_of v (words.Instruction (opcode_of i)) items ++ 0x0a ∷ [])

  abbrev pub narrow_code : List ℕ → ℕ → List Instr → List ℕ
  narrow_code named n [] = label_if named n
  narrow_code named n (i ∷ is) = label_if named n ++ (narrow_instr i ++ narrow_code named (n + 1) is)

  abbrev pub narrow_body : Body → List ℕ
  narrow_body b = body_head_text v b ++ (narrow_code (body_targets b) 0 b.code ++ (flat_map (handler_text v) b.handlers ++ flat_map (trait_text v) b.traits))

  abbrev pub narrow_pools : List ℕ
  narrow_pools =
      flat_map (int_text v) v.ints ++ (flat_map (uint_text v) v.uints ++ (flat_map (double_text v) v.doubles ++ (flat_map (string_text v) v.strings
      ++ (flat_map (namespace_text v) v.namespaces ++ (flat_map (set_text v) v.sets ++ flat_map narrow_name v.names)))))

  -- the whole narrow text of a file
  unfoldable pub narrow_listing : List ℕ
  narrow_listing = version_text ++ (narrow_pools ++ (definitions_text v ++ flat_map narrow_body v.bodies))

-- The format tried on small files: bytes that spell a file, a file's canonical bytes, and what is refused, where and why. No definition
-- stands on these; they show what the definitions say of bytes that can be counted by hand.
use Rattle.std.specs.Prelude.{◌≡◌, ℕ, pos, negsuc, List, [], ◌∷◌, ◌++◌, length, replicate, codes, false}
use Rattle.abc_file_types.specs.declared.reason.Reason.TheVariants as reasons
use Rattle.abc_file_types.specs.declared.code.Handler.{Handler}
use Rattle.abc_file_types.specs.declared.code.Instr.{Instr}
use Rattle.abc_file_types.specs.declared.code.Instr.TheVariants.{Plain, One, Two, Branch, Switch, Byte}
use Rattle.abc_file_types.specs.declared.methods.ValueKind.TheVariants as values
use Rattle.abc_file_types.specs.declared.names.Multiname.TheVariants as names
use Rattle.abc_file_types.specs.declared.names.NsKind.TheVariants as spaces
use Rattle.abc_file_types.specs.declared.tables.Abc.{Abc}
use Rattle.abc_file_types.specs.Part.{at_of, limit, refusal}
use Rattle.abc_file_types.specs.Numbers.{u8}
use Rattle.abc_file_types.specs.Pools.{empty}
use Rattle.abc_file_types.specs.Files.{Fits, IsBadFile, IsFile, file_bytes}

-- ---- bytes

-- minor version 16 and major version 46
abbrev pub version_head : List ℕ
version_head = 0x10 ∷ 0 ∷ 0x2e ∷ 0 ∷ []

abbrev pub zeros : ℕ → List ℕ
zeros n = replicate n 0

-- up to place 27: a method without parameters, a script with it as its init, and a body of at most 2 values, one local and one scope
abbrev pub script_head : List ℕ
script_head = version_head ++ zeros 7 ++ 1 ∷ zeros 4 ++ zeros 2 ++ 1 ∷ zeros 2 ++ 1 ∷ 0 ∷ 2 ∷ 1 ∷ 0 ∷ 1 ∷ []

-- the same, its code from place 28 on, and its exceptions and traits
abbrev pub script_bytes : (code rest : List ℕ) → List ℕ
script_bytes code rest = script_head ++ length code ∷ [] ++ code ++ rest

abbrev pub script_file : List Instr → List Handler → Abc
script_file code handlers = record empty {
  methods = record { ret = 0; params = []; name = 0; flags = 0; options = []; param_names = [] } ∷ [];
  scripts = record { init = 0; traits = [] } ∷ [];
  bodies = record { method = 0; max_stack = 2; local_count = 1; init_scope = 0; max_scope = 1; code = code; handlers = handlers; traits = [] } ∷ [];
}

-- strings 1 "trace" and 2 "Hi", the public namespace 1 and the name 1; trace("Hi")
abbrev pub file_hi : List ℕ
file_hi =
    version_head ++ zeros 3 ++ 3 ∷ 5 ∷ codes "trace" ++ 2 ∷ codes "Hi" ++ 2 ∷ 0x16 ∷ 0 ∷ 0 ∷ 2 ∷ 7 ∷ 1 ∷ 1 ∷ [] ++ 1 ∷ zeros 4 ++ zeros 2 ++ 1 ∷ zeros 2
    ++ 1 ∷ 0 ∷ 2 ∷ 1 ∷ 0 ∷ 1 ∷ 10 ∷ 0xd0 ∷ 0x30 ∷ 0x5d ∷ 1 ∷ 0x2c ∷ 2 ∷ 0x4f ∷ 1 ∷ 1 ∷ 0x47 ∷ zeros 2

abbrev pub hi_file : Abc
hi_file = record (script_file (Plain 0xd0 ∷ Plain 0x30 ∷ One 0x5d 1 ∷ One 0x2c 2 ∷ Two 0x4f 1 1 ∷ Plain 0x47 ∷ []) []) {
  strings = codes "trace" ∷ codes "Hi" ∷ [];
  namespaces = record { kind = spaces.Package; name = 0 } ∷ [];
  names = names.QName false 1 1 ∷ [];
}

-- label, getlocal, pop, a jump to the label, and an exception from getlocal up to the jump
abbrev pub loop_file : Abc
loop_file = script_file (Plain 9 ∷ One 0x62 0 ∷ Plain 0x29 ∷ Branch 0x10 0 ∷ [])
    (record { from = 1; to = 3; target = 0; exc_type = 0; var_name = 0 } ∷ [])

-- a method without parameters that has a value for one; a name of string 1, where there is none
abbrev pub one_value_file : Abc
one_value_file = record empty {
  methods = record { ret = 0; params = []; name = 0; flags = 8; options = record { kind = values.Undefined; value = 0 } ∷ []; param_names = [] } ∷ [];
}

abbrev pub no_string_file : Abc
no_string_file = record empty { names = names.QName false 0 1 ∷ [] }

-- ---- files and their canonical bytes

-- Which file some bytes spell, and which bytes are a file's canonical ones.
pub record SpelledExamples : Type 0 where
  -- all tables are empty; the count 1 of a pool means none, as 0 does
  pub empty_file : IsFile empty (version_head ++ zeros 12)
  pub empty_pool : IsFile empty (version_head ++ 1 ∷ zeros 11)
  pub empty_written : file_bytes empty ≡ version_head ++ zeros 12
  -- 5 in two bytes, which is written in one; a short number has no sign
  pub long_five : IsFile (record empty { ints = pos 5 ∷ [] }) (version_head ++ 2 ∷ 0x85 ∷ 0 ∷ zeros 11)
  pub five_written : file_bytes (record empty { ints = pos 5 ∷ [] }) ≡ version_head ++ 2 ∷ 5 ∷ zeros 11
  pub sixty_four : IsFile (record empty { ints = pos 64 ∷ [] }) (version_head ++ 2 ∷ 0x40 ∷ zeros 11)
  -- -1 twice: the upper bits of a fifth byte mean nothing
  pub minus_one : IsFile (record empty { ints = negsuc 0 ∷ negsuc 0 ∷ [] })
      (version_head ++ 3 ∷ 0xff ∷ 0xff ∷ 0xff ∷ 0xff ∷ 0x0f ∷ 0xff ∷ 0xff ∷ 0xff ∷ 0xff ∷ 0x7f ∷ zeros 11)
  pub minus_one_written : file_bytes (record empty { ints = negsuc 0 ∷ [] }) ≡ version_head ++ 2 ∷ 0xff ∷ 0xff ∷ 0xff ∷ 0xff ∷ 0x0f ∷ zeros 11
  -- a program with names
  pub hi_read : IsFile hi_file file_hi
  pub hi_written : file_bytes hi_file ≡ file_hi
  -- offsets and places count bytes as they were read, and are written as they count shorter ones: getlocal 0 has three bytes, and two
  pub long_loop : IsFile loop_file (script_bytes (9 ∷ 0x62 ∷ 0x80 ∷ 0 ∷ 0x29 ∷ 0x10 ∷ 0xf7 ∷ 0xff ∷ 0xff ∷ []) (1 ∷ 1 ∷ 5 ∷ 0 ∷ 0 ∷ 0 ∷ 0 ∷ []))
  pub loop_written : file_bytes loop_file ≡ script_bytes (9 ∷ 0x62 ∷ 0 ∷ 0x29 ∷ 0x10 ∷ 0xf8 ∷ 0xff ∷ 0xff ∷ []) (1 ∷ 1 ∷ 4 ∷ 0 ∷ 0 ∷ 0 ∷ 0 ∷ [])
  -- pushbyte 0, and a switch whose offsets count from itself
  pub a_switch : IsFile (script_file (Byte (pos 0) ∷ Switch 2 (2 ∷ []) ∷ Plain 0x47 ∷ []) [])
      (script_bytes (0x24 ∷ 0 ∷ 0x1b ∷ 8 ∷ 0 ∷ 0 ∷ 0 ∷ 8 ∷ 0 ∷ 0 ∷ 0x47 ∷ []) (zeros 2))
  -- values that no bytes spell
  pub one_value : Fits one_value_file → ⊥
  pub no_string : Fits no_string_file → ⊥

-- ---- what is refused: at least one example of each reason

-- Inputs, each with the place and the reason of its first fault.
pub record RefusedExamples : Type 0 where
  -- a byte is needed and the input has ended
  pub nothing : IsBadFile [] (refusal 0 reasons.Short)
  pub one_missing : IsBadFile (version_head ++ zeros 11) (refusal 15 reasons.Short)
  -- a string of three bytes, of which one is there
  pub long_string : IsBadFile (version_head ++ zeros 3 ++ 2 ∷ 3 ∷ 0x61 ∷ []) (refusal 10 reasons.Short)
  pub minor : IsBadFile (0x11 ∷ 0 ∷ 0x2e ∷ 0 ∷ zeros 12) (refusal 0 reasons.Version)
  pub major : IsBadFile (0x10 ∷ 0 ∷ 0x2f ∷ 0 ∷ zeros 12) (refusal 2 reasons.Version)
  pub six_bytes : IsBadFile (version_head ++ 2 ∷ 0xff ∷ 0xff ∷ 0xff ∷ 0xff ∷ 0x8f ∷ zeros 11) (refusal 5 reasons.LongNumber)
  pub too_big : IsBadFile (version_head ++ zeros 3 ++ 2 ∷ 0x80 ∷ 0x80 ∷ 0x80 ∷ 0x80 ∷ 4 ∷ []) (refusal 8 reasons.BigNumber)
  -- a kind of names is none of namespaces, nor the other way round
  pub namespace_kind : IsBadFile (version_head ++ zeros 4 ++ 2 ∷ 7 ∷ []) (refusal 9 reasons.NamespaceKind)
  pub name_kind : IsBadFile (version_head ++ zeros 6 ++ 2 ∷ 8 ∷ []) (refusal 11 reasons.MultinameKind)
  -- a type with parameters, whose base can't be 0
  pub no_base : IsBadFile (version_head ++ zeros 6 ++ 2 ∷ 0x1d ∷ 0 ∷ []) (refusal 12 reasons.Index)
  -- one value for a method without parameters
  pub more_values : IsBadFile (version_head ++ zeros 7 ++ 1 ∷ 0 ∷ 0 ∷ 0 ∷ 8 ∷ 1 ∷ []) (refusal 16 reasons.OptionCount)
  -- the string 4, where there is none: it is refused once its kind 1 is accepted, and the kind 2 is refused first
  pub value_index : IsBadFile (version_head ++ zeros 7 ++ 1 ∷ 1 ∷ 0 ∷ 0 ∷ 0 ∷ 8 ∷ 1 ∷ 4 ∷ 1 ∷ []) (refusal 18 reasons.Index)
  pub value_kind : IsBadFile (version_head ++ zeros 7 ++ 1 ∷ 1 ∷ 0 ∷ 0 ∷ 0 ∷ 8 ∷ 1 ∷ 4 ∷ 2 ∷ []) (refusal 19 reasons.OptionKind)
  -- a script with a trait, beside a name of no text
  pub trait_kind : IsBadFile (version_head ++ zeros 6 ++ 2 ∷ 7 ∷ 0 ∷ 0 ∷ 1 ∷ zeros 4 ++ zeros 2 ++ 1 ∷ 0 ∷ 1 ∷ 1 ∷ 7 ∷ []) (refusal 25 reasons.TraitKind)
  pub no_opcode : IsBadFile (script_bytes (1 ∷ []) (zeros 2)) (refusal 28 reasons.Opcode)
  -- 2^23 bytes of code
  pub long_code : IsBadFile (script_head ++ 0x80 ∷ 0x80 ∷ 0x80 ∷ 4 ∷ []) (refusal 27 reasons.CodeLength)
  -- getlocal without its operand, which the code's end cuts off; and so where the input ends there too
  pub cut_off : IsBadFile (script_bytes (0x62 ∷ []) (zeros 2)) (refusal 28 reasons.CodeEnds)
  pub cut_off_both : IsBadFile (script_bytes (0x62 ∷ []) []) (refusal 28 reasons.CodeEnds)
  -- into the switch itself; a bad opcode behind a bad target is told first, and a bad target before a bad exception
  pub inside_switch : IsBadFile (script_bytes (0x24 ∷ 0 ∷ 0x1b ∷ 1 ∷ 0 ∷ 0 ∷ 0 ∷ 8 ∷ 0 ∷ 0 ∷ 0x47 ∷ []) (zeros 2)) (refusal 31 reasons.Target)
  pub opcode_first : IsBadFile (script_bytes (0x10 ∷ 2 ∷ 0 ∷ 0 ∷ 1 ∷ []) (zeros 2)) (refusal 32 reasons.Opcode)
  pub target_first : IsBadFile (script_bytes (0x10 ∷ 2 ∷ 0 ∷ 0 ∷ 0x47 ∷ []) (1 ∷ 1 ∷ [])) (refusal 29 reasons.Target)
  -- an exception from the operand of getlocal on
  pub mid_instruction : IsBadFile (script_bytes (0x62 ∷ 0 ∷ []) (1 ∷ 1 ∷ [])) (refusal 31 reasons.HandlerRange)
  pub second_body : IsBadFile (version_head ++ zeros 7 ++ 1 ∷ zeros 7 ++ 2 ∷ zeros 9) (refusal 28 reasons.SecondBody)
  pub one_more : IsBadFile (version_head ++ zeros 13) (refusal 16 reasons.Trailing)
  -- of a byte alone, since such a file is long
  pub too_far : u8.bad (at_of limit (0 ∷ [])) (refusal limit reasons.FileTooLong)

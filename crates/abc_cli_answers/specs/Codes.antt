-- The code of the generated file (profile: docs/PROGRAM.md, "Words"; said in full here alone).
use Rattle.std.specs.Prelude.{ℕ, ℤ, ◌+◌, ◌%◌, pos, nat_eq, if◌then◌else◌, List, [], ◌∷◌, ◌++◌}
use Rattle.std.specs.List.{flat_map, range_with_len}
use Rattle.abc_file_types.specs.declared.code.Instr.{Instr}
use Rattle.abc_file_types.specs.declared.code.Instr.TheVariants as instrs
use Rattle.abc_cli_answers.specs.Draws.{draws_after, drawn_number}
use Rattle.abc_file_types.specs.declared.op.TheConstants as op

-- ---- the instructions, by their mnemonics

abbrev pub label : Instr
label = instrs.Plain op.LABEL

abbrev pub pushscope : Instr
pushscope = instrs.Plain op.PUSHSCOPE

abbrev pub returnvoid : Instr
returnvoid = instrs.Plain op.RETURNVOID

abbrev pub returnvalue : Instr
returnvalue = instrs.Plain op.RETURNVALUE

abbrev pub convert_i : Instr
convert_i = instrs.Plain op.CONVERT_I

abbrev pub getlocal_0 : Instr
getlocal_0 = instrs.Plain op.GETLOCAL_0

abbrev pub getlocal_1 : Instr
getlocal_1 = instrs.Plain op.GETLOCAL_1

abbrev pub getlocal_2 : Instr
getlocal_2 = instrs.Plain op.GETLOCAL_2

abbrev pub setlocal_1 : Instr
setlocal_1 = instrs.Plain op.SETLOCAL_1

abbrev pub setlocal_2 : Instr
setlocal_2 = instrs.Plain op.SETLOCAL_2

abbrev pub pushbyte : ℤ → Instr
pushbyte z = instrs.Byte z

abbrev pub pushshort : ℤ → Instr
pushshort z = instrs.Short z

abbrev pub ifgt : ℕ → Instr
ifgt target = instrs.Branch op.IFGT target

abbrev pub findpropstrict : ℕ → Instr
findpropstrict name = instrs.One op.FINDPROPSTRICT name

abbrev pub declocal_i : ℕ → Instr
declocal_i local = instrs.One op.DECLOCAL_I local

abbrev pub callproperty : ℕ → ℕ → Instr
callproperty name arguments = instrs.Two op.CALLPROPERTY name arguments

abbrev pub callpropvoid : ℕ → ℕ → Instr
callpropvoid name arguments = instrs.Two op.CALLPROPVOID name arguments

-- ---- the first body calls each function with what the one before gave, and traces what the last gave

-- Function i has the name i + 2.
abbrev pub call_code : ℕ → List Instr
call_code i = getlocal_0 ∷ getlocal_1 ∷ callproperty (i + 2) 1 ∷ convert_i ∷ setlocal_1 ∷ []

abbrev pub first_code : ℕ → List Instr
first_code m =
    (getlocal_0 ∷ pushscope ∷ pushbyte (pos 1) ∷ setlocal_1 ∷ [])
    ++ flat_map call_code (range_with_len 1 m)
    ++ (findpropstrict 1 ∷ getlocal_1 ∷ callpropvoid 1 1 ∷ returnvoid ∷ [])

-- ---- the others repeat one operation

-- add_i, subtract_i, multiply_i or bitxor
abbrev pub drawn_operation : ℕ → ℕ
drawn_operation n = if nat_eq n 0 then op.ADD_I else if nat_eq n 1 then op.SUBTRACT_I else if nat_eq n 2 then op.MULTIPLY_I else op.BITXOR

abbrev pub loop_code : ℤ → ℤ → ℕ → List Instr
loop_code rounds operand op =
    getlocal_1 ∷ convert_i ∷ setlocal_2 ∷ pushbyte rounds ∷ setlocal_1
    ∷ label ∷ getlocal_2 ∷ pushshort operand ∷ instrs.Plain op ∷ setlocal_2
    ∷ declocal_i 1 ∷ getlocal_1 ∷ pushbyte (pos 0) ∷ ifgt 5 ∷ getlocal_2 ∷ returnvalue ∷ []

-- the code for which three draws are made from this number on
abbrev pub drawn_code : ℕ → List Instr
drawn_code x =
    loop_code (pos (drawn_number (draws_after x 1) % 8 + 1)) (pos (drawn_number (draws_after x 2) % 32768)) (drawn_operation (drawn_number (draws_after x 3) % 4))

-- The verified file of the examples: bytes that spell it, the rules of linking, its layouts, and a typing of each body. So all that is asked of a
-- verified file can be met together.
use Rattle.std.proofs.Common.{◌≡◌, ℕ, zero, suc, ◌+◌, ◌<◌, List, [], ◌∷◌, ◌++◌, refl, arith}
use Rattle.std.specs.Prelude.{false, true, Contains, Ok, Some, None}
use Rattle.std.specs.declared.option.Option.{Option}
use Rattle.abc_base.specs.Builtin.{builtin_formed}
use Rattle.abc_base_graphs.specs.Ways.{way}
use Rattle.abc_file_types.specs.Bodies.{bodies, bodies_alone, body, body_list, body_method, body_with, handler}
use Rattle.abc_file_types.specs.Classes.{class_info, definitions, instance, script}
use Rattle.abc_file_types.specs.Code.{code, code_body, code_listing}
use Rattle.abc_file_types.specs.Files.{Fits, file, version}
use Rattle.abc_file_types.specs.Instructions.{code_length, instruction, opcode_part, pieces, signed_byte}
use Rattle.abc_file_types.specs.Lists.{count_and_items, pool, pool_by, bytes_with_count}
use Rattle.abc_file_types.specs.Methods.{metadata, method, option_value, options}
use Rattle.abc_file_types.specs.Numbers.{entry_index, index_below, pool_index, s24, s32, u8, u16, u30, u32}
use Rattle.abc_file_types.specs.Opcodes.{form_at, info_at}
use Rattle.abc_file_types.specs.Part.{at_of, when}
use Rattle.abc_file_types.specs.Places.{instruction_place}
use Rattle.abc_file_types.specs.Pools.{double, multiname, multiname_kind, multinames, namespace, namespace_kind, namespace_set, pools}
use Rattle.abc_file_types.specs.Targets.{resolve_targets}
use Rattle.abc_file_types.specs.Traits.{slot_value, trait_info, trait_kind}
use Rattle.abc_link_names.proofs.Examples.{all_quiet}
use Rattle.abc_link_names.proofs.FirstBroken.{all_hold}
use Rattle.abc_link_names.specs.Linked.{IsLinkedFile}
use Rattle.abc_link_names.specs.Parts.{HasLayout}
use Rattle.abc_link_names.specs.declared.part.Part.{Part}
use Rattle.abc_link_names.specs.declared.part.Part.TheVariants as parts
use Rattle.abc_link_names.specs.declared.types.Kind.TheVariants.{Any}
use Rattle.abc_objects.specs.Candidates.{answer_of_search}
use Rattle.abc_objects.specs.Searches.{declared_found, found_in_scopes, found_on}
use Rattle.abc_verify_typing.specs.Lists.{Each}
use Rattle.abc_verify_typing.specs.Routines.{Routine, routine}
use Rattle.abc_verify_typing.specs.Rows.{row_at, table_of_rows}
use Rattle.abc_verify_typing.specs.Typing.{HasTyping, entry}
use Rattle.abc_verify_typing.specs.declared.state.State.{State}
use Rattle.abc_verify_typing.proofs.Examples.{typed_by}
use Rattle.abc_meaning.specs.Examples.{ample}
use Rattle.abc_meaning.specs.Meaning.{Ran, first_world, meaning, too_small}
use Rattle.abc_meaning.specs.Table.{act_of, acts}
use Rattle.abc_meaning.specs.ThrowLaws.{IsVerifiedSetting}
use Rattle.abc_meaning.specs.Throwing.{Done}
use Rattle.abc_meaning_sound.proofs.Witnesses.{Behind, class_object_there, fits_by, from, host_there, numbering, states, with_host}
use Rattle.abc_meaning_sound.specs.Examples.{VerifiedExamples, parade, parade_program}
use Rattle.abc_meaning_sound.specs.RunLaws.{SomeAreVerified}

-- ---- bytes

abbrev bytes : List ℕ
bytes = 0x10 ∷ 0 ∷ 0x2e ∷ 0 ∷ 0 ∷ 0 ∷ 0 ∷ 4 ∷ 1 ∷ 0x41 ∷ 6 ∷ 0x4f ∷ 0x62 ∷ 0x6a ∷ 0x65 ∷ 0x63 ∷ 0x74 ∷ 1 ∷ 0x66 ∷ 3 ∷ 0x16 ∷ 0 ∷ 5 ∷ 0 ∷ 2 ∷ 1 ∷ 1 ∷ 4 ∷ 7 ∷ 1 ∷ 1 ∷ 7 ∷ 1 ∷ 2 ∷ 7 ∷ 1 ∷ 3 ∷ 6 ∷ 0 ∷ 0 ∷ 0 ∷ 0 ∷ 0 ∷ 0 ∷ 0 ∷ 0 ∷ 0 ∷ 0 ∷ 0 ∷ 0 ∷ 0 ∷ 0 ∷ 0 ∷ 0 ∷ 0 ∷ 0 ∷ 0 ∷ 0 ∷ 0 ∷ 0 ∷ 0 ∷ 0 ∷ 0 ∷ 1 ∷ 1 ∷ 2 ∷ 0 ∷ 0 ∷ 2 ∷ 1 ∷ 3 ∷ 1 ∷ 0 ∷ 4 ∷ 3 ∷ 0 ∷ 2 ∷ 0 ∷ 1 ∷ 1 ∷ 4 ∷ 0 ∷ 0 ∷ 1 ∷ 0 ∷ 6 ∷ 0 ∷ 3 ∷ 1 ∷ 0 ∷ 2 ∷ 0x0d ∷ 0xd0 ∷ 0x30 ∷ 0x5d ∷ 1 ∷ 0x60 ∷ 2 ∷ 0x2a ∷ 0x30 ∷ 0x58 ∷ 0 ∷ 0x68 ∷ 1 ∷ 0x47 ∷ 0 ∷ 0 ∷ 1 ∷ 2 ∷ 1 ∷ 0 ∷ 1 ∷ 0x14 ∷ 0xd0 ∷ 0x30 ∷ 0x5d ∷ 1 ∷ 0x4a ∷ 1 ∷ 0 ∷ 0x46 ∷ 3 ∷ 0 ∷ 0x29 ∷ 0x40 ∷ 5 ∷ 0x20 ∷ 0x41 ∷ 0 ∷ 0x29 ∷ 0x47 ∷ 0x29 ∷ 0x47 ∷ 1 ∷ 0x0e ∷ 0x10 ∷ 0x12 ∷ 0 ∷ 0 ∷ 0 ∷ 2 ∷ 1 ∷ 1 ∷ 0 ∷ 0 ∷ 4 ∷ 0xd0 ∷ 0x49 ∷ 0 ∷ 0x47 ∷ 0 ∷ 0 ∷ 3 ∷ 0 ∷ 1 ∷ 0 ∷ 0 ∷ 1 ∷ 0x47 ∷ 0 ∷ 0 ∷ 4 ∷ 1 ∷ 1 ∷ 0 ∷ 0 ∷ 3 ∷ 0x24 ∷ 7 ∷ 0x48 ∷ 0 ∷ 0 ∷ 5 ∷ 1 ∷ 1 ∷ 0 ∷ 0 ∷ 2 ∷ 0x20 ∷ 3 ∷ 0 ∷ 0 ∷ []

is_read : file.reads (at_of 0 bytes) ≡ Ok (parade, at_of 182 [])
unfolding file version pools definitions bodies_alone bodies body_list body body_with body_method handler code code_body code_listing code_length instruction opcode_part pieces resolve_targets instruction_place method options option_value metadata class_info instance script trait_info trait_kind slot_value double multiname multiname_kind multinames namespace namespace_kind namespace_set bytes_with_count count_and_items pool pool_by entry_index pool_index index_below signed_byte u8 u16 u30 u32 s24 s32 when form_at info_at
is_read = refl

fits : Fits parade
fits = fits_by bytes parade 182 (omega arith) is_read

-- ---- layouts: those of the host, of the class, of the scripts, and of the exception

abbrev more : List Part
more = parts.Instance 0 ∷ parts.ClassObject 0 ∷ parts.Global 0 ∷ parts.Global 1 ∷ parts.Catch 1 0 ∷ []

abbrev all : List Part
all = with_host more

every : (x : Part) → HasLayout parade x → Contains all x
every (parts.Host c) has = host_there more c
every (parts.HostClassObject c) has = class_object_there more c
every (parts.Instance zero) has = (28, omega arith, refl)
every (parts.Instance (suc k)) has = absurd (omega (arith, has))
every (parts.ClassObject zero) has = (29, omega arith, refl)
every (parts.ClassObject (suc k)) has = absurd (omega (arith, has))
every (parts.Global zero) has = (30, omega arith, refl)
every (parts.Global (suc zero)) has = (31, omega arith, refl)
every (parts.Global (suc (suc s))) has = absurd (omega (arith, has))
every (parts.Activation zero) has = let no : false ≡ true = has.1 in absurd cc
every (parts.Activation (suc zero)) has = let no : false ≡ true = has.1 in absurd cc
every (parts.Activation (suc (suc zero))) has = let no : false ≡ true = has.1 in absurd cc
every (parts.Activation (suc (suc (suc zero)))) has = let no : false ≡ true = has.1 in absurd cc
every (parts.Activation (suc (suc (suc (suc zero))))) has = let no : false ≡ true = has.1 in absurd cc
every (parts.Activation (suc (suc (suc (suc (suc zero)))))) has = let no : false ≡ true = has.1 in absurd cc
every (parts.Activation (suc (suc (suc (suc (suc (suc b))))))) has = let low = has.0 in absurd (omega (arith, low))
every (parts.Catch zero e) has = let low : e < 0 = has.1 in absurd (omega (arith, low))
every (parts.Catch (suc zero) zero) has = (32, omega arith, refl)
every (parts.Catch (suc zero) (suc e)) has = let low : suc e < 1 = has.1 in absurd (omega (arith, low))
every (parts.Catch (suc (suc zero)) e) has = let low : e < 0 = has.1 in absurd (omega (arith, low))
every (parts.Catch (suc (suc (suc zero))) e) has = let low : e < 0 = has.1 in absurd (omega (arith, low))
every (parts.Catch (suc (suc (suc (suc zero)))) e) has = let low : e < 0 = has.1 in absurd (omega (arith, low))
every (parts.Catch (suc (suc (suc (suc (suc zero))))) e) has = let low : e < 0 = has.1 in absurd (omega (arith, low))
every (parts.Catch (suc (suc (suc (suc (suc (suc b)))))) e) has = let low = has.0 in absurd (omega (arith, low))

behind : Behind parade (with_host []) more
behind = ((0, omega arith, refl), ((1, omega arith, refl), ((0, omega arith, refl), ((0, omega arith, refl), ((0, omega arith, refl), tt)))))

have : Each (HasLayout parade) more
have = (omega arith, (omega arith, (omega arith, (omega arith, ((omega arith, omega arith), tt)))))

is_linked : IsLinkedFile parade_program.linked
is_linked = record {
  fits = fits;
  rules = all_hold parade (all_quiet parade 15 refl);
  numbering = numbering parade more refl every have behind;
  tables = record { methods = omega arith; classes = omega arith; scripts = omega arith; bodies = omega arith };
  layouts = omega arith;
}

-- ---- bodies

abbrev routine_at : ℕ → Routine
routine_at b = routine parade_program.linked b

abbrev states_of : ℕ → ℕ → List (Option State)
states_of b n = states parade_program.linked (routine_at b) n

-- as the handler begins
abbrev caught : State
caught = record (entry (routine_at 1)) { stack = Any ∷ [] }

typed_0 : HasTyping parade_program.linked (routine_at 0)
unfolding row_at table_of_rows way
typed_0 = typed_by parade_program.linked (routine_at 0) (states_of 0 9) refl ((refl, (refl, tt)), ((refl, (refl, tt)), ((refl, (refl, tt)), ((refl, (refl, tt)), ((refl, (refl, tt)), ((refl, (refl, tt)), ((refl, (refl, tt)), ((refl, (refl, tt)), ((refl, tt), tt)))))))))

typed_1 : HasTyping parade_program.linked (routine_at 1)
unfolding row_at table_of_rows way
typed_1 = typed_by parade_program.linked (routine_at 1) (states_of 1 11 ++ from parade_program.linked (routine_at 1) 2 (Some (11, caught))) refl ((refl, (refl, tt)), ((refl, (refl, tt)), ((refl, (refl, tt)), ((refl, (refl, tt)), ((refl, (refl, tt)), ((refl, (refl, tt)), ((refl, (refl, tt)), ((refl, (refl, tt)), ((refl, (refl, (refl, tt))), ((refl, (refl, tt)), ((refl, tt), ((refl, (refl, tt)), ((refl, tt), tt)))))))))))))

typed_2 : HasTyping parade_program.linked (routine_at 2)
unfolding row_at table_of_rows way
typed_2 = typed_by parade_program.linked (routine_at 2) (states_of 2 3) refl ((refl, (refl, tt)), ((refl, (refl, tt)), ((refl, tt), tt)))

typed_3 : HasTyping parade_program.linked (routine_at 3)
unfolding row_at table_of_rows way
typed_3 = typed_by parade_program.linked (routine_at 3) (states_of 3 1) refl ((refl, tt), tt)

typed_4 : HasTyping parade_program.linked (routine_at 4)
unfolding row_at table_of_rows way
typed_4 = typed_by parade_program.linked (routine_at 4) (states_of 4 2) refl ((refl, (refl, tt)), ((refl, tt), tt))

typed_5 : HasTyping parade_program.linked (routine_at 5)
unfolding row_at table_of_rows way
typed_5 = typed_by parade_program.linked (routine_at 5) (states_of 5 2) refl ((refl, (refl, tt)), ((refl, tt), tt))

typed : (b : ℕ) → b < 6 → HasTyping parade_program.linked (routine_at b)
typed zero low = typed_0
typed (suc zero) low = typed_1
typed (suc (suc zero)) low = typed_2
typed (suc (suc (suc zero))) low = typed_3
typed (suc (suc (suc (suc zero)))) low = typed_4
typed (suc (suc (suc (suc (suc zero))))) low = typed_5
typed (suc (suc (suc (suc (suc (suc b)))))) low = absurd (omega (arith, low))

-- ---- all of it

verified : IsVerifiedSetting parade_program
verified = record { fits = fits; linked = is_linked; typed = typed; host = builtin_formed }

begins : too_small (first_world parade_program ample).heap ≡ None
unfolding way
begins = refl

ends : meaning parade_program ample 30 ≡ Ran [] Done
unfolding meaning acts act_of table_of_rows row_at way answer_of_search declared_found found_on found_in_scopes
ends = refl

pub verified_examples : VerifiedExamples
verified_examples = record { verified = verified; begins = begins; runs = ends }

pub some_verified : SomeAreVerified
some_verified = (parade_program, ample, verified, omega arith, begins)

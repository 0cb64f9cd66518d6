-- The second verified file of the examples, as the first: bytes that spell it, the rules of linking, its layouts, and a typing of each body.
use Rattle.std.proofs.Common.{◌≡◌, ℕ, zero, suc, ◌<◌, List, [], ◌∷◌, refl, arith}
use Rattle.std.specs.Fmt.{digits}
use Rattle.std.specs.Int.{int_wrap}
use Rattle.std.specs.Prelude.{codes, false, true, Contains, Ok, None}
use Rattle.std.specs.declared.option.Option.{Option}
use Rattle.abc_base.specs.Builtin.{builtin_formed}
use Rattle.abc_base_graphs.specs.Ways.{way}
use Rattle.abc_file_types.specs.Bodies.{bodies, bodies_alone, body, body_list, body_method, body_with, handler}
use Rattle.abc_file_types.specs.Classes.{class_info, definitions, instance, script}
use Rattle.abc_file_types.specs.Code.{code, code_body, code_listing}
use Rattle.abc_file_types.specs.Files.{Fits, file, version}
use Rattle.abc_file_types.specs.Instructions.{code_length, instruction, opcode_part, pieces, signed_byte}
use Rattle.abc_file_types.specs.Lists.{count_and_items, pool, pool_by, bytes_with_count}
use Rattle.abc_file_types.specs.Methods.{metadata, method, option_value, options}
use Rattle.abc_file_types.specs.Numbers.{entry_index, index_below, pool_index, s24, s32, u8, u16, u30, u32}
use Rattle.abc_file_types.specs.Opcodes.{form_at, info_at}
use Rattle.abc_file_types.specs.Part.{at_of, when}
use Rattle.abc_file_types.specs.Places.{instruction_place}
use Rattle.abc_file_types.specs.Pools.{double, multiname, multiname_kind, multinames, namespace, namespace_kind, namespace_set, pools}
use Rattle.abc_file_types.specs.Targets.{resolve_targets}
use Rattle.abc_file_types.specs.Traits.{slot_value, trait_info, trait_kind}
use Rattle.abc_heap_values.specs.Modular.{modulo_unsigned}
use Rattle.abc_link_names.proofs.Examples.{all_quiet}
use Rattle.abc_link_names.proofs.FirstBroken.{all_hold}
use Rattle.abc_link_names.specs.Linked.{IsLinkedFile}
use Rattle.abc_link_names.specs.Parts.{HasLayout}
use Rattle.abc_link_names.specs.declared.part.Part.{Part}
use Rattle.abc_link_names.specs.declared.part.Part.TheVariants as parts
use Rattle.abc_objects.specs.Candidates.{answer_of_search}
use Rattle.abc_objects.specs.Searches.{declared_found, found_in_scopes, found_on}
use Rattle.abc_verify_typing.specs.Routines.{Routine, routine}
use Rattle.abc_verify_typing.specs.Rows.{row_at, table_of_rows}
use Rattle.abc_verify_typing.specs.Typing.{HasTyping}
use Rattle.abc_verify_typing.specs.declared.state.State.{State}
use Rattle.abc_verify_typing.proofs.Examples.{typed_by}
use Rattle.abc_meaning.specs.Examples.{ample, text_line}
use Rattle.abc_meaning.specs.Meaning.{Ran, first_world, meaning, too_small}
use Rattle.abc_meaning.specs.Table.{act_of, acts}
use Rattle.abc_meaning.specs.ThrowLaws.{IsVerifiedSetting}
use Rattle.abc_meaning.specs.Throwing.{Done}
use Rattle.abc_meaning_sound.proofs.Witnesses.{class_object_there, fits_by, host_there, numbering, states, with_host}
use Rattle.abc_meaning_sound.specs.Examples.{WorkshopExamples, making, workshop}

-- ---- bytes

abbrev bytes : List ℕ
bytes = 0x10 ∷ 0 ∷ 0x2e ∷ 0 ∷ 0 ∷ 0 ∷ 0 ∷ 8 ∷ 5 ∷ 0x74 ∷ 0x72 ∷ 0x61 ∷ 0x63 ∷ 0x65 ∷ 1 ∷ 0x76 ∷ 1 ∷ 0x4b ∷ 1 ∷ 0x78 ∷ 6 ∷ 0x4f ∷ 0x62 ∷ 0x6a ∷ 0x65 ∷ 0x63 ∷ 0x74 ∷ 6 ∷ 0x6c ∷ 0x65 ∷ 0x6e ∷ 0x67 ∷ 0x74 ∷ 0x68 ∷ 1 ∷ 0x73 ∷ 3 ∷ 0x16 ∷ 0 ∷ 5 ∷ 0 ∷ 2 ∷ 1 ∷ 1 ∷ 8 ∷ 7 ∷ 1 ∷ 1 ∷ 7 ∷ 1 ∷ 2 ∷ 7 ∷ 1 ∷ 3 ∷ 7 ∷ 1 ∷ 4 ∷ 7 ∷ 1 ∷ 5 ∷ 7 ∷ 1 ∷ 6 ∷ 7 ∷ 1 ∷ 7 ∷ 4 ∷ 0 ∷ 0 ∷ 0 ∷ 0 ∷ 0 ∷ 0 ∷ 0 ∷ 0 ∷ 1 ∷ 0 ∷ 0 ∷ 0 ∷ 0 ∷ 0 ∷ 0 ∷ 0 ∷ 0 ∷ 0 ∷ 0 ∷ 1 ∷ 0 ∷ 4 ∷ 7 ∷ 0 ∷ 1 ∷ 0 ∷ 0 ∷ 2 ∷ 2 ∷ 0 ∷ 1 ∷ 2 ∷ 3 ∷ 0 ∷ 2 ∷ 3 ∷ 2 ∷ 0 ∷ 3 ∷ 4 ∷ 0 ∷ 5 ∷ 1 ∷ 0 ∷ 2 ∷ 0x25 ∷ 0xd0 ∷ 0x30 ∷ 0xd0 ∷ 0x24 ∷ 5 ∷ 0x61 ∷ 2 ∷ 0x5d ∷ 1 ∷ 0xd0 ∷ 0x66 ∷ 2 ∷ 0x2c ∷ 4 ∷ 0x24 ∷ 8 ∷ 0x55 ∷ 1 ∷ 0x1c ∷ 0x60 ∷ 4 ∷ 0x1d ∷ 0x24 ∷ 9 ∷ 0x56 ∷ 1 ∷ 0x66 ∷ 6 ∷ 0xd0 ∷ 0x4a ∷ 3 ∷ 0 ∷ 0x95 ∷ 0x4f ∷ 1 ∷ 4 ∷ 0x47 ∷ 0 ∷ 0 ∷ 1 ∷ 1 ∷ 1 ∷ 0 ∷ 0 ∷ 4 ∷ 0xd0 ∷ 0x6c ∷ 1 ∷ 0x48 ∷ 0 ∷ 0 ∷ 2 ∷ 2 ∷ 2 ∷ 0 ∷ 0 ∷ 5 ∷ 0xd0 ∷ 0xd1 ∷ 0x6d ∷ 1 ∷ 0x47 ∷ 0 ∷ 0 ∷ 3 ∷ 1 ∷ 1 ∷ 0 ∷ 0 ∷ 3 ∷ 0x60 ∷ 5 ∷ 0x48 ∷ 0 ∷ 0 ∷ []

is_read : file.reads (at_of 0 bytes) ≡ Ok (workshop, at_of 188 [])
unfolding file version pools definitions bodies_alone bodies body_list body body_with body_method handler code code_body code_listing code_length instruction opcode_part pieces resolve_targets instruction_place method options option_value metadata class_info instance script trait_info trait_kind slot_value double multiname multiname_kind multinames namespace namespace_kind namespace_set bytes_with_count count_and_items pool pool_by entry_index pool_index index_below signed_byte u8 u16 u30 u32 s24 s32 when form_at info_at
is_read = refl

fits : Fits workshop
fits = fits_by bytes workshop 188 (omega arith) is_read

-- ---- layouts: those of the host and of the script

abbrev more : List Part
more = parts.Global 0 ∷ []

abbrev all : List Part
all = with_host more

every : (x : Part) → HasLayout workshop x → Contains all x
every (parts.Host c) has = host_there more c
every (parts.HostClassObject c) has = class_object_there more c
every (parts.Instance k) has = let low : k < 0 = has in absurd (omega (arith, low))
every (parts.ClassObject k) has = let low : k < 0 = has in absurd (omega (arith, low))
every (parts.Global zero) has = (28, omega arith, refl)
every (parts.Global (suc s)) has = absurd (omega (arith, has))
every (parts.Activation zero) has = let no : false ≡ true = has.1 in absurd cc
every (parts.Activation (suc zero)) has = let no : false ≡ true = has.1 in absurd cc
every (parts.Activation (suc (suc zero))) has = let no : false ≡ true = has.1 in absurd cc
every (parts.Activation (suc (suc (suc zero)))) has = let no : false ≡ true = has.1 in absurd cc
every (parts.Activation (suc (suc (suc (suc b))))) has = let low = has.0 in absurd (omega (arith, low))
every (parts.Catch zero e) has = let low : e < 0 = has.1 in absurd (omega (arith, low))
every (parts.Catch (suc zero) e) has = let low : e < 0 = has.1 in absurd (omega (arith, low))
every (parts.Catch (suc (suc zero)) e) has = let low : e < 0 = has.1 in absurd (omega (arith, low))
every (parts.Catch (suc (suc (suc zero))) e) has = let low : e < 0 = has.1 in absurd (omega (arith, low))
every (parts.Catch (suc (suc (suc (suc b)))) e) has = let low = has.0 in absurd (omega (arith, low))

is_linked : IsLinkedFile making.linked
is_linked = record {
  fits = fits;
  rules = all_hold workshop (all_quiet workshop 15 refl);
  numbering = numbering workshop more refl every (omega arith, tt) ((0, omega arith, refl), tt);
  tables = record { methods = omega arith; classes = omega arith; scripts = omega arith; bodies = omega arith };
  layouts = omega arith;
}

-- ---- bodies

abbrev routine_at : ℕ → Routine
routine_at b = routine making.linked b

abbrev states_of : ℕ → ℕ → List (Option State)
states_of b n = states making.linked (routine_at b) n

typed_0 : HasTyping making.linked (routine_at 0)
unfolding row_at table_of_rows way
typed_0 = typed_by making.linked (routine_at 0) (states_of 0 22) refl ((refl, (refl, tt)), ((refl, (refl, tt)), ((refl, (refl, tt)), ((refl, (refl, tt)), ((refl, (refl, tt)), ((refl, (refl, tt)), ((refl, (refl, tt)), ((refl, (refl, tt)), ((refl, (refl, tt)), ((refl, (refl, tt)), ((refl, (refl, tt)), ((refl, (refl, tt)), ((refl, (refl, tt)), ((refl, (refl, tt)), ((refl, (refl, tt)), ((refl, (refl, tt)), ((refl, (refl, tt)), ((refl, (refl, tt)), ((refl, (refl, tt)), ((refl, (refl, tt)), ((refl, (refl, tt)), ((refl, tt), tt))))))))))))))))))))))

typed_1 : HasTyping making.linked (routine_at 1)
unfolding row_at table_of_rows way
typed_1 = typed_by making.linked (routine_at 1) (states_of 1 3) refl ((refl, (refl, tt)), ((refl, (refl, tt)), ((refl, tt), tt)))

typed_2 : HasTyping making.linked (routine_at 2)
unfolding row_at table_of_rows way
typed_2 = typed_by making.linked (routine_at 2) (states_of 2 4) refl ((refl, (refl, tt)), ((refl, (refl, tt)), ((refl, (refl, tt)), ((refl, tt), tt))))

typed_3 : HasTyping making.linked (routine_at 3)
unfolding row_at table_of_rows way
typed_3 = typed_by making.linked (routine_at 3) (states_of 3 2) refl ((refl, (refl, tt)), ((refl, tt), tt))

typed : (b : ℕ) → b < 4 → HasTyping making.linked (routine_at b)
typed zero low = typed_0
typed (suc zero) low = typed_1
typed (suc (suc zero)) low = typed_2
typed (suc (suc (suc zero))) low = typed_3
typed (suc (suc (suc (suc b)))) low = absurd (omega (arith, low))

-- ---- all of it

verified : IsVerifiedSetting making
verified = record { fits = fits; linked = is_linked; typed = typed; host = builtin_formed }

begins : too_small (first_world making ample).heap ≡ None
unfolding way
begins = refl

ends : meaning making ample 32 ≡ Ran (text_line (codes "5 8 1 object")) Done
unfolding meaning acts act_of table_of_rows row_at way answer_of_search declared_found found_on found_in_scopes digits modulo_unsigned int_wrap
ends = refl

pub workshop_examples : WorkshopExamples
unfolding acts act_of table_of_rows row_at way answer_of_search declared_found found_on found_in_scopes digits modulo_unsigned int_wrap
workshop_examples = record { verified = verified; begins = begins; runs = ends; drops = refl; pushes = refl; makes_then = refl }

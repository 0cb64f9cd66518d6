-- The examples of the format, by reading them.
use Rattle.std.proofs.Common.{◌≡◌, ℕ, List, [], ◌∷◌, length, inl, inr, refl, arith}
use Rattle.std.specs.Prelude.{Ok, Err}
use Rattle.abc_base.specs.Numbers.{number_bytes}
use Rattle.abc_file_types.specs.declared.reason.Reason.TheVariants as reasons
use Rattle.abc_file_types.specs.declared.tables.Abc.{Abc}
use Rattle.abc_file_types.specs.Part.{at_of, Refusal, refusal, when}
use Rattle.abc_file_types.specs.Numbers.{entry_index, index_below, pool_index, s24, s32, u8, u16, u30, u32}
use Rattle.abc_file_types.specs.Lists.{count_and_items, pool, pool_by, bytes_with_count}
use Rattle.abc_file_types.specs.Canonical.{counted_bytes, pool_bytes, s24_bytes, s32_bytes, text_bytes, u16_bytes}
use Rattle.abc_file_types.specs.Pools.{double, multiname, multiname_kind, multinames, namespace, namespace_bytes, namespace_kind, namespace_set, pools, pools_bytes}
use Rattle.abc_file_types.specs.Methods.{metadata, metadata_bytes, method, method_bytes, option_bytes, option_value, options, value_kind}
use Rattle.abc_file_types.specs.Traits.{slot_value, trait_bytes, trait_info, trait_kind}
use Rattle.abc_file_types.specs.Classes.{class_bytes, class_info, definitions, definitions_bytes, instance, instance_bytes, script, script_bytes}
use Rattle.abc_file_types.specs.Instructions.{code_length, instruction, opcode_part, pieces, signed_byte, signed_short, switch_offsets}
use Rattle.abc_file_types.specs.Opcodes.{form_at, info_at}
use Rattle.abc_file_types.specs.Targets.{resolve_targets}
use Rattle.abc_file_types.specs.Code.{code, code_body, code_listing}
use Rattle.abc_file_types.specs.CodeBytes.{canonical_starts, code_bytes}
use Rattle.abc_file_types.specs.Places.{instruction_place}
use Rattle.abc_file_types.specs.Bodies.{bodies, bodies_alone, bodies_bytes, body, body_bytes, body_list, body_method, body_with, handler, handler_bytes}
use Rattle.abc_file_types.specs.Files.{Fits, IsBadFile, IsFile, file, file_bytes, version}
use Rattle.abc_file_types.specs.Examples.{RefusedExamples, SpelledExamples, no_string_file, one_value_file}
use Rattle.abc_file_types.proofs.Whole.{canonical_file, decided, file-exact, whole_begins}

whole : (v : Abc) (b : List ℕ) → file.reads (at_of 0 b) ≡ Ok (v, at_of (length b) []) → IsFile v b
whole v b e = whole_begins file v b (at_of (length b) []) (file-exact.found (at_of 0 b) v (at_of (length b) []) (omega arith) e) refl

bad : (b : List ℕ) (r : Refusal) → file.reads (at_of 0 b) ≡ Err r → IsBadFile b r
bad b r e = inl (file-exact.refused (at_of 0 b) r (omega arith) e)

-- the canonical bytes are no file
unspelled : (v : Abc) (r : Refusal) → file.reads (at_of 0 (file_bytes v)) ≡ Err r → Fits v → ⊥
unspelled v r e f = (decided (file_bytes v)).never_both v r (canonical_file v f.0 f.1).0 (bad (file_bytes v) r e)

-- a byte is left
trailing : (v : Abc) (b : List ℕ) (n x : ℕ) (rest : List ℕ) → file.reads (at_of 0 b) ≡ Ok (v, at_of n (x ∷ rest)) → IsBadFile b (refusal n reasons.Trailing)
trailing v b n x rest e = inr (v, at_of n (x ∷ rest), file-exact.found (at_of 0 b) v (at_of n (x ∷ rest)) (omega arith) e, (λ no. cc), refl)

pub spelled : SpelledExamples
unfolding file version pools definitions bodies_alone bodies body_list body body_with body_method handler code code_body code_listing code_length instruction opcode_part pieces resolve_targets instruction_place method options option_value value_kind metadata class_info instance script trait_info trait_kind slot_value double multiname multiname_kind multinames namespace namespace_kind namespace_set bytes_with_count count_and_items pool pool_by entry_index pool_index index_below signed_byte signed_short switch_offsets u8 u16 u30 u32 s24 s32 when form_at info_at file_bytes pools_bytes definitions_bytes bodies_bytes body_bytes code_bytes canonical_starts handler_bytes trait_bytes script_bytes class_bytes instance_bytes metadata_bytes method_bytes option_bytes namespace_bytes counted_bytes pool_bytes text_bytes u16_bytes s24_bytes s32_bytes number_bytes
spelled = record {
  empty_file = whole _ _ refl;
  empty_pool = whole _ _ refl;
  empty_written = refl;
  long_five = whole _ _ refl;
  five_written = refl;
  sixty_four = whole _ _ refl;
  minus_one = whole _ _ refl;
  minus_one_written = refl;
  hi_read = whole _ _ refl;
  hi_written = refl;
  long_loop = whole _ _ refl;
  loop_written = refl;
  a_switch = whole _ _ refl;
  one_value = unspelled one_value_file (refusal 16 reasons.OptionCount) refl;
  no_string = unspelled no_string_file (refusal 13 reasons.Index) refl;
}

pub refused : RefusedExamples
unfolding file version pools definitions bodies_alone bodies body_list body body_with body_method handler code code_body code_listing code_length instruction opcode_part pieces resolve_targets instruction_place method options option_value value_kind metadata class_info instance script trait_info trait_kind slot_value double multiname multiname_kind multinames namespace namespace_kind namespace_set bytes_with_count count_and_items pool pool_by entry_index pool_index index_below signed_byte signed_short switch_offsets u8 u16 u30 u32 s24 s32 when form_at info_at
refused = record {
  nothing = bad _ _ refl;
  one_missing = bad _ _ refl;
  long_string = bad _ _ refl;
  minor = bad _ _ refl;
  major = bad _ _ refl;
  six_bytes = bad _ _ refl;
  too_big = bad _ _ refl;
  namespace_kind = bad _ _ refl;
  name_kind = bad _ _ refl;
  no_base = bad _ _ refl;
  more_values = bad _ _ refl;
  value_index = bad _ _ refl;
  value_kind = bad _ _ refl;
  trait_kind = bad _ _ refl;
  no_opcode = bad _ _ refl;
  long_code = bad _ _ refl;
  cut_off = bad _ _ refl;
  cut_off_both = bad _ _ refl;
  inside_switch = bad _ _ refl;
  opcode_first = bad _ _ refl;
  target_first = bad _ _ refl;
  mid_instruction = bad _ _ refl;
  second_body = bad _ _ refl;
  one_more = trailing _ _ _ _ _ refl;
  too_far = inr (omega arith, inr (0, [], refl, omega arith, refl));
}

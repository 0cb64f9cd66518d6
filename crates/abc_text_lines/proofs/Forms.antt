-- The laws of the operands of each line.
use Rattle.std.proofs.Common.{◌≡◌, ℕ, zero, suc, ℤ, pos, negsuc, ◌^◌, true, false, cond, nat_eq, List, ◌∷◌, Some, None, refl, sym, ap, ◌∙◌, ◌⊎◌, inl, inr}
use Rattle.std.specs.declared.option.Option.{Option}
use Rattle.abc_text_lines.specs.declared.reason.AsmReason.TheVariants as reasons
use Rattle.abc_text_lines.proofs.Bools.{if_is}
use Rattle.abc_text_lines.proofs.Scans.{eq_is}
use Rattle.abc_file_types.specs.declared.names.NsKind.{NsKind}
use Rattle.abc_file_types.specs.declared.names.NsKind.TheVariants as spaces
use Rattle.abc_file_types.specs.declared.names.MultinameKind.{MultinameKind}
use Rattle.abc_file_types.specs.declared.names.MultinameKind.TheVariants as kinds
use Rattle.abc_file_types.specs.declared.names.Multiname.{Multiname}
use Rattle.abc_file_types.specs.declared.names.Multiname.TheVariants as names
use Rattle.abc_file_types.specs.declared.methods.ValueKind.{ValueKind}
use Rattle.abc_file_types.specs.declared.methods.ValueKind.TheVariants as values
use Rattle.abc_file_types.specs.declared.traits.TraitKind.{TraitKind}
use Rattle.abc_file_types.specs.declared.traits.TraitKind.TheVariants as traits
use Rattle.abc_file_types.specs.declared.traits.TraitBody.{TraitBody}
use Rattle.abc_file_types.specs.declared.traits.TraitBody.TheVariants as bodies
use Rattle.abc_file_types.specs.declared.tables.Sizes.{Sizes}
use Rattle.abc_file_types.specs.declared.code.Instr.{Instr}
use Rattle.abc_file_types.specs.declared.code.Instr.TheVariants as instrs
use Rattle.abc_file_types.specs.declared.opcodes.Form.{Form}
use Rattle.abc_file_types.specs.declared.opcodes.Form.TheVariants as forms
use Rattle.abc_file_types.specs.Opcodes.{branches, form_at, form_of, info_at, is_in, name_in, names_of_opcodes, one_operand, two_operands}
use Rattle.abc_file_types.specs.Traits.{trait_kind_in}
use Rattle.abc_text_lines.specs.Operands.{AreOperands, IsOperand, Operand, any_number, by, eight, entry_upto, exactly, index_operand_below, index_upto, none, number_below, several, signed_between, target, text_operand, u30_operand, ◌&◌}
use Rattle.abc_text_lines.proofs.Operanding.{any_number-is, any_signed-is, by-are, checked-is, eight-is, kind-is, none-are, number_below-is, seen-are, several-are, target-is, text-is, then-are}
use Rattle.abc_text_lines.proofs.Wordlines.{lookup_there}
use Rattle.abc_text_lines.specs.Wordlines.{lookup}
use Rattle.abc_text_lines.specs.Kinds.{multiname_kind_operand, multiname_word, multiname_words, space_kind, space_word, space_words, trait_kind_operand, trait_word, trait_words, value_kind_operand, value_word, value_words}
use Rattle.abc_text_lines.specs.Lineforms.{debug_in, first_operand, kind_or, one_of, pair_in, second_of, signed_in, slot_parts, switch_in, two_of, type_parts, TraitHead, one_operand_alone, body_line, operands_by_form, catch_line, double_line, entry_line, implements_line, instance_line, instruction_fields, instruction_operands, int_line, kind_in, method_index_line, method_line, multiname_operands, multiname_rest, name_line, namespace_line, number_line, opcode_of, option_line, option_rest, pair_fields, param_line, protected_line, set_line, slot_fields, slot_kind_operand, slot_rest, slot_value_operand, slot_value_in, slot_value_of_parts, string_index_line, string_line, trait_operands, trait_line, trait_metadata_line, trait_rest, uint_line, value_index, version_line}

-- ---- operands

u30-is : IsOperand u30_operand
u30-is = number_below-is (2 ^ 30)

index_upto-is : (size : ℕ) → IsOperand (index_upto size)
index_upto-is size = checked-is _ reasons.Index u30_operand u30-is

entry_upto-is : (size : ℕ) → IsOperand (entry_upto size)
entry_upto-is size = checked-is _ reasons.Index u30_operand u30-is

index_below-is : (size : ℕ) → IsOperand (index_operand_below size)
index_below-is size = checked-is _ reasons.Index u30_operand u30-is

exactly-is : (n : ℕ) → IsOperand (exactly n)
exactly-is n = checked-is _ reasons.Range any_number any_number-is

signed-is : (low high : ℤ) → IsOperand (signed_between low high)
signed-is low high = checked-is _ reasons.Range _ any_signed-is

space_back : (k : NsKind) → lookup space_words (space_word k) ≡ Some k
space_back spaces.Private = refl
space_back spaces.Namespace = refl
space_back spaces.Package = refl
space_back spaces.PackageInternal = refl
space_back spaces.Protected = refl
space_back spaces.Explicit = refl
space_back spaces.StaticProtected = refl

space-is : IsOperand space_kind
unfolding space_kind
space-is = kind-is space_word (lookup space_words) spaces.Private (lookup_there space_word space_words (refl, (refl, (refl, (refl, (refl, (refl, (refl, tt)))))))) space_back

multiname_back : (k : MultinameKind) → lookup multiname_words (multiname_word k) ≡ Some k
multiname_back (kinds.QName false) = refl
multiname_back (kinds.QName true) = refl
multiname_back (kinds.Rt false) = refl
multiname_back (kinds.Rt true) = refl
multiname_back (kinds.RtL false) = refl
multiname_back (kinds.RtL true) = refl
multiname_back (kinds.Multi false) = refl
multiname_back (kinds.Multi true) = refl
multiname_back (kinds.MultiL false) = refl
multiname_back (kinds.MultiL true) = refl
multiname_back kinds.TypeName = refl

multiname-is : IsOperand multiname_kind_operand
unfolding multiname_kind_operand
multiname-is = kind-is multiname_word (lookup multiname_words) kinds.TypeName (lookup_there multiname_word multiname_words (refl, (refl, (refl, (refl, (refl, (refl, (refl, (refl, (refl, (refl, (refl, tt)))))))))))) multiname_back

value_back : (k : ValueKind) → lookup value_words (value_word k) ≡ Some k
value_back values.Undefined = refl
value_back values.Utf8 = refl
value_back values.Int = refl
value_back values.UInt = refl
value_back values.Double = refl
value_back values.False = refl
value_back values.True = refl
value_back values.Null = refl
value_back values.Private = refl
value_back values.Namespace = refl
value_back values.Package = refl
value_back values.PackageInternal = refl
value_back values.Protected = refl
value_back values.Explicit = refl
value_back values.StaticProtected = refl

value-is : IsOperand value_kind_operand
unfolding value_kind_operand
value-is = kind-is value_word (lookup value_words) values.Undefined (lookup_there value_word value_words (refl, (refl, (refl, (refl, (refl, (refl, (refl, (refl, (refl, (refl, (refl, (refl, (refl, (refl, (refl, tt)))))))))))))))) value_back

trait_back : (k : TraitKind) → lookup trait_words (trait_word k) ≡ Some k
trait_back traits.Slot = refl
trait_back traits.Const = refl
trait_back traits.Method = refl
trait_back traits.Getter = refl
trait_back traits.Setter = refl
trait_back traits.Class = refl
trait_back traits.Function = refl

trait-is : IsOperand trait_kind_operand
unfolding trait_kind_operand
trait-is = kind-is trait_word (lookup trait_words) traits.Slot (lookup_there trait_word trait_words (refl, (refl, (refl, (refl, (refl, (refl, (refl, tt)))))))) trait_back

-- ---- lines of one operand

pub alone-are : {A : Type 0} (p : Operand A) → IsOperand p → AreOperands (one_operand_alone p)
alone-are {A} p lp = seen-are (λ (x : A × Unit {0}). x.0) (λ (x : A). (x, tt)) (p & none) (λ x fit. refl) (then-are p none lp none-are)

pub version-are : AreOperands version_line
version-are = then-are (exactly 16) (exactly 46 & none) (exactly-is 16) (then-are (exactly 46) none (exactly-is 46) none-are)

pub int-are : AreOperands int_line
unfolding int_line
int-are = alone-are (signed_between (negsuc 2147483647) (pos 2147483647)) (signed-is (negsuc 2147483647) (pos 2147483647))

pub uint-are : AreOperands uint_line
unfolding uint_line
uint-are = alone-are (number_below (2 ^ 32)) (number_below-is (2 ^ 32))

pub double-are : AreOperands double_line
unfolding double_line
double-are = seen-are _ _ (eight & none) (λ x fit. refl) (then-are eight none eight-is none-are)

pub string-are : AreOperands string_line
unfolding string_line
string-are = alone-are text_operand text-is

pub number-are : AreOperands number_line
unfolding number_line
number-are = alone-are u30_operand u30-is

module _ (v : Sizes) where
  pub namespace-are : AreOperands (namespace_line v)
  unfolding namespace_line
  namespace-are = seen-are _ _ (space_kind & (index_upto v.strings & none)) (λ x fit. refl) (then-are space_kind (index_upto v.strings & none) space-is (then-are (index_upto v.strings) none (index_upto-is v.strings) none-are))

  pub set-are : AreOperands (set_line v)
  unfolding set_line
  set-are = several-are (entry_upto v.namespaces) (entry_upto-is v.namespaces)

  multiname_fields-are : (kind : MultinameKind) → AreOperands (multiname_operands v kind)
  multiname_fields-are (kinds.QName attr) = seen-are (λ x. names.QName attr x.0 x.1.0) (λ m. ((two_of m).0, ((two_of m).1, tt))) (index_upto v.namespaces & (index_upto v.strings & none)) (λ x fit. refl) (then-are (index_upto v.namespaces) (index_upto v.strings & none) (index_upto-is v.namespaces) (then-are (index_upto v.strings) none (index_upto-is v.strings) none-are))
  multiname_fields-are (kinds.Rt attr) = seen-are (λ x. names.Rt attr x.0) (λ m. (one_of m, tt)) (index_upto v.strings & none) (λ x fit. refl) (then-are (index_upto v.strings) none (index_upto-is v.strings) none-are)
  multiname_fields-are (kinds.RtL attr) = seen-are (λ x. names.RtL attr) (λ m. tt) none (λ x fit. refl) none-are
  multiname_fields-are (kinds.Multi attr) = seen-are (λ x. names.Multi attr x.0 x.1.0) (λ m. ((two_of m).0, ((two_of m).1, tt))) (index_upto v.strings & (entry_upto v.sets & none)) (λ x fit. refl) (then-are (index_upto v.strings) (entry_upto v.sets & none) (index_upto-is v.strings) (then-are (entry_upto v.sets) none (entry_upto-is v.sets) none-are))
  multiname_fields-are (kinds.MultiL attr) = seen-are (λ x. names.MultiL attr x.0) (λ m. (one_of m, tt)) (entry_upto v.sets & none) (λ x fit. refl) (then-are (entry_upto v.sets) none (entry_upto-is v.sets) none-are)
  multiname_fields-are kinds.TypeName = seen-are (λ x. names.TypeName x.0 x.1) type_parts (entry_upto v.names & several (index_upto v.names)) (λ x fit. refl) (then-are (entry_upto v.names) (several (index_upto v.names)) (entry_upto-is v.names) (several-are (index_upto v.names) (index_upto-is v.names)))

  -- a multiname that fits the fields of a kind is of that kind
  multiname_of_kind : (kind : MultinameKind) (m : Multiname) → (multiname_operands v kind).fits m → kind_in m ≡ kind
  multiname_of_kind (kinds.QName attr) m fit = ap kind_in (sym fit.1)
  multiname_of_kind (kinds.Rt attr) m fit = ap kind_in (sym fit.1)
  multiname_of_kind (kinds.RtL attr) m fit = ap kind_in (sym fit.1)
  multiname_of_kind (kinds.Multi attr) m fit = ap kind_in (sym fit.1)
  multiname_of_kind (kinds.MultiL attr) m fit = ap kind_in (sym fit.1)
  multiname_of_kind kinds.TypeName m fit = ap kind_in (sym fit.1)

  pub name-are : AreOperands (name_line v)
  unfolding name_line
  name-are =
      seen-are (λ (x : MultinameKind × Multiname). x.1) (λ (m : Multiname). (kind_in m, m)) (by multiname_kind_operand (multiname_rest v))
      (λ x fit. ap (λ (k : MultinameKind). (k, x.1)) (multiname_of_kind x.0 x.1 fit.1))
      (by-are multiname_kind_operand (multiname_rest v) multiname-is multiname_fields-are)

  pub method-are : AreOperands (method_line v)
  unfolding method_line
  method-are = seen-are _ _ (index_upto v.names & (index_upto v.strings & (number_below 256 & none))) (λ x fit. refl) (then-are (index_upto v.names) (index_upto v.strings & (number_below 256 & none)) (index_upto-is v.names) (then-are (index_upto v.strings) (number_below 256 & none) (index_upto-is v.strings) (then-are (number_below 256) none (number_below-is 256) none-are)))

  pub param-are : AreOperands (param_line v)
  unfolding param_line
  param-are = alone-are _ (index_upto-is v.names)

  value_index-is : (kind : ValueKind) → IsOperand (value_index v kind)
  value_index-is kind = checked-is _ reasons.Index u30_operand u30-is

  pub option-are : AreOperands (option_line v)
  unfolding option_line
  option-are = seen-are _ _ (by value_kind_operand (option_rest v)) (λ x fit. refl) (by-are value_kind_operand (option_rest v) value-is (λ kind. then-are (value_index v kind) none (value_index-is kind) none-are))

  pub string_index-are : AreOperands (string_index_line v)
  unfolding string_index_line
  string_index-are = alone-are _ (index_upto-is v.strings)

  pub entry-are : AreOperands (entry_line v)
  unfolding entry_line
  entry-are = seen-are _ _ (index_upto v.strings & (index_upto v.strings & none)) (λ x fit. refl) (then-are (index_upto v.strings) (index_upto v.strings & none) (index_upto-is v.strings) (then-are (index_upto v.strings) none (index_upto-is v.strings) none-are))

  pub instance-are : AreOperands (instance_line v)
  unfolding instance_line
  instance-are = seen-are _ _ (entry_upto v.names & (index_upto v.names & (number_below 256 & none))) (λ x fit. refl) (then-are (entry_upto v.names) (index_upto v.names & (number_below 256 & none)) (entry_upto-is v.names) (then-are (index_upto v.names) (number_below 256 & none) (index_upto-is v.names) (then-are (number_below 256) none (number_below-is 256) none-are)))

  pub protected-are : AreOperands (protected_line v)
  unfolding protected_line
  protected-are = alone-are _ (index_upto-is v.namespaces)

  pub implements-are : AreOperands (implements_line v)
  unfolding implements_line
  implements-are = alone-are _ (entry_upto-is v.names)

  pub method_index-are : AreOperands (method_index_line v)
  unfolding method_index_line
  method_index-are = alone-are _ (index_below-is v.methods)

  -- ---- traits

  slot_rest-are : (n : ℕ) → AreOperands (slot_rest v (Some n))
  slot_rest-are zero = seen-are (λ (x : Unit {0}). let o : Option ValueKind = None in o) (λ (o : Option ValueKind). tt) none (λ x fit. refl) none-are
  slot_rest-are (suc n) = seen-are (λ (x : ValueKind × Unit {0}). let o : Option ValueKind = Some x.0 in o) (λ o. (kind_or o, tt)) (slot_kind_operand v (suc n) & none) (λ x fit. refl) (then-are (slot_kind_operand v (suc n)) none (checked-is _ reasons.Index value_kind_operand value-is) none-are)

  slot_same : (n : ℕ) (o : Option ValueKind) → (slot_rest v (Some n)).fits o → slot_value_in (slot_value_of_parts (n, o)) ≡ (n, o)
  slot_same zero None fit = refl
  slot_same zero (Some kind) fit = refl
  slot_same (suc n) None fit = absurd (let no_ : Some _ ≡ None = fit.1 in cc)
  slot_same (suc n) (Some kind) fit = refl

  slot_value-are : AreOperands (slot_value_operand v)
  unfolding slot_value_operand
  slot_value-are = seen-are slot_value_of_parts slot_value_in (by u30_operand (slot_rest v)) (λ x fit. slot_same x.0 x.1 fit.1) (by-are u30_operand (slot_rest v) u30-is slot_rest-are)

  slot_fields-are : AreOperands (slot_fields v)
  slot_fields-are = then-are u30_operand (index_upto v.names & slot_value_operand v) u30-is (then-are (index_upto v.names) (slot_value_operand v) (index_upto-is v.names) slot_value-are)

  pair_fields-are : (size : ℕ) → AreOperands (pair_fields size)
  pair_fields-are size = then-are u30_operand (index_operand_below size & none) u30-is (then-are (index_operand_below size) none (index_below-is size) none-are)

  trait_fields-are : (kind : TraitKind) → AreOperands (trait_operands v kind)
  trait_fields-are traits.Slot = seen-are (λ x. bodies.Slot x.0 x.1.0 x.1.1 false) slot_parts (slot_fields v) (λ x fit. refl) slot_fields-are
  trait_fields-are traits.Const = seen-are (λ x. bodies.Slot x.0 x.1.0 x.1.1 true) slot_parts (slot_fields v) (λ x fit. refl) slot_fields-are
  trait_fields-are traits.Method = seen-are (λ x. bodies.Method x.0 x.1.0) pair_in (pair_fields v.methods) (λ x fit. refl) (pair_fields-are v.methods)
  trait_fields-are traits.Getter = seen-are (λ x. bodies.Getter x.0 x.1.0) pair_in (pair_fields v.methods) (λ x fit. refl) (pair_fields-are v.methods)
  trait_fields-are traits.Setter = seen-are (λ x. bodies.Setter x.0 x.1.0) pair_in (pair_fields v.methods) (λ x fit. refl) (pair_fields-are v.methods)
  trait_fields-are traits.Class = seen-are (λ x. bodies.Class x.0 x.1.0) pair_in (pair_fields v.classes) (λ x fit. refl) (pair_fields-are v.classes)
  trait_fields-are traits.Function = seen-are (λ x. bodies.Function x.0 x.1.0) pair_in (pair_fields v.methods) (λ x fit. refl) (pair_fields-are v.methods)

  -- a trait that fits the fields of a kind is of that kind
  trait_of_kind : (kind : TraitKind) (b : TraitBody) → (trait_operands v kind).fits b → trait_kind_in b ≡ kind
  trait_of_kind traits.Slot b fit = ap trait_kind_in (sym fit.1)
  trait_of_kind traits.Const b fit = ap trait_kind_in (sym fit.1)
  trait_of_kind traits.Method b fit = ap trait_kind_in (sym fit.1)
  trait_of_kind traits.Getter b fit = ap trait_kind_in (sym fit.1)
  trait_of_kind traits.Setter b fit = ap trait_kind_in (sym fit.1)
  trait_of_kind traits.Class b fit = ap trait_kind_in (sym fit.1)
  trait_of_kind traits.Function b fit = ap trait_kind_in (sym fit.1)

  trait_rest-are : (kind : TraitKind) → AreOperands (trait_rest v (Some kind))
  trait_rest-are kind = seen-are _ _ (number_below 16 & (entry_upto v.names & trait_operands v kind)) (λ x fit. refl) (then-are (number_below 16) (entry_upto v.names & trait_operands v kind) (number_below-is 16) (then-are (entry_upto v.names) (trait_operands v kind) (entry_upto-is v.names) (trait_fields-are kind)))

  pub trait-are : AreOperands (trait_line v)
  unfolding trait_line
  trait-are =
      seen-are (λ (x : TraitKind × TraitHead). x.1) (λ (t : TraitHead). (trait_kind_in t.body, t)) (by trait_kind_operand (trait_rest v))
      (λ x fit. ap (λ (k : TraitKind). (k, x.1)) (trait_of_kind x.0 x.1.body fit.1.0.1.1))
      (by-are trait_kind_operand (trait_rest v) trait-is trait_rest-are)

  pub trait_metadata-are : AreOperands (trait_metadata_line v)
  unfolding trait_metadata_line
  trait_metadata-are = alone-are _ (index_below-is v.metadata)

  -- ---- bodies

  pub body-are : AreOperands (body_line v)
  unfolding body_line
  body-are =
      seen-are _ _ (index_operand_below v.methods & (u30_operand & (u30_operand & (u30_operand & (u30_operand & none))))) (λ x fit. refl)
      (then-are (index_operand_below v.methods) (u30_operand & (u30_operand & (u30_operand & (u30_operand & none)))) (index_below-is v.methods)
      (then-are u30_operand (u30_operand & (u30_operand & (u30_operand & none))) u30-is (then-are u30_operand (u30_operand & (u30_operand & none)) u30-is (then-are u30_operand (u30_operand & none) u30-is (then-are u30_operand none u30-is none-are)))))

  pub catch-are : AreOperands (catch_line v)
  unfolding catch_line
  catch-are =
      seen-are _ _ (target & (target & (target & (index_upto v.names & (index_upto v.names & none))))) (λ x fit. refl)
      (then-are target (target & (target & (index_upto v.names & (index_upto v.names & none)))) target-is
      (then-are target (target & (index_upto v.names & (index_upto v.names & none))) target-is
      (then-are target (index_upto v.names & (index_upto v.names & none)) target-is
      (then-are (index_upto v.names) (index_upto v.names & none) (index_upto-is v.names) (then-are (index_upto v.names) none (index_upto-is v.names) none-are)))))

-- ---- instructions

instruction_fields-are : (op : ℕ) (form : Form) → AreOperands (instruction_fields op form)
instruction_fields-are op forms.Plain = seen-are (λ x. instrs.Plain op) (λ i. tt) none (λ x fit. refl) none-are
instruction_fields-are op forms.One = seen-are (λ x. instrs.One op x.0) (λ i. (first_operand i, tt)) (u30_operand & none) (λ x fit. refl) (then-are u30_operand none u30-is none-are)
instruction_fields-are op forms.Two = seen-are (λ x. instrs.Two op x.0 x.1.0) (λ i. (first_operand i, (second_of i, tt))) (u30_operand & (u30_operand & none)) (λ x fit. refl) (then-are u30_operand (u30_operand & none) u30-is (then-are u30_operand none u30-is none-are))
instruction_fields-are op forms.Branch = seen-are (λ x. instrs.Branch op x.0) (λ i. (first_operand i, tt)) (target & none) (λ x fit. refl) (then-are target none target-is none-are)
instruction_fields-are op forms.Switch = seen-are (λ x. instrs.Switch x.0 (x.1.0 ∷ x.1.1)) switch_in (target & (target & several target)) (λ x fit. refl) (then-are target (target & several target) target-is (then-are target (several target) target-is (several-are target target-is)))
instruction_fields-are op forms.Byte = seen-are (λ x. instrs.Byte x.0) (λ i. (signed_in i, tt)) (signed_between (negsuc 127) (pos 127) & none) (λ x fit. refl) (then-are (signed_between (negsuc 127) (pos 127)) none (signed-is (negsuc 127) (pos 127)) none-are)
instruction_fields-are op forms.Short = seen-are (λ x. instrs.Short x.0) (λ i. (signed_in i, tt)) (signed_between (negsuc 32767) (pos 32767) & none) (λ x fit. refl) (then-are (signed_between (negsuc 32767) (pos 32767)) none (signed-is (negsuc 32767) (pos 32767)) none-are)
instruction_fields-are op forms.ScopeObject = seen-are (λ x. instrs.ScopeObject x.0) (λ i. (first_operand i, tt)) (number_below 256 & none) (λ x fit. refl) (then-are (number_below 256) none (number_below-is 256) none-are)
instruction_fields-are op forms.Debug =
    seen-are (λ x. instrs.Debug x.0 x.1.0 x.1.1.0 x.1.1.1.0) debug_in (number_below 256 & (u30_operand & (number_below 256 & (u30_operand & none)))) (λ x fit. refl)
    (then-are (number_below 256) (u30_operand & (number_below 256 & (u30_operand & none))) (number_below-is 256) (then-are u30_operand (number_below 256 & (u30_operand & none)) u30-is (then-are (number_below 256) (u30_operand & none) (number_below-is 256) (then-are u30_operand none u30-is none-are))))

by_form-are : (op : ℕ) (form : Option Form) → AreOperands (operands_by_form op form)
by_form-are op (Some form) = instruction_fields-are op form
by_form-are op None = record { found = λ labels tokens counts e. absurd cc; again = λ labels tokens i is fit. absurd fit }

pub instruction-are : (op : ℕ) → AreOperands (instruction_operands op)
unfolding instruction_operands
instruction-are op = by_form-are op (form_at op)

-- ---- the opcode of an instruction that fits a form

some_form : (f g : Form) → (let some : Form → Option Form = λ x. Some x in some f ≡ some g) → f ≡ g
some_form f g e = cc

known_form : (op : ℕ) (form : Form) (name : Option (List ℕ)) → name_in names_of_opcodes op ≡ name → form_at op ≡ Some form → form_of op ≡ form
unfolding form_at info_at
known_form op form (Some name) h e = some_form (form_of op) form (rw h at e)
known_form op form None h e = absurd (let none_ : None ≡ Some form = rw h at e in cc)

form_is : (op : ℕ) (form : Form) → form_at op ≡ Some form → form_of op ≡ form
form_is op form e = known_form op form (name_in names_of_opcodes op) refl e

-- the forms that one opcode has, as the definition tries them one after the other
some_opcode : (op : ℕ) (form : Form) → form_of op ≡ form → ¬ (form ≡ forms.One) → ¬ (form ≡ forms.Two) → ¬ (form ≡ forms.Branch) → ¬ (form ≡ forms.Plain) → ((form ≡ forms.Switch) × (op ≡ 0x1b)) ⊎ (((form ≡ forms.Byte) × (op ≡ 0x24)) ⊎ (((form ≡ forms.Short) × (op ≡ 0x25)) ⊎ (((form ≡ forms.ScopeObject) × (op ≡ 0x65)) ⊎ ((form ≡ forms.Debug) × (op ≡ 0xef)))))
some_opcode op form e one two branch plain =
    elim (if_is (is_in op one_operand) forms.One (cond (is_in op two_operands) forms.Two (cond (is_in op branches) forms.Branch (cond (nat_eq op 0x1b) forms.Switch (cond (nat_eq op 0x24) forms.Byte (cond (nat_eq op 0x25) forms.Short (cond (nat_eq op 0x65) forms.ScopeObject (cond (nat_eq op 0xef) forms.Debug forms.Plain))))))) form e) [
      | inl a ↦ absurd (one (sym a.1))
      | inr a ↦ elim (if_is (is_in op two_operands) forms.Two (cond (is_in op branches) forms.Branch (cond (nat_eq op 0x1b) forms.Switch (cond (nat_eq op 0x24) forms.Byte (cond (nat_eq op 0x25) forms.Short (cond (nat_eq op 0x65) forms.ScopeObject (cond (nat_eq op 0xef) forms.Debug forms.Plain)))))) form a.1) [
        | inl b ↦ absurd (two (sym b.1))
        | inr b ↦ elim (if_is (is_in op branches) forms.Branch (cond (nat_eq op 0x1b) forms.Switch (cond (nat_eq op 0x24) forms.Byte (cond (nat_eq op 0x25) forms.Short (cond (nat_eq op 0x65) forms.ScopeObject (cond (nat_eq op 0xef) forms.Debug forms.Plain))))) form b.1) [
          | inl c ↦ absurd (branch (sym c.1))
          | inr c ↦ elim (if_is (nat_eq op 0x1b) forms.Switch (cond (nat_eq op 0x24) forms.Byte (cond (nat_eq op 0x25) forms.Short (cond (nat_eq op 0x65) forms.ScopeObject (cond (nat_eq op 0xef) forms.Debug forms.Plain)))) form c.1) [
            | inl d ↦ inl (sym d.1, eq_is op 0x1b d.0)
            | inr d ↦ elim (if_is (nat_eq op 0x24) forms.Byte (cond (nat_eq op 0x25) forms.Short (cond (nat_eq op 0x65) forms.ScopeObject (cond (nat_eq op 0xef) forms.Debug forms.Plain))) form d.1) [
              | inl f ↦ inr (inl (sym f.1, eq_is op 0x24 f.0))
              | inr f ↦ elim (if_is (nat_eq op 0x25) forms.Short (cond (nat_eq op 0x65) forms.ScopeObject (cond (nat_eq op 0xef) forms.Debug forms.Plain)) form f.1) [
                | inl g ↦ inr (inr (inl (sym g.1, eq_is op 0x25 g.0)))
                | inr g ↦ elim (if_is (nat_eq op 0x65) forms.ScopeObject (cond (nat_eq op 0xef) forms.Debug forms.Plain) form g.1) [
                  | inl h ↦ inr (inr (inr (inl (sym h.1, eq_is op 0x65 h.0))))
                  | inr h ↦ elim (if_is (nat_eq op 0xef) forms.Debug forms.Plain form h.1) [
                    | inl k ↦ inr (inr (inr (inr (sym k.1, eq_is op 0xef k.0))))
                    | inr k ↦ absurd (plain (sym k.1))
                  ]
                ]
              ]
            ]
          ]
        ]
      ]
    ]

-- the opcodes of instructions without an opcode of their own
abbrev single : Form → ℕ
single forms.Switch = 0x1b
single forms.Byte = 0x24
single forms.Short = 0x25
single forms.ScopeObject = 0x65
single _ = 0xef

single_is : (op : ℕ) (form : Form) → form_at op ≡ Some form → ¬ (form ≡ forms.One) → ¬ (form ≡ forms.Two) → ¬ (form ≡ forms.Branch) → ¬ (form ≡ forms.Plain) → single form ≡ op
single_is op form e one two branch plain =
    elim (some_opcode op form (form_is op form e) one two branch plain) [
      | inl a ↦ ap single a.0 ∙ sym a.1
      | inr h ↦ elim h [
        | inl a ↦ ap single a.0 ∙ sym a.1
        | inr h ↦ elim h [
          | inl a ↦ ap single a.0 ∙ sym a.1
          | inr h ↦ elim h [
            | inl a ↦ ap single a.0 ∙ sym a.1
            | inr a ↦ ap single a.0 ∙ sym a.1
          ]
        ]
      ]
    ]

opcode_at : (op : ℕ) (form : Form) (i : Instr) → form_at op ≡ Some form → (instruction_fields op form).fits i → opcode_of i ≡ op
opcode_at op forms.Plain i e fit = ap opcode_of (sym fit.1)
opcode_at op forms.One i e fit = ap opcode_of (sym fit.1)
opcode_at op forms.Two i e fit = ap opcode_of (sym fit.1)
opcode_at op forms.Branch i e fit = ap opcode_of (sym fit.1)
opcode_at op forms.Switch i e fit = ap opcode_of (sym fit.1) ∙ single_is op forms.Switch e (λ h. cc) (λ h. cc) (λ h. cc) (λ h. cc)
opcode_at op forms.Byte i e fit = ap opcode_of (sym fit.1) ∙ single_is op forms.Byte e (λ h. cc) (λ h. cc) (λ h. cc) (λ h. cc)
opcode_at op forms.Short i e fit = ap opcode_of (sym fit.1) ∙ single_is op forms.Short e (λ h. cc) (λ h. cc) (λ h. cc) (λ h. cc)
opcode_at op forms.ScopeObject i e fit = ap opcode_of (sym fit.1) ∙ single_is op forms.ScopeObject e (λ h. cc) (λ h. cc) (λ h. cc) (λ h. cc)
opcode_at op forms.Debug i e fit = ap opcode_of (sym fit.1) ∙ single_is op forms.Debug e (λ h. cc) (λ h. cc) (λ h. cc) (λ h. cc)

opcode_in : (op : ℕ) (form : Option Form) (i : Instr) → form_at op ≡ form → (operands_by_form op form).fits i → opcode_of i ≡ op
opcode_in op (Some form) i e fit = opcode_at op form i e fit
opcode_in op None i e fit = absurd fit

pub opcode_is : (op : ℕ) (i : Instr) → (instruction_operands op).fits i → opcode_of i ≡ op
unfolding instruction_operands
opcode_is op i fit = opcode_in op (form_at op) i refl fit

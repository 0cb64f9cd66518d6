-- No fault of a line's operands comes before Order.
use Rattle.std.proofs.Common.{◌≡◌, ℕ, zero, suc, ℤ, pos, negsuc, ◌^◌, Bool, true, false, cond, ◌&&◌, nat_le, nat_lt, nat_eq, List, [], ◌∷◌, ◌++◌, length, Ok, Err, Some, None, refl, ap, ◌∙◌}
use Rattle.std.specs.declared.option.Option.{Option}
use Rattle.std.specs.declared.result.Result.{Result}
use Rattle.abc_text_lines.specs.declared.reason.AsmReason.{AsmReason}
use Rattle.abc_text_lines.specs.declared.reason.AsmReason.TheVariants as reasons
use Rattle.abc_text_lines.specs.declared.word.Word.{Word}
use Rattle.abc_text_lines.specs.declared.word.Word.TheVariants as words
use Rattle.abc_text_lines.specs.Reasons.{rank_of_reason}
use Rattle.abc_text_lines.specs.Tokens.{Token, Bare, Quoted}
use Rattle.abc_text_lines.proofs.Bools.{and_true}
use Rattle.abc_file_types.specs.declared.opcodes.Form.{Form}
use Rattle.abc_file_types.specs.declared.opcodes.Form.TheVariants as shapes
use Rattle.abc_file_types.specs.declared.names.MultinameKind.{MultinameKind}
use Rattle.abc_file_types.specs.declared.names.MultinameKind.TheVariants as kinds
use Rattle.abc_file_types.specs.declared.methods.ValueKind.{ValueKind}
use Rattle.abc_file_types.specs.declared.methods.ValueKind.TheVariants as values
use Rattle.abc_file_types.specs.declared.names.NsKind.TheVariants as spaces
use Rattle.abc_file_types.specs.declared.tables.Sizes.{Sizes}
use Rattle.abc_file_types.specs.declared.traits.TraitKind.{TraitKind}
use Rattle.abc_file_types.specs.declared.traits.TraitKind.TheVariants as traits
use Rattle.abc_file_types.specs.Opcodes.{form_at}
use Rattle.abc_text_lines.specs.Lines.{Label}
use Rattle.abc_text_lines.specs.Wordlines.{lookup}
use Rattle.abc_text_lines.specs.Operands.{Operand, Operands, any_number, any_signed, by, operand_with_test, eight, eight_in, entry_upto, exactly, found_place, hex_bytes, index_operand_below, index_upto, is_name, is_numeral, kind, found_kind, negative, none, number_below, number_of_digits, numeral, place_of_label, reasons_in, reasons_of, several, several_faults, signed_between, signed_of, target, test_result, text_operand, u30_operand, ◌&◌}
use Rattle.abc_text_lines.specs.File.{own}
use Rattle.abc_text_lines.specs.Kinds.{multiname_kind_operand, multiname_word, multiname_words, space_kind, space_word, space_words, trait_kind_operand, trait_word, trait_words, value_kind_operand, value_word, value_words}
use Rattle.abc_text_lines.specs.Lineforms as forms
use Rattle.abc_asm.proofs.Known.{IsKnown}

abbrev pub is_late : AsmReason → Bool
is_late r = nat_le 3 (rank_of_reason r)

abbrev pub all_late : List AsmReason → Bool
all_late [] = true
all_late (r ∷ rs) = is_late r && all_late rs

abbrev late_in : {A : Type 0} → Result A AsmReason → Bool
late_in (Ok x) = true
late_in (Err r) = is_late r

both_true : (a b : Bool) → a ≡ true → b ≡ true → (a && b) ≡ true
both_true true b e f = f
both_true false b e f = absurd cc

pub late_append : (a b : List AsmReason) → all_late a ≡ true → all_late b ≡ true → all_late (a ++ b) ≡ true
late_append [] b e f = f
late_append (r ∷ a) b e f = let p = and_true (is_late r) (all_late a) e in both_true (is_late r) (all_late (a ++ b)) p.0 (late_append a b p.1 f)

late_reason : {A : Type 0} (r : Result A AsmReason) → late_in r ≡ true → all_late (reasons_in r) ≡ true
late_reason (Ok x) e = refl
late_reason (Err r) e = both_true (is_late r) true e refl

-- ---- operands

abbrev Late : {A : Type 0} → Operand A → Type 0
Late p = (labels : List Label) (token : Token) → late_in (p.reads labels token) ≡ true

abbrev LateAll : {A : Type 0} → Operands A → Type 0
LateAll p = (labels : List Label) (tokens : List Token) → all_late (p.faults labels tokens) ≡ true

cond_late : {A : Type 0} (b : Bool) (x y : Result A AsmReason) → late_in x ≡ true → late_in y ≡ true → late_in (cond b x y) ≡ true
cond_late true x y e f = e
cond_late false x y e f = f

tested_late : {A : Type 0} (test : A → Bool) (reason : AsmReason) (r : Result A AsmReason) → is_late reason ≡ true → late_in r ≡ true → late_in (test_result test reason r) ≡ true
tested_late {A} test reason (Ok x) e f = cond_late {A = A} (test x) (Ok x) (Err reason) refl e
tested_late test reason (Err r) e f = f

checked-late : {A : Type 0} (test : A → Bool) (reason : AsmReason) (p : Operand A) → is_late reason ≡ true → Late p → Late (operand_with_test test reason p)
checked-late test reason p e late labels token = tested_late test reason (p.reads labels token) e (late labels token)

numeral_late : (token : Token) → late_in (numeral token) ≡ true
numeral_late (Bare word) = cond_late {A = ℕ} (is_numeral word) (Ok (number_of_digits word)) (Err reasons.Number) refl refl
numeral_late (Quoted bytes) = refl

any_number-late : Late any_number
unfolding any_number
any_number-late labels token = numeral_late token

number_below-late : (bound : ℕ) → Late (number_below bound)
number_below-late bound = checked-late (λ n. nat_lt n bound) reasons.Range any_number refl any_number-late

u30-late : Late u30_operand
u30-late = number_below-late (2 ^ 30)

index_upto-late : (size : ℕ) → Late (index_upto size)
index_upto-late size = checked-late (λ n. nat_le n size) reasons.Index u30_operand refl u30-late

entry_upto-late : (size : ℕ) → Late (entry_upto size)
entry_upto-late size = checked-late (λ n. nat_lt 0 n && nat_le n size) reasons.Index u30_operand refl u30-late

index_below-late : (size : ℕ) → Late (index_operand_below size)
index_below-late size = checked-late (λ n. nat_lt n size) reasons.Index u30_operand refl u30-late

exactly-late : (n : ℕ) → Late (exactly n)
exactly-late n = checked-late (λ m. nat_eq m n) reasons.Range any_number refl any_number-late

negative_late : (n : ℕ) → late_in (negative n) ≡ true
negative_late zero = refl
negative_late (suc n) = refl

signed_late : (word : List ℕ) → late_in (signed_of word) ≡ true
signed_late [] = refl
signed_late (byte ∷ digits) =
    cond_late (nat_eq byte 0x2d) (cond (is_numeral digits) (negative (number_of_digits digits)) (Err reasons.Number)) (cond (is_numeral (byte ∷ digits)) (Ok (pos (number_of_digits (byte ∷ digits)))) (Err reasons.Number))
    (cond_late (is_numeral digits) (negative (number_of_digits digits)) (Err reasons.Number) (negative_late (number_of_digits digits)) refl)
    (cond_late (is_numeral (byte ∷ digits)) (Ok (pos (number_of_digits (byte ∷ digits)))) (Err reasons.Number) refl refl)

any_signed-late : Late any_signed
unfolding any_signed
any_signed-late labels (Bare word) = signed_late word
any_signed-late labels (Quoted bytes) = refl

signed-late : (low high : ℤ) → Late (signed_between low high)
signed-late low high = checked-late _ reasons.Range any_signed refl any_signed-late

text-late : Late text_operand
unfolding text_operand
text-late labels (Bare word) = refl
text-late labels (Quoted bytes) = refl

found_late : {K : Type 0} (o : Option K) → late_in (found_kind o) ≡ true
found_late (Some k) = refl
found_late None = refl

kind-late : {K : Type 0} (name : K → List ℕ) (named : List ℕ → Option K) (default : K) → Late (kind name named default)
kind-late name named default labels (Bare word) = found_late (named word)
kind-late name named default labels (Quoted bytes) = refl

space-late : Late space_kind
unfolding space_kind
space-late labels token = kind-late space_word (lookup space_words) spaces.Private labels token

multiname-late : Late multiname_kind_operand
unfolding multiname_kind_operand
multiname-late labels token = kind-late multiname_word (lookup multiname_words) kinds.TypeName labels token

value-late : Late value_kind_operand
unfolding value_kind_operand
value-late labels token = kind-late value_word (lookup value_words) values.Undefined labels token

trait-late : Late trait_kind_operand
unfolding trait_kind_operand
trait-late labels token = kind-late trait_word (lookup trait_words) traits.Slot labels token

-- ---- lines

none-late : LateAll none
none-late labels tokens = refl

by-late : {A B : Type 0} (p : Operand A) (rest : Option A → Operands B) → Late p → ((o : Option A) → LateAll (rest o)) → LateAll (by p rest)
by-late p rest late others labels [] = refl
by-late p rest late others labels (token ∷ tokens) = late_append (reasons_in (p.reads labels token)) _ (late_reason (p.reads labels token) (late labels token)) (others _ labels tokens)

then-late : {A B : Type 0} (p : Operand A) (rest : Operands B) → Late p → LateAll rest → LateAll (p & rest)
then-late p rest late others = by-late p (λ known. rest) late (λ o. others)

one-late : {A : Type 0} (p : Operand A) → Late p → LateAll (p & none)
one-late p late = then-late p none late none-late

several-late : {A : Type 0} (p : Operand A) → Late p → LateAll (several p)
several-late p late labels [] = refl
several-late p late labels (token ∷ tokens) = late_append (reasons_in (p.reads labels token)) (several_faults p labels tokens) (late_reason (p.reads labels token) (late labels token)) (several-late p late labels tokens)

pub reasons_late : {A : Type 0} (p : Operands A) → LateAll p → (labels : List Label) (tokens : List Token) → all_late (reasons_of p labels tokens) ≡ true
reasons_late p late labels tokens = each (p.counts labels tokens) (p.faults labels tokens) (late labels tokens)
  where
    each : (b : Bool) (l : List AsmReason) → all_late l ≡ true → all_late (cond b l (reasons.Operands ∷ [])) ≡ true
    each true l e = e
    each false l e = refl

eight_late : (o : Option (List ℕ)) → late_in (eight_in o) ≡ true
eight_late None = refl
eight_late (Some bytes) = cond_late (nat_eq (length bytes) 8) (Ok bytes) (Err reasons.Kind) refl refl

eight-late : Late eight
unfolding eight
eight-late labels (Bare word) = eight_late (hex_bytes word)
eight-late labels (Quoted bytes) = refl

place_late : (o : Option ℕ) → late_in (found_place o) ≡ true
place_late (Some n) = refl
place_late None = refl

target-late : Late target
unfolding target
target-late labels (Bare word) = cond_late (is_name word) (found_place (place_of_label labels word)) (Err reasons.Kind) (place_late (place_of_label labels word)) refl
target-late labels (Quoted bytes) = refl

module _ (v : Sizes) where
  multiname_fields-late : (kind : MultinameKind) → LateAll (forms.multiname_operands v kind)
  multiname_fields-late (kinds.QName attr) = then-late (index_upto v.namespaces) (index_upto v.strings & none) (index_upto-late v.namespaces) (one-late (index_upto v.strings) (index_upto-late v.strings))
  multiname_fields-late (kinds.Rt attr) = one-late (index_upto v.strings) (index_upto-late v.strings)
  multiname_fields-late (kinds.RtL attr) = none-late
  multiname_fields-late (kinds.Multi attr) = then-late (index_upto v.strings) (entry_upto v.sets & none) (index_upto-late v.strings) (one-late (entry_upto v.sets) (entry_upto-late v.sets))
  multiname_fields-late (kinds.MultiL attr) = one-late (entry_upto v.sets) (entry_upto-late v.sets)
  multiname_fields-late kinds.TypeName = then-late (entry_upto v.names) (several (index_upto v.names)) (entry_upto-late v.names) (several-late (index_upto v.names) (index_upto-late v.names))

  multiname_rest-late : (o : Option MultinameKind) → LateAll (forms.multiname_rest v o)
  multiname_rest-late (Some k) = multiname_fields-late k
  multiname_rest-late None = λ labels tokens. refl

  option_rest-late : (o : Option ValueKind) → LateAll (forms.option_rest v o)
  option_rest-late (Some k) = one-late (forms.value_index v k) (checked-late _ reasons.Index u30_operand refl u30-late)
  option_rest-late None = one-late u30_operand u30-late

  slot_rest-late : (o : Option ℕ) → LateAll (forms.slot_rest v o)
  slot_rest-late (Some zero) = none-late
  slot_rest-late (Some (suc n)) = one-late (forms.slot_kind_operand v (suc n)) (checked-late _ reasons.Index value_kind_operand refl value-late)
  slot_rest-late None = one-late value_kind_operand value-late

  slot_value-late : LateAll (forms.slot_value_operand v)
  unfolding forms.slot_value_operand
  slot_value-late = by-late u30_operand (forms.slot_rest v) u30-late slot_rest-late

  slot_fields-late : LateAll (forms.slot_fields v)
  slot_fields-late = then-late u30_operand (index_upto v.names & forms.slot_value_operand v) u30-late (then-late (index_upto v.names) (forms.slot_value_operand v) (index_upto-late v.names) slot_value-late)

  pair_fields-late : (size : ℕ) → LateAll (forms.pair_fields size)
  pair_fields-late size = then-late u30_operand (index_operand_below size & none) u30-late (one-late (index_operand_below size) (index_below-late size))

  trait_fields-late : (kind : TraitKind) → LateAll (forms.trait_operands v kind)
  trait_fields-late traits.Slot = slot_fields-late
  trait_fields-late traits.Const = slot_fields-late
  trait_fields-late traits.Method = pair_fields-late v.methods
  trait_fields-late traits.Getter = pair_fields-late v.methods
  trait_fields-late traits.Setter = pair_fields-late v.methods
  trait_fields-late traits.Class = pair_fields-late v.classes
  trait_fields-late traits.Function = pair_fields-late v.methods

  trait_rest-late : (o : Option TraitKind) → LateAll (forms.trait_rest v o)
  trait_rest-late (Some k) = then-late (number_below 16) (entry_upto v.names & forms.trait_operands v k) (number_below-late 16) (then-late (entry_upto v.names) (forms.trait_operands v k) (entry_upto-late v.names) (trait_fields-late k))
  trait_rest-late None = λ labels tokens. refl

  fields-late : (op : ℕ) (form : Form) → LateAll (forms.instruction_fields op form)
  fields-late op shapes.Plain = none-late
  fields-late op shapes.One = one-late u30_operand u30-late
  fields-late op shapes.Two = then-late u30_operand (u30_operand & none) u30-late (one-late u30_operand u30-late)
  fields-late op shapes.Branch = one-late target target-late
  fields-late op shapes.Switch = then-late target (target & several target) target-late (then-late target (several target) target-late (several-late target target-late))
  fields-late op shapes.Byte = one-late (signed_between (negsuc 127) (pos 127)) (signed-late (negsuc 127) (pos 127))
  fields-late op shapes.Short = one-late (signed_between (negsuc 32767) (pos 32767)) (signed-late (negsuc 32767) (pos 32767))
  fields-late op shapes.ScopeObject = one-late (number_below 256) (number_below-late 256)
  fields-late op shapes.Debug = then-late (number_below 256) (u30_operand & (number_below 256 & (u30_operand & none))) (number_below-late 256) (then-late u30_operand (number_below 256 & (u30_operand & none)) u30-late (then-late (number_below 256) (u30_operand & none) (number_below-late 256) (one-late u30_operand u30-late)))

  instruction-late : (op : ℕ) (form : Form) → form_at op ≡ Some form → LateAll (forms.instruction_operands op)
  unfolding forms.instruction_operands
  instruction-late op form e labels tokens = ap (λ (o : Option Form). all_late ((forms.operands_by_form op o).faults labels tokens)) e ∙ fields-late op form labels tokens

  pub own_late : (instances : ℕ) (w : Word) → IsKnown w → (labels : List Label) (tokens : List Token) → all_late (own v instances w labels tokens) ≡ true
  unfolding forms.int_line forms.uint_line forms.double_line forms.string_line forms.namespace_line forms.set_line forms.name_line forms.method_line forms.param_line forms.option_line forms.number_line forms.string_index_line forms.entry_line forms.instance_line forms.protected_line forms.implements_line forms.method_index_line forms.trait_line forms.trait_metadata_line forms.body_line forms.catch_line
  own_late i words.Abc known = reasons_late forms.version_line (then-late (exactly 16) (exactly 46 & none) (exactly-late 16) (one-late (exactly 46) (exactly-late 46)))
  own_late i words.Int known = reasons_late forms.int_line (one-late (signed_between (negsuc 2147483647) (pos 2147483647)) (signed-late (negsuc 2147483647) (pos 2147483647)))
  own_late i words.UInt known = reasons_late forms.uint_line (one-late (number_below (2 ^ 32)) (number_below-late (2 ^ 32)))
  own_late i words.Double known = reasons_late forms.double_line (one-late eight eight-late)
  own_late i words.Text known = reasons_late forms.string_line (one-late text_operand text-late)
  own_late i words.Namespace known = reasons_late (forms.namespace_line v) (then-late space_kind (index_upto v.strings & none) space-late (one-late (index_upto v.strings) (index_upto-late v.strings)))
  own_late i words.Set known = reasons_late (forms.set_line v) (several-late (entry_upto v.namespaces) (entry_upto-late v.namespaces))
  own_late i words.Name known = reasons_late (forms.name_line v) (by-late multiname_kind_operand (forms.multiname_rest v) multiname-late multiname_rest-late)
  own_late i words.Method known = reasons_late (forms.method_line v) (then-late (index_upto v.names) (index_upto v.strings & (number_below 256 & none)) (index_upto-late v.names) (then-late (index_upto v.strings) (number_below 256 & none) (index_upto-late v.strings) (one-late (number_below 256) (number_below-late 256))))
  own_late i words.Param known = reasons_late (forms.param_line v) (one-late (index_upto v.names) (index_upto-late v.names))
  own_late i words.Optional known = reasons_late (forms.option_line v) (by-late value_kind_operand (forms.option_rest v) value-late option_rest-late)
  own_late i words.ParamName known = reasons_late forms.number_line (one-late u30_operand u30-late)
  own_late i words.Metadata known = reasons_late (forms.string_index_line v) (one-late (index_upto v.strings) (index_upto-late v.strings))
  own_late i words.Entry known = reasons_late (forms.entry_line v) (then-late (index_upto v.strings) (index_upto v.strings & none) (index_upto-late v.strings) (one-late (index_upto v.strings) (index_upto-late v.strings)))
  own_late i words.Instance known = reasons_late (forms.instance_line v) (then-late (entry_upto v.names) (index_upto v.names & (number_below 256 & none)) (entry_upto-late v.names) (then-late (index_upto v.names) (number_below 256 & none) (index_upto-late v.names) (one-late (number_below 256) (number_below-late 256))))
  own_late i words.Protected known = reasons_late (forms.protected_line v) (one-late (index_upto v.namespaces) (index_upto-late v.namespaces))
  own_late i words.Implements known = reasons_late (forms.implements_line v) (one-late (entry_upto v.names) (entry_upto-late v.names))
  own_late i words.Initializer known = reasons_late (forms.method_index_line v) (one-late (index_operand_below v.methods) (index_below-late v.methods))
  own_late i words.Trait known = reasons_late (forms.trait_line v) (by-late trait_kind_operand (forms.trait_rest v) trait-late trait_rest-late)
  own_late i words.TraitMetadata known = reasons_late (forms.trait_metadata_line v) (one-late (index_operand_below v.metadata) (index_below-late v.metadata))
  own_late i words.Class known = reasons_late (forms.method_index_line v) (one-late (index_operand_below v.methods) (index_below-late v.methods))
  own_late i words.Script known = reasons_late (forms.method_index_line v) (one-late (index_operand_below v.methods) (index_below-late v.methods))
  own_late i words.Body known = reasons_late (forms.body_line v) (then-late (index_operand_below v.methods) (u30_operand & (u30_operand & (u30_operand & (u30_operand & none)))) (index_below-late v.methods) (then-late u30_operand (u30_operand & (u30_operand & (u30_operand & none))) u30-late (then-late u30_operand (u30_operand & (u30_operand & none)) u30-late (then-late u30_operand (u30_operand & none) u30-late (one-late u30_operand u30-late)))))
  own_late i (words.Instruction op) known = reasons_late (forms.instruction_operands op) (instruction-late op known.0 known.1)
  own_late i words.Label known = reasons_late none none-late
  own_late i words.Catch known = reasons_late (forms.catch_line v) (then-late target (target & (target & (index_upto v.names & (index_upto v.names & none)))) target-late (then-late target (target & (index_upto v.names & (index_upto v.names & none))) target-late (then-late target (index_upto v.names & (index_upto v.names & none)) target-late (then-late (index_upto v.names) (index_upto v.names & none) (index_upto-late v.names) (one-late (index_upto v.names) (index_upto-late v.names))))))
  own_late i words.Unknown known = absurd known

-- The operands of each line can be written and read back.
use Rattle.std.proofs.Common.{◌≡◌, ℕ, zero, suc, ℤ, pos, negsuc, ◌<◌, ◌≤◌, ◌^◌, ◌≤ℤ◌, ◌<ℤ◌, true, false, List, [], ◌∷◌, length, Some, refl, arith}
use Rattle.std.specs.List.{AllByRecursion}
use Rattle.std.proofs.lemmas.Int.{ints}
use Rattle.abc_text_lines.specs.declared.word.Word.TheVariants as words
use Rattle.abc_file_types.specs.declared.code.Handler.{Handler}
use Rattle.abc_file_types.specs.declared.code.Instr.{Instr}
use Rattle.abc_file_types.specs.declared.code.Instr.TheVariants as instrs
use Rattle.abc_file_types.specs.declared.methods.ValueKind.{ValueKind}
use Rattle.abc_file_types.specs.declared.methods.ValueKind.TheVariants as values
use Rattle.abc_file_types.specs.declared.names.MultinameKind.{MultinameKind}
use Rattle.abc_file_types.specs.declared.names.MultinameKind.TheVariants as kinds
use Rattle.abc_file_types.specs.declared.names.NsKind.{NsKind}
use Rattle.abc_file_types.specs.declared.names.NsKind.TheVariants as spaces
use Rattle.abc_file_types.specs.declared.opcodes.Form.TheVariants as forms
use Rattle.abc_file_types.specs.declared.tables.Eight.{Eight}
use Rattle.abc_file_types.specs.declared.tables.Sizes.{Sizes}
use Rattle.abc_file_types.specs.declared.traits.TraitKind.{TraitKind}
use Rattle.abc_file_types.specs.declared.traits.TraitKind.TheVariants as traits
use Rattle.abc_file_types.specs.Opcodes.{form_at, info_at}
use Rattle.abc_file_types.specs.Traits.{trait_kind_in}
use Rattle.abc_file_types.specs.Ready.{AllUpTo, CanSpell}
use Rattle.abc_text_lines.specs.Operands.{Operand, any_number, any_signed, eight, entry_upto, index_operand_below, index_upto, is_name, number_below, several_items, target, text_operand, u30_operand}
use Rattle.abc_text_lines.specs.Kinds.{multiname_kind_operand, multiname_word, space_kind, space_word, trait_kind_operand, trait_word, value_kind_operand, value_word}
use Rattle.abc_text_lines.specs.Lineforms.{one_operand_alone, body_line, catch_line, double_line, entry_line, implements_line, instance_line, instruction_operands, int_line, kind_in, method_index_line, method_line, multiname_operands, name_line, namespace_line, number_line, opcode_of, option_line, pair_fields, param_line, protected_line, set_line, slot_fields, slot_rest, slot_value_operand, string_index_line, string_line, trait_operands, trait_line, trait_metadata_line, trait_rest, uint_line}
use Rattle.abc_disasm.specs.Bytes.{HasByteFields}
use Rattle.abc_disasm.proofs.ReadHeads.{IsHead, instruction_head}
use Rattle.abc_disasm.proofs.Items.{CanBeShown}
use Rattle.abc_disasm.proofs.Runs.{size_of}
use Rattle.abc_disasm.proofs.Standing.{AreShown, IsShown, entry_upto-shown, index_below-shown, index_upto-shown, number_below-shown, several-shown, u30-shown}

-- ---- kind words

space_name : (k : NsKind) → is_name (space_word k) ≡ true
space_name spaces.Private = refl
space_name spaces.Namespace = refl
space_name spaces.Package = refl
space_name spaces.PackageInternal = refl
space_name spaces.Protected = refl
space_name spaces.Explicit = refl
space_name spaces.StaticProtected = refl

multiname_name : (k : MultinameKind) → is_name (multiname_word k) ≡ true
multiname_name (kinds.QName false) = refl
multiname_name (kinds.QName true) = refl
multiname_name (kinds.Rt false) = refl
multiname_name (kinds.Rt true) = refl
multiname_name (kinds.RtL false) = refl
multiname_name (kinds.RtL true) = refl
multiname_name (kinds.Multi false) = refl
multiname_name (kinds.Multi true) = refl
multiname_name (kinds.MultiL false) = refl
multiname_name (kinds.MultiL true) = refl
multiname_name kinds.TypeName = refl

value_name : (k : ValueKind) → is_name (value_word k) ≡ true
value_name values.Undefined = refl
value_name values.Utf8 = refl
value_name values.Int = refl
value_name values.UInt = refl
value_name values.Double = refl
value_name values.False = refl
value_name values.True = refl
value_name values.Null = refl
value_name values.Private = refl
value_name values.Namespace = refl
value_name values.Package = refl
value_name values.PackageInternal = refl
value_name values.Protected = refl
value_name values.Explicit = refl
value_name values.StaticProtected = refl

trait_name : (k : TraitKind) → is_name (trait_word k) ≡ true
trait_name traits.Slot = refl
trait_name traits.Const = refl
trait_name traits.Method = refl
trait_name traits.Getter = refl
trait_name traits.Setter = refl
trait_name traits.Class = refl
trait_name traits.Function = refl

module _ (leads : ℕ → Type 0) where
  alone-shown : {A : Type 0} (p : Operand A) → IsShown leads p → AreShown leads (one_operand_alone p)
  alone-shown p shown x fits = (shown x fits.0.0, tt)

  -- ---- pools

  pub uint-shown : AreShown leads uint_line
  unfolding uint_line
  uint-shown = alone-shown (number_below (2 ^ 32)) (number_below-shown leads (2 ^ 32) (omega arith))

  -- of an integer of 32 bits
  pub int_shown : (z : ℤ) → size_of z < 2 ^ 64 → AllByRecursion (CanBeShown leads) (int_line.items z)
  unfolding int_line any_signed
  int_shown z lt = (lt, tt)

  pub double_shown : (d : Eight) → 0 < length d.0 → AllByRecursion (λ b. b < 256) d.0 → AllByRecursion (CanBeShown leads) (double_line.items d)
  unfolding double_line eight
  double_shown d some all = ((some, all), tt)

  pub string_shown : (b : List ℕ) → AllByRecursion (λ b. b < 256) b → AllByRecursion (CanBeShown leads) (string_line.items b)
  unfolding string_line text_operand
  string_shown b all = (all, tt)

  module _ (v : Sizes) where
    pub namespace-shown : AreShown leads (namespace_line v)
    unfolding namespace_line space_kind
    namespace-shown x fits = (space_name x.kind, (index_upto-shown leads v.strings x.name fits.0.1.0, tt))

    pub set-shown : AreShown leads (set_line v)
    unfolding set_line
    set-shown = several-shown leads (entry_upto v.namespaces) (entry_upto-shown leads v.namespaces)

    fields-shown : (k : MultinameKind) → AreShown leads (multiname_operands v k)
    fields-shown (kinds.QName attr) x fits = (index_upto-shown leads v.namespaces _ fits.0.0, (index_upto-shown leads v.strings _ fits.0.1.0, tt))
    fields-shown (kinds.Rt attr) x fits = (index_upto-shown leads v.strings _ fits.0.0, tt)
    fields-shown (kinds.RtL attr) x fits = tt
    fields-shown (kinds.Multi attr) x fits = (index_upto-shown leads v.strings _ fits.0.0, (entry_upto-shown leads v.sets _ fits.0.1.0, tt))
    fields-shown (kinds.MultiL attr) x fits = (entry_upto-shown leads v.sets _ fits.0.0, tt)
    fields-shown kinds.TypeName x fits = (entry_upto-shown leads v.names _ fits.0.0, several-shown leads (index_upto v.names) (index_upto-shown leads v.names) _ fits.0.1)

    pub name-shown : AreShown leads (name_line v)
    unfolding name_line multiname_kind_operand
    name-shown x fits = (multiname_name (kind_in x), fields-shown (kind_in x) x fits.0.1)

    -- ---- methods and metadata

    pub method-shown : AreShown leads (method_line v)
    unfolding method_line
    method-shown x fits = (index_upto-shown leads v.names _ fits.0.0, (index_upto-shown leads v.strings _ fits.0.1.0, (number_below-shown leads 256 (omega arith) _ fits.0.1.1.0, tt)))

    pub param-shown : AreShown leads (param_line v)
    unfolding param_line
    param-shown = alone-shown (index_upto v.names) (index_upto-shown leads v.names)

    pub option-shown : AreShown leads (option_line v)
    unfolding option_line value_kind_operand
    option-shown x fits = (value_name x.kind, (u30-shown leads _ fits.0.1.0.0, tt))

    pub number-shown : AreShown leads number_line
    unfolding number_line
    number-shown = alone-shown u30_operand (u30-shown leads)

    pub string_index-shown : AreShown leads (string_index_line v)
    unfolding string_index_line
    string_index-shown = alone-shown (index_upto v.strings) (index_upto-shown leads v.strings)

    pub entry-shown : AreShown leads (entry_line v)
    unfolding entry_line
    entry-shown x fits = (index_upto-shown leads v.strings _ fits.0.0, (index_upto-shown leads v.strings _ fits.0.1.0, tt))

    -- ---- instances

    pub instance-shown : AreShown leads (instance_line v)
    unfolding instance_line
    instance-shown x fits = (entry_upto-shown leads v.names _ fits.0.0, (index_upto-shown leads v.names _ fits.0.1.0, (number_below-shown leads 256 (omega arith) _ fits.0.1.1.0, tt)))

    pub protected-shown : AreShown leads (protected_line v)
    unfolding protected_line
    protected-shown = alone-shown (index_upto v.namespaces) (index_upto-shown leads v.namespaces)

    pub implements-shown : AreShown leads (implements_line v)
    unfolding implements_line
    implements-shown = alone-shown (entry_upto v.names) (entry_upto-shown leads v.names)

    pub method_index-shown : AreShown leads (method_index_line v)
    unfolding method_index_line
    method_index-shown = alone-shown (index_operand_below v.methods) (index_below-shown leads v.methods)

    -- ---- traits

    slot_rest-shown : (n : ℕ) → AreShown leads (slot_rest v (Some n))
    unfolding value_kind_operand
    slot_rest-shown zero x fits = tt
    slot_rest-shown (suc n) x fits = (value_name _, tt)

    slot_value-shown : AreShown leads (slot_value_operand v)
    unfolding slot_value_operand
    slot_value-shown x fits = (u30-shown leads _ fits.0.0, slot_rest-shown _ _ fits.0.1)

    slot_fields-shown : AreShown leads (slot_fields v)
    slot_fields-shown x fits = (u30-shown leads _ fits.0, (index_upto-shown leads v.names _ fits.1.0, slot_value-shown _ fits.1.1))

    pair_fields-shown : (size : ℕ) → AreShown leads (pair_fields size)
    pair_fields-shown size x fits = (u30-shown leads _ fits.0, (index_below-shown leads size _ fits.1.0, tt))

    trait_fields-shown : (k : TraitKind) → AreShown leads (trait_operands v k)
    trait_fields-shown traits.Slot x fits = slot_fields-shown _ fits.0
    trait_fields-shown traits.Const x fits = slot_fields-shown _ fits.0
    trait_fields-shown traits.Method x fits = pair_fields-shown v.methods _ fits.0
    trait_fields-shown traits.Getter x fits = pair_fields-shown v.methods _ fits.0
    trait_fields-shown traits.Setter x fits = pair_fields-shown v.methods _ fits.0
    trait_fields-shown traits.Class x fits = pair_fields-shown v.classes _ fits.0
    trait_fields-shown traits.Function x fits = pair_fields-shown v.methods _ fits.0

    trait_rest-shown : (k : TraitKind) → AreShown leads (trait_rest v (Some k))
    trait_rest-shown k x fits = (number_below-shown leads 16 (omega arith) _ fits.0.0, (entry_upto-shown leads v.names _ fits.0.1.0, trait_fields-shown k _ fits.0.1.1))

    pub trait-shown : AreShown leads (trait_line v)
    unfolding trait_line trait_kind_operand
    trait-shown x fits = (trait_name (trait_kind_in x.body), trait_rest-shown (trait_kind_in x.body) x fits.0.1)

    pub trait_metadata-shown : AreShown leads (trait_metadata_line v)
    unfolding trait_metadata_line
    trait_metadata-shown = alone-shown (index_operand_below v.metadata) (index_below-shown leads v.metadata)

    -- ---- bodies

    pub body-shown : AreShown leads (body_line v)
    unfolding body_line
    body-shown x fits = (index_below-shown leads v.methods _ fits.0.0, (u30-shown leads _ fits.0.1.0, (u30-shown leads _ fits.0.1.1.0, (u30-shown leads _ fits.0.1.1.1.0, (u30-shown leads _ fits.0.1.1.1.1.0, tt)))))

    -- of numbers of instructions that the labels may stand for
    pub catch_shown : (h : Handler) → (h.from < 2 ^ 64) × leads h.from → (h.to < 2 ^ 64) × leads h.to → (h.target < 2 ^ 64) × leads h.target → (catch_line v).fits h → AllByRecursion (CanBeShown leads) ((catch_line v).items h)
    unfolding catch_line target
    catch_shown h from to to_ fits = (from, (to, (to_, (index_upto-shown leads v.names _ fits.0.1.1.1.0, (index_upto-shown leads v.names _ fits.0.1.1.1.1.0, tt)))))

-- ---- instructions

pub instr_head : (n : ℕ) (i : Instr) → CanSpell n i → IsHead (words.Instruction (opcode_of i))
unfolding form_at info_at
instr_head n (instrs.Plain op) can = instruction_head op forms.Plain can
instr_head n (instrs.One op x) can = instruction_head op forms.One can.0
instr_head n (instrs.Two op x y) can = instruction_head op forms.Two can.0
instr_head n (instrs.Branch op t) can = instruction_head op forms.Branch can.0
instr_head n (instrs.Switch t ts) can = instruction_head 0x1b forms.Switch refl
instr_head n (instrs.Byte z) can = instruction_head 0x24 forms.Byte refl
instr_head n (instrs.Short z) can = instruction_head 0x25 forms.Short refl
instr_head n (instrs.ScopeObject x) can = instruction_head 0x65 forms.ScopeObject refl
instr_head n (instrs.Debug kind name reg extra) can = instruction_head 0xef forms.Debug refl

-- numbers of k instructions and of the end
abbrev pub UpTo : ℕ → ℕ → Type 0
UpTo k n = n ≤ k

module _ (k : ℕ) (small : k < 2 ^ 64) where
  abbrev pub ItemsShown : Instr → Type 0
  ItemsShown i = AllByRecursion (CanBeShown (UpTo k)) ((instruction_operands (opcode_of i)).items i)

  plain_shown : (op : ℕ) → form_at op ≡ Some forms.Plain → ItemsShown (instrs.Plain op)
  unfolding instruction_operands
  plain_shown op e = rw e tt

  one_shown : (op n : ℕ) → form_at op ≡ Some forms.One → n < 2 ^ 30 → ItemsShown (instrs.One op n)
  unfolding instruction_operands any_number
  one_shown op n e lt = rw e (omega arith, tt)

  two_shown : (op n m : ℕ) → form_at op ≡ Some forms.Two → n < 2 ^ 30 → m < 2 ^ 30 → ItemsShown (instrs.Two op n m)
  unfolding instruction_operands any_number
  two_shown op n m e lt lt2 = rw e (omega arith, (omega arith, tt))

  branch_shown : (op t : ℕ) → form_at op ≡ Some forms.Branch → t ≤ k → ItemsShown (instrs.Branch op t)
  unfolding instruction_operands target
  branch_shown op t e le = rw e ((omega arith, le), tt)

  targets_shown : (ts : List ℕ) → AllUpTo k ts → AllByRecursion (CanBeShown (UpTo k)) (several_items target ts)
  unfolding target
  targets_shown [] up = tt
  targets_shown (t ∷ ts) up = let le = up.0 in ((omega arith, le), targets_shown ts up.1)

  switch_shown : (t : ℕ) (ts : List ℕ) → t ≤ k → AllUpTo k ts → 0 < length ts → ItemsShown (instrs.Switch t ts)
  unfolding instruction_operands form_at info_at target
  switch_shown t [] le up some = absurd (omega arith)
  switch_shown t (c ∷ cs) le up some = ((omega arith, le), targets_shown (c ∷ cs) up)

  byte_size : (z : ℤ) → negsuc 127 ≤ℤ z → z <ℤ pos 128 → size_of z < 2 ^ 64
  byte_size (pos n) low high = let lt : n < 2 ^ 64 = omega (arith, ints) in lt
  byte_size (negsuc n) low high = let lt : suc n < 2 ^ 64 = omega (arith, ints) in lt

  short_size : (z : ℤ) → negsuc 32767 ≤ℤ z → z <ℤ pos 32768 → size_of z < 2 ^ 64
  short_size (pos n) low high = let lt : n < 2 ^ 64 = omega (arith, ints) in lt
  short_size (negsuc n) low high = let lt : suc n < 2 ^ 64 = omega (arith, ints) in lt

  byte_shown : (z : ℤ) → size_of z < 2 ^ 64 → ItemsShown (instrs.Byte z)
  unfolding instruction_operands form_at info_at any_signed
  byte_shown z lt = (lt, tt)

  short_shown : (z : ℤ) → size_of z < 2 ^ 64 → ItemsShown (instrs.Short z)
  unfolding instruction_operands form_at info_at any_signed
  short_shown z lt = (lt, tt)

  scope_shown : (n : ℕ) → n < 256 → ItemsShown (instrs.ScopeObject n)
  unfolding instruction_operands form_at info_at any_number
  scope_shown n lt = (omega arith, tt)

  debug_shown : (kind name reg extra : ℕ) → kind < 256 → name < 2 ^ 30 → reg < 256 → extra < 2 ^ 30 → ItemsShown (instrs.Debug kind name reg extra)
  unfolding instruction_operands form_at info_at any_number
  debug_shown kind name reg extra a b c d = (omega arith, (omega arith, (omega arith, (omega arith, tt))))

  pub instr_shown : (i : Instr) → CanSpell k i → HasByteFields i → ItemsShown i
  instr_shown (instrs.Plain op) can bytes = plain_shown op can
  instr_shown (instrs.One op x) can bytes = one_shown op x can.0 can.1
  instr_shown (instrs.Two op x y) can bytes = two_shown op x y can.0 can.1 can.2
  instr_shown (instrs.Branch op t) can bytes = branch_shown op t can.0 can.1
  instr_shown (instrs.Switch t ts) can bytes = switch_shown t ts can.0 can.1 can.2
  instr_shown (instrs.Byte z) can bytes = byte_shown z (byte_size z can.0 can.1)
  instr_shown (instrs.Short z) can bytes = short_shown z (short_size z can.0 can.1)
  instr_shown (instrs.ScopeObject x) can bytes = scope_shown x bytes
  instr_shown (instrs.Debug kind name reg extra) can bytes = debug_shown kind name reg extra bytes.0 can.0 bytes.1 can.1

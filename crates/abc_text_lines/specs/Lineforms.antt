-- The operands of each line (profile: docs/ASSEMBLY.md, "Lines" and "Code").
use Rattle.std.specs.Prelude.{ℕ, zero, suc, ℤ, pos, negsuc, ◌^◌, true, false, List, [], ◌∷◌, Some, None}
use Rattle.std.specs.declared.option.Option.{Option}
use Rattle.abc_text_lines.specs.declared.reason.AsmReason.TheVariants as reasons
use Rattle.abc_file_types.specs.declared.names.Namespace.{Namespace}
use Rattle.abc_file_types.specs.declared.names.MultinameKind.{MultinameKind}
use Rattle.abc_file_types.specs.declared.names.MultinameKind.TheVariants as kinds
use Rattle.abc_file_types.specs.declared.names.Multiname.{Multiname}
use Rattle.abc_file_types.specs.declared.names.Multiname.TheVariants as names
use Rattle.abc_file_types.specs.declared.methods.ValueKind.{ValueKind}
use Rattle.abc_file_types.specs.declared.methods.ValueKind.TheVariants as values
use Rattle.abc_file_types.specs.declared.methods.OptionValue.{OptionValue}
use Rattle.abc_file_types.specs.declared.traits.TraitKind.{TraitKind}
use Rattle.abc_file_types.specs.declared.traits.TraitKind.TheVariants as traits
use Rattle.abc_file_types.specs.declared.traits.TraitBody.{TraitBody}
use Rattle.abc_file_types.specs.declared.traits.TraitBody.TheVariants as bodies
use Rattle.abc_file_types.specs.declared.tables.Eight.{Eight}
use Rattle.abc_file_types.specs.declared.tables.Sizes.{Sizes}
use Rattle.abc_file_types.specs.declared.code.Instr.{Instr}
use Rattle.abc_file_types.specs.declared.code.Instr.TheVariants as instrs
use Rattle.abc_file_types.specs.declared.code.Handler.{Handler}
use Rattle.abc_file_types.specs.declared.opcodes.Form.{Form}
use Rattle.abc_file_types.specs.declared.opcodes.Form.TheVariants as forms
use Rattle.abc_file_types.specs.Opcodes.{form_at}
use Rattle.abc_file_types.specs.Methods.{has_value}
use Rattle.abc_file_types.specs.Traits.{trait_kind_in}
use Rattle.abc_text_lines.specs.Operands.{Operand, Operands, by, operand_with_test, eight, entry_upto, exactly, index_operand_below, index_upto, none, number_below, map_operands, several, signed_between, target, text_operand, u30_operand, unseen, ◌&◌}
use Rattle.abc_text_lines.specs.Kinds.{multiname_kind_operand, space_kind, trait_kind_operand, value_kind_operand}

-- one operand
abbrev pub one_operand_alone : {A : Type 0} → Operand A → Operands A
one_operand_alone {A} p = map_operands (λ (x : A × Unit {0}). x.0) (λ (x : A). (x, tt)) (p & none)

-- ---- pools

-- `abc`: the minor version 16, and the major version 46
abbrev pub version_line : Operands (ℕ × (ℕ × Unit {0}))
version_line = exactly 16 & (exactly 46 & none)

-- `int`: a number from -2^31 to 2^31 - 1
unfoldable pub int_line : Operands ℤ
int_line = one_operand_alone (signed_between (negsuc 2147483647) (pos 2147483647))

-- `uint`: a number below 2^32
unfoldable pub uint_line : Operands ℕ
uint_line = one_operand_alone (number_below (2 ^ 32))

-- `double`: eight bytes
unfoldable pub double_line : Operands Eight
double_line = map_operands (λ x. record { 0 = x.0 }) (λ d. (d.0, tt)) (eight & none)

-- `string`: a quoted text
unfoldable pub string_line : Operands (List ℕ)
string_line = one_operand_alone text_operand

-- `ns`: a kind word, and the name, by the index of a string or 0
unfoldable pub namespace_line : Sizes → Operands Namespace
namespace_line v = map_operands (λ x. record { kind = x.0; name = x.1.0 }) (λ n. (n.kind, (n.name, tt))) (space_kind & (index_upto v.strings & none))

-- `set`: any number of namespaces, each by its index, which isn't 0
unfoldable pub set_line : Sizes → Operands (List ℕ)
set_line v = several (entry_upto v.namespaces)

-- what is read of a multiname's line with its kind
abbrev pub kind_in : Multiname → MultinameKind
kind_in (names.QName attr ns name) = kinds.QName attr
kind_in (names.Rt attr name) = kinds.Rt attr
kind_in (names.RtL attr) = kinds.RtL attr
kind_in (names.Multi attr name set) = kinds.Multi attr
kind_in (names.MultiL attr set) = kinds.MultiL attr
kind_in (names.TypeName base params) = kinds.TypeName

abbrev pub two_of : Multiname → ℕ × ℕ
two_of (names.QName attr ns name) = (ns, name)
two_of (names.Multi attr name set) = (name, set)
two_of _ = (0, 0)

abbrev pub one_of : Multiname → ℕ
one_of (names.Rt attr name) = name
one_of (names.MultiL attr set) = set
one_of _ = 0

abbrev pub type_parts : Multiname → ℕ × List ℕ
type_parts (names.TypeName base params) = (base, params)
type_parts _ = (0, [])

-- the indices of a multiname in file order
abbrev pub multiname_operands : Sizes → MultinameKind → Operands Multiname
multiname_operands v (kinds.QName attr) = map_operands (λ x. names.QName attr x.0 x.1.0) (λ m. ((two_of m).0, ((two_of m).1, tt))) (index_upto v.namespaces & (index_upto v.strings & none))
multiname_operands v (kinds.Rt attr) = map_operands (λ x. names.Rt attr x.0) (λ m. (one_of m, tt)) (index_upto v.strings & none)
multiname_operands v (kinds.RtL attr) = map_operands (λ x. names.RtL attr) (λ m. tt) none
multiname_operands v (kinds.Multi attr) = map_operands (λ x. names.Multi attr x.0 x.1.0) (λ m. ((two_of m).0, ((two_of m).1, tt))) (index_upto v.strings & (entry_upto v.sets & none))
multiname_operands v (kinds.MultiL attr) = map_operands (λ x. names.MultiL attr x.0) (λ m. (one_of m, tt)) (entry_upto v.sets & none)
multiname_operands v kinds.TypeName = map_operands (λ x. names.TypeName x.0 x.1) type_parts (entry_upto v.names & several (index_upto v.names))

abbrev pub multiname_rest : Sizes → Option MultinameKind → Operands Multiname
multiname_rest v (Some kind) = multiname_operands v kind
multiname_rest v None = unseen (names.RtL false)

-- `name`: a kind word, and the indices that multinames of the kind have
unfoldable pub name_line : Sizes → Operands Multiname
name_line v = map_operands (λ x. x.1) (λ m. (kind_in m, m)) (by multiname_kind_operand (multiname_rest v))

-- ---- methods and metadata

-- a method without the lines below it: its return type, its name and its flags
pub record MethodHead : Type 0 where
  pub ret : ℕ
  pub name : ℕ
  pub flags : ℕ

-- `method`: the return type, by the index of a multiname or 0, the name, by the index of a string or 0, and the flags
unfoldable pub method_line : Sizes → Operands MethodHead
method_line v = map_operands (λ x. record { ret = x.0; name = x.1.0; flags = x.1.1.0 }) (λ m. (m.ret, (m.name, (m.flags, tt)))) (index_upto v.names & (index_upto v.strings & (number_below 256 & none)))

-- `param`: the type of a parameter, by the index of a multiname or 0
unfoldable pub param_line : Sizes → Operands ℕ
param_line v = one_operand_alone (index_upto v.names)

-- an index into the pool that a kind names, if it names one
abbrev pub value_index : Sizes → ValueKind → Operand ℕ
value_index v kind = operand_with_test (λ n. has_value v n kind) reasons.Index u30_operand

abbrev pub option_rest : Sizes → Option ValueKind → Operands (ℕ × Unit {0})
option_rest v (Some kind) = value_index v kind & none
option_rest v None = u30_operand & none

-- `option`: a kind word, and an index into the pool that the kind names
unfoldable pub option_line : Sizes → Operands OptionValue
option_line v = map_operands (λ x. record { kind = x.0; value = x.1.0 }) (λ o. (o.kind, (o.value, tt))) (by value_kind_operand (option_rest v))

-- `pname`: a number below 2^30, which need not be the index of a string
unfoldable pub number_line : Operands ℕ
number_line = one_operand_alone u30_operand

-- `metadata`: the name, by the index of a string or 0
unfoldable pub string_index_line : Sizes → Operands ℕ
string_index_line v = one_operand_alone (index_upto v.strings)

-- `item`: two strings, each by its index or 0
unfoldable pub entry_line : Sizes → Operands (ℕ × ℕ)
entry_line v = map_operands (λ x. (x.0, x.1.0)) (λ e. (e.0, (e.1, tt))) (index_upto v.strings & (index_upto v.strings & none))

-- ---- instances, classes and scripts

-- an instance without the lines below it
pub record InstanceHead : Type 0 where
  pub name : ℕ
  pub super_name : ℕ
  pub flags : ℕ

-- `instance`: the name of a class and that of its base, each by the index of a multiname, which may be 0 for the base, and the flags
unfoldable pub instance_line : Sizes → Operands InstanceHead
instance_line v = map_operands (λ x. record { name = x.0; super_name = x.1.0; flags = x.1.1.0 }) (λ i. (i.name, (i.super_name, (i.flags, tt)))) (entry_upto v.names & (index_upto v.names & (number_below 256 & none)))

-- `protected`: a namespace, by its index or 0
unfoldable pub protected_line : Sizes → Operands ℕ
protected_line v = one_operand_alone (index_upto v.namespaces)

-- `implements`: the name of an interface, by the index of a multiname
unfoldable pub implements_line : Sizes → Operands ℕ
implements_line v = one_operand_alone (entry_upto v.names)

-- `iinit`, `class` and `script`: the initializer, by the index of a method
unfoldable pub method_index_line : Sizes → Operands ℕ
method_index_line v = one_operand_alone (index_operand_below v.methods)

-- ---- traits

-- a trait without the lines below it
pub record TraitHead : Type 0 where
  pub attrs : ℕ
  pub name : ℕ
  pub body : TraitBody

-- a kind behind a slot's index: there is one unless the index is 0
abbrev pub slot_kind_operand : Sizes → ℕ → Operand ValueKind
slot_kind_operand v n = operand_with_test (λ kind. has_value v n kind) reasons.Index value_kind_operand

abbrev pub kind_or : Option ValueKind → ValueKind
kind_or (Some kind) = kind
kind_or None = values.Undefined

abbrev pub slot_rest : Sizes → Option ℕ → Operands (Option ValueKind)
slot_rest v (Some zero) = map_operands (λ x. None) (λ o. tt) none
slot_rest v (Some (suc n)) = map_operands (λ x. Some x.0) (λ o. (kind_or o, tt)) (slot_kind_operand v (suc n) & none)
slot_rest v None = map_operands (λ x. Some x.0) (λ o. (kind_or o, tt)) (value_kind_operand & none)

abbrev pub slot_value_of_parts : ℕ × Option ValueKind → Option OptionValue
slot_value_of_parts (n, None) = None
slot_value_of_parts (n, Some kind) = Some (record { kind = kind; value = n })

abbrev pub slot_value_in : Option OptionValue → ℕ × Option ValueKind
slot_value_in None = (0, None)
slot_value_in (Some o) = (o.value, Some o.kind)

-- the value of a slot: an index, and behind an index that isn't 0 a kind word
unfoldable pub slot_value_operand : Sizes → Operands (Option OptionValue)
slot_value_operand v = map_operands slot_value_of_parts slot_value_in (by u30_operand (slot_rest v))

abbrev pub slot_parts : TraitBody → ℕ × (ℕ × Option OptionValue)
slot_parts (bodies.Slot id ty value constant) = (id, (ty, value))
slot_parts _ = (0, (0, None))

abbrev pub pair_in : TraitBody → ℕ × (ℕ × Unit {0})
pair_in (bodies.Slot id ty value constant) = (0, (0, tt))
pair_in (bodies.Method disp method) = (disp, (method, tt))
pair_in (bodies.Getter disp method) = (disp, (method, tt))
pair_in (bodies.Setter disp method) = (disp, (method, tt))
pair_in (bodies.Class id class) = (id, (class, tt))
pair_in (bodies.Function id method) = (id, (method, tt))

abbrev pub slot_fields : Sizes → Operands (ℕ × (ℕ × Option OptionValue))
slot_fields v = u30_operand & (index_upto v.names & slot_value_operand v)

abbrev pub pair_fields : ℕ → Operands (ℕ × (ℕ × Unit {0}))
pair_fields size = u30_operand & (index_operand_below size & none)

abbrev pub trait_operands : Sizes → TraitKind → Operands TraitBody
trait_operands v traits.Slot = map_operands (λ x. bodies.Slot x.0 x.1.0 x.1.1 false) slot_parts (slot_fields v)
trait_operands v traits.Const = map_operands (λ x. bodies.Slot x.0 x.1.0 x.1.1 true) slot_parts (slot_fields v)
trait_operands v traits.Method = map_operands (λ x. bodies.Method x.0 x.1.0) pair_in (pair_fields v.methods)
trait_operands v traits.Getter = map_operands (λ x. bodies.Getter x.0 x.1.0) pair_in (pair_fields v.methods)
trait_operands v traits.Setter = map_operands (λ x. bodies.Setter x.0 x.1.0) pair_in (pair_fields v.methods)
trait_operands v traits.Class = map_operands (λ x. bodies.Class x.0 x.1.0) pair_in (pair_fields v.classes)
trait_operands v traits.Function = map_operands (λ x. bodies.Function x.0 x.1.0) pair_in (pair_fields v.methods)

-- the attributes, the name, and what the kind asks for
abbrev pub trait_rest : Sizes → Option TraitKind → Operands TraitHead
trait_rest v (Some kind) = map_operands (λ x. record { attrs = x.0; name = x.1.0; body = x.1.1 }) (λ t. (t.attrs, (t.name, t.body))) (number_below 16 & (entry_upto v.names & trait_operands v kind))
trait_rest v None = unseen (record { attrs = 0; name = 0; body = bodies.Method 0 0 })

-- `trait`: a kind word, the attributes, the name, by the index of a multiname, and the fields of the kind
unfoldable pub trait_line : Sizes → Operands TraitHead
trait_line v = map_operands (λ x. x.1) (λ t. (trait_kind_in t.body, t)) (by trait_kind_operand (trait_rest v))

-- `tmeta`: metadata of a trait, by its index
unfoldable pub trait_metadata_line : Sizes → Operands ℕ
trait_metadata_line v = one_operand_alone (index_operand_below v.metadata)

-- ---- bodies

-- a body without the lines below it
pub record BodyHead : Type 0 where
  pub method : ℕ
  pub max_stack : ℕ
  pub local_count : ℕ
  pub init_scope : ℕ
  pub max_scope : ℕ

-- `body`: the method, by its index, and four sizes
unfoldable pub body_line : Sizes → Operands BodyHead
body_line v =
    map_operands (λ x. record { method = x.0; max_stack = x.1.0; local_count = x.1.1.0; init_scope = x.1.1.1.0; max_scope = x.1.1.1.1.0 })
    (λ b. (b.method, (b.max_stack, (b.local_count, (b.init_scope, (b.max_scope, tt))))))
    (index_operand_below v.methods & (u30_operand & (u30_operand & (u30_operand & (u30_operand & none)))))

-- `catch`: three labels, and the type and the name of the variable, each by the index of a multiname or 0
unfoldable pub catch_line : Sizes → Operands Handler
catch_line v =
    map_operands (λ x. record { from = x.0; to = x.1.0; target = x.1.1.0; exc_type = x.1.1.1.0; var_name = x.1.1.1.1.0 })
    (λ h. (h.from, (h.to, (h.target, (h.exc_type, (h.var_name, tt))))))
    (target & (target & (target & (index_upto v.names & (index_upto v.names & none)))))

-- ---- instructions

abbrev pub opcode_of : Instr → ℕ
opcode_of (instrs.Plain op) = op
opcode_of (instrs.One op n) = op
opcode_of (instrs.Two op n m) = op
opcode_of (instrs.Branch op t) = op
opcode_of (instrs.Switch t ts) = 0x1b
opcode_of (instrs.Byte z) = 0x24
opcode_of (instrs.Short z) = 0x25
opcode_of (instrs.ScopeObject n) = 0x65
opcode_of (instrs.Debug kind name reg extra) = 0xef

abbrev pub first_operand : Instr → ℕ
first_operand (instrs.One op n) = n
first_operand (instrs.Two op n m) = n
first_operand (instrs.Branch op t) = t
first_operand (instrs.ScopeObject n) = n
first_operand _ = 0

abbrev pub second_of : Instr → ℕ
second_of (instrs.Two op n m) = m
second_of _ = 0

abbrev pub signed_in : Instr → ℤ
signed_in (instrs.Byte z) = z
signed_in (instrs.Short z) = z
signed_in _ = pos 0

abbrev pub first_case : List ℕ → ℕ × List ℕ
first_case [] = (0, [])
first_case (t ∷ ts) = (t, ts)

abbrev pub switch_in : Instr → ℕ × (ℕ × List ℕ)
switch_in (instrs.Switch t ts) = (t, first_case ts)
switch_in _ = (0, (0, []))

abbrev pub debug_in : Instr → ℕ × (ℕ × (ℕ × (ℕ × Unit {0})))
debug_in (instrs.Debug kind name reg extra) = (kind, (name, (reg, (extra, tt))))
debug_in _ = (0, (0, (0, (0, tt))))

-- what follows the name of an instruction, by the form of its opcode; a switch has a case at least
abbrev pub instruction_fields : ℕ → Form → Operands Instr
instruction_fields op forms.Plain = map_operands (λ x. instrs.Plain op) (λ i. tt) none
instruction_fields op forms.One = map_operands (λ x. instrs.One op x.0) (λ i. (first_operand i, tt)) (u30_operand & none)
instruction_fields op forms.Two = map_operands (λ x. instrs.Two op x.0 x.1.0) (λ i. (first_operand i, (second_of i, tt))) (u30_operand & (u30_operand & none))
instruction_fields op forms.Branch = map_operands (λ x. instrs.Branch op x.0) (λ i. (first_operand i, tt)) (target & none)
instruction_fields op forms.Switch = map_operands (λ x. instrs.Switch x.0 (x.1.0 ∷ x.1.1)) switch_in (target & (target & several target))
instruction_fields op forms.Byte = map_operands (λ x. instrs.Byte x.0) (λ i. (signed_in i, tt)) (signed_between (negsuc 127) (pos 127) & none)
instruction_fields op forms.Short = map_operands (λ x. instrs.Short x.0) (λ i. (signed_in i, tt)) (signed_between (negsuc 32767) (pos 32767) & none)
instruction_fields op forms.ScopeObject = map_operands (λ x. instrs.ScopeObject x.0) (λ i. (first_operand i, tt)) (number_below 256 & none)
instruction_fields op forms.Debug = map_operands (λ x. instrs.Debug x.0 x.1.0 x.1.1.0 x.1.1.1.0) debug_in (number_below 256 & (u30_operand & (number_below 256 & (u30_operand & none))))

-- no instruction has the opcode
abbrev pub no_instruction : Operands Instr
no_instruction = record { items = λ i. []; fits = λ i. ⊥; counts = λ labels tokens. true; value = λ labels tokens. instrs.Plain 0; faults = λ labels tokens. reasons.Word ∷ [] }

abbrev pub operands_by_form : ℕ → Option Form → Operands Instr
operands_by_form op (Some form) = instruction_fields op form
operands_by_form op None = no_instruction

-- the line of an instruction: what follows the name that the opcode has
unfoldable pub instruction_operands : ℕ → Operands Instr
instruction_operands op = operands_by_form op (form_at op)

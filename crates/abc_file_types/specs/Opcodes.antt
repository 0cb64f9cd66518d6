-- The instructions by their opcodes: their names, what follows the opcode, and the pool that an operand names
-- (Overview, chapter 5; profile: docs/FORMAT.md, "Code").
use Rattle.std.specs.Prelude.{ℕ, Bool, true, false, not, is_some, ◌||◌, ◌&&◌, List, [], ◌∷◌, Some, None, codes, nat_eq, if◌then◌else◌}
use Rattle.std.specs.declared.option.Option.{Option}
use Rattle.abc_file_types.specs.declared.opcodes.Form.{Form}
use Rattle.abc_file_types.specs.declared.opcodes.Form.TheVariants as forms
use Rattle.abc_file_types.specs.declared.opcodes.Pool.{Pool}
use Rattle.abc_file_types.specs.declared.opcodes.Pool.TheVariants as pools
use Rattle.abc_file_types.specs.declared.opcodes.OpInfo.{OpInfo}
use Rattle.abc_file_types.specs.declared.op.TheConstants as op

-- every opcode that an instruction has, and the instruction's name
abbrev pub names_of_opcodes : List (ℕ × List ℕ)
names_of_opcodes =
    (op.NOP, codes "nop") ∷ (op.THROW, codes "throw") ∷ (op.GETSUPER, codes "getsuper") ∷ (op.SETSUPER, codes "setsuper") ∷ (op.DXNS, codes "dxns") ∷
    (op.DXNSLATE, codes "dxnslate") ∷ (op.KILL, codes "kill") ∷ (op.LABEL, codes "label") ∷ (op.IFNLT, codes "ifnlt") ∷ (op.IFNLE, codes "ifnle") ∷ (op.IFNGT, codes "ifngt") ∷
    (op.IFNGE, codes "ifnge") ∷ (op.JUMP, codes "jump") ∷ (op.IFTRUE, codes "iftrue") ∷ (op.IFFALSE, codes "iffalse") ∷ (op.IFEQ, codes "ifeq") ∷ (op.IFNE, codes "ifne") ∷
    (op.IFLT, codes "iflt") ∷ (op.IFLE, codes "ifle") ∷ (op.IFGT, codes "ifgt") ∷ (op.IFGE, codes "ifge") ∷ (op.IFSTRICTEQ, codes "ifstricteq") ∷
    (op.IFSTRICTNE, codes "ifstrictne") ∷ (op.LOOKUPSWITCH, codes "lookupswitch") ∷ (op.PUSHWITH, codes "pushwith") ∷ (op.POPSCOPE, codes "popscope") ∷ (op.NEXTNAME, codes "nextname") ∷
    (op.HASNEXT, codes "hasnext") ∷ (op.PUSHNULL, codes "pushnull") ∷ (op.PUSHUNDEFINED, codes "pushundefined") ∷ (op.NEXTVALUE, codes "nextvalue") ∷ (op.PUSHBYTE, codes "pushbyte") ∷
    (op.PUSHSHORT, codes "pushshort") ∷ (op.PUSHTRUE, codes "pushtrue") ∷ (op.PUSHFALSE, codes "pushfalse") ∷ (op.PUSHNAN, codes "pushnan") ∷ (op.POP, codes "pop") ∷
    (op.DUP, codes "dup") ∷ (op.SWAP, codes "swap") ∷ (op.PUSHSTRING, codes "pushstring") ∷ (op.PUSHINT, codes "pushint") ∷ (op.PUSHUINT, codes "pushuint") ∷
    (op.PUSHDOUBLE, codes "pushdouble") ∷ (op.PUSHSCOPE, codes "pushscope") ∷ (op.PUSHNAMESPACE, codes "pushnamespace") ∷ (op.HASNEXT2, codes "hasnext2") ∷ (op.NEWFUNCTION, codes "newfunction") ∷
    (op.CALL, codes "call") ∷ (op.CONSTRUCT, codes "construct") ∷ (op.CALLMETHOD, codes "callmethod") ∷ (op.CALLSTATIC, codes "callstatic") ∷ (op.CALLSUPER, codes "callsuper") ∷
    (op.CALLPROPERTY, codes "callproperty") ∷ (op.RETURNVOID, codes "returnvoid") ∷ (op.RETURNVALUE, codes "returnvalue") ∷ (op.CONSTRUCTSUPER, codes "constructsuper") ∷
    (op.CONSTRUCTPROP, codes "constructprop") ∷ (op.CALLPROPLEX, codes "callproplex") ∷ (op.CALLSUPERVOID, codes "callsupervoid") ∷ (op.CALLPROPVOID, codes "callpropvoid") ∷
    (op.APPLYTYPE, codes "applytype") ∷ (op.NEWOBJECT, codes "newobject") ∷ (op.NEWARRAY, codes "newarray") ∷ (op.NEWACTIVATION, codes "newactivation") ∷ (op.NEWCLASS, codes "newclass") ∷
    (op.GETDESCENDANTS, codes "getdescendants") ∷ (op.NEWCATCH, codes "newcatch") ∷ (op.FINDPROPSTRICT, codes "findpropstrict") ∷ (op.FINDPROPERTY, codes "findproperty") ∷
    (op.GETLEX, codes "getlex") ∷ (op.SETPROPERTY, codes "setproperty") ∷ (op.GETLOCAL, codes "getlocal") ∷ (op.SETLOCAL, codes "setlocal") ∷ (op.GETGLOBALSCOPE, codes "getglobalscope") ∷
    (op.GETSCOPEOBJECT, codes "getscopeobject") ∷ (op.GETPROPERTY, codes "getproperty") ∷ (op.INITPROPERTY, codes "initproperty") ∷ (op.DELETEPROPERTY, codes "deleteproperty") ∷
    (op.GETSLOT, codes "getslot") ∷ (op.SETSLOT, codes "setslot") ∷ (op.GETGLOBALSLOT, codes "getglobalslot") ∷ (op.SETGLOBALSLOT, codes "setglobalslot") ∷ (op.CONVERT_S, codes "convert_s") ∷
    (op.ESC_XELEM, codes "esc_xelem") ∷ (op.ESC_XATTR, codes "esc_xattr") ∷ (op.CONVERT_I, codes "convert_i") ∷ (op.CONVERT_U, codes "convert_u") ∷ (op.CONVERT_D, codes "convert_d") ∷
    (op.CONVERT_B, codes "convert_b") ∷ (op.CONVERT_O, codes "convert_o") ∷ (op.CHECKFILTER, codes "checkfilter") ∷ (op.COERCE, codes "coerce") ∷ (op.COERCE_A, codes "coerce_a") ∷
    (op.COERCE_S, codes "coerce_s") ∷ (op.ASTYPE, codes "astype") ∷ (op.ASTYPELATE, codes "astypelate") ∷ (op.NEGATE, codes "negate") ∷ (op.INCREMENT, codes "increment") ∷
    (op.INCLOCAL, codes "inclocal") ∷ (op.DECREMENT, codes "decrement") ∷ (op.DECLOCAL, codes "declocal") ∷ (op.TYPEOF, codes "typeof") ∷ (op.NOT, codes "not") ∷
    (op.BITNOT, codes "bitnot") ∷ (op.ADD, codes "add") ∷ (op.SUBTRACT, codes "subtract") ∷ (op.MULTIPLY, codes "multiply") ∷ (op.DIVIDE, codes "divide") ∷
    (op.MODULO, codes "modulo") ∷ (op.LSHIFT, codes "lshift") ∷ (op.RSHIFT, codes "rshift") ∷ (op.URSHIFT, codes "urshift") ∷ (op.BITAND, codes "bitand") ∷
    (op.BITOR, codes "bitor") ∷ (op.BITXOR, codes "bitxor") ∷ (op.EQUALS, codes "equals") ∷ (op.STRICTEQUALS, codes "strictequals") ∷ (op.LESSTHAN, codes "lessthan") ∷
    (op.LESSEQUALS, codes "lessequals") ∷ (op.GREATERTHAN, codes "greaterthan") ∷ (op.GREATEREQUALS, codes "greaterequals") ∷ (op.INSTANCEOF, codes "instanceof") ∷ (op.ISTYPE, codes "istype") ∷
    (op.ISTYPELATE, codes "istypelate") ∷ (op.IN, codes "in") ∷ (op.INCREMENT_I, codes "increment_i") ∷ (op.DECREMENT_I, codes "decrement_i") ∷ (op.INCLOCAL_I, codes "inclocal_i") ∷
    (op.DECLOCAL_I, codes "declocal_i") ∷ (op.NEGATE_I, codes "negate_i") ∷ (op.ADD_I, codes "add_i") ∷ (op.SUBTRACT_I, codes "subtract_i") ∷ (op.MULTIPLY_I, codes "multiply_i") ∷
    (op.GETLOCAL_0, codes "getlocal_0") ∷ (op.GETLOCAL_1, codes "getlocal_1") ∷ (op.GETLOCAL_2, codes "getlocal_2") ∷ (op.GETLOCAL_3, codes "getlocal_3") ∷ (op.SETLOCAL_0, codes "setlocal_0") ∷
    (op.SETLOCAL_1, codes "setlocal_1") ∷ (op.SETLOCAL_2, codes "setlocal_2") ∷ (op.SETLOCAL_3, codes "setlocal_3") ∷ (op.DEBUG, codes "debug") ∷ (op.DEBUGLINE, codes "debugline") ∷
    (op.DEBUGFILE, codes "debugfile") ∷ []

-- ---- what follows the opcode

-- one number below 2^30
abbrev pub one_operand : List ℕ
one_operand =
    op.GETSUPER ∷ op.SETSUPER ∷ op.DXNS ∷ op.KILL ∷ op.PUSHSTRING ∷ op.PUSHINT ∷ op.PUSHUINT ∷ op.PUSHDOUBLE ∷ op.PUSHNAMESPACE ∷ op.NEWFUNCTION ∷ op.CALL ∷ op.CONSTRUCT ∷ op.CONSTRUCTSUPER ∷ op.APPLYTYPE ∷ op.NEWOBJECT ∷ op.NEWARRAY ∷ op.NEWCLASS ∷ op.GETDESCENDANTS ∷ op.NEWCATCH ∷ op.FINDPROPSTRICT ∷ op.FINDPROPERTY ∷
    op.GETLEX ∷ op.SETPROPERTY ∷ op.GETLOCAL ∷ op.SETLOCAL ∷ op.GETPROPERTY ∷ op.INITPROPERTY ∷ op.DELETEPROPERTY ∷ op.GETSLOT ∷ op.SETSLOT ∷ op.GETGLOBALSLOT ∷ op.SETGLOBALSLOT ∷ op.COERCE ∷ op.ASTYPE ∷ op.INCLOCAL ∷ op.DECLOCAL ∷ op.ISTYPE ∷ op.INCLOCAL_I ∷ op.DECLOCAL_I ∷ op.DEBUGLINE ∷ op.DEBUGFILE ∷ []

-- two numbers below 2^30
abbrev pub two_operands : List ℕ
two_operands = op.HASNEXT2 ∷ op.CALLMETHOD ∷ op.CALLSTATIC ∷ op.CALLSUPER ∷ op.CALLPROPERTY ∷ op.CONSTRUCTPROP ∷ op.CALLPROPLEX ∷ op.CALLSUPERVOID ∷ op.CALLPROPVOID ∷ []

-- an offset of a branch
abbrev pub branches : List ℕ
branches = op.IFNLT ∷ op.IFNLE ∷ op.IFNGT ∷ op.IFNGE ∷ op.JUMP ∷ op.IFTRUE ∷ op.IFFALSE ∷ op.IFEQ ∷ op.IFNE ∷ op.IFLT ∷ op.IFLE ∷ op.IFGT ∷ op.IFGE ∷ op.IFSTRICTEQ ∷ op.IFSTRICTNE ∷ []

-- the opcode is one of these
abbrev pub is_in : ℕ → List ℕ → Bool
is_in op [] = false
is_in op (x ∷ xs) = nat_eq op x || is_in op xs

-- of an opcode that an instruction has; after all others nothing follows
abbrev pub form_of : ℕ → Form
form_of code =
    if is_in code one_operand then forms.One
    else if is_in code two_operands then forms.Two
    else if is_in code branches then forms.Branch
    else if nat_eq code op.LOOKUPSWITCH then forms.Switch
    else if nat_eq code op.PUSHBYTE then forms.Byte
    else if nat_eq code op.PUSHSHORT then forms.Short
    else if nat_eq code op.GETSCOPEOBJECT then forms.ScopeObject
    else if nat_eq code op.DEBUG then forms.Debug
    else forms.Plain

-- ---- the pool that the first operand names, and of debug the second

abbrev pub names_text : List ℕ
names_text = op.DXNS ∷ op.PUSHSTRING ∷ op.DEBUG ∷ op.DEBUGFILE ∷ []

abbrev pub names_multiname : List ℕ
names_multiname = op.GETSUPER ∷ op.SETSUPER ∷ op.CALLSUPER ∷ op.CALLPROPERTY ∷ op.CONSTRUCTPROP ∷ op.CALLPROPLEX ∷ op.CALLSUPERVOID ∷ op.CALLPROPVOID ∷ op.GETDESCENDANTS ∷ op.FINDPROPSTRICT ∷ op.FINDPROPERTY ∷ op.GETLEX ∷ op.SETPROPERTY ∷ op.GETPROPERTY ∷ op.INITPROPERTY ∷ op.DELETEPROPERTY ∷ op.COERCE ∷ op.ASTYPE ∷ op.ISTYPE ∷ []

abbrev pub pool_of : ℕ → Pool
pool_of code =
    if is_in code names_multiname then pools.Name
    else if is_in code names_text then pools.Text
    else if nat_eq code op.PUSHINT then pools.Int
    else if nat_eq code op.PUSHUINT then pools.UInt
    else if nat_eq code op.PUSHDOUBLE then pools.Double
    else if nat_eq code op.PUSHNAMESPACE then pools.Space
    else pools.NoPool

-- ---- by opcode

abbrev pub name_in : List (ℕ × List ℕ) → ℕ → Option (List ℕ)
name_in [] op = None
name_in (row ∷ rows) op = if nat_eq op row.0 then Some row.1 else name_in rows op

-- the instruction's name; an opcode that no instruction has, has none
unfoldable pub name_at : ℕ → Option (List ℕ)
name_at op = name_in names_of_opcodes op

abbrev pub info_if : {A : Type 0} → Option A → ℕ → Option OpInfo
info_if (Some name) op = Some (record { form = form_of op; pool = pool_of op })
info_if None op = None

-- what the set of instructions says of an opcode; of one that no instruction has, nothing
unfoldable pub info_at : ℕ → Option OpInfo
info_at op = info_if (name_in names_of_opcodes op) op

-- what follows the opcode
abbrev pub form_in : Option OpInfo → Option Form
form_in (Some info) = Some info.form
form_in None = None

-- what follows the opcode, if some instruction has it
unfoldable pub form_at : ℕ → Option Form
form_at op = form_in (info_at op)

-- some instruction has the opcode; where `wide` is false, as in the narrow format, 53 is none
abbrev pub is_opcode : Bool → ℕ → Bool
is_opcode wide code = (wide || not (nat_eq code op.APPLYTYPE)) && is_some (form_at code)

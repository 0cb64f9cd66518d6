-- The opcodes of each group of plain instructions.
use Rattle.std.specs.Prelude.{ℕ, List, [], ◌∷◌}
use Rattle.abc_file_types.specs.declared.op.TheConstants as op

-- what goes on, throws, or changes the scopes
abbrev pub control_ops : List ℕ
control_ops = op.NOP ∷ op.THROW ∷ op.LABEL ∷ op.PUSHWITH ∷ op.POPSCOPE ∷ op.PUSHSCOPE ∷ []

-- what pushes a constant, and moves operands
abbrev pub push_ops : List ℕ
push_ops = op.PUSHNULL ∷ op.PUSHUNDEFINED ∷ op.PUSHTRUE ∷ op.PUSHFALSE ∷ op.PUSHNAN ∷ op.POP ∷ op.DUP ∷ op.SWAP ∷ []

-- conversions
abbrev pub convert_ops : List ℕ
convert_ops = op.CONVERT_S ∷ op.CONVERT_I ∷ op.CONVERT_U ∷ op.CONVERT_D ∷ op.CONVERT_B ∷ op.CONVERT_O ∷ op.COERCE_A ∷ op.COERCE_S ∷ []

-- what is computed of one value
abbrev pub single_ops : List ℕ
single_ops = op.NEGATE ∷ op.INCREMENT ∷ op.DECREMENT ∷ op.TYPEOF ∷ op.NOT ∷ op.BITNOT ∷ op.INCREMENT_I ∷ op.DECREMENT_I ∷ op.NEGATE_I ∷ []

-- what is computed of two
abbrev pub double_ops : List ℕ
double_ops = op.ADD ∷ op.SUBTRACT ∷ op.MULTIPLY ∷ op.DIVIDE ∷ op.MODULO ∷ op.LSHIFT ∷ op.RSHIFT ∷ op.URSHIFT ∷ op.BITAND ∷ op.BITOR ∷ op.BITXOR ∷ op.ADD_I ∷ op.SUBTRACT_I ∷ op.MULTIPLY_I ∷ []

-- comparisons
abbrev pub comparison_ops : List ℕ
comparison_ops = op.EQUALS ∷ op.STRICTEQUALS ∷ op.LESSTHAN ∷ op.LESSEQUALS ∷ op.GREATERTHAN ∷ op.GREATEREQUALS ∷ []

-- the first four locals
abbrev pub local_ops : List ℕ
local_ops = op.GETLOCAL_0 ∷ op.GETLOCAL_1 ∷ op.GETLOCAL_2 ∷ op.GETLOCAL_3 ∷ op.SETLOCAL_0 ∷ op.SETLOCAL_1 ∷ op.SETLOCAL_2 ∷ op.SETLOCAL_3 ∷ []

-- returns
abbrev pub return_ops : List ℕ
return_ops = op.RETURNVOID ∷ op.RETURNVALUE ∷ []

-- constants of pools, locals by their numbers, and what is for a debugger
abbrev pub constant_ops : List ℕ
constant_ops = op.KILL ∷ op.PUSHSTRING ∷ op.PUSHINT ∷ op.PUSHUINT ∷ op.PUSHDOUBLE ∷ op.PUSHNAMESPACE ∷ op.GETLOCAL ∷ op.SETLOCAL ∷ op.DEBUGLINE ∷ op.DEBUGFILE ∷ []

-- what asks for a type that is named
abbrev pub type_ops : List ℕ
type_ops = op.COERCE ∷ op.ASTYPE ∷ op.ISTYPE ∷ []

-- locals that count
abbrev pub count_ops : List ℕ
count_ops = op.INCLOCAL ∷ op.DECLOCAL ∷ op.INCLOCAL_I ∷ op.DECLOCAL_I ∷ []

-- branches, below ifeq
abbrev pub first_branch_ops : List ℕ
first_branch_ops = op.IFNLT ∷ op.IFNLE ∷ op.IFNGT ∷ op.IFNGE ∷ op.JUMP ∷ op.IFTRUE ∷ op.IFFALSE ∷ []

-- and from ifeq on
abbrev pub last_branch_ops : List ℕ
last_branch_ops = op.IFEQ ∷ op.IFNE ∷ op.IFLT ∷ op.IFLE ∷ op.IFGT ∷ op.IFGE ∷ op.IFSTRICTEQ ∷ op.IFSTRICTNE ∷ []

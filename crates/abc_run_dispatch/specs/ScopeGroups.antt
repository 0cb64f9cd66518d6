-- The opcodes of the groups of instructions that find names in scopes or work on the base of a class.
use Rattle.std.specs.Prelude.{ℕ, List, [], ◌∷◌}
use Rattle.abc_file_types.specs.declared.op.TheConstants as op

-- searches in scopes
abbrev pub find_ops : List ℕ
find_ops = op.FINDPROPSTRICT ∷ op.FINDPROPERTY ∷ op.GETLEX ∷ []

-- what goes by the base of a class
abbrev pub super_ops : List ℕ
super_ops = op.GETSUPER ∷ op.SETSUPER ∷ op.CONSTRUCTSUPER ∷ []

-- calls of it
abbrev pub super_call_ops : List ℕ
super_call_ops = op.CALLSUPER ∷ op.CALLSUPERVOID ∷ []

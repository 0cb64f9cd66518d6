-- The opcodes of the groups of instructions on properties.
use Rattle.std.specs.Prelude.{ℕ, List, [], ◌∷◌}
use Rattle.abc_file_types.specs.declared.op.TheConstants as op

-- reads, writes and deletes
abbrev pub property_ops : List ℕ
property_ops = op.SETPROPERTY ∷ op.GETPROPERTY ∷ op.INITPROPERTY ∷ op.DELETEPROPERTY ∷ []

-- calls
abbrev pub property_call_ops : List ℕ
property_call_ops = op.CALLPROPERTY ∷ op.CALLPROPLEX ∷ op.CALLPROPVOID ∷ []

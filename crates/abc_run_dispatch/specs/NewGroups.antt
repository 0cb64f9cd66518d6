-- The opcodes of the groups of instructions that make objects and enter no method.
use Rattle.std.specs.Prelude.{ℕ, List, [], ◌∷◌}
use Rattle.abc_file_types.specs.declared.op.TheConstants as op

-- with a number
abbrev pub new_ops : List ℕ
new_ops = op.NEWFUNCTION ∷ op.NEWOBJECT ∷ op.NEWARRAY ∷ op.NEWCATCH ∷ []

-- the activation, and the global object
abbrev pub scope_ops : List ℕ
scope_ops = op.NEWACTIVATION ∷ op.GETGLOBALSCOPE ∷ []

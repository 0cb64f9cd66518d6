-- The opcodes of the groups of instructions on objects.
use Rattle.std.specs.Prelude.{ℕ, List, [], ◌∷◌}
use Rattle.abc_file_types.specs.declared.op.TheConstants as op

-- walks over properties
abbrev pub walk_ops : List ℕ
walk_ops = op.NEXTNAME ∷ op.HASNEXT ∷ op.NEXTVALUE ∷ []

-- what asks for a class object that is a value, or for a name in an object
abbrev pub late_ops : List ℕ
late_ops = op.ASTYPELATE ∷ op.INSTANCEOF ∷ op.ISTYPELATE ∷ op.IN ∷ []

-- slots by their numbers
abbrev pub slot_ops : List ℕ
slot_ops = op.GETSLOT ∷ op.SETSLOT ∷ []

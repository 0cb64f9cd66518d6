-- What a name takes at run time, as the code holds it.
use Rattle.std.specs.Prelude.{List, [], ◌∷◌, ◌++◌, cond}
use Rattle.abc_verify_typing.specs.declared.row.Need.{Need}
use Rattle.abc_verify_typing.specs.declared.row.Need.TheVariants.{Value, Namespace}
use Rattle.abc_verify_states.specs.declared.names.Parts.{Parts}

-- the top first
abbrev pub parts_of : Parts → List Need
parts_of x = cond x.name (Value ∷ []) [] ++ cond x.space (Namespace ∷ []) []

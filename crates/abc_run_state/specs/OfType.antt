-- A value that is what it is coerced to.
use Rattle.std.specs.Prelude.{◌≡◌, ℕ}
use Rattle.abc_heap_values.specs.declared.values.Value.{Value}
use Rattle.abc_link_names.specs.Linked.{LinkedFile}
use Rattle.abc_link_names.specs.declared.types.Ty.{Ty}
use Rattle.abc_meaning.specs.World.{Went, World}
use Rattle.abc_meaning.specs.Entering.{coerces_to}
use Rattle.abc_meaning.specs.Ops.{coerces}
use Rattle.abc_meaning.specs.Setting.{Setting}
use Rattle.abc_run_state.specs.Outer.{Outer, setting_in}

-- a value is what it is coerced to, a type
abbrev pub IsOfType : Ty → Value → Type 0
IsOfType t v = (p : Setting) (w : World) → coerces p t v w ≡ Went w v

-- the same of a type that is named
abbrev pub IsOfNamed : LinkedFile → ℕ → Value → Type 0
IsOfNamed l ty v = (out : Outer) (w : World) → coerces_to (setting_in l out) ty v w ≡ Went w v

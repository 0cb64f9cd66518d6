-- What kind a value is of (a tool of other definitions).
use Rattle.std.specs.Prelude.{Bool, true, false}
use Rattle.abc_heap_values.specs.declared.values.Value.{Value}
use Rattle.abc_heap_values.specs.declared.values.Value.TheVariants as values

-- the value is undefined
abbrev pub is_undefined : Value → Bool
is_undefined values.Undefined = true
is_undefined other = false

-- the value is null
abbrev pub is_null : Value → Bool
is_null values.Null = true
is_null other = false

-- undefined or null
abbrev pub is_nothing : Value → Bool
is_nothing values.Undefined = true
is_nothing values.Null = true
is_nothing other = false

-- the value is a text
abbrev pub is_text : Value → Bool
is_text (values.Text s) = true
is_text other = false

-- Values whose text is there.
use Rattle.abc_heap_values.specs.declared.values.Span.{Span}
use Rattle.abc_heap_values.specs.declared.values.Value.{Value}
use Rattle.abc_heap_values.specs.declared.values.Value.TheVariants as values

-- where a value is a text, its span meets the given test: it is one that is there
abbrev pub IsReadable : (Span → Type 0) → Value → Type 0
IsReadable has values.Undefined = Unit {0}
IsReadable has values.Null = Unit {0}
IsReadable has (values.Num n) = Unit {0}
IsReadable has (values.Bool b) = Unit {0}
IsReadable has (values.Text s) = has s
IsReadable has (values.Space n) = Unit {0}
IsReadable has (values.Obj o) = Unit {0}

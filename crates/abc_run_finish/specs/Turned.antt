-- Values on top of a stack of which something is made, each in its place, the deepest first.
use Rattle.std.specs.Prelude.{ℕ, zero, suc, List, get_or, set}
use Rattle.abc_heap_values.specs.declared.values.Value.{Value}
use Rattle.abc_heap_values.specs.declared.values.Value.TheVariants.{Undefined}
use Rattle.abc_meaning.specs.World.{Run, pure, ◌>>=◌}

abbrev pub turned_at : (Value → Run Value) → ℕ → List Value → Run (List Value)
turned_at f zero vs = pure vs
turned_at f (suc n) vs = f (get_or vs n Undefined) >>= λ v. turned_at f n (set vs n v)

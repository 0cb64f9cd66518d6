-- How far a kind can rise, over so many layouts.
use Rattle.std.specs.Prelude.{ℕ, suc, ◌+◌, min}
use Rattle.abc_link_names.specs.declared.types.Kind.{Kind}
use Rattle.abc_link_names.specs.declared.types.Kind.TheVariants.{Any, Undef, Null, Num, Bool, Text, Space, Obj}

abbrev pub height : ℕ → Kind → ℕ
height n Any = 0
height n Undef = 1
height n Num = 1
height n Bool = 1
height n Text = 1
height n Space = 1
height n (Obj l) = suc (min l.0 n)
height n Null = n + 2

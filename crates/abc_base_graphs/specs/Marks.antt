-- What a mark says in a turn.
use Rattle.std.specs.Prelude.{ℕ, nat_eq, Some, None, if◌then◌else◌}
use Rattle.std.specs.declared.option.Option.{Option}
use Rattle.abc_base_graphs.specs.declared.slate.Mark.{Mark}

abbrev pub blank : Mark
blank = record { turn = 0; number = 0 }

-- only what was written in the turn counts
abbrev pub mark_of_turn : ℕ → Mark → Option ℕ
mark_of_turn turn m = if nat_eq m.turn turn then Some m.number else None

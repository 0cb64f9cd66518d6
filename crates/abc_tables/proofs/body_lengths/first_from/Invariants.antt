use Rattle.std.proofs.Common.{◌≡◌, ℕ, ◌-◌, ◌^◌, ◌<◌, min}
use Rattle.abc_file_types.specs.CodeBytes.{with_lengths}
use Rattle.abc_file_types.specs.Starts.{start}
use Rattle.abc_tables.proofs.body_lengths.first_from.Given as goal

abbrev pub invariant-loop-i : goal.invariant-loop-i
invariant-loop-i l = (l.here ≡ min (start (with_lengths l.code) l.i) (2 ^ 64 - 1)) × ((t : ℕ) → t < l.i → start (with_lengths l.code) t < l.limit)

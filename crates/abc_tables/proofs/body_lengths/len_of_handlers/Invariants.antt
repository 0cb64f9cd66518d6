use Rattle.std.proofs.Common.{◌≡◌, ◌-◌, ◌^◌, min, take}
use Rattle.std.specs.List.{sum_by}
use Rattle.abc_file_types.specs.CodeBytes.{canonical_starts}
use Rattle.abc_tables.specs.Lengths.{handler_len}
use Rattle.abc_tables.proofs.body_lengths.len_of_handlers.Given as goal

abbrev pub invariant-loop-handler : goal.invariant-loop-handler
invariant-loop-handler l = l.sum ≡ min (sum_by (handler_len (canonical_starts l.code)) (take l.handler-index l.handlers)) (2 ^ 64 - 1)

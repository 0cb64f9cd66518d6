use Rattle.std.proofs.Common.{◌≡◌, take}
use Rattle.std.specs.Prelude.{map}
use Rattle.std.specs.Int.{w32, cast_signed}
use Rattle.abc_instr.proofs.reading.as_numbers.Given as goal

abbrev pub invariant-loop-offset : goal.invariant-loop-offset
invariant-loop-offset l = map (cast_signed w32) l.numbers ≡ take l.offset-index l.offsets

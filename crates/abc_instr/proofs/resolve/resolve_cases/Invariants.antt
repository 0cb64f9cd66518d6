use Rattle.std.proofs.Common.{◌≡◌, drop}
use Rattle.std.specs.Prelude.{map}
use Rattle.std.specs.Int.{w32, cast_signed}
use Rattle.abc_file_types.specs.Targets.{cases_of}
use Rattle.abc_instr.specs.Resolving.{onto_found}
use Rattle.abc_instr.proofs.resolve.resolve_cases.Given as goal

abbrev pub invariant-loop-i : goal.invariant-loop-i
invariant-loop-i l = onto_found l.targets (cases_of l.starts l.base l.next (map (cast_signed w32) (drop l.i l.cases))) ≡ cases_of l.starts l.base l.next (map (cast_signed w32) l.cases)

use Rattle.std.proofs.Common.{refl}
use Rattle.abc_tidy_refs.specs.Refs.{instr_refs}
use Rattle.abc_tidy_entries.proofs.Operands.{holds_none, holds_one}
use Rattle.abc_tidy_entries.proofs.checks.instr_holds.Goals as goal

pub returns-in-Some : goal.returns-in-Some
returns-in-Some c = holds_one c.args.abc.now c.in-Some.index (instr_refs c.args.instr.now) c.is_there.result c.in-Some.ensures c.is_there.ensures

pub returns-in-None : goal.returns-in-None
returns-in-None c = holds_none c.args.abc.now (instr_refs c.args.instr.now) _ c.in-None.ensures refl

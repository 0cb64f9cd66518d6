use mir.Val.{SFits}
use Rattle.std.proofs.lemmas.Int.{to_z-of_z}
use Rattle.std.specs.Int.{w32}
use Rattle.std.proofs.Common.{rules}
use Rattle.abc_instr.proofs.Fronts.{offset_fits}
use Rattle.abc_instr.proofs.raw.read_offset.Goals as goal

pub returns-clause-fits : goal.returns-clause-fits
returns-clause-fits g c =
    let read = c.in_ok-offset.ensures in
    let answer = read.answers read.value.0.0.0 in
    let fits : SFits w32 c.in_ok-offset.offset = search rules in
    rw (to_z-of_z w32 c.in_ok-offset.offset fits) (offset_fits c.in_ok-offset.offset answer.is.front answer.is.spelled)

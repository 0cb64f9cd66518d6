use Rattle.std.proofs.Common.{length, take, arith, length-take-le}
use Rattle.abc_log.proofs.Lined.{no_line_in}
use Rattle.abc_log.proofs.Takings.{takes_behind}
use Rattle.abc_log.proofs.limits.read_line.Goals as goal

pub returns-clause-wrong : goal.returns-clause-wrong
returns-clause-wrong g c = λ e.
    let i = c.loop-at.invariant in
    no_line_in (g.S.Source.left c.args.source.now) (g.S.Source.left c.loop-at.source) (take c.loop-at.at c.loop-at.line) (length c.args.line.now) (omega (arith, length-take-le c.loop-at.at c.loop-at.line (omega arith))) i.one i.taken

pub returns-in_err-read_byte-clause-taken : goal.returns-in_err-read_byte-clause-taken
returns-in_err-read_byte-clause-taken g c =
    let i = c.loop-at.invariant in
    takes_behind _ _ _ (take c.loop-at.at c.loop-at.line) 1 (length c.args.line.now) (omega (arith, length-take-le c.loop-at.at c.loop-at.line (omega arith))) i.taken c.in_err-read_byte.ensures.taken

pub returns-in-Some-eq10-clause-taken : goal.returns-in-Some-eq10-clause-taken
returns-in-Some-eq10-clause-taken g c =
    let i = c.loop-at.invariant in
    takes_behind _ _ _ (take c.loop-at.at c.loop-at.line) 1 (length c.args.line.now) (omega (arith, length-take-le c.loop-at.at c.loop-at.line (omega arith))) i.taken c.in_ok-read_byte.ensures.taken

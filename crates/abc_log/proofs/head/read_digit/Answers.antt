use Rattle.std.proofs.Common.{arith}
use Rattle.abc_log.proofs.Standing.{other_stands_not, wrong_here}
use Rattle.abc_log.proofs.head.read_digit.Goals as goal

pub returns-in-None-clause-stops : goal.returns-in-None-clause-stops
returns-in-None-clause-stops g c =
    let place = c.args.place in
    wrong_here place c.in-Some.byte (g.S.Source.left c.args.source.now) (g.S.Source.left c.read_byte.new.source) (omega arith) (rw c.in-Some.is at c.in_ok-byte.ensures.next) (other_stands_not place c.in-Some.byte (omega arith) c.in-None.ensures.none)

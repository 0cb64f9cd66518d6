use Rattle.std.proofs.Common.{arith}
use Rattle.std.proofs.lemmas.Bool.{ne_eqb}
use Rattle.abc_log.proofs.Standing.{wrong_here}
use Rattle.abc_log.proofs.head.read_feed.Goals as goal

pub returns-then-byte-ne10-clause-stops : goal.returns-then-byte-ne10-clause-stops
returns-then-byte-ne10-clause-stops g c =
    let other = ne_eqb c.in-Some.byte 10 c.if-byte-ne10.true in
    wrong_here 8 c.in-Some.byte (g.S.Source.left c.args.source.now) (g.S.Source.left c.read_byte.new.source) (omega arith) (rw c.in-Some.is at c.in_ok-byte.ensures.next) other

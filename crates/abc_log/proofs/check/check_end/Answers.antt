use Rattle.std.proofs.Common.{refl, arith, length-take-le}
use Rattle.abc_log.proofs.Judging.{some_left}
use Rattle.abc_log.proofs.check.check_end.Goals as goal

pub returns-then-branch-gt0-clause-more : goal.returns-then-branch-gt0-clause-more
returns-then-branch-gt0-clause-more g c = (refl, some_left (g.S.Source.left c.args.source.now) (g.S.Source.left c.read.new.self) _ (omega (arith, c.in_ok-read.ensures.bound, length-take-le c.in_ok-read.field-0 c.read.new.into c.in_ok-read.ensures.bound.0)) c.in_ok-read.ensures.bytes.0)

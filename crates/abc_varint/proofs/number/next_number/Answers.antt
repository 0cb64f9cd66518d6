use Rattle.abc_varint.proofs.Front.{number_read}
use Rattle.abc_varint.proofs.number.next_number.Goals as goal

pub returns-in-Some-clause-value : goal.returns-in-Some-clause-value
returns-in-Some-clause-value g c = number_read g.S.Source.left g.S.Source.faults c.in-Some.x c.args.w.now c.take_number.new.self c.args.source.now c.in-Some.ensures.some

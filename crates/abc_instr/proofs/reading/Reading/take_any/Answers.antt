use Rattle.std.proofs.Common.{rules, arith}
use Rattle.abc_instr.proofs.reading.Reading.take_any.Goals as goal

pub returns-clause-value : goal.returns-clause-value
returns-clause-value g c = record {
  instr = c.in_ok-instr.instr;
  moves = search rules;
  passes = search rules;
  room = omega (arith, c.place-next.ensures.is, c.place-next.ensures.bound);
  raw = search rules;
  takes = c.in_ok-keep.ensures;
  says_so = search rules;
}

use Rattle.std.proofs.Common.{arith}
use Rattle.abc_instr.proofs.Adding.{adds_at}
use Rattle.abc_instr.proofs.scan.Scan.pass_any.Goals as goal

pub returns-clause-value : goal.returns-clause-value
returns-clause-value g c =
    let read = c.in_ok-instr.ensures in
    record {
      instr = c.in_ok-instr.instr;
      moves = read.moves;
      passes = read.passes;
      room = omega (arith, c.place-2.ensures.is, c.place-2.ensures.bound);
      raw = read.raw;
      adds = adds_at c.in_ok-instr.instr _ _ _ _ _ _ (omega (arith, c.place.ensures.is, c.place-2.ensures.is, c.requires.first, read.moves)) (omega (arith, c.place.ensures.is)) c.in_ok-put.ensures;
      says_so = read.value;
    }

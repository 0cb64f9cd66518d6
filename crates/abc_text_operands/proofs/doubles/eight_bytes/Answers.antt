-- One byte further.
use Rattle.std.proofs.Common.{ℕ, refl, arith}
use Rattle.std.proofs.Math.ListN.{length-set}
use Rattle.abc_text_lines.specs.Operands.{hex_bytes}
use Rattle.abc_text_operands.proofs.Hexing.{all_bytes, more_bytes, onto_nothing}
use Rattle.abc_text_operands.proofs.doubles.eight_bytes.Goals as goal

pub loop-i-init : goal.loop-i-init
loop-i-init c = record {
  many = refl;
  so_far = onto_nothing (hex_bytes c.args.word.now);
}

pub loop-i-preserved : goal.loop-i-preserved
loop-i-preserved c =
    let many = c.loop-i.invariant.many in
    record {
      many = omega (arith, length-set {A = ℕ}, many);
      so_far = more_bytes c.args.word.now c.loop-i.bytes c.loop-i.i c.in-Some.byte (omega (arith, many, c.loop-i-test.true)) c.in-Some.ensures c.loop-i.invariant.so_far;
    }

pub returns : goal.returns
returns c =
    all_bytes c.args.word.now c.loop-i.bytes c.loop-i.i c.if-word-ne16.false c.loop-i.invariant.many (omega arith) c.loop-i.invariant.so_far

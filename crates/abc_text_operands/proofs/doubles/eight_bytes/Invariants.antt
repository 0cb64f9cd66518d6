-- The bytes so far, and those of the digits that are left.
use Rattle.std.proofs.Common.{◌≡◌, ◌*◌, drop, length, take}
use Rattle.abc_text_lines.specs.Operands.{hex_bytes}
use Rattle.abc_text_operands.specs.Otherlines.{onto_hex}
use Rattle.abc_text_operands.proofs.doubles.eight_bytes.Given as goal

abbrev pub invariant-loop-i : goal.invariant-loop-i
invariant-loop-i l = record {
  many : length l.bytes ≡ 8;
  so_far : onto_hex (take l.i l.bytes) (hex_bytes (drop (2 * l.i) l.word)) ≡ hex_bytes l.word;
}

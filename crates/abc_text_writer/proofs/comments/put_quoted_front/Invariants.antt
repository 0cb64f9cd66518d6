use Rattle.std.proofs.Common.{◌≡◌, ◌≤◌, ◌+◌, ◌*◌, ◌++◌, codes, length, take}
use Rattle.std.specs.List.{flat_map}
use Rattle.abc_base.specs.Escapes.{escape_of}
use Rattle.abc_text_writer.proofs.comments.put_quoted_front.Given as goal

abbrev pub invariant-loop-byte : goal.invariant-loop-byte
invariant-loop-byte l = record {
  at : l.at ≤ 4 + 3 * l.byte-index;
  many : length l.piece ≡ 64;
  shown : take l.at l.piece ≡ codes " ; \"" ++ flat_map escape_of (take l.byte-index l.text);
}

use Rattle.std.proofs.Common.{◌≡◌, ◌≤◌, ◌++◌, length, take}
use Rattle.std.specs.List.{flat_map}
use Rattle.abc_base.specs.Escapes.{escape_of}
use Rattle.abc_text_writer.proofs.tokens.put_each_escaped.Given as goal

abbrev pub invariant-loop-byte : goal.invariant-loop-byte
invariant-loop-byte l = record {
  at : l.at ≤ 64;
  many : length l.piece ≡ 64;
  front : take (length l.initial.out.items) l.out.items ≡ l.initial.out.items;
  shown : l.out.items ++ take l.at l.piece ≡ l.initial.out.items ++ flat_map escape_of (take l.byte-index l.bytes);
}

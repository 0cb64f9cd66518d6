use Rattle.std.proofs.Common.{◌≡◌, take}
use Rattle.std.specs.List.{flat_map}
use Rattle.abc_base.specs.Escapes.{escape_of}
use Rattle.abc_text_writer.proofs.tokens.are_plain.Given as goal

abbrev pub invariant-loop-byte : goal.invariant-loop-byte
invariant-loop-byte l = flat_map escape_of (take l.byte-index l.bytes) ≡ take l.byte-index l.bytes

use Rattle.std.proofs.Common.{◌≡◌, ◌++◌, take}
use Rattle.abc_text_lines.specs.Listing.{listing_hex}
use Rattle.abc_text_writer.proofs.tokens.put_hex_bytes.Given as goal

abbrev pub invariant-loop-byte : goal.invariant-loop-byte
invariant-loop-byte l = l.out.items ≡ l.initial.out.items ++ listing_hex (take l.byte-index l.bytes)

-- How bytes are shown in a text (profile: docs/PROGRAM.md, "Words", and docs/ASSEMBLY.md).
use Rattle.std.specs.Prelude.{ℕ, ◌+◌, ◌/◌, ◌%◌, List, [], ◌∷◌, Bool, not, nat_eq, nat_le, nat_lt, ◌&&◌, if◌then◌else◌}
use Rattle.std.specs.List.{flat_map}

-- printable ASCII, but for `"` and `\`
abbrev pub is_plain_byte : ℕ → Bool
is_plain_byte byte = nat_le 0x20 byte && nat_le byte 0x7e && not (nat_eq byte 0x22) && not (nat_eq byte 0x5c)

-- `0` to `9` and `a` to `f`
abbrev pub hex_digit : ℕ → ℕ
hex_digit n = if nat_lt n 10 then 48 + n else 87 + n

-- a plain byte is itself, and another is `\` and its two hexadecimal digits
abbrev pub escape_of : ℕ → List ℕ
escape_of byte = if is_plain_byte byte then byte ∷ [] else 0x5c ∷ hex_digit (byte / 16) ∷ hex_digit (byte % 16) ∷ []

-- the bytes as a text shows them: each plain byte as it is, and every other one escaped
unfoldable pub with_escapes : List ℕ → List ℕ
with_escapes bytes = flat_map escape_of bytes

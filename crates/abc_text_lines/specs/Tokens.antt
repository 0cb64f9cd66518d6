-- The tokens of a line (profile: docs/ASSEMBLY.md, "Bytes, lines and tokens").
use Rattle.std.specs.Prelude.{◌≡◌, ℕ, ◌+◌, ◌-◌, ◌*◌, ◌⊎◌, Bool, true, false, ◌&&◌, ◌||◌, not, nat_eq, nat_le, List, [], ◌∷◌, ◌++◌, if◌then◌else◌}
use Rattle.std.specs.List.{AllByRecursion}

-- a run of bytes, or a quoted text by the bytes that it stands for
pub data Token : Type 0 where
  Bare : List ℕ → Token
  Quoted : List ℕ → Token

-- ---- bytes

-- space, tab and carriage return
abbrev pub is_blank : ℕ → Bool
is_blank byte = nat_eq byte 0x20 || nat_eq byte 0x09 || nat_eq byte 0x0d

abbrev pub semicolon : ℕ
semicolon = 0x3b

abbrev pub quote : ℕ
quote = 0x22

abbrev pub backslash : ℕ
backslash = 0x5c

-- what a run is made of
abbrev pub is_run_byte : ℕ → Bool
is_run_byte byte = not (is_blank byte) && not (nat_eq byte semicolon) && not (nat_eq byte quote)

-- `0` to `9`, `a` to `f` and `A` to `F`
abbrev pub is_hex : ℕ → Bool
is_hex byte = (nat_le 0x30 byte && nat_le byte 0x39) || (nat_le 0x61 byte && nat_le byte 0x66) || (nat_le 0x41 byte && nat_le byte 0x46)

abbrev pub hex_value : ℕ → ℕ
hex_value byte = if nat_le byte 0x39 then byte - 0x30 else (if nat_le byte 0x46 then byte - 0x37 else byte - 0x57)

-- the byte of two hexadecimal digits
abbrev pub hex_pair : ℕ → ℕ → ℕ
hex_pair high low = 16 * hex_value high + hex_value low

-- ---- quoted texts

-- Between two quotes a byte stands for itself, unless it is `"` or `\`, or is `\` and two hexadecimal digits.
abbrev pub IsQuoted : List ℕ → List ℕ → Type 0
IsQuoted bytes [] = bytes ≡ []
IsQuoted bytes (byte ∷ text) =
    ((rest : List ℕ) × (bytes ≡ byte ∷ rest) × (nat_eq byte quote ≡ false) × (nat_eq byte backslash ≡ false) × IsQuoted rest text)
    ⊎ ((high low : ℕ) × (rest : List ℕ) × (bytes ≡ backslash ∷ high ∷ low ∷ rest) × (is_hex high ≡ true) × (is_hex low ≡ true) × (byte ≡ hex_pair high low) × IsQuoted rest text)

-- Some front of the bytes is a quoted text that a quote ends.
abbrev pub IsQuoteClosed : List ℕ → Type 0
IsQuoteClosed bytes = (inner text rest : List ℕ) × (bytes ≡ inner ++ quote ∷ rest) × IsQuoted inner text

-- ---- lines

abbrev pub AreBlanks : List ℕ → Type 0
AreBlanks bytes = AllByRecursion (λ byte. is_blank byte ≡ true) bytes

-- the next byte, if there is one, can't go on a run
abbrev pub EndsRun : List ℕ → Type 0
EndsRun [] = Unit {0}
EndsRun (byte ∷ bytes) = is_run_byte byte ≡ false

-- What stands after the last token: nothing or a comment. Where the line is broken, it is a quote that isn't closed, or has an escape that is none before it is.
abbrev pub EndsLine : Bool → List ℕ → Type 0
EndsLine false bytes = (bytes ≡ []) ⊎ ((comment : List ℕ) × (bytes ≡ semicolon ∷ comment))
EndsLine true bytes = (others : List ℕ) × (bytes ≡ quote ∷ others) × ¬ IsQuoteClosed others

-- a longest run of bytes other than blanks, quotes and semicolons
pub record IsRun (word rest : List ℕ) : Type 0 where
  pub some : ¬ (word ≡ [])
  pub bytes : AllByRecursion (λ byte. is_run_byte byte ≡ true) word
  pub longest : EndsRun rest

-- The line has these tokens, with blanks before each and after the last, and is broken after them or not.
abbrev pub HasTokens : Bool → List ℕ → List Token → Type 0
HasTokens broken bytes [] = (blanks rest : List ℕ) × (bytes ≡ blanks ++ rest) × AreBlanks blanks × EndsLine broken rest
HasTokens broken bytes (Bare word ∷ tokens) = (blanks rest : List ℕ) × (bytes ≡ blanks ++ (word ++ rest)) × AreBlanks blanks × IsRun word rest × HasTokens broken rest tokens
HasTokens broken bytes (Quoted text ∷ tokens) =
    (blanks inner rest : List ℕ) × (bytes ≡ blanks ++ quote ∷ (inner ++ quote ∷ rest)) × AreBlanks blanks × IsQuoted inner text × HasTokens broken rest tokens

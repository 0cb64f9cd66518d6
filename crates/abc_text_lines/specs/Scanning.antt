-- The tokens of a line, as one walk over its bytes finds them (profile: docs/ASSEMBLY.md, "Bytes, lines and tokens").
use Rattle.std.specs.Prelude.{ℕ, Bool, true, false, nat_eq, List, [], ◌∷◌, ◌++◌, if◌then◌else◌}
use Rattle.abc_text_lines.specs.Tokens.{Token, Bare, Quoted, backslash, hex_pair, is_blank, is_hex, quote, semicolon}

-- where in a line a byte stands: between tokens, in a run or a quoted text that began so, or in an escape of one, after its `\` or its first digit
pub data Within : Type 0 where
  Between : Within
  InRun : List ℕ → Within
  InQuote : List ℕ → Within
  Escape : List ℕ → Within
  EscapeLow : List ℕ → ℕ → Within

-- the tokens, and whether the line is broken after them
pub record Scan : Type 0 where
  pub tokens : List Token
  pub broken : Bool

-- some tokens, after which the line is broken or not
abbrev pub scan_of : Bool → List Token → Scan
scan_of broken tokens = record { tokens = tokens; broken = broken }

abbrev pub also : Token → Scan → Scan
also token rest = scan_of rest.broken (token ∷ rest.tokens)

-- what the bytes that are left of a line give, of which the first stands within this: tokens, and whether the line is broken after them
unfoldable pub scan : List ℕ → Within → Scan
scan [] Between = scan_of false []
scan [] (InRun word) = scan_of false (Bare word ∷ [])
scan [] (InQuote text) = scan_of true []
scan [] (Escape text) = scan_of true []
scan [] (EscapeLow text high) = scan_of true []
scan (byte ∷ bytes) Between = if is_blank byte then scan bytes Between else (if nat_eq byte semicolon then scan_of false [] else (if nat_eq byte quote then scan bytes (InQuote []) else scan bytes (InRun (byte ∷ []))))
scan (byte ∷ bytes) (InRun word) = if is_blank byte then also (Bare word) (scan bytes Between) else (if nat_eq byte semicolon then scan_of false (Bare word ∷ []) else (if nat_eq byte quote then also (Bare word) (scan bytes (InQuote [])) else scan bytes (InRun (word ++ byte ∷ []))))
scan (byte ∷ bytes) (InQuote text) = if nat_eq byte quote then also (Quoted text) (scan bytes Between) else (if nat_eq byte backslash then scan bytes (Escape text) else scan bytes (InQuote (text ++ byte ∷ [])))
scan (byte ∷ bytes) (Escape text) = if is_hex byte then scan bytes (EscapeLow text byte) else scan_of true []
scan (byte ∷ bytes) (EscapeLow text high) = if is_hex byte then scan bytes (InQuote (text ++ hex_pair high byte ∷ [])) else scan_of true []

-- What a walk over the bytes of a line finds.
use Rattle.std.specs.Prelude.{◌≡◌, ℕ, ◌<◌, ◌+◌, Bool, true, false, ◌&&◌, nat_eq, List, [], ◌∷◌, ◌++◌, drop, take, length, map, Some, None, if◌then◌else◌}
use Rattle.std.specs.declared.option.Option.{Option}
use Rattle.abc_text_lines.specs.Tokens as text
use Rattle.abc_text_lines.specs.Tokens.{Bare, Quoted, IsQuoted, backslash, hex_pair, is_blank, is_hex, is_run_byte, quote}
use Rattle.abc_text_lines.specs.Scanning.{Between, InQuote, Scan, also, scan, scan_of}
use Rattle.abc_text_tokens.specs.declared.token.Token.{Token}
use Rattle.abc_text_tokens.specs.declared.token.Token.TheVariants as tokens
use Rattle.abc_text_tokens.specs.declared.token.Next.{Next}
use Rattle.abc_text_tokens.specs.declared.token.Next.TheVariants as nexts

-- no blank comes first
abbrev pub BeginsToken : List ℕ → Type 0
BeginsToken [] = Unit {0}
BeginsToken (byte ∷ bytes) = is_blank byte ≡ false

-- a byte of a run comes first
abbrev pub BeginsRun : List ℕ → Type 0
BeginsRun [] = ⊥
BeginsRun (byte ∷ bytes) = is_run_byte byte ≡ true

-- a `\` and two hexadecimal digits come first
abbrev pub begins_escape : List ℕ → Bool
begins_escape (byte ∷ high ∷ low ∷ rest) = nat_eq byte backslash && (is_hex high && is_hex low)
begins_escape _ = false

-- the text that is meant by the bytes between two quotes: a `\` and two hexadecimal digits are a byte, and every other byte is itself
unfoldable pub quoted_text : List ℕ → List ℕ
quoted_text [] = []
quoted_text (byte ∷ []) = byte ∷ []
quoted_text (byte ∷ high ∷ []) = byte ∷ high ∷ []
quoted_text (byte ∷ high ∷ low ∷ rest) = if nat_eq byte backslash && (is_hex high && is_hex low) then hex_pair high low ∷ quoted_text rest else byte ∷ quoted_text (high ∷ low ∷ rest)

-- a token of the code, as the definitions have it: a quoted text by what its bytes mean
abbrev pub token_as_text : Token → text.Token
token_as_text (tokens.Bare run) = Bare run.now
token_as_text (tokens.Quoted quoted) = Quoted (quoted_text quoted.now)

-- the same of some tokens
abbrev pub tokens_of : List Token → List text.Token
tokens_of ts = map token_as_text ts

-- A quoted text ends after so many bytes, or isn't closed.
abbrev pub Closes : List ℕ → Option ℕ → Type 0
Closes bytes (Some count) = (count < length bytes) × (scan bytes (InQuote []) ≡ also (Quoted (quoted_text (take count bytes))) (scan (drop (count + 1) bytes) Between))
Closes bytes None = scan bytes (InQuote []) ≡ scan_of true []

-- The line goes on with a token and what stands behind it, or has no more, and is broken or not.
abbrev pub FindsToken : List ℕ → Next → Type 0
FindsToken bytes (nexts.Bare run rest) = (length rest.now < length bytes) × (scan bytes Between ≡ also (Bare run.now) (scan rest.now Between))
FindsToken bytes (nexts.Quoted quoted rest) = (length rest.now < length bytes) × (scan bytes Between ≡ also (Quoted (quoted_text quoted.now)) (scan rest.now Between))
FindsToken bytes nexts.End = scan bytes Between ≡ scan_of false []
FindsToken bytes nexts.Broken = scan bytes Between ≡ scan_of true []

-- These are the tokens of the line, which is broken after them or not.
abbrev pub GathersTokens : List ℕ → List Token → Bool → Type 0
GathersTokens line ts broken = scan line Between ≡ scan_of broken (tokens_of ts)

-- tokens before others of the line
abbrev pub tokens_before : List text.Token → Scan → Scan
tokens_before front rest = scan_of rest.broken (front ++ rest.tokens)

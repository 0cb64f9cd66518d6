-- How tokens are written (profile: docs/ASSEMBLY.md, "The text that `dis` writes").
use Rattle.std.specs.Prelude.{◌≡◌, ℕ, ◌<◌, ◌⊎◌, true, List, [], ◌∷◌, ◌++◌}
use Rattle.std.specs.List.{AllByRecursion}
use Rattle.abc_base.specs.Escapes.{with_escapes}
use Rattle.abc_text_lines.specs.Tokens.{Token, Bare, Quoted, is_run_byte, quote, semicolon}

-- a run as it is, and a quoted text with every byte escaped that error lines escape
abbrev pub token_bytes : Token → List ℕ
token_bytes (Bare word) = word
token_bytes (Quoted text) = quote ∷ (with_escapes text ++ quote ∷ [])

-- each token behind a space
abbrev pub spaced_tokens : List Token → List ℕ
spaced_tokens [] = []
spaced_tokens (token ∷ tokens) = 0x20 ∷ (token_bytes token ++ spaced_tokens tokens)

-- one space between tokens
abbrev pub written_line : List Token → List ℕ
written_line [] = []
written_line (token ∷ tokens) = token_bytes token ++ spaced_tokens tokens

abbrev pub IsWritable : Token → Type 0
IsWritable (Bare []) = ⊥
IsWritable (Bare (byte ∷ bytes)) = AllByRecursion (λ b. is_run_byte b ≡ true) (byte ∷ bytes)
IsWritable (Quoted text) = AllByRecursion (λ b. b < 256) text

-- each token is one that a line can have: no bare word is empty or has a byte that words don't have, and quoted texts are bytes
abbrev pub AreWritable : List Token → Type 0
AreWritable tokens = AllByRecursion IsWritable tokens

-- nothing, or a space, `;` and anything
abbrev pub IsComment : List ℕ → Type 0
IsComment comment = (comment ≡ []) ⊎ ((text : List ℕ) × (comment ≡ 0x20 ∷ semicolon ∷ text))

-- The lines of a step log (profile: docs/PROGRAM.md, "Logs").
use Rattle.std.specs.Prelude.{ℕ, zero, suc, ◌/◌, ◌%◌, ◌^◌, ◌<◌, ◌≤◌, List, [], ◌∷◌, ◌++◌, codes, decimal}
use Rattle.std.specs.List.{flat_map}
use Rattle.abc_base.specs.Escapes.{with_escapes, hex_digit}
use Rattle.abc_heap_store.specs.declared.records.Limit.{Limit}
use Rattle.abc_heap_store.specs.declared.records.Limit.TheVariants as limits
use Rattle.abc_heap_store.specs.declared.records.Limits.{Limits}

-- a number behind a space
abbrev pub next_number : ℕ → List ℕ
next_number n = codes " " ++ decimal n

-- ---- the steps

-- the start of a script
unfoldable pub start_line : ℕ → List ℕ
start_line s = codes "start" ++ next_number s ++ 10 ∷ []

-- an instruction: its method, and its number in the body
unfoldable pub step_line : (method index : ℕ) → List ℕ
step_line m i = decimal m ++ next_number i ++ 10 ∷ []

-- two digits for each byte, in lower case
abbrev pub log_hex : ℕ → List ℕ
log_hex byte = hex_digit (byte / 16) ∷ hex_digit (byte % 16) ∷ []

-- what a step wrote; where it wrote nothing there is no line
abbrev pub out_line : List ℕ → List ℕ
out_line [] = []
out_line (b ∷ bs) = codes "out " ++ flat_map log_hex (b ∷ bs) ++ 10 ∷ []

-- ---- the end

-- the name of a limit
abbrev pub limit_name : Limit → List ℕ
limit_name limits.Objects = codes "Objects"
limit_name limits.Cells = codes "Cells"
limit_name limits.Text = codes "Text"
limit_name limits.Frames = codes "Frames"
limit_name limits.Stack = codes "Stack"

-- a word
unfoldable pub word_end : List ℕ → List ℕ
word_end word = codes "end " ++ word ++ 10 ∷ []

-- what was thrown, by a name, which is shown with escapes
unfoldable pub uncaught_end : List ℕ → List ℕ
uncaught_end name = codes "end Uncaught " ++ with_escapes name ++ 10 ∷ []

-- the name of what the profile leaves out
unfoldable pub profile_end : List ℕ → List ℕ
profile_end name = codes "end Profile " ++ name ++ 10 ∷ []

-- the end of a run that passed a limit
unfoldable pub limit_end : Limit → List ℕ
limit_end limit = codes "end Limit " ++ limit_name limit ++ 10 ∷ []

-- ---- what stands before the steps: the length of the file in eight digits, and, behind its bytes, the fuel and the limits

-- the last k digits of a number to the base of sixteen
unfoldable pub hex_digits : (k n : ℕ) → List ℕ
hex_digits zero n = []
hex_digits (suc k) n = hex_digits k (n / 16) ++ hex_digit (n % 16) ∷ []

-- the first line of a log: the length of the file
unfoldable pub head_line : ℕ → List ℕ
head_line n = hex_digits 8 n ++ 10 ∷ []

abbrev pub limit_numbers : (fuel : ℕ) → Limits → List ℕ
limit_numbers fuel m = fuel ∷ m.objects ∷ m.cells ∷ m.text ∷ m.frames ∷ m.stack ∷ []

unfoldable pub limits_text : (fuel : ℕ) → Limits → List ℕ
limits_text fuel m = codes "limits" ++ flat_map next_number (limit_numbers fuel m)

-- the line of the fuel and the limits
abbrev pub limits_line : (fuel : ℕ) → Limits → List ℕ
limits_line fuel m = limits_text fuel m ++ 10 ∷ []

-- the fuel and the limits that a line may say
pub record AreLimits (fuel : ℕ) (m : Limits) : Type 0 where
  pub steps : fuel < 2 ^ 32
  pub objects : m.objects ≤ 2 ^ 24
  pub cells : m.cells ≤ 2 ^ 24
  pub text : m.text ≤ 2 ^ 24
  pub frames : m.frames ≤ 2 ^ 24
  pub stack : m.stack ≤ 2 ^ 24

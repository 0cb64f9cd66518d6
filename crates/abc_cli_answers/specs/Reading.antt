-- How the words are read, from the first to the last.
use Rattle.std.specs.Prelude.{ℕ, ◌+◌, ◌==◌, ◌&&◌, Bool, true, nat_lt, nat_le, if◌then◌else◌, List, [], ◌∷◌, length, take, drop, slice_index, codes, Option, Some, None, is_none, unwrap_or, option_and_then, Ok, Err}
use Rattle.std.specs.List.{list_all}
use Rattle.std.specs.Option.{option_map}
use Rattle.std.specs.Str.{bytes_eq}
use Rattle.std.specs.declared.result.Result.{Result}
use Rattle.abc_cli_answers.specs.declared.command.Command.{Command}
use Rattle.abc_cli_answers.specs.declared.command.Command.TheVariants as commands
use Rattle.abc_cli_answers.specs.declared.command.RunOptions.{RunOptions}
use Rattle.abc_cli_answers.specs.declared.command.GenOptions.{GenOptions}
use Rattle.abc_cli_answers.specs.declared.command.CallsOptions.{CallsOptions}
use Rattle.abc_cli_answers.specs.declared.command.Usage.{Usage}
use Rattle.abc_cli_answers.specs.declared.command.Usage.TheVariants as usages
use Rattle.abc_cli_answers.specs.declared.given.GivenRun.{GivenRun}
use Rattle.abc_cli_answers.specs.declared.given.GivenGen.{GivenGen}
use Rattle.abc_cli_answers.specs.declared.given.GivenCalls.{GivenCalls}
use Rattle.abc_cli_answers.specs.declared.given.GivenNone.{GivenNone}
use Rattle.abc_cli_answers.specs.Commands.{CommandOption, fuel, objects_option, cells, text_option, frames, stack, seed, methods, times_option}
use Rattle.abc_cli_answers.specs.Grammar.{decimal}

abbrev pub is_option_digit : ℕ → Bool
is_option_digit byte = nat_le 48 byte && nat_le byte 57

abbrev pub is_option_number : List ℕ → Bool
is_option_number digits = list_all is_option_digit digits && (nat_lt 0 (length digits) && (nat_le (length digits) 10 && (if slice_index digits 0 == 48 then length digits == 1 else true)))

-- the value, where the test passed
abbrev pub some_if : {A : Type 0} → Bool → A → Option A
some_if test x = if test then Some x else None

-- what stands before the first `=` and after it
abbrev pub cut_at_equals : List ℕ → Option (List ℕ × List ℕ)
cut_at_equals [] = None
cut_at_equals (byte ∷ bytes) = if byte == 61 then Some ([], bytes) else option_map (λ p. (byte ∷ p.0, p.1)) (cut_at_equals bytes)

abbrev pub with_number : List ℕ × List ℕ → Option (List ℕ × ℕ)
with_number p = some_if (is_option_number p.1) (p.0, decimal p.1)

-- the name and the number in a word that is `--name=N`
abbrev pub name_and_number : List ℕ → Option (List ℕ × ℕ)
name_and_number word =
    if bytes_eq (take 2 word) (codes "--") then option_and_then with_number (cut_at_equals (drop 2 word)) else None

-- an option that was not given yet, and a number in its range
abbrev pub can_take : CommandOption → Option ℕ → ℕ → Bool
can_take option given number = is_none given && (nat_le option.least number && nat_le number option.greatest)

-- the options once an option of that name is given that number
abbrev pub run_with : GivenRun → List ℕ → ℕ → Option GivenRun
run_with g name n =
    if bytes_eq name fuel.name then some_if (can_take fuel g.fuel n) (record g { fuel = Some n }) else (
    if bytes_eq name objects_option.name then some_if (can_take objects_option g.objects n) (record g { objects = Some n }) else (
    if bytes_eq name cells.name then some_if (can_take cells g.cells n) (record g { cells = Some n }) else (
    if bytes_eq name text_option.name then some_if (can_take text_option g.text n) (record g { text = Some n }) else (
    if bytes_eq name frames.name then some_if (can_take frames g.frames n) (record g { frames = Some n }) else (
    if bytes_eq name stack.name then some_if (can_take stack g.stack n) (record g { stack = Some n }) else None)))))

abbrev pub gen_with : GivenGen → List ℕ → ℕ → Option GivenGen
gen_with g name n =
    if bytes_eq name seed.name then some_if (can_take seed g.seed n) (record g { seed = Some n }) else (
    if bytes_eq name methods.name then some_if (can_take methods g.methods n) (record g { methods = Some n }) else None)

abbrev pub calls_with : GivenCalls → List ℕ → ℕ → Option GivenCalls
calls_with g name n =
    if bytes_eq name times_option.name then some_if (can_take times_option g.times n) (record g { times = Some n }) else
    option_map (λ run. record g { run = run }) (run_with g.run name n)

abbrev pub none_with : GivenNone → List ℕ → ℕ → Option GivenNone
none_with g name n = None

-- no option of the commands run and log was given yet
abbrev pub run_start : GivenRun
run_start = record { fuel = None; objects = None; cells = None; text = None; frames = None; stack = None }

-- no option of the command gen was given yet
abbrev pub gen_start : GivenGen
gen_start = record { seed = None; methods = None }

-- no option of the command calls was given yet
abbrev pub calls_start : GivenCalls
calls_start = record { run = run_start; times = None }

-- the number of an option, or its default
abbrev pub option_number : CommandOption → Option ℕ → ℕ
option_number option given = unwrap_or given option.default

-- the options of the commands run and log: those that were given, and else the defaults
abbrev pub run_options_of : GivenRun → RunOptions
run_options_of g = record { fuel = option_number fuel g.fuel; objects = option_number objects_option g.objects; cells = option_number cells g.cells; text = option_number text_option g.text; frames = option_number frames g.frames; stack = option_number stack g.stack }

-- the options of the command gen: those that were given, and else the defaults
abbrev pub gen_options_of : GivenGen → GenOptions
gen_options_of g = record { seed = option_number seed g.seed; methods = option_number methods g.methods }

-- the options of the command calls: those that were given, and else the defaults
abbrev pub calls_options_of : GivenCalls → CallsOptions
calls_options_of g = record { run = run_options_of g.run; times = option_number times_option g.times }

-- the options once the word was read
abbrev pub after_word : {G : Type 0} → (G → List ℕ → ℕ → Option G) → G → List ℕ → Option G
after_word with g word = option_and_then (λ p. with g p.0 p.1) (name_and_number word)

abbrev pub go_on : {G H : Type 0} → ℕ → Option G → (G → Result H Usage) → Result H Usage
go_on i None f = Err (usages.Word i)
go_on i (Some g) f = f g

-- the options once the words from position i on were read
abbrev pub after_words : {G : Type 0} → (G → List ℕ → ℕ → Option G) → G → ℕ → List (List ℕ) → Result G Usage
after_words with g i [] = Ok g
after_words with g i (word ∷ words) = go_on i (after_word with g word) (λ h. after_words with h (i + 1) words)

abbrev pub as_command : {G : Type 0} → (G → Command) → Result G Usage → Result Command Usage
as_command f (Ok g) = Ok (f g)
as_command f (Err u) = Err u

-- the command that the words after the command's word make of it
abbrev pub plain_command : Command → List (List ℕ) → Result Command Usage
plain_command command words = as_command (λ _. command) (after_words none_with (record {}) 1 words)

abbrev pub command_of : List (List ℕ) → Result Command Usage
command_of [] = Err usages.NoCommand
command_of (word ∷ words) =
    if bytes_eq word (codes "canon") then plain_command commands.Canon words else (
    if bytes_eq word (codes "dis") then plain_command commands.Dis words else (
    if bytes_eq word (codes "asm") then plain_command commands.Asm words else (
    if bytes_eq word (codes "check") then plain_command commands.Check words else (
    if bytes_eq word (codes "tidy") then plain_command commands.Tidy words else (
    if bytes_eq word (codes "replay") then plain_command commands.Replay words else (
    if bytes_eq word (codes "run") then as_command (λ g. commands.Run (run_options_of g)) (after_words run_with run_start 1 words) else (
    if bytes_eq word (codes "log") then as_command (λ g. commands.Log (run_options_of g)) (after_words run_with run_start 1 words) else (
    if bytes_eq word (codes "gen") then as_command (λ g. commands.Gen (gen_options_of g)) (after_words gen_with gen_start 1 words) else (
    if bytes_eq word (codes "calls") then as_command (λ g. commands.Calls (calls_options_of g)) (after_words calls_with calls_start 1 words) else
    Err (usages.Word 0))))))))))

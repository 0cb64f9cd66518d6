-- The commands and their options (profile: docs/PROGRAM.md, "Words").
use Rattle.std.specs.Prelude.{ℕ, List, [], ◌∷◌, codes}
use Rattle.abc_cli_answers.specs.declared.command.Command.{Command}
use Rattle.abc_cli_answers.specs.declared.command.Command.TheVariants as commands
use Rattle.abc_cli_answers.specs.declared.command.RunOptions.{RunOptions}

-- an option: its name, the least number and the greatest that it takes, and the number that stands where it is not given
pub record CommandOption : Type 0 where
  pub name : List ℕ
  pub least : ℕ
  pub greatest : ℕ
  pub default : ℕ

abbrev pub fuel : CommandOption
fuel = record { name = codes "fuel"; least = 0; greatest = 4294967295; default = 10000000 }

abbrev pub objects_option : CommandOption
objects_option = record { name = codes "objects"; least = 0; greatest = 16777216; default = 100000 }

abbrev pub cells : CommandOption
cells = record { name = codes "cells"; least = 0; greatest = 16777216; default = 1000000 }

abbrev pub text_option : CommandOption
text_option = record { name = codes "text"; least = 0; greatest = 16777216; default = 4000000 }

abbrev pub frames : CommandOption
frames = record { name = codes "frames"; least = 0; greatest = 16777216; default = 1000 }

abbrev pub stack : CommandOption
stack = record { name = codes "stack"; least = 0; greatest = 16777216; default = 100000 }

abbrev pub seed : CommandOption
seed = record { name = codes "seed"; least = 0; greatest = 4294967295; default = 1 }

abbrev pub methods : CommandOption
methods = record { name = codes "methods"; least = 1; greatest = 10000; default = 100 }

abbrev pub times_option : CommandOption
times_option = record { name = codes "times"; least = 0; greatest = 10000; default = 1 }

-- an option with its number
pub record OptionSetting : Type 0 where
  pub option : CommandOption
  pub number : ℕ

abbrev pub option_setting : CommandOption → ℕ → OptionSetting
option_setting option number = record { option = option; number = number }

-- the word of a command
abbrev pub word_of : Command → List ℕ
word_of commands.Canon = codes "canon"
word_of commands.Dis = codes "dis"
word_of commands.Asm = codes "asm"
word_of commands.Check = codes "check"
word_of commands.Tidy = codes "tidy"
word_of (commands.Run _) = codes "run"
word_of (commands.Gen _) = codes "gen"
word_of (commands.Calls _) = codes "calls"
word_of (commands.Log _) = codes "log"
word_of commands.Replay = codes "replay"

abbrev pub run_settings : RunOptions → List OptionSetting
run_settings o = option_setting fuel o.fuel ∷ option_setting objects_option o.objects ∷ option_setting cells o.cells ∷ option_setting text_option o.text ∷ option_setting frames o.frames ∷ option_setting stack o.stack ∷ []

-- the options of a command, each with its number
abbrev pub settings_of : Command → List OptionSetting
settings_of commands.Canon = []
settings_of commands.Dis = []
settings_of commands.Asm = []
settings_of commands.Check = []
settings_of commands.Tidy = []
settings_of (commands.Run o) = run_settings o
settings_of (commands.Gen o) = option_setting seed o.seed ∷ option_setting methods o.methods ∷ []
settings_of (commands.Calls o) = option_setting times_option o.times ∷ run_settings o.run
settings_of (commands.Log o) = run_settings o
settings_of commands.Replay = []

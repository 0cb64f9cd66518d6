-- Which words are a command line, and what it says (profile: docs/PROGRAM.md, "Words").
use Rattle.std.specs.Prelude.{◌≡◌, ℕ, ◌+◌, ◌-◌, ◌*◌, ◌^◌, ◌<◌, ◌≤◌, List, [], ◌∷◌, ◌++◌, length, take, slice_index, codes, All}
use Rattle.abc_cli_answers.specs.declared.command.Command.{Command}
use Rattle.abc_cli_answers.specs.Commands.{OptionSetting, word_of, settings_of}

-- `0` to `9`
abbrev pub IsDigit : ℕ → Type 0
IsDigit byte = (48 ≤ byte) × (byte ≤ 57)

-- one to ten decimal digits, of which the first is `0` only where it is the only one
pub record IsNumeral (digits : List ℕ) : Type 0 where
  pub digit : All IsDigit digits
  pub some : 0 < length digits
  pub few : length digits ≤ 10
  pub no_leading_zero : slice_index digits 0 ≡ 48 → length digits ≡ 1

-- the number that decimal digits stand for: the sum of each digit times its power of ten
abbrev pub decimal : List ℕ → ℕ
decimal [] = 0
decimal (digit ∷ digits) = (digit - 48) * 10 ^ length digits + decimal digits

-- the word `--name=N` for an option's name and its number, which is in its range
pub record GivesNumber (word : List ℕ) (setting : OptionSetting) : Type 0 where
  pub digits : List ℕ
  pub parts : word ≡ codes "--" ++ setting.option.name ++ codes "=" ++ digits
  pub decimal_number : IsNumeral digits
  pub value : setting.number ≡ decimal digits
  pub least : setting.option.least ≤ setting.number
  pub greatest : setting.number ≤ setting.option.greatest

-- the word gives one of the settings, and the others are left
pub data GivesOne : List ℕ → List OptionSetting → List OptionSetting → Type 0 where
  first : {word : List ℕ} {setting : OptionSetting} {others : List OptionSetting} → GivesNumber word setting → GivesOne word (setting ∷ others) others
  later : {word : List ℕ} {setting : OptionSetting} {others left : List OptionSetting} → GivesOne word others left → GivesOne word (setting ∷ others) (setting ∷ left)

abbrev pub IsDefault : OptionSetting → Type 0
IsDefault setting = setting.number ≡ setting.option.default

-- the words give the settings, in any order: each word gives one that no word before it gave, and those that no word gives are the defaults
pub data GiveAll : List (List ℕ) → List OptionSetting → Type 0 where
  none : {settings : List OptionSetting} → All IsDefault settings → GiveAll [] settings
  word : {word : List ℕ} {words : List (List ℕ)} {settings left : List OptionSetting} → GivesOne word settings left → GiveAll words left → GiveAll (word ∷ words) settings

-- the words say a command: its word, and then options of it
pub record Says (words : List (List ℕ)) (command : Command) : Type 0 where
  pub options : List (List ℕ)
  pub parts : words ≡ word_of command ∷ options
  pub settings : GiveAll options (settings_of command)

-- the words are a command line
abbrev pub IsWellFormed : List (List ℕ) → Type 0
IsWellFormed words = (command : Command) × Says words command

-- some command line begins with the words
abbrev pub CanBeginWords : List (List ℕ) → Type 0
CanBeginWords words = (more : List (List ℕ)) × IsWellFormed (words ++ more)

-- the first word at which the words so far do not begin a command line
pub record IsUsageWord (words : List (List ℕ)) (i : ℕ) : Type 0 where
  pub before : CanBeginWords (take i words)
  pub stops : ¬ CanBeginWords (take (i + 1) words)

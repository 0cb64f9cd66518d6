-- How two answers to the same words, formulas and input may differ.
use Rattle.std.specs.Prelude.{◌≡◌, ◌⊎◌, ℕ, List, Some}
use Rattle.abc_base.specs.Hosts.{AreFormulas}
use Rattle.abc_base.specs.declared.formula.Formula.{Formula}
use Rattle.abc_base.specs.declared.status.Status.TheVariants as status
use Rattle.abc_file_types.specs.Files.{IsFileRead, file_bytes}
use Rattle.abc_link_layouts.specs.Numbering.{HasLayoutNumbers}
use Rattle.abc_link_names.specs.Linked.{IsLinkedFile, LinkedFile}
use Rattle.abc_replay.specs.Replays.{HasLogParts}
use Rattle.abc_verify.specs.FileRefusing.{offset_in}
use Rattle.abc_verify.specs.VerifyRefusing.{IsFirstUntyped}
use Rattle.abc_verify_typing.specs.declared.rule.VerifyRule.{VerifyRule}
use Rattle.abc_cli_answers.specs.Answers.{Answer, line_answer}
use Rattle.abc_cli_answers.specs.Generated.{generated_file}
use Rattle.abc_cli_answers.specs.Grammar.{Says}
use Rattle.abc_cli_answers.specs.Lines.{untyped_text}
use Rattle.abc_cli_answers.specs.declared.command.Command.{Command}
use Rattle.abc_cli_answers.specs.declared.command.Command.TheVariants as commands
use Rattle.abc_cli.specs.Outcome.{IsOutcome}

-- The answer names a method, the first of a file without a typing, with an instruction and a rule that refute each.
pub record NamesMethod (l : LinkedFile) (starts : List (List ℕ)) (method body : ℕ) (a : Answer) : Type 0 where
  pub place : ℕ
  pub rule : VerifyRule
  pub refuted : IsFirstUntyped l method body place rule
  pub is : a ≡ line_answer status.Refused (untyped_text method (offset_in starts body place) rule)

-- Two answers name one method of the file that the bytes spell.
pub record NameOneMethod (file : List ℕ) (a b : Answer) : Type 0 where
  pub linked : LinkedFile
  pub starts : List (List ℕ)
  pub read : IsFileRead (linked.file, starts) file
  pub is_linked : IsLinkedFile linked
  pub numbered : HasLayoutNumbers linked
  pub method : ℕ
  pub body : ℕ
  pub first : NamesMethod linked starts method body a
  pub second : NamesMethod linked starts method body b

-- Two answers on a file are equal, but for the place and the rule that refute one method.
abbrev pub AreAlikeAnswers : (file : List ℕ) → Answer → Answer → Type 0
AreAlikeAnswers file a b = (a ≡ b) ⊎ NameOneMethod file a b

-- the bytes of the file that a command verifies
abbrev pub Verifies : Command → (input file : List ℕ) → Type 0
Verifies commands.Canon input file = ⊥
Verifies commands.Dis input file = ⊥
Verifies commands.Asm input file = ⊥
Verifies commands.Check input file = file ≡ input
Verifies commands.Tidy input file = ⊥
Verifies (commands.Run options) input file = file ≡ input
Verifies (commands.Gen options) input file = file ≡ file_bytes (generated_file options.seed options.methods)
Verifies (commands.Calls options) input file = file ≡ input
Verifies (commands.Log options) input file = file ≡ input
Verifies commands.Replay input file = (rest : List ℕ) × HasLogParts input file rest

-- A command that verifies a file was answered twice, by one method of it.
pub record NameOneMethodOf (words : List (List ℕ)) (input : List ℕ) (a b : Answer) : Type 0 where
  pub command : Command
  pub says : Says words command
  pub file : List ℕ
  pub verifies : Verifies command input file
  pub named : NameOneMethod file a b

-- Words, formulas and an input have one outcome, but for the place and the rule that refute one method.
abbrev pub IsOneOutcome : Type 0
IsOneOutcome = (words : List (List ℕ)) (formulas : List Formula) (input : List ℕ) (a b : Answer) → IsOutcome words formulas (Some input) a → IsOutcome words formulas (Some input) b → (a ≡ b) ⊎ NameOneMethodOf words input a b

-- Words, formulas that a host may have, and an input have an outcome: it can't be that there is none.
abbrev pub IsSomeOutcome : Type 0
IsSomeOutcome = (words : List (List ℕ)) (formulas : List Formula) (input : List ℕ) → AreFormulas formulas → ((a : Answer) → ¬ IsOutcome words formulas (Some input) a) → ⊥

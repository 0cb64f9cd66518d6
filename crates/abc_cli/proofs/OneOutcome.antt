-- Words, formulas and an input have one outcome, but for the place and the rule that refute one method.
use Rattle.std.proofs.Common.{◌≡◌, ◌⊎◌, inl, inr, ℕ, List, [], get_or, Some, refl, sym, ap, subst, ◌∙◌, arith}
use Rattle.abc_base.specs.declared.formula.Formula.{Formula}
use Rattle.abc_base.specs.declared.status.Status.TheVariants as status
use Rattle.abc_file_types.specs.Files.{file_bytes}
use Rattle.abc_file_types.specs.declared.tables.Abc.{Abc}
use Rattle.abc_text_lines.specs.Rows.{Fault}
use Rattle.abc_text_lines.proofs.Answering.{text_decided}
use Rattle.abc_tidy.proofs.Deciding.{has_one}
use Rattle.abc_cli_answers.specs.Answers.{Answer, bytes_answer, line_answer}
use Rattle.abc_cli_answers.specs.Generated.{generated_file}
use Rattle.abc_cli_answers.specs.Grammar.{Says}
use Rattle.abc_cli_answers.specs.Lines.{fault_text, tidy_text, usage_text}
use Rattle.abc_cli_answers.specs.declared.command.Command.{Command}
use Rattle.abc_cli_answers.specs.declared.command.Command.TheVariants as commands
use Rattle.abc_cli_answers.proofs.Verdicts.{none_has_no_usage_word, none_says_nothing, not_both, one_command, one_usage_word}
use Rattle.abc_cli.specs.Answered.{AreAlikeAnswers, IsOneOutcome, NameOneMethod, NameOneMethodOf, Verifies}
use Rattle.abc_cli.specs.Calls.{Calls}
use Rattle.abc_cli.specs.Logs.{Log}
use Rattle.abc_cli.specs.Outcome.{Asm, Canon, Check, Dis, IsOutcome, OutcomeOf, Tidy, UsageOutcome}
use Rattle.abc_cli.specs.Runs.{RunOfFile}
use Rattle.abc_cli.proofs.OneFile.{one_of_file, one_of_read}
use Rattle.abc_cli.proofs.OneReplay.{one_replay}
use Rattle.abc_cli.proofs.OneRun.{one_calls, one_check, one_gen, one_log, one_run}

-- ---- commands

one_asm : (text : List ℕ) (a b : Answer) → Asm text a → Asm text b → a ≡ b
one_asm text a b (Asm.assembled v le is x) (Asm.assembled w le2 is2 y) = x ∙ ap (λ (u : Abc). bytes_answer (file_bytes u)) ((text_decided text).one_value v w is is2) ∙ sym y
one_asm text a b (Asm.assembled v le is x) (Asm.refused f le2 fault y) = absurd ((text_decided text).never_both v f is fault)
one_asm text a b (Asm.assembled v le is x) (Asm.too_long lt y) = absurd (omega (arith, le, lt))
one_asm text a b (Asm.refused f le fault x) (Asm.assembled v le2 is y) = absurd ((text_decided text).never_both v f is fault)
one_asm text a b (Asm.refused f le fault x) (Asm.refused g le2 fault2 y) = x ∙ ap (λ (q : Fault). line_answer status.Refused (fault_text q)) ((text_decided text).one_fault f g fault fault2) ∙ sym y
one_asm text a b (Asm.refused f le fault x) (Asm.too_long lt y) = absurd (omega (arith, le, lt))
one_asm text a b (Asm.too_long lt x) (Asm.assembled v le is y) = absurd (omega (arith, le, lt))
one_asm text a b (Asm.too_long lt x) (Asm.refused f le fault y) = absurd (omega (arith, le, lt))
one_asm text a b (Asm.too_long lt x) (Asm.too_long lt2 y) = x ∙ sym y

one_tidy : (v : Abc) (a b : Answer) → Tidy v a → Tidy v b → a ≡ b
one_tidy v a b (Tidy.tidied t is x) (Tidy.tidied u is2 y) = x ∙ ap (λ (w : Abc). bytes_answer (file_bytes w)) ((has_one v).one_value t u is is2) ∙ sym y
one_tidy v a b (Tidy.tidied t is x) (Tidy.untidy rule i broken y) = absurd ((has_one v).never_both t rule i is broken)
one_tidy v a b (Tidy.untidy rule i broken x) (Tidy.tidied t is y) = absurd ((has_one v).never_both t rule i is broken)
one_tidy v a b (Tidy.untidy rule i broken x) (Tidy.untidy other j broken2 y) =
    let same = (has_one v).one_refusal rule other i j broken broken2 in
    x ∙ (λ k. line_answer status.Refused (tidy_text (same.0 k) (same.1 k))) ∙ sym y

-- two answers of a command are equal, or name one method of the file that it verifies
abbrev AreAlikeFor : Command → List ℕ → Answer → Answer → Type 0
AreAlikeFor c input a b = (a ≡ b) ⊎ ((file : List ℕ) × Verifies c input file × NameOneMethod file a b)

of_file : (c : Command) (input file : List ℕ) (a b : Answer) → Verifies c input file → AreAlikeAnswers file a b → AreAlikeFor c input a b
of_file c input file a b verifies (inl same) = inl same
of_file c input file a b verifies (inr named) = inr (file, verifies, named)

module _ (formulas : List Formula) (input : List ℕ) (a b : Answer) where
  one_answer : (c : Command) → OutcomeOf formulas c input a → OutcomeOf formulas c input b → AreAlikeFor c input a b
  one_answer commands.Canon x y = inl (one_of_file Canon (λ v c d p q. p ∙ sym q) input a b x y)
  one_answer commands.Dis x y = inl (one_of_file Dis (λ v c d p q. p ∙ sym q) input a b x y)
  one_answer commands.Asm x y = inl (one_asm input a b x y)
  one_answer commands.Check x y = of_file commands.Check input input a b refl (one_of_read Check input (λ v starts c d f. one_check input v starts c d f) a b x y)
  one_answer commands.Tidy x y = inl (one_of_file Tidy one_tidy input a b x y)
  one_answer (commands.Run o) x y = of_file (commands.Run o) input input a b refl (one_of_read (RunOfFile o formulas) input (λ v starts c d f. one_run o formulas input v starts c d f) a b x y)
  one_answer (commands.Gen o) x y = of_file (commands.Gen o) input (file_bytes (generated_file o.seed o.methods)) a b refl (one_gen o formulas a b x y)
  one_answer (commands.Calls o) x y = of_file (commands.Calls o) input input a b refl (one_of_read (Calls o formulas) input (λ v starts c d f. one_calls o formulas input v starts c d f) a b x y)
  one_answer (commands.Log o) x y = of_file (commands.Log o) input input a b refl (one_of_read (Log o formulas) input (λ v starts c d f. one_log o formulas input v starts c d f) a b x y)
  one_answer commands.Replay x y = one_replay formulas input a b x y

  -- ---- words

  one_usage : (words : List (List ℕ)) (c d : Answer) → UsageOutcome words c → UsageOutcome words d → c ≡ d
  one_usage words c d (UsageOutcome.no_command e) (UsageOutcome.no_command f) = refl
  one_usage words c d (UsageOutcome.no_command e) (UsageOutcome.word i h) = absurd (none_has_no_usage_word words i h e)
  one_usage words c d (UsageOutcome.word i h) (UsageOutcome.no_command e) = absurd (none_has_no_usage_word words i h e)
  one_usage words c d (UsageOutcome.word i h) (UsageOutcome.word j k) = ap (λ (n : ℕ). line_answer status.Usage (usage_text (get_or words n []))) (one_usage_word words i j h k)

  no_usage : (words : List (List ℕ)) (c : Answer) (command : Command) → UsageOutcome words c → Says words command → ⊥
  no_usage words c command (UsageOutcome.no_command e) says = none_says_nothing words e (command, says)
  no_usage words c command (UsageOutcome.word i h) says = not_both words i h (command, says)

  one_of_words : (words : List (List ℕ)) → IsOutcome words formulas (Some input) a → IsOutcome words formulas (Some input) b → (a ≡ b) ⊎ NameOneMethodOf words input a b
  one_of_words words (IsOutcome.usage x) (IsOutcome.usage y) = inl (one_usage words a b x y)
  one_of_words words (IsOutcome.usage x) (IsOutcome.command c says y) = absurd (no_usage words a c x says)
  one_of_words words (IsOutcome.command c says x) (IsOutcome.usage y) = absurd (no_usage words b c y says)
  one_of_words words (IsOutcome.command c says x) (IsOutcome.command d says2 y) = named (one_answer c x (subst (λ k. OutcomeOf formulas k input b) (one_command words d c says2 says) y))
    where
      named : AreAlikeFor c input a b → (a ≡ b) ⊎ NameOneMethodOf words input a b
      named (inl same) = inl same
      named (inr n) = inr (record { command = c; says = says; file = n.0; verifies = n.1; named = n.2 })

pub one_outcome : IsOneOutcome
one_outcome words formulas input a b x y = one_of_words formulas input a b words x y

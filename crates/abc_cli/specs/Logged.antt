-- What stands in `out` after a file was logged (profile: docs/THEOREMS.md, "The headline").
use Rattle.std.specs.Prelude.{◌≡◌, ℕ, List}
use Rattle.abc_base.specs.declared.formula.Formula.{Formula}
use Rattle.abc_heap_store.specs.declared.records.Limits.{Limits}
use Rattle.abc_meaning.specs.ThrowLaws.{IsVerifiedSetting}
use Rattle.abc_link_names.specs.Linked.{LinkedFile}
use Rattle.abc_link_layouts.specs.Numbering.{HasLayoutNumbers}
use Rattle.abc_replay.specs.Replays.{IsReplayed}
use Rattle.abc_cli_answers.specs.Answers.{Answer, bytes_answer}
use Rattle.abc_cli_answers.specs.End.{Channel, Got}
use Rattle.abc_cli.specs.Logs.{Replay, replayed_line, whole_log}

-- the sink got the log of a verified file
pub record GotLogOf (formulas : List Formula) (fuel : ℕ) (m : Limits) (out : Channel) : Type 0 where
  pub linked : LinkedFile
  pub verified : IsVerifiedSetting (record { linked = linked; formulas = formulas })
  pub numbered : HasLayoutNumbers linked
  pub got : Got out (whole_log (record { linked = linked; formulas = formulas }) m fuel)

-- A log: with a host of the same formulas, `replay` of it gives the number of its steps, and nothing else.
pub record IsAccepted (formulas : List Formula) (bytes : List ℕ) : Type 0 where
  pub steps : ℕ
  pub replayed : IsReplayed formulas bytes steps
  pub only : (a : Answer) → Replay formulas bytes a → a ≡ bytes_answer (replayed_line steps)

-- the sink got one
pub record GotLog (formulas : List Formula) (out : Channel) : Type 0 where
  pub bytes : List ℕ
  pub got : Got out bytes
  pub accepted : IsAccepted formulas bytes

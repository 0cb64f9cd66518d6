-- What `calls` is answered with: a run, and then calls of the function `tick`, each on what the one before left, and each value on a line
-- (profile: docs/PROGRAM.md, "Words" and "Statuses").
use Rattle.std.specs.Prelude.{◌≡◌, ℕ, List, codes, None, Some}
use Rattle.abc_base.specs.declared.formula.Formula.{Formula}
use Rattle.abc_base.specs.declared.status.Status.TheVariants as status
use Rattle.abc_verify.specs.Verified.{IsVerifiedOf}
use Rattle.abc_cli_answers.specs.Answers.{Answer, Unverified, line_answer}
use Rattle.abc_cli_answers.specs.Lines.{limit_text, no_export_text}
use Rattle.abc_cli.specs.Meant.{IsMeant, limits_of}
use Rattle.abc_heap_store.specs.declared.records.Limit.{Limit}
use Rattle.abc_meaning.specs.Meaning.{first_world, too_small}
use Rattle.abc_meaning.specs.Setting.{Setting}
use Rattle.abc_link_names.specs.Linked.{LinkedFile}
use Rattle.abc_file_types.specs.declared.tables.Abc.{Abc}
use Rattle.abc_meaning.specs.Exports.{export}
use Rattle.abc_session.specs.Ticks.{calls_meaning}
use Rattle.abc_cli_answers.specs.declared.command.CallsOptions.{CallsOptions}

-- `calls` of a verified file: a limit is too small to open it; or it doesn't export `tick`, which is told before anything runs; or it
-- runs, and its `tick` is called
pub data IsCalled (o : CallsOptions) (p : Setting) (starts : List (List ℕ)) (a : Answer) : Type 0 where
  unopened : (limit : Limit) → too_small (first_world p (limits_of o.run)).heap ≡ Some limit → a ≡ line_answer status.Limit (limit_text limit) → IsCalled o p starts a
  unexported : too_small (first_world p (limits_of o.run)).heap ≡ None → export p (codes "tick") ≡ None → a ≡ line_answer status.Refused no_export_text → IsCalled o p starts a
  ran : (method : ℕ) → too_small (first_world p (limits_of o.run)).heap ≡ None → export p (codes "tick") ≡ Some method → IsMeant p.linked.file starts (calls_meaning p (limits_of o.run) o.run.fuel o.times method) a → IsCalled o p starts a

-- `calls` of a file that was read so, with the formulas of a host: why it isn't verified, or else the above
pub data Calls (o : CallsOptions) (formulas : List Formula) (v : Abc) (starts : List (List ℕ)) (a : Answer) : Type 0 where
  unverified : Unverified v starts a → Calls o formulas v starts a
  verified : (l : LinkedFile) → IsVerifiedOf v l → IsCalled o (record { linked = l; formulas = formulas }) starts a → Calls o formulas v starts a

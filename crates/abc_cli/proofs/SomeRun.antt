-- A command that verifies the file of its input, or runs it, has an answer: it can't be that there is none.
use Rattle.std.proofs.Common.{◌≡◌, ◌⊎◌, inl, inr, ℕ, ◌≤◌, List, ◌++◌, Some, None, codes, length, refl, sym, ap, arith}
use Rattle.std.specs.declared.option.Option.{Option}
use Rattle.abc_base.specs.Hosts.{AreFormulas}
use Rattle.abc_base.specs.declared.formula.Formula.{Formula}
use Rattle.abc_base.specs.declared.status.Status.TheVariants as status
use Rattle.abc_file_types.specs.Files.{Fits, IsBadFile, IsFileRead, file_bytes}
use Rattle.abc_file_types.specs.Part.{Refusal}
use Rattle.abc_file_types.specs.declared.tables.Abc.{Abc}
use Rattle.abc_heap_store.specs.declared.records.Limit.{Limit}
use Rattle.abc_link_names.specs.Linked.{LinkedFile}
use Rattle.abc_meaning.specs.Exports.{IsScriptMethod, export}
use Rattle.abc_meaning.specs.Meaning.{Meaning, Ran, TooSmall, first_world, meaning, too_small}
use Rattle.abc_meaning.specs.Setting.{Setting}
use Rattle.abc_meaning.specs.ThrowLaws.{AreCounted, IsNeverStuck, IsVerifiedSetting}
use Rattle.abc_meaning.specs.Throwing.{Stuck}
use Rattle.abc_session.specs.Laws.{TicksCanBeTold}
use Rattle.abc_session.specs.Ticks.{calls_meaning}
use Rattle.abc_session.proofs.Found.{exported}
use Rattle.abc_verify.specs.Verified.{IsVerifiedOf}
use Rattle.abc_cli_answers.specs.Answers.{Answer, OfFileRead, bytes_answer, line_answer}
use Rattle.abc_cli_answers.specs.Generated.{generated_file}
use Rattle.abc_cli_answers.specs.Lines.{limit_text, no_export_text, refusal_text, unverified_text, verified_line}
use Rattle.abc_cli_answers.specs.Measured.{size_lines}
use Rattle.abc_cli_answers.specs.declared.command.CallsOptions.{CallsOptions}
use Rattle.abc_cli_answers.specs.declared.command.GenOptions.{GenOptions}
use Rattle.abc_cli_answers.specs.declared.command.RunOptions.{RunOptions}
use Rattle.abc_cli.specs.Calls.{Calls, IsCalled}
use Rattle.abc_cli.specs.Logs.{Log, whole_log}
use Rattle.abc_cli.specs.Meant.{IsMeant, limits_of}
use Rattle.abc_cli.specs.Outcome.{Check}
use Rattle.abc_cli.specs.Runs.{Gen, RunOfFile, default_options}
use Rattle.abc_cli.proofs.EndedRuns.{some_answer}
use Rattle.abc_cli.proofs.Logging.{some_logged}
use Rattle.abc_cli.proofs.OneFile.{file_of}
use Rattle.abc_cli.proofs.SomeVerified.{read_or_bad, some_verified}

-- ---- a meaning

some_meant : (v : Abc) (starts : List (List ℕ)) (m : Meaning) → ((wrote : List ℕ) → m ≡ Ran wrote Stuck → ⊥) → (a : Answer) × IsMeant v starts m a
some_meant v starts (TooSmall limit) free = (line_answer status.Limit (limit_text limit), refl)
some_meant v starts (Ran wrote end) free = let x = some_answer v starts wrote end (λ h. free wrote (ap (Ran wrote) h)) in (x.0, x.1)

abbrev setting_of : LinkedFile → List Formula → Setting
setting_of l formulas = record { linked = l; formulas = formulas }

pub setting_verified : (v : Abc) (l : LinkedFile) (formulas : List Formula) → IsVerifiedOf v l → AreFormulas formulas → IsVerifiedSetting (setting_of l formulas)
setting_verified v l formulas is host = record { fits = is.linked.fits; linked = is.linked; typed = is.typed; host = host }

-- ---- a file

pub some_of_read : (Answers : Abc → List (List ℕ) → Answer → Type 0) (input : List ℕ) → ((v : Abc) (starts : List (List ℕ)) → Fits v → ((a : Answer) → Answers v starts a → ⊥) → ⊥) → ((a : Answer) → OfFileRead Answers input a → ⊥) → ⊥
some_of_read Answers input some none = go (read_or_bad input)
  where
    go : ((v : Abc × List (List ℕ)) × IsFileRead v input) ⊎ ((r : Refusal) × IsBadFile input r) → ⊥
    go (inl x) = some x.0.0 x.0.1 (input, file_of x.0.0 x.0.1 input x.1) (λ a y. none a (OfFileRead.accepted x.0.0 x.0.1 x.1 y))
    go (inr x) = none (line_answer status.Refused (refusal_text x.0)) (OfFileRead.refused x.0 x.1 refl)

pub some_check : (v : Abc) (starts : List (List ℕ)) → Fits v → ((a : Answer) → Check v starts a → ⊥) → ⊥
some_check v starts fits none =
    some_verified v starts fits
    (λ l is. none (bytes_answer (verified_line (length v.bodies))) (Check.verified l is refl))
    (λ e is. none (line_answer status.Refused (unverified_text e)) (Check.unverified (e, is, refl)))

-- ---- a run

module _ (formulas : List Formula) (host : AreFormulas formulas) (never : IsNeverStuck) (v : Abc) (starts : List (List ℕ)) (fits : Fits v) where
  free : (l : LinkedFile) (o : RunOptions) → IsVerifiedOf v l → AreCounted (limits_of o) → (wrote : List ℕ) → meaning (setting_of l formulas) (limits_of o) o.fuel ≡ Ran wrote Stuck → ⊥
  free l o is counted wrote e = never (setting_of l formulas) (limits_of o) o.fuel wrote (setting_verified v l formulas is host) counted e

  pub some_run : (o : RunOptions) → AreCounted (limits_of o) → ((a : Answer) → RunOfFile o formulas v starts a → ⊥) → ⊥
  some_run o counted none =
      some_verified v starts fits
      (λ l is. let x = some_meant v starts (meaning (setting_of l formulas) (limits_of o) o.fuel) (free l o is counted) in none x.0 (RunOfFile.ran l is x.1))
      (λ e is. none (line_answer status.Refused (unverified_text e)) (RunOfFile.unverified (e, is, refl)))

  pub some_log : (o : RunOptions) → AreCounted (limits_of o) → ((a : Answer) → Log o formulas v starts a → ⊥) → ⊥
  some_log o counted none =
      some_verified v starts fits
      (λ l is.
      let p = setting_of l formulas in
      let x = some_logged v starts (whole_log p (limits_of o) o.fuel) (meaning p (limits_of o) o.fuel) (free l o is counted) in
      none x.0 (Log.logged l is x.1))
      (λ e is. none (line_answer status.Refused (unverified_text e)) (Log.unverified (e, is, refl)))

  module _ (ticks : TicksCanBeTold) (o : CallsOptions) (counted : AreCounted (limits_of o.run)) (few : o.times ≤ 10000) where
    called : (l : LinkedFile) → IsVerifiedOf v l → (small : Option Limit) → too_small (first_world (setting_of l formulas) (limits_of o.run)).heap ≡ small → (method : Option ℕ) → export (setting_of l formulas) (codes "tick") ≡ method
        → (a : Answer) × IsCalled o (setting_of l formulas) starts a
    called l is (Some limit) small method e = (line_answer status.Limit (limit_text limit), IsCalled.unopened limit small refl)
    called l is None small None e = (line_answer status.Refused no_export_text, IsCalled.unexported small e refl)
    called l is None small (Some method) e =
        let p = setting_of l formulas in
        let script : IsScriptMethod p method = exported p (codes "tick") (Some method) (sym e) in
        let run_told = ticks p (limits_of o.run) o.run.fuel o.times method (setting_verified v l formulas is host) counted small (omega (arith, few)) script in
        let x = some_meant l.file starts (calls_meaning p (limits_of o.run) o.run.fuel o.times method) run_told.unstuck in
        (x.0, IsCalled.ran method small e x.1)

    pub some_calls : ((a : Answer) → Calls o formulas v starts a → ⊥) → ⊥
    some_calls none =
        some_verified v starts fits
        (λ l is.
        let p = setting_of l formulas in
        let x = called l is (too_small (first_world p (limits_of o.run)).heap) refl (export p (codes "tick")) refl in
        none x.0 (Calls.verified l is x.1))
        (λ e is. none (line_answer status.Refused (unverified_text e)) (Calls.unverified (e, is, refl)))

-- ---- `gen`

default_counted : AreCounted (limits_of default_options)
default_counted = omega arith

pub some_gen : (o : GenOptions) (formulas : List Formula) → AreFormulas formulas → IsNeverStuck → ((a : Answer) → Gen o formulas a → ⊥) → ⊥
some_gen o formulas host never none =
    some_of_read (RunOfFile default_options formulas) (file_bytes (generated_file o.seed o.methods)) (λ v starts fits k. some_run formulas host never v starts fits default_options default_counted k)
    (λ b r. none b (Gen.not_done r (λ done. none (bytes_answer (b.out ++ size_lines (generated_file o.seed o.methods))) (Gen.done b r done refl))))

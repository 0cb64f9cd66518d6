-- What `run` is answered with.
use Rattle.std.proofs.Common.{◌≡◌, ◌≢◌, ℕ, List, [], Some, None, refl, sym, ap, subst, arith}
use Rattle.std.specs.declared.option.Option.{Option}
use Rattle.abc_base.specs.declared.formula.Formula.{Formula}
use Rattle.abc_base.specs.declared.status.Status.{Status}
use Rattle.abc_base.specs.declared.status.Status.TheVariants as status
use Rattle.abc_cli_answers.proofs.Ending.{line_ends, stopped_undone, stops_as}
use Rattle.abc_cli_answers.specs.Answers.{Answer, OfFileRead, On, Unverified, line_answer}
use Rattle.abc_cli_answers.specs.End.{Channel, Got, GivesLine, HasFailed, RunsTo}
use Rattle.abc_cli.specs.Endings.{open_answer}
use Rattle.abc_cli_answers.specs.Lines.{limit_text}
use Rattle.abc_cli.specs.Meant.{IsMeant, limits_of}
use Rattle.abc_cli.specs.Runs.{RunOfFile}
use Rattle.abc_cli_answers.specs.Stops.{Stops, stop_answer}
use Rattle.abc_cli_answers.specs.declared.stop.Stop.{Stop}
use Rattle.abc_file.specs.Reading.{OfInput}
use Rattle.abc_heap_store.specs.declared.records.Limit.{Limit}
use Rattle.abc_heap_store.specs.declared.records.Limits.{Limits}
use Rattle.abc_meaning.specs.Meaning.{Meaning, TooSmall, first_world, meaning, too_small}
use Rattle.abc_meaning.specs.Setting.{Setting}
use Rattle.abc_objects.specs.declared.error.OpenError.{OpenError}
use Rattle.abc_objects.specs.declared.error.OpenError.TheVariants as errors
use Rattle.abc_link_names.specs.Linked.{LinkedFile}
use Rattle.abc_file_types.specs.declared.tables.Abc.{Abc}
use Rattle.abc_machine.specs.Machines.{IsOpened, Opened}
use Rattle.abc_meaning.specs.Openings.{IsOpeningRefused}
use Rattle.abc_cli_answers.specs.declared.command.RunOptions.{RunOptions}
use Rattle.abc_verify.proofs.Verifying.{of_any}
use Rattle.abc_verify.specs.Verified.{IsReadVerified}
use Rattle.abc_cli_answers.proofs.Runs.{memory_runs, runs_weaker}
use Rattle.abc_cli_answers.proofs.Unverified.{unverified_not_usage, unverified_quiet}
use Rattle.abc_cli.proofs.EndedRuns.{meant_not_usage, meant_quiet, small_meant}

-- ---- no machine, and a machine that was opened

small_runs : (v : Abc) (starts : List (List ℕ)) (p : Setting) (limits : Limits) (fuel : ℕ) (limit : Limit) (out err : Channel) (s : Status)
    → too_small (first_world p limits).heap ≡ Some limit → Got out [] → GivesLine err (line_answer status.Limit (limit_text limit)) s → RunsTo (IsMeant v starts (meaning p limits fuel)) ⊥ out err s
small_runs v starts p limits fuel limit out err s e got line =
    let small = small_meant p limits fuel limit e in
    let a = line_answer status.Limit (limit_text limit) in
    let is : IsMeant v starts (meaning p limits fuel) a = subst (λ (m : Meaning). IsMeant v starts m a) (sym small) refl in
    RunsTo.other (line_ends (λ x. IsMeant v starts (meaning p limits fuel) x × (x.status ≢ status.Done)) ⊥ out err a s (is, λ h. cc) got line)

abbrev MeansAs : LinkedFile → List Formula → List (List ℕ) → Limits → ℕ → Answer → Type 0
MeansAs l fs starts limits fuel = IsMeant l.file starts (meaning (record { linked = l; formulas = fs }) limits fuel)

pub opened_runs : (l : LinkedFile) (fs : List Formula) (limits : Limits) (o : RunOptions) (m : Opened) (starts : List (List ℕ)) (out err : Channel) (s : Status) → IsOpened l fs limits m → limits ≡ limits_of o
    → RunsTo (IsMeant m.linked.file starts (meaning (record { linked = m.linked; formulas = fs }) m.limits o.fuel)) ⊥ out err s → RunsTo (IsMeant l.file starts (meaning (record { linked = l; formulas = fs }) (limits_of o) o.fuel)) ⊥ out err s
opened_runs l fs limits o m starts out err s is e end =
    subst (λ (k : Limits). RunsTo (MeansAs l fs starts k o.fuel) ⊥ out err s) e
    (subst (λ (x : Opened). RunsTo (MeansAs x.linked fs starts x.limits o.fuel) ⊥ out err s) is.is end)

pub unopened_runs : (l : LinkedFile) (fs : List Formula) (limits : Limits) (o : RunOptions) (e : OpenError) (starts : List (List ℕ)) (out err : Channel) (s : Status) → IsOpeningRefused (record { linked = l; formulas = fs }) limits e → limits ≡ limits_of o
    → Got out [] → GivesLine err (open_answer e) s → RunsTo (IsMeant l.file starts (meaning (record { linked = l; formulas = fs }) (limits_of o) o.fuel)) ⊥ out err s
unopened_runs l fs limits o errors.NoMemory starts out err s small same got line = memory_runs (MeansAs l fs starts (limits_of o) o.fuel) ⊥ out err s got line
unopened_runs l fs limits o (errors.TooSmall limit) starts out err s small same got line =
    subst (λ (k : Limits). RunsTo (MeansAs l fs starts k o.fuel) ⊥ out err s) same (small_runs l.file starts (record { linked = l; formulas = fs }) limits o.fuel limit out err s small got line)

-- ---- the command

-- a file that isn't verified, or no file
pub unverified_runs : (o : RunOptions) (fs : List Formula) (source out err : Channel) (stop : Stop) (s : Status) → Stops (OfFileRead Unverified) source stop → Got out [] → GivesLine err (stop_answer stop) s
    → RunsTo (On (OfFileRead (RunOfFile o fs)) source.before) (HasFailed source) out err s
unverified_runs o fs source out err stop s x got line =
    RunsTo.other (stopped_undone (OfFileRead (RunOfFile o fs)) source out err stop s (stops_as (OfFileRead Unverified) (OfFileRead (RunOfFile o fs)) source stop unverified_run x) got line)
  where
    unverified_run : (input : List ℕ) (a : Answer) → OfFileRead Unverified input a → OfFileRead (RunOfFile o fs) input a
    unverified_run input a (OfFileRead.accepted v starts r y) = OfFileRead.accepted v starts r (RunOfFile.unverified y)
    unverified_run input a (OfFileRead.refused r bad y) = OfFileRead.refused r bad y

pub verified_runs : (o : RunOptions) (fs : List Formula) (l : LinkedFile) (starts : List (List ℕ)) (left : Option (List ℕ)) (F : Type 0) (out err : Channel) (s : Status) → OfInput left (IsReadVerified l starts)
    → RunsTo (IsMeant l.file starts (meaning (record { linked = l; formulas = fs }) (limits_of o) o.fuel)) ⊥ out err s → RunsTo (On (OfFileRead (RunOfFile o fs)) left) F out err s
verified_runs o fs l starts left F out err s f end =
    runs_weaker (IsMeant l.file starts (meaning (record { linked = l; formulas = fs }) (limits_of o) o.fuel)) (On (OfFileRead (RunOfFile o fs)) left) ⊥ F out err s
    (λ a is. of_any (IsReadVerified l starts) (λ input. OfFileRead (RunOfFile o fs) input a) left (λ b x. OfFileRead.accepted l.file starts x.read (RunOfFile.ran l x.verified is)) f)
    (λ h. absurd h) end

-- ---- a run that is done has no line

run_answer_quiet : (o : RunOptions) (fs : List Formula) (v : Abc) (starts : List (List ℕ)) (a : Answer) → RunOfFile o fs v starts a → a.status ≡ status.Done → a.err ≡ []
run_answer_quiet o fs v starts a (RunOfFile.unverified x) d = unverified_quiet v starts a x d
run_answer_quiet o fs v starts a (RunOfFile.ran l is x) d = meant_quiet v starts (meaning (record { linked = l; formulas = fs }) (limits_of o) o.fuel) a x d

pub runs_quiet : (o : RunOptions) (fs : List Formula) (input : List ℕ) (a : Answer) → OfFileRead (RunOfFile o fs) input a → a.status ≡ status.Done → a.err ≡ []
runs_quiet o fs input a (OfFileRead.accepted v starts r x) d = run_answer_quiet o fs v starts a x d
runs_quiet o fs input a (OfFileRead.refused r bad x) d = let k = ap (λ (y : Answer). y.status) x in absurd cc

pub runs_on_quiet : (o : RunOptions) (fs : List Formula) (left : Option (List ℕ)) (a : Answer) → On (OfFileRead (RunOfFile o fs)) left a → a.status ≡ status.Done → a.err ≡ []
runs_on_quiet o fs None a x d = runs_quiet o fs x.0 a x.1 d
runs_on_quiet o fs (Some input) a x d = runs_quiet o fs input a x d

-- ---- it is no answer to words

run_not_usage : (o : RunOptions) (fs : List Formula) (v : Abc) (starts : List (List ℕ)) (a : Answer) → RunOfFile o fs v starts a → a.status ≡ status.Usage → ⊥
run_not_usage o fs v starts a (RunOfFile.unverified u) e = unverified_not_usage v starts a u e
run_not_usage o fs v starts a (RunOfFile.ran l is x) e = meant_not_usage v starts (meaning (record { linked = l; formulas = fs }) (limits_of o) o.fuel) a x e

pub runs_not_usage : (o : RunOptions) (fs : List Formula) (input : List ℕ) (a : Answer) → OfFileRead (RunOfFile o fs) input a → a.status ≡ status.Usage → ⊥
runs_not_usage o fs input a (OfFileRead.accepted v starts f x) e = run_not_usage o fs v starts a x e
runs_not_usage o fs input a (OfFileRead.refused r f x) e = let h = ap (λ (y : Answer). y.status) x in cc

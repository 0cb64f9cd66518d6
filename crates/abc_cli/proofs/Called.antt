-- What `calls` is answered with.
use Rattle.std.proofs.Common.{◌≡◌, ◌≢◌, ℕ, List, [], Some, None, refl, sym, ap, subst}
use Rattle.std.specs.Prelude.{codes}
use Rattle.std.specs.declared.option.Option.{Option}
use Rattle.abc_base.specs.declared.formula.Formula.{Formula}
use Rattle.abc_base.specs.declared.status.Status.{Status}
use Rattle.abc_base.specs.declared.status.Status.TheVariants as status
use Rattle.abc_cli_answers.proofs.Ending.{line_ends, stopped_undone, stops_as}
use Rattle.abc_cli.proofs.EndedRuns.{meant_not_usage, meant_quiet}
use Rattle.abc_cli_answers.proofs.Runs.{memory_runs, runs_weaker}
use Rattle.abc_cli_answers.proofs.Unverified.{unverified_not_usage, unverified_quiet}
use Rattle.abc_cli_answers.specs.Answers.{Answer, OfFileRead, On, Unverified, line_answer}
use Rattle.abc_cli.specs.Calls.{Calls, IsCalled}
use Rattle.abc_cli_answers.specs.End.{Channel, Got, GivesLine, HasFailed, RunsTo}
use Rattle.abc_cli.specs.Endings.{open_answer}
use Rattle.abc_cli_answers.specs.Lines.{limit_text, no_export_text}
use Rattle.abc_cli.specs.Meant.{IsMeant, limits_of}
use Rattle.abc_cli_answers.specs.Stops.{Stops, stop_answer}
use Rattle.abc_cli_answers.specs.declared.stop.Stop.{Stop}
use Rattle.abc_file.specs.Reading.{OfInput}
use Rattle.abc_heap_store.specs.declared.records.Limits.{Limits}
use Rattle.abc_meaning.specs.Meaning.{first_world, too_small}
use Rattle.abc_meaning.specs.Setting.{Setting}
use Rattle.abc_objects.specs.declared.error.OpenError.{OpenError}
use Rattle.abc_objects.specs.declared.error.OpenError.TheVariants as errors
use Rattle.abc_link_names.specs.Linked.{LinkedFile}
use Rattle.abc_file_types.specs.declared.tables.Abc.{Abc}
use Rattle.abc_meaning.specs.Exports.{export}
use Rattle.abc_machine.specs.Machines.{IsOpened, Opened}
use Rattle.abc_meaning.specs.Openings.{IsOpeningRefused}
use Rattle.abc_session.specs.Ticks.{calls_meaning}
use Rattle.abc_cli_answers.specs.declared.command.CallsOptions.{CallsOptions}
use Rattle.abc_verify.proofs.Verifying.{of_any}
use Rattle.abc_verify.specs.Verified.{IsReadVerified}

abbrev p_of : LinkedFile → List Formula → Setting
p_of l fs = record { linked = l; formulas = fs }

-- an opened session is one of what it was opened with
pub opened_as : (l : LinkedFile) (fs : List Formula) (limits : Limits) (m : Opened) → IsOpened l fs limits m → IsOpened m.linked fs m.limits m
opened_as l fs limits m is =
    let linked : m.linked ≡ l = ap (λ (x : Opened). x.linked) is.is in
    let same : m.limits ≡ limits = ap (λ (x : Opened). x.limits) is.is in
    subst (λ (x : LinkedFile). IsOpened x fs m.limits m) (sym linked) (subst (λ (x : Limits). IsOpened l fs x m) (sym same) is)

pub called_runs : (o : CallsOptions) (p : Setting) (limits : Limits) (starts : List (List ℕ)) (method : ℕ) (out err : Channel) (s : Status) → limits ≡ limits_of o.run → too_small (first_world p limits).heap ≡ None → export p (codes "tick") ≡ Some method
    → RunsTo (IsMeant p.linked.file starts (calls_meaning p limits o.run.fuel o.times method)) ⊥ out err s → RunsTo (IsCalled o p starts) ⊥ out err s
called_runs o p limits starts method out err s same fits exports end =
    let e = subst (λ (k : Limits). RunsTo (IsMeant p.linked.file starts (calls_meaning p k o.run.fuel o.times method)) ⊥ out err s) same end in
    let f = subst (λ (k : Limits). too_small (first_world p k).heap ≡ None) same fits in
    runs_weaker (IsMeant p.linked.file starts (calls_meaning p (limits_of o.run) o.run.fuel o.times method)) (IsCalled o p starts) ⊥ ⊥ out err s (λ a x. IsCalled.ran method f exports x) (λ h. h) e

pub unexported_runs : (o : CallsOptions) (p : Setting) (limits : Limits) (starts : List (List ℕ)) (out err : Channel) (s : Status) → limits ≡ limits_of o.run → too_small (first_world p limits).heap ≡ None → export p (codes "tick") ≡ None
    → Got out [] → GivesLine err (line_answer status.Refused no_export_text) s → RunsTo (IsCalled o p starts) ⊥ out err s
unexported_runs o p limits starts out err s same fits exports got line =
    let f = subst (λ (k : Limits). too_small (first_world p k).heap ≡ None) same fits in
    RunsTo.other (line_ends (λ a. IsCalled o p starts a × (a.status ≢ status.Done)) ⊥ out err (line_answer status.Refused no_export_text) s (IsCalled.unexported f exports refl, λ h. cc) got line)

pub opened_calls : (l : LinkedFile) (fs : List Formula) (limits : Limits) (o : CallsOptions) (m : Opened) (starts : List (List ℕ)) (out err : Channel) (s : Status) → IsOpened l fs limits m → RunsTo (IsCalled o (p_of m.linked fs) starts) ⊥ out err s
    → RunsTo (IsCalled o (p_of l fs) starts) ⊥ out err s
opened_calls l fs limits o m starts out err s is end =
    subst (λ (x : LinkedFile). RunsTo (IsCalled o (p_of x fs) starts) ⊥ out err s) (ap (λ (x : Opened). x.linked) is.is) end

pub unopened_calls : (l : LinkedFile) (fs : List Formula) (limits : Limits) (o : CallsOptions) (e : OpenError) (starts : List (List ℕ)) (out err : Channel) (s : Status) → IsOpeningRefused (p_of l fs) limits e → limits ≡ limits_of o.run
    → Got out [] → GivesLine err (open_answer e) s → RunsTo (IsCalled o (p_of l fs) starts) ⊥ out err s
unopened_calls l fs limits o errors.NoMemory starts out err s small same got line = memory_runs (IsCalled o (p_of l fs) starts) ⊥ out err s got line
unopened_calls l fs limits o (errors.TooSmall limit) starts out err s small same got line =
    let f = subst (λ (k : Limits). too_small (first_world (p_of l fs) k).heap ≡ Some limit) same small in
    RunsTo.other (line_ends (λ a. IsCalled o (p_of l fs) starts a × (a.status ≢ status.Done)) ⊥ out err (line_answer status.Limit (limit_text limit)) s (IsCalled.unopened limit f refl, λ h. cc) got line)

-- a file that isn't verified, or no file
pub unverified_calls : (o : CallsOptions) (fs : List Formula) (source out err : Channel) (stop : Stop) (s : Status) → Stops (OfFileRead Unverified) source stop → Got out [] → GivesLine err (stop_answer stop) s
    → RunsTo (On (OfFileRead (Calls o fs)) source.before) (HasFailed source) out err s
unverified_calls o fs source out err stop s x got line =
    RunsTo.other (stopped_undone (OfFileRead (Calls o fs)) source out err stop s (stops_as (OfFileRead Unverified) (OfFileRead (Calls o fs)) source stop unverified_call x) got line)
  where
    unverified_call : (input : List ℕ) (a : Answer) → OfFileRead Unverified input a → OfFileRead (Calls o fs) input a
    unverified_call input a (OfFileRead.accepted v starts r y) = OfFileRead.accepted v starts r (Calls.unverified y)
    unverified_call input a (OfFileRead.refused r bad y) = OfFileRead.refused r bad y

pub verified_calls : (o : CallsOptions) (fs : List Formula) (l : LinkedFile) (starts : List (List ℕ)) (left : Option (List ℕ)) (F : Type 0) (out err : Channel) (s : Status) → OfInput left (IsReadVerified l starts)
    → RunsTo (IsCalled o (p_of l fs) starts) ⊥ out err s → RunsTo (On (OfFileRead (Calls o fs)) left) F out err s
verified_calls o fs l starts left F out err s f end =
    runs_weaker (IsCalled o (p_of l fs) starts) (On (OfFileRead (Calls o fs)) left) ⊥ F out err s
    (λ a is. of_any (IsReadVerified l starts) (λ input. OfFileRead (Calls o fs) input a) left (λ b x. OfFileRead.accepted l.file starts x.read (Calls.verified l x.verified is)) f)
    (λ h. absurd h) end

-- ---- calls that are done have no line

called_quiet : (o : CallsOptions) (p : Setting) (starts : List (List ℕ)) (a : Answer) → IsCalled o p starts a → a.status ≡ status.Done → a.err ≡ []
called_quiet o p starts a (IsCalled.unopened limit small is) d = let k = ap (λ (x : Answer). x.status) is in absurd cc
called_quiet o p starts a (IsCalled.unexported fits exports is) d = let k = ap (λ (x : Answer). x.status) is in absurd cc
called_quiet o p starts a (IsCalled.ran method fits exports is) d = meant_quiet p.linked.file starts (calls_meaning p (limits_of o.run) o.run.fuel o.times method) a is d

call_answer_quiet : (o : CallsOptions) (fs : List Formula) (v : Abc) (starts : List (List ℕ)) (a : Answer) → Calls o fs v starts a → a.status ≡ status.Done → a.err ≡ []
call_answer_quiet o fs v starts a (Calls.unverified x) d = unverified_quiet v starts a x d
call_answer_quiet o fs v starts a (Calls.verified l is x) d = called_quiet o (p_of l fs) starts a x d

calls_quiet : (o : CallsOptions) (fs : List Formula) (input : List ℕ) (a : Answer) → OfFileRead (Calls o fs) input a → a.status ≡ status.Done → a.err ≡ []
calls_quiet o fs input a (OfFileRead.accepted v starts r x) d = call_answer_quiet o fs v starts a x d
calls_quiet o fs input a (OfFileRead.refused r bad x) d = let k = ap (λ (y : Answer). y.status) x in absurd cc

pub calls_on_quiet : (o : CallsOptions) (fs : List Formula) (left : Option (List ℕ)) (a : Answer) → On (OfFileRead (Calls o fs)) left a → a.status ≡ status.Done → a.err ≡ []
calls_on_quiet o fs None a x d = calls_quiet o fs x.0 a x.1 d
calls_on_quiet o fs (Some input) a x d = calls_quiet o fs input a x d

-- ---- it is no answer to words

called_not_usage : (o : CallsOptions) (p : Setting) (starts : List (List ℕ)) (a : Answer) → IsCalled o p starts a → a.status ≡ status.Usage → ⊥
called_not_usage o p starts a (IsCalled.unopened limit small is) e = let h = ap (λ (y : Answer). y.status) is in cc
called_not_usage o p starts a (IsCalled.unexported fits exports is) e = let h = ap (λ (y : Answer). y.status) is in cc
called_not_usage o p starts a (IsCalled.ran method fits exports is) e = meant_not_usage p.linked.file starts (calls_meaning p (limits_of o.run) o.run.fuel o.times method) a is e

call_not_usage : (o : CallsOptions) (fs : List Formula) (v : Abc) (starts : List (List ℕ)) (a : Answer) → Calls o fs v starts a → a.status ≡ status.Usage → ⊥
call_not_usage o fs v starts a (Calls.unverified u) e = unverified_not_usage v starts a u e
call_not_usage o fs v starts a (Calls.verified l is x) e = called_not_usage o (record { linked = l; formulas = fs }) starts a x e

pub calls_not_usage : (o : CallsOptions) (fs : List Formula) (input : List ℕ) (a : Answer) → OfFileRead (Calls o fs) input a → a.status ≡ status.Usage → ⊥
calls_not_usage o fs input a (OfFileRead.accepted v starts f x) e = call_not_usage o fs v starts a x e
calls_not_usage o fs input a (OfFileRead.refused r f x) e = let h = ap (λ (y : Answer). y.status) x in cc

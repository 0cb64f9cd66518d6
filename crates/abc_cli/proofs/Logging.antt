-- How a log is given: what stands before the steps, and then a run whose log is written.
use Rattle.std.proofs.Common.{◌≡◌, ◌≢◌, ℕ, ◌≤◌, ◌^◌, inl, inr, List, [], ◌++◌, Some, None, length, refl, sym, ap, subst, arith}
use Rattle.std.specs.Prelude.{IsSome}
use Rattle.std.specs.declared.option.Option.{Option}
use Rattle.std.specs.Io.KnownBytes.{append_known}
use Rattle.abc_base.specs.Sinks.{GrowsByFront}
use Rattle.abc_base.specs.declared.formula.Formula.{Formula}
use Rattle.abc_base.specs.declared.status.Status.{Status}
use Rattle.abc_base.specs.declared.status.Status.TheVariants as status
use Rattle.abc_base.proofs.Writing.{front_first}
use Rattle.abc_cli_answers.proofs.Ending.{line_ends, rose_later, stopped_undone, stops_as}
use Rattle.abc_cli.proofs.EndedRuns.{ended_not_usage, ended_quiet, run_ends, run_placed, small_meant, some_answer}
use Rattle.abc_cli_answers.proofs.Runs.{memory_runs, runs_weaker}
use Rattle.abc_cli_answers.proofs.Unverified.{unverified_not_usage, unverified_quiet}
use Rattle.abc_cli_answers.specs.Answers.{Answer, OfFileRead, On, Unverified, line_answer}
use Rattle.abc_cli_answers.specs.End.{Channel, channel, GivesAll, GivesLine, Got, GotFront, HasFailed, RunsTo}
use Rattle.abc_cli.specs.Logs.{GivesUnopened, IsLogged, Log, front, whole_log}
use Rattle.abc_cli.specs.Endings.{IsPlacedEnd, end_answer, open_answer}
use Rattle.abc_cli_answers.specs.Lines.{limit_text, write_fault_text}
use Rattle.abc_cli.specs.Meant.{bytes_and_line, limits_of}
use Rattle.abc_cli_answers.specs.Stops.{Stops, stop_answer}
use Rattle.abc_cli_answers.specs.declared.stop.Stop.{Stop}
use Rattle.abc_file.specs.Reading.{OfInput}
use Rattle.abc_heap_store.specs.declared.records.Limit.{Limit}
use Rattle.abc_heap_store.specs.declared.records.Limits.{Limits}
use Rattle.abc_log.specs.Lines.{limit_end}
use Rattle.abc_meaning.specs.LogLaws.{TooSmallIsOneLine}
use Rattle.abc_meaning.specs.Logs.{log}
use Rattle.abc_meaning.specs.Meaning.{Meaning, Ran, TooSmall, first_world, meaning, too_small}
use Rattle.abc_meaning.specs.Throwing as meant
use Rattle.abc_meaning.specs.Setting.{Setting}
use Rattle.abc_objects.specs.declared.error.OpenError.{OpenError}
use Rattle.abc_objects.specs.declared.error.OpenError.TheVariants as errors
use Rattle.abc_meaning.specs.Openings.{IsOpeningRefused}
use Rattle.abc_link_names.specs.Linked.{LinkedFile}
use Rattle.abc_file_types.specs.declared.tables.Abc.{Abc}
use Rattle.abc_file_types.specs.Files.{Fits, file_bytes}
use Rattle.abc_file_types.proofs.Whole.{canonical_file}
use Rattle.abc_session.proofs.Pieces.{front_both, got_both}
use Rattle.abc_machine.specs.declared.ends.End.{End}
use Rattle.abc_machine.specs.declared.ends.End.TheVariants as ends
use Rattle.abc_machine.specs.Ended.{HasRun, RunsAs}
use Rattle.abc_machine.specs.Logged.{LogsRun}
use Rattle.abc_machine.specs.Machines.{IsOpened, Opened}
use Rattle.abc_meaning.specs.Told.{IsInstruction}
use Rattle.abc_base.specs.declared.names.Fault.{Fault}
use Rattle.abc_bodies.specs.Places.{ArePlaces}
use Rattle.abc_verify.proofs.Verifying.{of_any}
use Rattle.abc_verify.specs.Verified.{IsReadVerified}
use Rattle.abc_cli_answers.specs.declared.command.RunOptions.{RunOptions}

-- the canonical bytes of a file are no more than a file has
pub short_file : (v : Abc) → Fits v → length (file_bytes v) ≤ 2 ^ 24
short_file v f = (canonical_file v f.0 f.1).0.1

-- ---- a run whose log is written is a run of another meaning

abbrev logged : (lines : List ℕ) → Meaning → Meaning
logged lines (TooSmall limit) = TooSmall limit
logged lines (Ran wrote e) = Ran lines e

as_run : (lines : List ℕ) (m : Meaning) (old new : Option (List ℕ)) (end : End) → LogsRun lines m old new end → RunsAs (logged lines m) old new end
as_run lines m old new end (LogsRun.logged log wrote e x is got) = RunsAs.ended log e x is got
as_run lines m old new end (LogsRun.failed log wrote e rest) = RunsAs.failed log e rest

-- ---- a run behind something that was written

abbrev behind : List ℕ → Meaning → Meaning
behind xs (TooSmall limit) = TooSmall limit
behind xs (Ran wrote e) = Ran (xs ++ wrote) e

runs_behind : (xs : List ℕ) (m : Meaning) (old mid new : Option (List ℕ)) (end : End) → (IsSome old → mid ≡ append_known old xs) → RunsAs m mid new end → RunsAs (behind xs m) old new end
runs_behind xs m old mid new end f (RunsAs.ended wrote e x is got) = RunsAs.ended (xs ++ wrote) e x is (got_both old mid new xs wrote f got)
runs_behind xs m old mid new end f (RunsAs.failed wrote e rest) = RunsAs.failed (xs ++ wrote) e (front_both old mid new xs wrote f rest)

-- what doesn't begin runs to no end
small_never : (m : Meaning) (old new : Option (List ℕ)) (end : End) (limit : Limit) → RunsAs m old new end → m ≡ TooSmall limit → ⊥
small_never m old new end limit (RunsAs.ended wrote e x is got) small = cc
small_never m old new end limit (RunsAs.failed wrote e rest) small = cc

-- every meaning that is not stuck has an answer
pub some_logged : (v : Abc) (starts : List (List ℕ)) (wrote : List ℕ) (m : Meaning) → ((output : List ℕ) → m ≡ Ran output meant.Stuck → ⊥) → (a : Answer) × IsLogged v starts wrote m a × (a.out ≡ wrote)
some_logged v starts wrote (TooSmall limit) free = (bytes_and_line status.Limit wrote (limit_text limit), refl, refl)
some_logged v starts wrote (Ran output e) free = some_answer v starts wrote e (λ h. free output (ap (Ran output) h))

module _ (v : Abc) (starts : List (List ℕ)) (before lines : List ℕ) where
  -- the front was written, and then the log
  pub logged_ends : (m : Meaning) (old mid new : Option (List ℕ)) (a b c : ℕ) (err : Channel) (end : End) (s : Status) → ((output : List ℕ) → m ≡ Ran output meant.Stuck → ⊥)
      → (IsSome old → mid ≡ append_known old before) → a ≤ b → LogsRun lines m mid new end → HasRun b c end → GivesLine err (end_answer v starts end) s → (end ≡ ends.Done → (s ≡ status.Done) × Got err [])
      → RunsTo (IsLogged v starts (before ++ lines) m) ⊥ (channel old new a c) err s
  logged_ends (TooSmall limit) old mid new a b c err end s never got le runs cause line silent = absurd (small_never (TooSmall limit) mid new end limit (as_run lines (TooSmall limit) mid new end runs) refl)
  logged_ends (Ran output e) old mid new a b c err end s never got le runs cause line silent =
      run_ends v starts (Ran (before ++ lines) e) old new a c err end s (λ wrote h. never output (ap (Ran output) (same_end h))) (runs_behind before (Ran lines e) old mid new end got (as_run lines (Ran output e) mid new end runs))
      (record { later = (let later = cause.later in omega (arith, le, later)); failed = λ f. rose_later a b c le (cause.failed f) }) line silent
    where
      same_end : {wrote : List ℕ} {x : meant.End} → Ran (before ++ lines) e ≡ Ran wrote x → e ≡ x
      same_end h = cc

  -- or writing the front failed
  pub front_failed : (m : Meaning) (out err : Channel) (s : Status) → ((output : List ℕ) → m ≡ Ran output meant.Stuck → ⊥) → HasFailed out → GotFront out before → GivesLine err (line_answer status.WriteFault write_fault_text) s
      → RunsTo (IsLogged v starts (before ++ lines) m) ⊥ out err s
  front_failed m out err s never rose got line =
      let a = some_logged v starts (before ++ lines) m never in
      RunsTo.cut a.0 a.1 rose (λ some. subst (λ (x : List ℕ). GrowsByFront out.before out.after x) (sym a.2) (front_first out.before out.after before lines (got some))) line

pub logged_placed : (v : Abc) (starts : List (List ℕ)) (lines : List ℕ) (m : Meaning) (old new : Option (List ℕ)) (end : End) → ArePlaces v.bodies starts
    → ((wrote : List ℕ) (n i : ℕ) (fault : Fault) → m ≡ Ran wrote (meant.Profile n i fault) → IsInstruction v n i) → LogsRun lines m old new end → IsPlacedEnd v starts end
logged_placed v starts lines (TooSmall limit) old new end p at runs = absurd (small_never (TooSmall limit) old new end limit (as_run lines (TooSmall limit) old new end runs) refl)
logged_placed v starts lines (Ran output e) old new end p at runs = run_placed v starts (Ran lines e) old new end p (λ wrote n i fault h. at output n i fault (ap (Ran output) (same_end h))) (as_run lines (Ran output e) old new end runs)
  where
    same_end : {wrote : List ℕ} {x : meant.End} → Ran lines e ≡ Ran wrote x → e ≡ x
    same_end h = cc

-- ---- a run that is not begun

unbegun_runs : TooSmallIsOneLine → (starts : List (List ℕ)) (p : Setting) (limits : Limits) (fuel : ℕ) (before : List ℕ) (limit : Limit) (out err : Channel) (s : Status) → too_small (first_world p limits).heap ≡ Some limit
    → GivesAll out err (before ++ limit_end limit) (open_answer (errors.TooSmall limit)) s → RunsTo (IsLogged p.linked.file starts (before ++ log p limits fuel) (meaning p limits fuel)) ⊥ out err s
unbegun_runs law starts p limits fuel before limit out err s e (inl g) =
    let small = small_meant p limits fuel limit e in
    let one = (law p limits fuel limit e).0 in
    let wrote = before ++ log p limits fuel in
    let a = bytes_and_line status.Limit wrote (limit_text limit) in
    let is : IsLogged p.linked.file starts wrote (meaning p limits fuel) a = subst (λ (m : Meaning). IsLogged p.linked.file starts wrote m a) (sym small) refl in
    let got : Got out wrote = subst (λ (x : List ℕ). Got out (before ++ x)) (sym one) g.0 in
    RunsTo.other (line_ends (λ x. IsLogged p.linked.file starts wrote (meaning p limits fuel) x × (x.status ≢ status.Done)) ⊥ out err a s (is, λ h. cc) got g.1)
unbegun_runs law starts p limits fuel before limit out err s e (inr g) =
    let small = small_meant p limits fuel limit e in
    let one = (law p limits fuel limit e).0 in
    let wrote = before ++ log p limits fuel in
    let a = bytes_and_line status.Limit wrote (limit_text limit) in
    let is : IsLogged p.linked.file starts wrote (meaning p limits fuel) a = subst (λ (m : Meaning). IsLogged p.linked.file starts wrote m a) (sym small) refl in
    RunsTo.cut a is g.0 (subst (λ (x : List ℕ). GotFront out (before ++ x)) (sym one) g.1) g.2

pub unopened_logs : TooSmallIsOneLine → (starts : List (List ℕ)) (p : Setting) (limits : Limits) (fuel : ℕ) (before : List ℕ) (e : OpenError) (out err : Channel) (s : Status) → IsOpeningRefused p limits e → GivesUnopened out err before e s
    → RunsTo (IsLogged p.linked.file starts (before ++ log p limits fuel) (meaning p limits fuel)) ⊥ out err s
unopened_logs law starts p limits fuel before (errors.TooSmall limit) out err s small g = unbegun_runs law starts p limits fuel before limit out err s small g
unopened_logs law starts p limits fuel before errors.NoMemory out err s small g = memory_runs (IsLogged p.linked.file starts (before ++ log p limits fuel) (meaning p limits fuel)) ⊥ out err s g.0 g.1

-- ---- the machine, and the file

abbrev p_of : LinkedFile → List Formula → Setting
p_of l fs = record { linked = l; formulas = fs }

abbrev pub LogsAs : LinkedFile → List Formula → List (List ℕ) → (before : List ℕ) → Limits → ℕ → Answer → Type 0
LogsAs l fs starts before limits fuel = IsLogged l.file starts (before ++ log (p_of l fs) limits fuel) (meaning (p_of l fs) limits fuel)

pub opened_logs : (l : LinkedFile) (fs : List Formula) (limits : Limits) (fuel : ℕ) (before : List ℕ) (m : Opened) (starts : List (List ℕ)) (out err : Channel) (s : Status) → IsOpened l fs limits m
    → RunsTo (LogsAs m.linked fs starts before m.limits fuel) ⊥ out err s → RunsTo (LogsAs l fs starts before limits fuel) ⊥ out err s
opened_logs l fs limits fuel before m starts out err s is end = subst (λ (x : Opened). RunsTo (LogsAs x.linked fs starts before x.limits fuel) ⊥ out err s) is.is end

-- the front is that of the file and of the options
pub front_logs : (l : LinkedFile) (fs : List Formula) (o : RunOptions) (starts : List (List ℕ)) (file : List ℕ) (fuel : ℕ) (limits : Limits) (out err : Channel) (s : Status) → file ≡ file_bytes l.file → fuel ≡ o.fuel → limits ≡ limits_of o
    → RunsTo (LogsAs l fs starts (front file fuel limits) limits fuel) ⊥ out err s → RunsTo (IsLogged l.file starts (whole_log (p_of l fs) (limits_of o) o.fuel) (meaning (p_of l fs) (limits_of o) o.fuel)) ⊥ out err s
front_logs l fs o starts file fuel limits out err s e f g end =
    subst (λ (x : List ℕ). RunsTo (LogsAs l fs starts (front x o.fuel (limits_of o)) (limits_of o) o.fuel) ⊥ out err s) e
    (subst (λ (n : ℕ). RunsTo (LogsAs l fs starts (front file n (limits_of o)) (limits_of o) n) ⊥ out err s) f
    (subst (λ (k : Limits). RunsTo (LogsAs l fs starts (front file fuel k) k fuel) ⊥ out err s) g end))

-- ---- the command

pub unverified_logs : (o : RunOptions) (fs : List Formula) (source out err : Channel) (stop : Stop) (s : Status) → Stops (OfFileRead Unverified) source stop → Got out [] → GivesLine err (stop_answer stop) s
    → RunsTo (On (OfFileRead (Log o fs)) source.before) (HasFailed source) out err s
unverified_logs o fs source out err stop s x got line =
    RunsTo.other (stopped_undone (OfFileRead (Log o fs)) source out err stop s (stops_as (OfFileRead Unverified) (OfFileRead (Log o fs)) source stop unverified_log x) got line)
  where
    unverified_log : (input : List ℕ) (a : Answer) → OfFileRead Unverified input a → OfFileRead (Log o fs) input a
    unverified_log input a (OfFileRead.accepted v starts r y) = OfFileRead.accepted v starts r (Log.unverified y)
    unverified_log input a (OfFileRead.refused r bad y) = OfFileRead.refused r bad y

pub verified_logs : (o : RunOptions) (fs : List Formula) (l : LinkedFile) (starts : List (List ℕ)) (left : Option (List ℕ)) (F : Type 0) (out err : Channel) (s : Status) → OfInput left (IsReadVerified l starts)
    → RunsTo (IsLogged l.file starts (whole_log (p_of l fs) (limits_of o) o.fuel) (meaning (p_of l fs) (limits_of o) o.fuel)) ⊥ out err s → RunsTo (On (OfFileRead (Log o fs)) left) F out err s
verified_logs o fs l starts left F out err s f end =
    runs_weaker (IsLogged l.file starts (whole_log (p_of l fs) (limits_of o) o.fuel) (meaning (p_of l fs) (limits_of o) o.fuel)) (On (OfFileRead (Log o fs)) left) ⊥ F out err s
    (λ a is. of_any (IsReadVerified l starts) (λ input. OfFileRead (Log o fs) input a) left (λ b x. OfFileRead.accepted l.file starts x.read (Log.logged l x.verified is)) f)
    (λ h. absurd h) end

-- ---- a log that is done has no line

logged_quiet : (v : Abc) (starts : List (List ℕ)) (wrote : List ℕ) (m : Meaning) (a : Answer) → IsLogged v starts wrote m a → a.status ≡ status.Done → a.err ≡ []
logged_quiet v starts wrote (TooSmall limit) a is d = let k = ap (λ (x : Answer). x.status) is in absurd cc
logged_quiet v starts wrote (Ran output e) a is d = ended_quiet v starts wrote e a is d

log_answer_quiet : (o : RunOptions) (fs : List Formula) (v : Abc) (starts : List (List ℕ)) (a : Answer) → Log o fs v starts a → a.status ≡ status.Done → a.err ≡ []
log_answer_quiet o fs v starts a (Log.unverified x) d = unverified_quiet v starts a x d
log_answer_quiet o fs v starts a (Log.logged l is x) d = logged_quiet v starts (whole_log (p_of l fs) (limits_of o) o.fuel) (meaning (p_of l fs) (limits_of o) o.fuel) a x d

log_quiet : (o : RunOptions) (fs : List Formula) (input : List ℕ) (a : Answer) → OfFileRead (Log o fs) input a → a.status ≡ status.Done → a.err ≡ []
log_quiet o fs input a (OfFileRead.accepted v starts r x) d = log_answer_quiet o fs v starts a x d
log_quiet o fs input a (OfFileRead.refused r bad x) d = let k = ap (λ (y : Answer). y.status) x in absurd cc

pub log_on_quiet : (o : RunOptions) (fs : List Formula) (left : Option (List ℕ)) (a : Answer) → On (OfFileRead (Log o fs)) left a → a.status ≡ status.Done → a.err ≡ []
log_on_quiet o fs None a x d = log_quiet o fs x.0 a x.1 d
log_on_quiet o fs (Some input) a x d = log_quiet o fs input a x d

-- ---- it is no answer to words

logged_not_usage : (v : Abc) (starts : List (List ℕ)) (wrote : List ℕ) (m : Meaning) (a : Answer) → IsLogged v starts wrote m a → a.status ≡ status.Usage → ⊥
logged_not_usage v starts wrote (TooSmall limit) a x e = let k = ap (λ (y : Answer). y.status) x in cc
logged_not_usage v starts wrote (Ran output end) a x e = ended_not_usage v starts wrote end a x e

log_not_usage : (o : RunOptions) (fs : List Formula) (v : Abc) (starts : List (List ℕ)) (a : Answer) → Log o fs v starts a → a.status ≡ status.Usage → ⊥
log_not_usage o fs v starts a (Log.unverified u) e = unverified_not_usage v starts a u e
log_not_usage o fs v starts a (Log.logged l is x) e =
    let p : Setting = record { linked = l; formulas = fs } in
    logged_not_usage v starts (whole_log p (limits_of o) o.fuel) (meaning p (limits_of o) o.fuel) a x e

pub logs_not_usage : (o : RunOptions) (fs : List Formula) (input : List ℕ) (a : Answer) → OfFileRead (Log o fs) input a → a.status ≡ status.Usage → ⊥
logs_not_usage o fs input a (OfFileRead.accepted v starts f x) e = log_not_usage o fs v starts a x e
logs_not_usage o fs input a (OfFileRead.refused r f x) e = let h = ap (λ (y : Answer). y.status) x in cc

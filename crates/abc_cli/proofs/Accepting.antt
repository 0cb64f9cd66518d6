-- What `log` writes is a log that `replay` accepts; and how `replay` ends.
use Rattle.std.proofs.Common.{◌≡◌, ◌≢◌, ℕ, inl, inr, List, [], refl, ap, ◌∙◌, subst, arith}
use Rattle.abc_base.specs.Hosts.{AreFormulas}
use Rattle.abc_base.specs.declared.formula.Formula.{Formula}
use Rattle.abc_base.specs.declared.status.Status.{Status}
use Rattle.abc_base.specs.declared.status.Status.TheVariants as status
use Rattle.abc_cli_answers.proofs.Ending.{gave, line_ends, memory_failed, read_failed}
use Rattle.abc_cli.proofs.Logging.{short_file}
use Rattle.abc_cli_answers.specs.Answers.{Answer, On, bytes_answer, line_answer}
use Rattle.abc_cli_answers.specs.End.{Channel, Ends, GivesBytes, GivesLine, Got, HasFailed, IsEnd, IsRunStatus, RunsTo, UsesUp}
use Rattle.abc_cli_answers.specs.Lines.{no_memory_text, read_fault_text, write_fault_text}
use Rattle.abc_cli.specs.Logged.{GotLog, GotLogOf}
use Rattle.abc_cli.specs.Logs.{IsLogged, Replay, replayed_line, unreplayed_answer, unreplayed_text, whole_log}
use Rattle.abc_cli.specs.Meant.{IsEnded}
use Rattle.abc_cli_answers.specs.Stops.{GivesAllBytes}
use Rattle.abc_file.specs.Reading.{IsUsedUp, OfInput}
use Rattle.abc_heap_store.specs.declared.records.Limits.{Limits}
use Rattle.abc_log.specs.Lines.{AreLimits}
use Rattle.abc_meaning.specs.Logs.{steps}
use Rattle.abc_meaning.specs.Meaning.{Meaning, Ran, TooSmall, meaning}
use Rattle.abc_meaning.specs.Throwing as meant
use Rattle.abc_meaning.specs.Setting.{Setting}
use Rattle.abc_link_names.specs.Linked.{LinkedFile}
use Rattle.abc_replay.specs.Laws.{HasOneNumber, IsNeverBoth}
use Rattle.abc_replay.specs.Replays.{IsLogRefused, IsLogRefusedBy, IsReplayed}
use Rattle.abc_replay.specs.declared.error.ReplayError.{ReplayError}
use Rattle.abc_replay.specs.declared.error.ReplayError.TheVariants as errors
use Rattle.abc_file_types.specs.declared.tables.Abc.{Abc}
use Rattle.abc_file_types.specs.Files.{file_bytes}
use Rattle.abc_file_types.proofs.Whole.{canonical_file}
use Rattle.abc_verify.proofs.Verifying.{of_any}
use Rattle.abc_verify.specs.Verified.{IsVerifiedOf}

-- ---- what `log` wrote where a run ended

ended_out : (v : Abc) (starts : List (List ℕ)) (wrote : List ℕ) (e : meant.End) (a : Answer) → IsEnded v starts wrote e a → a.out ≡ wrote
ended_out v starts wrote meant.Done a is = ap (λ (x : Answer). x.out) is
ended_out v starts wrote (meant.Uncaught t) a is = ap (λ (x : Answer). x.out) is
ended_out v starts wrote (meant.Profile m i fault) a is = ap (λ (x : Answer). x.out) is
ended_out v starts wrote meant.FuelSpent a is = ap (λ (x : Answer). x.out) is
ended_out v starts wrote (meant.Full limit) a is = ap (λ (x : Answer). x.out) is
ended_out v starts wrote meant.Stuck a is = absurd is

logged_out : (v : Abc) (starts : List (List ℕ)) (wrote : List ℕ) (m : Meaning) (a : Answer) → IsLogged v starts wrote m a → a.out ≡ wrote
logged_out v starts wrote (TooSmall limit) a is = ap (λ (x : Answer). x.out) is
logged_out v starts wrote (Ran output e) a is = ended_out v starts wrote e a is

unwritten : (err : Channel) (s : Status) → GivesLine err (line_answer status.WriteFault write_fault_text) s → IsRunStatus s → ⊥
unwritten err s (inl g) read = subst IsRunStatus g.1 read
unwritten err s (inr g) read = subst IsRunStatus g.2 read

module _ (v : Abc) (starts : List (List ℕ)) (wrote : List ℕ) (m : Meaning) where
  end_wrote : (out err : Channel) (s : Status) → IsEnd (λ a. IsLogged v starts wrote m a × (a.status ≢ status.Done)) ⊥ out err s → IsRunStatus s → Got out wrote
  end_wrote out err s (IsEnd.defined a x y z) read = subst (λ (bytes : List ℕ). Got out bytes) (logged_out v starts wrote m a x.0) y
  end_wrote out err s (IsEnd.read_fault x y z) read = absurd x
  end_wrote out err s (IsEnd.no_memory y z) read = absurd read
  end_wrote out err s (IsEnd.out_failed a x y z w) read = absurd read
  end_wrote out err s (IsEnd.both_failed a x y z w u) read = absurd read
  end_wrote out err s (IsEnd.line_failed a x y z w) read = absurd read
  end_wrote out err s (IsEnd.read_line_failed x y z w) read = absurd read
  end_wrote out err s (IsEnd.memory_line_failed y z w) read = absurd read

  pub log_wrote : (out err : Channel) (s : Status) → RunsTo (IsLogged v starts wrote m) ⊥ out err s → IsRunStatus s → Got out wrote
  log_wrote out err s (RunsTo.done a x d got e is) read = subst (λ (bytes : List ℕ). Got out bytes) (logged_out v starts wrote m a x) got
  log_wrote out err s (RunsTo.other end) read = end_wrote out err s end read
  log_wrote out err s (RunsTo.cut a x rose front line) read = absurd (unwritten err s line read)

pub got_log_of : (l : LinkedFile) (fs : List Formula) (fuel : ℕ) (limits : Limits) (starts : List (List ℕ)) (out err : Channel) (s : Status) → IsVerifiedOf l.file l → AreFormulas fs
    → RunsTo (IsLogged l.file starts (whole_log (record { linked = l; formulas = fs }) limits fuel) (meaning (record { linked = l; formulas = fs }) limits fuel)) ⊥ out err s → IsRunStatus s → GotLogOf fs fuel limits out
got_log_of l fs fuel limits starts out err s v host end read =
    let p : Setting = record { linked = l; formulas = fs } in
    record {
      linked = l;
      verified = record { fits = v.linked.fits; linked = v.linked; typed = v.typed; host = host };
      numbered = v.numbered;
      got = log_wrote l.file starts (whole_log p limits fuel) (meaning p limits fuel) out err s end read;
    }

-- ---- and what `replay` says of it

accepted_only : HasOneNumber → IsNeverBoth → (fs : List Formula) (input : List ℕ) (n : ℕ) → IsReplayed fs input n → (a : Answer) → Replay fs input a → a ≡ bytes_answer (replayed_line n)
accepted_only one never fs input n r a (Replay.replayed k same x) = x ∙ ap (λ (j : ℕ). bytes_answer (replayed_line j)) (one fs input k n same r)
accepted_only one never fs input n r a (Replay.refused e why x) = absurd (never fs input n e r why)

pub log_accepted : HasOneNumber → IsNeverBoth → (fs : List Formula) (fuel : ℕ) (limits : Limits) (out : Channel) → AreLimits fuel limits → GotLogOf fs fuel limits out → GotLog fs out
log_accepted one never fs fuel limits out within g =
    let p : Setting = record { linked = g.linked; formulas = fs } in
    let fits = g.verified.fits in
    let is : IsReplayed fs (whole_log p limits fuel) (steps p limits fuel) = record {
      linked = g.linked;
      fuel = fuel;
      limits = limits;
      is = record { file = file_bytes g.linked.file; spells = (canonical_file g.linked.file fits.0 fits.1).0; short = (let le = short_file g.linked.file fits in omega (arith, le)); verified = g.verified; numbered = g.numbered; limits = within; is = refl };
      counted = refl;
    } in
    record {
      bytes = whole_log p limits fuel;
      got = g.got;
      accepted = record { steps = steps p limits fuel; replayed = is; only = accepted_only one never fs (whole_log p limits fuel) (steps p limits fuel) is };
    }

-- ---- `replay`

replay_gives : (fs : List Formula) (source : Channel) (n : ℕ) → OfInput source.before (λ input. IsReplayed fs input n) → IsUsedUp source.before source.after → GivesAllBytes (Replay fs) source (replayed_line n)
replay_gives fs source n f used = record {
  outcome = of_any (λ input. IsReplayed fs input n) (λ input. Replay fs input (bytes_answer (replayed_line n))) source.before (λ b is. Replay.replayed n is refl) f;
  used_up = used;
}

module _ (fs : List Formula) (source out err : Channel) (s : Status) where
  -- the number of steps is given
  pub steps_end : (n : ℕ) → OfInput source.before (λ input. IsReplayed fs input n) → IsUsedUp source.before source.after → GivesBytes out err (replayed_line n) s → Ends (On (Replay fs)) source out err s
  steps_end n f used end = gave (Replay fs) source out err (replayed_line n) s (replay_gives fs source n f used) end

  -- an input that is no log has its line
  refused_ends : (e : ReplayError) → OfInput source.before (λ input. IsLogRefused fs input e) → Got out [] → GivesLine err (line_answer status.Refused (unreplayed_text e)) s → Ends (On (Replay fs)) source out err s
  refused_ends e f got line =
      line_ends (On (Replay fs) source.before) (HasFailed source) out err (line_answer status.Refused (unreplayed_text e)) s
      (of_any (λ input. IsLogRefused fs input e) (λ input. Replay fs input (line_answer status.Refused (unreplayed_text e))) source.before (λ b h. Replay.refused e h refl) f) got line

  pub unreplayed_ends : (e : ReplayError) → OfInput source.before (λ input. IsLogRefusedBy fs input e) → (e ≡ errors.ReadFault → HasFailed source) → Got out [] → GivesLine err (unreplayed_answer e) s → Ends (On (Replay fs)) source out err s
  unreplayed_ends (errors.Refused place reason) f cause got line = refused_ends (errors.Refused place reason) f got line
  unreplayed_ends (errors.Link rule i) f cause got line = refused_ends (errors.Link rule i) f got line
  unreplayed_ends (errors.Verify m offset rule) f cause got line = refused_ends (errors.Verify m offset rule) f got line
  unreplayed_ends errors.ReadFault f cause got line = read_failed (On (Replay fs) source.before) (HasFailed source) out err s (cause refl) got line
  unreplayed_ends errors.NoMemory f cause got line = memory_failed (On (Replay fs) source.before) (HasFailed source) out err s got line

  -- where it is none, the status is none of a run's
  refused_unread : (text : List ℕ) (t : Status) → (IsRunStatus t → ⊥) → GivesLine err (line_answer t text) s → UsesUp source s
  refused_unread text t not (inl g) = λ read. absurd (not (subst IsRunStatus g.1 read))
  refused_unread text t not (inr g) = λ read. absurd (subst IsRunStatus g.2 read)

  pub unreplayed_unread : (e : ReplayError) → GivesLine err (unreplayed_answer e) s → UsesUp source s
  unreplayed_unread (errors.Refused place reason) line = refused_unread (unreplayed_text (errors.Refused place reason)) status.Refused (λ h. h) line
  unreplayed_unread (errors.Link rule i) line = refused_unread (unreplayed_text (errors.Link rule i)) status.Refused (λ h. h) line
  unreplayed_unread (errors.Verify m offset rule) line = refused_unread (unreplayed_text (errors.Verify m offset rule)) status.Refused (λ h. h) line
  unreplayed_unread errors.ReadFault line = refused_unread read_fault_text status.ReadFault (λ h. h) line
  unreplayed_unread errors.NoMemory line = refused_unread no_memory_text status.NoMemory (λ h. h) line

-- it is no answer to words
pub replay_not_usage : (fs : List Formula) (input : List ℕ) (a : Answer) → Replay fs input a → a.status ≡ status.Usage → ⊥
replay_not_usage fs input a (Replay.replayed n is x) e = let h = ap (λ (y : Answer). y.status) x in cc
replay_not_usage fs input a (Replay.refused f is x) e = let h = ap (λ (y : Answer). y.status) x in cc

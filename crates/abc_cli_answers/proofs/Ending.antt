-- How the ways to end follow from what was written.
use Rattle.std.proofs.Common.{◌≡◌, ◌≢◌, ◌≤◌, ℕ, All, inl, inr, List, [], Some, None, Ok, Err, refl, sym, ◌∙◌, subst, arith}
use Rattle.std.specs.Prelude.{is_ok, if◌then◌else◌, IfErr, IfOk}
use Rattle.std.specs.declared.option.Option.{Option}
use Rattle.std.specs.declared.alloc.Global.{Global}
use Rattle.std.specs.declared.result.Result.{Result}
use Rattle.std.specs.declared.vec.Vec.{Vec}
use Rattle.abc_base.specs.Faults.{HasCause, Rose}
use Rattle.abc_base.specs.Sinks.{WritesAll}
use Rattle.abc_base.specs.declared.status.Status.{Status}
use Rattle.abc_base.specs.declared.status.Status.TheVariants as status
use Rattle.abc_file.specs.Reading.{OfInput}
use Rattle.abc_file_types.specs.declared.tables.Abc.{Abc}
use Rattle.abc_file_types.specs.Bodies.{IsReadyBody}
use Rattle.abc_file_types.specs.Files.{Fits}
use Rattle.abc_file_types.proofs.Whole.{file_ready}
use Rattle.abc_verify.proofs.Verifying.{of_any}
use Rattle.abc_cli_answers.specs.declared.stop.Stop.{Stop}
use Rattle.abc_cli_answers.specs.declared.stop.Stop.TheVariants as stops
use Rattle.abc_cli_answers.specs.Lines.{read_fault_text, write_fault_text, no_memory_text}
use Rattle.abc_cli_answers.specs.Answers.{Answer, On, line_answer, bytes_answer}
use Rattle.abc_cli_answers.specs.Stops.{GivesAllBytes, IsGiven, Stops, stop_answer}
use Rattle.abc_cli_answers.specs.End.{Channel, channel, Got, GotFront, HasFailed, GivesBytes, GivesLine, Ends, IsEnd, IsRunStatus, UsesUp}

-- a line that was written or not
pub gives : {T E : Type 0} (before after : Option (List ℕ)) (n m : ℕ) (a : Answer) (written : Result T E) (s : Status)
    → WritesAll before after written a.err → HasCause n m written → s ≡ (if is_ok written then a.status else status.WriteFault) → GivesLine (channel before after n m) a s
gives before after n m a (Ok t) s w h is = inl (w, is)
gives before after n m a (Err e) s w h is = inr (h.failed, w, is)

-- more may be an outcome, and a source may fail for more
pub weaker : (P Q : Answer → Type 0) (F G : Type 0) (out err : Channel) (s : Status) → ((a : Answer) → P a → Q a) → (F → G) → IsEnd P F out err s → IsEnd Q G out err s
weaker P Q F G out err s p f (IsEnd.defined a x y z) = IsEnd.defined a (p a x) y z
weaker P Q F G out err s p f (IsEnd.read_fault x y z) = IsEnd.read_fault (f x) y z
weaker P Q F G out err s p f (IsEnd.no_memory y z) = IsEnd.no_memory y z
weaker P Q F G out err s p f (IsEnd.out_failed a x y z w) = IsEnd.out_failed a (p a x) y z w
weaker P Q F G out err s p f (IsEnd.both_failed a x y z w v) = IsEnd.both_failed a (p a x) y z w v
weaker P Q F G out err s p f (IsEnd.line_failed a x y z w) = IsEnd.line_failed a (p a x) y z w
weaker P Q F G out err s p f (IsEnd.read_line_failed x y z w) = IsEnd.read_line_failed (f x) y z w
weaker P Q F G out err s p f (IsEnd.memory_line_failed y z w) = IsEnd.memory_line_failed y z w

-- a count that rose later
pub rose_later : (n m k : ℕ) → n ≤ m → Rose m k → Rose n k
rose_later n m k le r = omega (arith, le, r)

-- ---- the ways to end

at_status : (P : Answer → Type 0) (F : Type 0) (out err : Channel) (s t : Status) → s ≡ t → IsEnd P F out err t → IsEnd P F out err s
at_status P F out err s t e end = subst (λ (x : Status). IsEnd P F out err x) (sym e) end

-- the line of an answer that writes nothing else
pub line_ends : (P : Answer → Type 0) (F : Type 0) (out err : Channel) (a : Answer) (s : Status) → P a → Got out a.out → GivesLine err a s → IsEnd P F out err s
line_ends P F out err a s p o (inl g) = at_status P F out err s a.status g.1 (IsEnd.defined a p o g.0)
line_ends P F out err a s p o (inr g) = at_status P F out err s status.WriteFault g.2 (IsEnd.line_failed a p g.0 o g.1)

-- bytes that could not be written, and the line that says so
pub bytes_failed : (P : Answer → Type 0) (F : Type 0) (out err : Channel) (a : Answer) (s : Status) → P a → HasFailed out → GotFront out a.out → GivesLine err (line_answer status.WriteFault write_fault_text) s → IsEnd P F out err s
bytes_failed P F out err a s p f o (inl g) = at_status P F out err s status.WriteFault g.1 (IsEnd.out_failed a p f o g.0)
bytes_failed P F out err a s p f o (inr g) = at_status P F out err s status.WriteFault g.2 (IsEnd.both_failed a p f g.0 o g.1)

pub read_failed : (P : Answer → Type 0) (F : Type 0) (out err : Channel) (s : Status) → F → Got out [] → GivesLine err (line_answer status.ReadFault read_fault_text) s → IsEnd P F out err s
read_failed P F out err s f o (inl g) = at_status P F out err s status.ReadFault g.1 (IsEnd.read_fault f o g.0)
read_failed P F out err s f o (inr g) = at_status P F out err s status.WriteFault g.2 (IsEnd.read_line_failed f g.0 o g.1)

pub memory_failed : (P : Answer → Type 0) (F : Type 0) (out err : Channel) (s : Status) → Got out [] → GivesLine err (line_answer status.NoMemory no_memory_text) s → IsEnd P F out err s
memory_failed P F out err s o (inl g) = at_status P F out err s status.NoMemory g.1 (IsEnd.no_memory o g.0)
memory_failed P F out err s o (inr g) = at_status P F out err s status.WriteFault g.2 (IsEnd.memory_line_failed g.0 o g.1)

-- ---- what a command gives, and why it stops

pub any_input : (P : List ℕ → Type 0) (left : Option (List ℕ)) → ((b : List ℕ) → P b) → OfInput left P
any_input P None f = ([], f [])
any_input P (Some b) f = f b

-- bytes of an answer without a line
pub bytes_end : (P : Answer → Type 0) (F : Type 0) (out err : Channel) (bytes : List ℕ) (s : Status) → P (bytes_answer bytes) → GivesBytes out err bytes s → IsEnd P F out err s
bytes_end P F out err bytes s p (inl g) = at_status P F out err s status.Done g.2 (IsEnd.defined (bytes_answer bytes) p g.0 g.1)
bytes_end P F out err bytes s p (inr g) = bytes_failed P F out err (bytes_answer bytes) s p g.0 g.1 g.2

pub gave : (Outcome : List ℕ → Answer → Type 0) (source out err : Channel) (bytes : List ℕ) (s : Status) → GivesAllBytes Outcome source bytes → GivesBytes out err bytes s → Ends (On Outcome) source out err s
gave Outcome source out err bytes s g end = bytes_end (On Outcome source.before) (HasFailed source) out err bytes s g.outcome end

stop_not_done : (stop : Stop) → (stop_answer stop).status ≡ status.Done → ⊥
stop_not_done (stops.File place reason) h = cc
stop_not_done (stops.Text line reason) h = cc
stop_not_done (stops.Item i rule) h = cc
stop_not_done (stops.Code m offset rule) h = cc
stop_not_done (stops.Tidy rule i) h = cc
stop_not_done stops.ReadFault h = cc
stop_not_done stops.NoMemory h = cc

pub not_done : (err : Channel) (stop : Stop) (s : Status) → GivesLine err (stop_answer stop) s → s ≡ status.Done → ⊥
not_done err stop s (inl g) h = stop_not_done stop (sym g.1 ∙ h)
not_done err stop s (inr g) h = let k = g.2 in cc

stop_unread : (stop : Stop) → IsRunStatus (stop_answer stop).status → ⊥
stop_unread (stops.File place reason) h = h
stop_unread (stops.Text line reason) h = h
stop_unread (stops.Item i rule) h = h
stop_unread (stops.Code m offset rule) h = h
stop_unread (stops.Tidy rule i) h = h
stop_unread stops.ReadFault h = h
stop_unread stops.NoMemory h = h

pub stop_not_read : (err : Channel) (stop : Stop) (s : Status) → GivesLine err (stop_answer stop) s → IsRunStatus s → ⊥
stop_not_read err stop s (inl g) h = stop_unread stop (subst IsRunStatus g.1 h)
stop_not_read err stop s (inr g) h = subst IsRunStatus g.2 h

-- a stop is no success
pub stopped_undone : (Outcome : List ℕ → Answer → Type 0) (source out err : Channel) (stop : Stop) (s : Status) → Stops Outcome source stop → Got out [] → GivesLine err (stop_answer stop) s → IsEnd (λ a. On Outcome source.before a × (a.status ≢ status.Done)) (HasFailed source) out err s
stopped_undone Outcome source out err (stops.File place reason) s x o g = line_ends (λ a. On Outcome source.before a × (a.status ≢ status.Done)) (HasFailed source) out err (stop_answer (stops.File place reason)) s (x.outcome tt, stop_not_done (stops.File place reason)) o g
stopped_undone Outcome source out err (stops.Text line reason) s x o g = line_ends (λ a. On Outcome source.before a × (a.status ≢ status.Done)) (HasFailed source) out err (stop_answer (stops.Text line reason)) s (x.outcome tt, stop_not_done (stops.Text line reason)) o g
stopped_undone Outcome source out err (stops.Item i rule) s x o g = line_ends (λ a. On Outcome source.before a × (a.status ≢ status.Done)) (HasFailed source) out err (stop_answer (stops.Item i rule)) s (x.outcome tt, stop_not_done (stops.Item i rule)) o g
stopped_undone Outcome source out err (stops.Code m offset rule) s x o g = line_ends (λ a. On Outcome source.before a × (a.status ≢ status.Done)) (HasFailed source) out err (stop_answer (stops.Code m offset rule)) s (x.outcome tt, stop_not_done (stops.Code m offset rule)) o g
stopped_undone Outcome source out err (stops.Tidy rule i) s x o g = line_ends (λ a. On Outcome source.before a × (a.status ≢ status.Done)) (HasFailed source) out err (stop_answer (stops.Tidy rule i)) s (x.outcome tt, stop_not_done (stops.Tidy rule i)) o g
stopped_undone Outcome source out err stops.ReadFault s x o g = read_failed (λ a. On Outcome source.before a × (a.status ≢ status.Done)) (HasFailed source) out err s (x.cause refl) o g
stopped_undone Outcome source out err stops.NoMemory s x o g = memory_failed (λ a. On Outcome source.before a × (a.status ≢ status.Done)) (HasFailed source) out err s o g

pub stopped : (Outcome : List ℕ → Answer → Type 0) (source out err : Channel) (stop : Stop) (s : Status) → Stops Outcome source stop → Got out [] → GivesLine err (stop_answer stop) s → Ends (On Outcome) source out err s
stopped Outcome source out err stop s x o g =
    weaker (λ a. On Outcome source.before a × (a.status ≢ status.Done)) (On Outcome source.before) (HasFailed source) (HasFailed source) out err s (λ a y. y.0) (λ h. h) (stopped_undone Outcome source out err stop s x o g)

-- what a command gives is written, or the line that says why it gives nothing
pub finished : (Outcome : List ℕ → Answer → Type 0) (source out err : Channel) (done : Result (Vec ℕ Global) Stop) (s : Status)
    → IfOk done (λ bytes. GivesAllBytes Outcome source bytes.items) → IfErr done (λ stop. Stops Outcome source stop) → IsGiven done out err s → Ends (On Outcome) source out err s
finished Outcome source out err (Ok bytes) s g x end = gave Outcome source out err bytes.items s g end
finished Outcome source out err (Err stop) s g x end = stopped Outcome source out err stop s x end.0 end.1

pub finished_used_up : (Outcome : List ℕ → Answer → Type 0) (source out err : Channel) (done : Result (Vec ℕ Global) Stop) (s : Status)
    → IfOk done (λ bytes. GivesAllBytes Outcome source bytes.items) → IsGiven done out err s → UsesUp source s
finished_used_up Outcome source out err (Ok bytes) s g end = λ h. g.used_up
finished_used_up Outcome source out err (Err stop) s g end = λ h. absurd (stop_not_read err stop s end.1 h)

pub memory_stops : (Outcome : List ℕ → Answer → Type 0) (source : Channel) → Stops Outcome source stops.NoMemory
memory_stops Outcome source = record { outcome = λ d. absurd d; cause = λ h. absurd cc }

-- more may be the outcome
pub stops_as : (P Q : List ℕ → Answer → Type 0) (source : Channel) (stop : Stop) → ((input : List ℕ) (a : Answer) → P input a → Q input a) → Stops P source stop → Stops Q source stop
stops_as P Q source stop f x = record {
  outcome = λ d. of_any (λ input. P input (stop_answer stop)) (λ input. Q input (stop_answer stop)) source.before (λ input. f input (stop_answer stop)) (x.outcome d);
  cause = x.cause;
}

-- a file that fits has bodies that can be written
pub fits_ready : (v : Abc) → Fits v → All IsReadyBody v.bodies
fits_ready v f = file_ready v f.0 f.1

-- How the ways to end of a run follow from what was written.
use Rattle.std.proofs.Common.{◌≡◌, ◌≢◌, ℕ, inl, inr, List, [], sym, ◌∙◌, subst}
use Rattle.abc_base.specs.declared.status.Status.{Status}
use Rattle.abc_base.specs.declared.status.Status.TheVariants as status
use Rattle.abc_cli_answers.specs.declared.stop.Stop.{Stop}
use Rattle.abc_cli_answers.specs.Answers.{Answer, line_answer}
use Rattle.abc_cli_answers.specs.End.{Channel, Got, GivesLine, IsEnd, RunsTo, UsesUp}
use Rattle.abc_cli_answers.specs.Lines.{no_memory_text}
use Rattle.abc_cli_answers.specs.Stops.{stop_answer}
use Rattle.abc_cli_answers.proofs.Ending.{bytes_failed, memory_failed, stop_not_read, weaker}

pub runs_weaker : (P Q : Answer → Type 0) (F G : Type 0) (out err : Channel) (s : Status) → ((a : Answer) → P a → Q a) → (F → G) → RunsTo P F out err s → RunsTo Q G out err s
runs_weaker P Q F G out err s p f (RunsTo.done a x d o e is) = RunsTo.done a (p a x) d o e is
runs_weaker P Q F G out err s p f (RunsTo.other end) =
    RunsTo.other (weaker (λ a. P a × (a.status ≢ status.Done)) (λ a. Q a × (a.status ≢ status.Done)) F G out err s (λ a x. (p a x.0, x.1)) f end)
runs_weaker P Q F G out err s p f (RunsTo.cut a x rose front line) = RunsTo.cut a (p a x) rose front line

-- it is an end as of any command
pub runs_end : (P : Answer → Type 0) (F : Type 0) (out err : Channel) (s : Status) → (((a : Answer) → P a → a.status ≡ status.Done → a.err ≡ [])) → RunsTo P F out err s → IsEnd P F out err s
runs_end P F out err s quiet (RunsTo.done a x d o e is) =
    subst (λ (t : Status). IsEnd P F out err t) (d ∙ sym is) (IsEnd.defined a x o (subst (Got err) (sym (quiet a x d)) e))
runs_end P F out err s quiet (RunsTo.other end) = weaker (λ a. P a × (a.status ≢ status.Done)) P F F out err s (λ a x. x.0) (λ h. h) end
runs_end P F out err s quiet (RunsTo.cut a x rose front line) = bytes_failed P F out err a s x rose front line

pub memory_runs : (P : Answer → Type 0) (F : Type 0) (out err : Channel) (s : Status) → Got out [] → GivesLine err (line_answer status.NoMemory no_memory_text) s → RunsTo P F out err s
memory_runs P F out err s got line = RunsTo.other (memory_failed (λ a. P a × (a.status ≢ status.Done)) F out err s got line)

pub told_quiet : (err : Channel) (t : Status) (text : List ℕ) (s : Status) → t ≢ status.Done → GivesLine err (line_answer t text) s → s ≡ status.Done → ⊥
told_quiet err t text s not (inl g) d = not (sym g.1 ∙ d)
told_quiet err t text s not (inr g) d = let k : s ≡ status.WriteFault = g.2 in cc

pub unread : (source err : Channel) (stop : Stop) (s : Status) → GivesLine err (stop_answer stop) s → UsesUp source s
unread source err stop s line = λ h. absurd (stop_not_read err stop s line h)

-- The last line of a log.
use Rattle.std.proofs.Common.{◌≡◌, ◌≢◌, ℕ, ◌≤◌, List, refl, sym, ap, ◌∙◌, subst, arith}
use Rattle.std.specs.Prelude.{IsSome, Ok, Err}
use Rattle.std.specs.Io.KnownBytes.{append_known}
use Rattle.std.specs.declared.option.Option.{Option}
use Rattle.std.specs.declared.result.Result.{Result}
use Rattle.abc_base.proofs.Writing.{front_second}
use Rattle.abc_base.specs.Faults.{Rose}
use Rattle.abc_base.specs.Sinks.{GrowsByFront, WritesAll}
use Rattle.abc_base.specs.declared.formula.Formula.{Formula}
use Rattle.abc_base.specs.declared.source.Failed.{Failed}
use Rattle.abc_meaning.specs.Calls.{replies_for}
use Rattle.abc_machine.proofs.Lined.{told_on, whole_on}
use Rattle.abc_meaning.specs.Lines.{end_line}
use Rattle.abc_meaning.specs.Logs.{logs_for}
use Rattle.abc_machine.specs.Ended.{HasRun, IsEndOf}
use Rattle.abc_machine.specs.Logged as runs
use Rattle.abc_machine.specs.Logged.{HasAllBut, LogsRun, logged}
use Rattle.abc_machine.specs.Replied.{HasReplied, IsReplyOf}
use Rattle.abc_machine.specs.Spent.{end_for}
use Rattle.abc_machine.specs.declared.ends.End.{End}
use Rattle.abc_machine.specs.declared.ends.End.TheVariants as ends
use Rattle.abc_machine.specs.declared.replies.Reply.{Reply}
use Rattle.abc_machine.specs.declared.replies.Reply.TheVariants as replies
use Rattle.abc_machine.proofs.Untold.{end_is, failed_back, runs_are}
use Rattle.abc_meaning.specs.Meaning.{Ended, ran, runs_for}
use Rattle.abc_meaning.specs.Throwing as meant
use Rattle.abc_meaning.specs.Throwing.{Machine}
use Rattle.abc_meaning.specs.Openings.{setting}
use Rattle.abc_link_names.specs.Linked.{LinkedFile}
use Rattle.abc_meaning.specs.Setting.{Setting}
use Rattle.abc_file_types.specs.declared.tables.Abc.{Abc}

-- the line of an end, by what the machine answers
pub line_of_end : (v : Abc) (e end : meant.End) (y z : Option (List ℕ)) (written : Result Unit Failed) → e ≡ end → WritesAll y z written (end_line v end) → WritesAll y z written (end_line v e)
line_of_end v e end y z written same line = subst (λ (q : meant.End). WritesAll y z written (end_line v q)) (sym same) line

-- a run with its log: from `x` to `y` all lines but the last were written, and then that to `z`
module _ (l : LinkedFile) (fs : List Formula) (fuel : ℕ) (first : Machine) (x y z : Option (List ℕ)) (written : Result Unit Failed) where
  abbrev p : Setting
  p = setting l fs

  abbrev all : List ℕ
  all = logs_for p fuel first

  abbrev meant_end : meant.End
  meant_end = (runs_for p fuel first).end

  abbrev last : List ℕ
  last = end_line l.file meant_end

  abbrev Logs : End → Type 0
  Logs end = LogsRun all (ran (runs_for p fuel first)) x z end

  -- the line of an end, and none where writing failed
  abbrev Writes : End → Type 0
  Writes end = (e : meant.End) → IsEndOf e end → WritesAll y z written (end_line l.file e)

  -- the meaning's end is answered
  end_so : (reply : Reply) → IsReplyOf (replies_for p fuel first).reply reply → IsEndOf meant_end (end_for reply)
  end_so reply is = subst (λ (e : meant.End). IsEndOf e (end_for reply)) (sym (ap (λ (e : Ended). e.end) (runs_are p fuel first))) (end_is (replies_for p fuel first).reply reply is)

  end_written : (reply : Reply) → written ≡ Ok tt → IsReplyOf (replies_for p fuel first).reply reply → HasAllBut last all x y → Writes (end_for reply) → Logs (end_for reply)
  end_written reply is answers lines writes =
      let so = end_so reply answers in
      let line : IsSome y → z ≡ append_known y last = subst (λ (w : Result Unit Failed). WritesAll y z w last) is (writes meant_end so) in
      logged all (runs_for p fuel first).world.wrote meant_end (end_for reply) so (λ some. whole_on x y z lines.lines last lines.told line some ∙ ap (append_known x) (sym lines.is))

  end_failed : (reply : Reply) (f : Failed) → written ≡ Err f → IsReplyOf (replies_for p fuel first).reply reply → HasAllBut last all x y → Writes (end_for reply) → Logs ends.WriteFault
  end_failed reply f is answers lines writes =
      let line : IsSome y → GrowsByFront y z last = subst (λ (w : Result Unit Failed). WritesAll y z w last) is (writes meant_end (end_so reply answers)) in
      runs.failed all (runs_for p fuel first).world.wrote meant_end (λ some.
      let told = lines.told some in
      let rest : GrowsByFront (append_known x lines.lines) z last = subst (λ (o : Option (List ℕ)). GrowsByFront o z last) told (line (told_on x y lines.lines told some)) in
      subst (GrowsByFront x z) (sym lines.is) (front_second x z lines.lines last rest))

  -- where writing failed before, there is none
  end_cut : z ≡ y → (IsSome x → GrowsByFront x y all) → Logs ends.WriteFault
  end_cut same front = runs.failed all (runs_for p fuel first).world.wrote meant_end (λ some. subst (λ (o : Option (List ℕ)). GrowsByFront x o all) (sym same) (front some))

  -- what is known of the lines before it
  pub record HasLines (reply : Reply) : Type 0 where
    pub answers : reply ≢ replies.WriteFault → IsReplyOf (replies_for p fuel first).reply reply
    pub lines : reply ≢ replies.WriteFault → HasAllBut last all x y
    pub front : reply ≡ replies.WriteFault → IsSome x → GrowsByFront x y all

  logs_by : (reply : Reply) → written ≡ Ok tt → HasLines reply → Writes (end_for reply) → (end_for reply ≡ ends.WriteFault → z ≡ y) → Logs (end_for reply)
  logs_by (replies.Value v) is has writes none = end_written (replies.Value v) is (has.answers (λ e. absurd cc)) (has.lines (λ e. absurd cc)) writes
  logs_by (replies.Uncaught thrown) is has writes none = end_written (replies.Uncaught thrown) is (has.answers (λ e. absurd cc)) (has.lines (λ e. absurd cc)) writes
  logs_by (replies.Profile method index fault) is has writes none = end_written (replies.Profile method index fault) is (has.answers (λ e. absurd cc)) (has.lines (λ e. absurd cc)) writes
  logs_by replies.FuelSpent is has writes none = end_written replies.FuelSpent is (has.answers (λ e. absurd cc)) (has.lines (λ e. absurd cc)) writes
  logs_by (replies.Full limit) is has writes none = end_written (replies.Full limit) is (has.answers (λ e. absurd cc)) (has.lines (λ e. absurd cc)) writes
  logs_by replies.WriteFault is has writes none = end_cut (none refl) (has.front refl)

  pub logs_ok : (reply : Reply) (end : End) → end ≡ end_for reply → written ≡ Ok tt → HasLines reply → Writes end → (end ≡ ends.WriteFault → z ≡ y) → Logs end
  logs_ok reply end same is has writes none = subst Logs (sym same) (logs_by reply is has (subst Writes same writes) (λ e. none (same ∙ e)))

  pub logs_err : (reply : Reply) (end : End) (f : Failed) → end ≡ end_for reply → written ≡ Err f → HasLines reply → Writes end → (end ≡ ends.WriteFault → written ≡ Ok tt) → Logs ends.WriteFault
  logs_err reply end f same is has writes none =
      let well : reply ≢ replies.WriteFault = λ e. absurd (let two = sym is ∙ none (same ∙ ap end_for e) in cc) in
      end_failed reply f is (has.answers well) (has.lines well) (subst Writes same writes)

-- ---- the count of faults

rose_to : (a b c : ℕ) → Rose a b → b ≤ c → Rose a c
rose_to a b c rose low = omega arith

pub cause_ok : (a b c : ℕ) (reply : Reply) (end : End) → end ≡ end_for reply → HasReplied a b reply → b ≤ c → HasRun a c end
cause_ok a b c reply end same h low = record { later = (let later = h.later in omega (arith, later, low)); failed = λ e. rose_to a b c (h.failed (failed_back reply (sym same ∙ e))) low }

pub cause_err : (a b c : ℕ) (reply : Reply) → HasReplied a b reply → b ≤ c → Rose b c → HasRun a c ends.WriteFault
cause_err a b c reply h low rose = (let later = h.later in record { later = omega (arith, later, low); failed = λ e. omega (arith, later, rose) })

-- What the users of a session keep of it, from one use to the next.
use Rattle.std.specs.Prelude.{◌≡◌, ℕ, List, None, Some}
use Rattle.std.specs.declared.option.Option.{Option}
use Rattle.abc_base.specs.declared.formula.Formula.{Formula}
use Rattle.abc_heap_store.specs.declared.records.Limits.{Limits}
use Rattle.abc_link_names.specs.Linked.{LinkedFile}
use Rattle.abc_machine.specs.Machines.{IsOpened, IsReadyToCall, Opened}
use Rattle.abc_machine.specs.OneRun.{HasEnded, LeavesRun}
use Rattle.abc_machine.specs.declared.ends.End.{End}
use Rattle.abc_meaning.specs.Calls.{Call}
use Rattle.abc_objects.specs.Opening.{formula_names}
use Rattle.abc_session.specs.Sessions.{AnswersIn}
use Rattle.abc_session.specs.declared.replies.SessionReply.{SessionReply}

-- while it can be started, and while it is ready for calls, a host of these formulas has the names that it was opened with
pub record IsBeside (m : Opened) (formulas : List Formula) : Type 0 where
  pub new : m.ended ≡ None → formula_names formulas ≡ m.names
  pub ready : IsReadyToCall m → formula_names formulas ≡ m.names

-- so it is of a session that was opened beside that host
abbrev pub OpenedBeside : Type 0
OpenedBeside = (l : LinkedFile) (formulas : List Formula) (limits : Limits) (m : Opened) → IsOpened l formulas limits m → IsBeside m formulas

-- it stays so over a start
abbrev pub StartedBeside : Type 0
StartedBeside = (old new : Opened) (end : End) (fuel : ℕ) (host formulas : List Formula)
    → HasEnded old new end → (old.ended ≡ None → LeavesRun old new host fuel end) → ((e : End) → old.ended ≡ Some e → new ≡ old) → IsBeside old formulas → IsBeside new formulas

-- and over a call, whatever it answers
abbrev pub CalledBeside : Type 0
CalledBeside = (old new : Opened) (c : Call) (before now : Option (List ℕ)) (reply : SessionReply) (formulas : List Formula) → AnswersIn old new c before now reply → IsBeside old formulas → IsBeside new formulas

-- What the calls from C are answered with: by what a session answers, which is the meaning of the file's code.
use Rattle.std.specs.Prelude.{◌≡◌, ℕ, pos, ◌++◌, List, [], ◌∷◌, length, true, false, Some, None}
use Rattle.abc_base.specs.Hosts.{builtin_formulas}
use Rattle.abc_base.specs.Sinks.{GrowsByFront}
use Rattle.abc_base.specs.declared.status.Status.{Status}
use Rattle.abc_base.specs.declared.status.Status.TheVariants as status
use Rattle.abc_machine.specs.Machines.{Opened}
use Rattle.abc_machine.specs.Texts.{told_text}
use Rattle.abc_machine.specs.declared.ends.End.{End}
use Rattle.abc_machine.specs.declared.ends.End.TheVariants as ends
use Rattle.abc_machine.specs.declared.replies.PlainValue.{PlainValue}
use Rattle.abc_machine.specs.declared.replies.PlainValue.TheVariants as values
use Rattle.abc_machine.specs.declared.replies.Reply.TheVariants as replies
use Rattle.abc_meaning.specs.Calls.{Call as MeantCall}
use Rattle.abc_meaning.specs.Exports.{export}
use Rattle.abc_meaning.specs.Openings.{setting}
use Rattle.abc_session.specs.Sessions.{AnswersIn}
use Rattle.abc_session.specs.declared.replies.SessionReply.{SessionReply}
use Rattle.abc_session.specs.declared.replies.SessionReply.TheVariants as answers
use Rattle.abc_c.specs.Crossing.{CanBeMade, name_of_call, numbers_of, of_value, text_at, without}
use Rattle.abc_c.specs.declared.crossing.Answer.{Answer}
use Rattle.abc_c.specs.declared.crossing.Call.{Call}
use Rattle.abc_c.specs.declared.crossing.Kind.{Kind}
use Rattle.abc_c.specs.declared.crossing.Kind.TheVariants as kinds

-- ---- statuses

-- the status of a run that ended so
abbrev pub end_status : End → Status
end_status ends.Done = status.Done
end_status (ends.Uncaught thrown) = status.Uncaught
end_status (ends.Profile method index fault) = status.Profile
end_status ends.FuelSpent = status.Fuel
end_status (ends.Full limit) = status.Limit
end_status ends.WriteFault = status.WriteFault

-- ---- a value: from what the output had to what it has then

-- a text is written behind it, or the front of it where there is no room
pub data PutsText (text before now : List ℕ) : Answer → Type 0 where
  whole : now ≡ before ++ text → PutsText text before now (text_at (length before) (length text))
  cut : GrowsByFront (Some before) (Some now) text → PutsText text before now (without status.WriteFault)

-- nothing is written
pub record TellsAlone (told : Answer) (before now : List ℕ) (a : Answer) : Type 0 where
  pub is : a ≡ told
  pub same : now ≡ before

abbrev pub PutsValue : Opened → PlainValue → (before now : List ℕ) → Answer → Type 0
PutsValue m values.Undefined before now a = TellsAlone (of_value kinds.Undefined (pos 0)) before now a
PutsValue m values.Null before now a = TellsAlone (of_value kinds.Null (pos 0)) before now a
PutsValue m (values.Bool false) before now a = TellsAlone (of_value kinds.Bool (pos 0)) before now a
PutsValue m (values.Bool true) before now a = TellsAlone (of_value kinds.Bool (pos 1)) before now a
PutsValue m (values.Num n) before now a = TellsAlone (of_value kinds.Num n) before now a
PutsValue m (values.Text s) before now a = PutsText (told_text m s) before now a
PutsValue m values.Other before now a = TellsAlone (of_value kinds.Other (pos 0)) before now a

-- what a session replied is told: its value, or a status
abbrev pub Tells : Opened → SessionReply → (before now : List ℕ) → Answer → Type 0
Tells m (answers.Reply (replies.Value value)) before now a = PutsValue m value before now a
Tells m (answers.Reply (replies.Uncaught thrown)) before now a = TellsAlone (without status.Uncaught) before now a
Tells m (answers.Reply (replies.Profile method index fault)) before now a = TellsAlone (without status.Profile) before now a
Tells m (answers.Reply replies.FuelSpent) before now a = TellsAlone (without status.Fuel) before now a
Tells m (answers.Reply (replies.Full limit)) before now a = TellsAlone (without status.Limit) before now a
Tells m (answers.Reply replies.WriteFault) before now a = TellsAlone (without status.WriteFault) before now a
Tells m answers.Closed before now a = TellsAlone (without status.WriteFault) before now a
Tells m answers.NotReady before now a = TellsAlone (without status.Usage) before now a

-- ---- a call, beside the built-in host

abbrev pub meant_call : (method : ℕ) → Call → MeantCall
meant_call method c = record { method = method; args = numbers_of c; fuel = c.fuel; formulas = builtin_formulas }

-- it is done by a session, and told
pub record IsDone (old new : Opened) (method : ℕ) (c : Call) (before now : List ℕ) (a : Answer) : Type 0 where
  pub reply : SessionReply
  pub mid : List ℕ
  pub answers : AnswersIn old new (meant_call method c) (Some before) (Some mid) reply
  pub told : Tells new reply mid now a

-- nothing is done
pub record Rests (old new : Opened) (before now : List ℕ) : Type 0 where
  pub same : new ≡ old
  pub output : now ≡ before

-- a call that can't be made, one of a name that the file doesn't export, and one that is done
pub data IsAnswered (names : List ℕ) (old new : Opened) (c : Call) (before now : List ℕ) : Answer → Type 0 where
  unmade : ¬ CanBeMade names c → Rests old new before now → IsAnswered names old new c before now (without status.Usage)
  unknown : CanBeMade names c → export (setting old.linked builtin_formulas) (name_of_call names c) ≡ None → Rests old new before now → IsAnswered names old new c before now (without status.Refused)
  made : (method : ℕ) (a : Answer) → CanBeMade names c → export (setting old.linked builtin_formulas) (name_of_call names c) ≡ Some method → IsDone old new method c before now a → IsAnswered names old new c before now a

-- calls one after the other, each on the session that the one before left
pub data AreAnswered (names : List ℕ) : Opened → List Call → List Answer → (before : List ℕ) → (last : Opened) → (now : List ℕ) → Type 0 where
  nothing : (m : Opened) (written : List ℕ) → AreAnswered names m [] [] written m written
  more : (old mid last : Opened) (c : Call) (cs : List Call) (a : Answer) (told : List Answer) (before between now : List ℕ)
      → IsAnswered names old mid c before between a → AreAnswered names mid cs told between last now → AreAnswered names old (c ∷ cs) (a ∷ told) before last now

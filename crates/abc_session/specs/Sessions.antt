-- What a session answers to one call, and to calls one after the other.
use Rattle.std.specs.Prelude.{◌≡◌, ◌≢◌, ℕ, ◌≤◌, List, [], ◌∷◌, true, Some, map, All}
use Rattle.std.specs.declared.option.Option.{Option}
use Rattle.abc_base.specs.Faults.{Rose}
use Rattle.abc_meaning.specs.Calls.{Call, Replied, session}
use Rattle.abc_machine.specs.Invoked.{AnswersCall}
use Rattle.abc_machine.specs.Machines.{IsReadyToCall, Opened}
use Rattle.abc_machine.specs.Replied.{RepliesAs}
use Rattle.abc_machine.specs.declared.ends.End.TheVariants.{Done}
use Rattle.abc_machine.specs.declared.replies.Reply.{Reply}
use Rattle.abc_heap_values.specs.declared.values.Span.{Span}
use Rattle.abc_machine.specs.Texts.{CanTell, KeepsTexts}
use Rattle.abc_machine.specs.declared.replies.PlainValue.TheVariants.{Text}
use Rattle.abc_machine.specs.declared.replies.Reply.TheVariants.{Value, WriteFault}
use Rattle.abc_session.specs.declared.replies.SessionReply.{SessionReply}
use Rattle.abc_session.specs.declared.replies.SessionReply.TheVariants as replies

-- nothing was done
pub record DoesNothing (old new : Opened) (before now : Option (List ℕ)) : Type 0 where
  pub same : new ≡ old
  pub sink : now ≡ before

-- a session that no start made ready, one that a failed call closed, and one that does the call
pub record IsUnready (old new : Opened) (before now : Option (List ℕ)) : Type 0 where
  pub unready : old.ended ≢ Some Done
  pub rests : DoesNothing old new before now

pub record IsSessionClosed (old new : Opened) (before now : Option (List ℕ)) : Type 0 where
  pub done : old.ended ≡ Some Done
  pub closed : old.closed ≡ true
  pub rests : DoesNothing old new before now

pub record DoesCall (old new : Opened) (c : Call) (before now : Option (List ℕ)) (reply : Reply) : Type 0 where
  pub ready : IsReadyToCall old
  pub answers : AnswersCall old new c before now reply

-- what a session answers to a call, and what it leaves
abbrev pub AnswersIn : (old new : Opened) → Call → (before now : Option (List ℕ)) → SessionReply → Type 0
AnswersIn old new c before now (replies.Reply reply) = DoesCall old new c before now reply
AnswersIn old new c before now replies.NotReady = IsUnready old new before now
AnswersIn old new c before now replies.Closed = IsSessionClosed old new before now

-- a session that does nothing leaves its sink as it was, and so its count of faults
abbrev pub LeavesSink : {K : Type 0} → (before now : K) → SessionReply → Type 0
LeavesSink before now (replies.Reply reply) = Unit {0}
LeavesSink before now replies.NotReady = now ≡ before
LeavesSink before now replies.Closed = now ≡ before

-- the sink's count of faults never falls, and it rose where writing failed
pub record HasCalled (before now : ℕ) (reply : SessionReply) : Type 0 where
  pub later : before ≤ now
  pub failed : reply ≡ replies.Reply WriteFault → Rose before now

-- ---- calls one after the other

-- a call that was made, what was answered, and what the sink had before and after it, where it tells that
pub record Made : Type 0 where
  pub call : Call
  pub reply : SessionReply
  pub before : Option (List ℕ)
  pub now : Option (List ℕ)

-- it was answered so; a text that it gave can be told, and so can those that could be told before
pub record IsCallMade (old new : Opened) (d : Made) : Type 0 where
  pub answers : AnswersIn old new d.call d.before d.now d.reply
  pub text : (s : Span) → d.reply ≡ replies.Reply (Value (Text s)) → CanTell new s
  pub texts : KeepsTexts old new

-- a session was asked these, one after the other, and then it is the last
pub data AreCallsMade : Opened → List Made → (last : Opened) → Type 0 where
  nothing : (m : Opened) → AreCallsMade m [] m
  more : (old new last : Opened) (d : Made) (ds : List Made) → IsCallMade old new d → AreCallsMade new ds last → AreCallsMade old (d ∷ ds) last

-- each is answered by its meaning, until writing fails; after that the session is closed
pub data Follow : List Replied → List Made → Type 0 where
  none : Follow [] []
  replied : (r : Replied) (rs : List Replied) (d : Made) (ds : List Made) (reply : Reply) → d.reply ≡ replies.Reply reply → reply ≢ WriteFault → RepliesAs r d.before d.now reply → Follow rs ds → Follow (r ∷ rs) (d ∷ ds)
  failed : (r : Replied) (rs : List Replied) (d : Made) (ds : List Made) → d.reply ≡ replies.Reply WriteFault → RepliesAs r d.before d.now WriteFault → All (λ e. e.reply ≡ replies.Closed) ds → Follow (r ∷ rs) (d ∷ ds)

-- every list of calls that a ready session is asked is answered by the calls' meanings, each in the world that the one before left
abbrev pub CallsFollow : Type 0
CallsFollow = (m last : Opened) (ds : List Made) → IsReadyToCall m → AreCallsMade m ds last → Follow (session m.linked m.world (map (λ d. d.call) ds)) ds

-- One step more, where there is fuel for it.
use Rattle.std.specs.Prelude.{◌≡◌, ℕ, suc, List, Ok, Err}
use Rattle.std.specs.declared.option.Option.{Option}
use Rattle.std.specs.declared.result.Result.{Result}
use Rattle.abc_meaning.specs.Calls as calls
use Rattle.abc_meaning.specs.Calls.{value_at_end}
use Rattle.abc_heap_values.specs.declared.values.Value.{Value}
use Rattle.abc_run_finish.specs.Ending.{IsSized}
use Rattle.abc_run_finish.specs.declared.ended.Ended.TheVariants as ended
use Rattle.abc_machine.specs.Replied.{IsReplyOf, plain_value}
use Rattle.abc_machine.specs.declared.ends.End.{End}
use Rattle.abc_machine.specs.declared.ends.End.TheVariants as ends
use Rattle.abc_machine.specs.declared.replies.Reply.{Reply}
use Rattle.abc_machine.specs.declared.replies.Reply.TheVariants as replies
use Rattle.abc_meaning.specs.Throwing as meant
use Rattle.abc_run_finish.specs.Outward.{adding}
use Rattle.abc_link_names.specs.Linked.{LinkedFile}
use Rattle.abc_run_state.specs.Outer.{Outer, setting_in, world}
use Rattle.abc_run_state.specs.declared.state.State.{State}
use Rattle.abc_run_finish.specs.Steps.{EndsAs, FailsAs, GoesOnAs, IsReached}
use Rattle.abc_run_finish.specs.declared.halts.Halt.{Halt}
use Rattle.abc_run_finish.specs.declared.halts.Halt.TheVariants as halts

-- what comes of a call where a step ends
abbrev pub reply_for : Halt → Reply
reply_for halts.Fails = replies.WriteFault
reply_for (halts.Returns v) = replies.Value (plain_value v)
reply_for (halts.Ends (ended.Uncaught thrown)) = replies.Uncaught thrown
reply_for (halts.Ends (ended.Profile method index fault)) = replies.Profile method index fault
reply_for (halts.Ends (ended.Full limit)) = replies.Full limit

-- the same of a step, where it ends
abbrev pub as_reply : Result Unit Halt → Result Unit Reply
as_reply (Ok u) = Ok u
as_reply (Err h) = Err (reply_for h)

-- a run ends as a call would, whose value is not told
abbrev pub end_for : Reply → End
end_for (replies.Value v) = ends.Done
end_for (replies.Uncaught thrown) = ends.Uncaught thrown
end_for (replies.Profile method index fault) = ends.Profile method index fault
end_for replies.FuelSpent = ends.FuelSpent
end_for (replies.Full limit) = ends.Full limit
end_for replies.WriteFault = ends.WriteFault

-- what comes of a call where a step of the meaning ends, and its frame would return this
abbrev pub reply_by : Value → meant.End → calls.Reply
reply_by v meant.Done = calls.Gives v
reply_by v (meant.Uncaught thrown) = calls.EndsAs (meant.Uncaught thrown)
reply_by v (meant.Profile method index fault) = calls.EndsAs (meant.Profile method index fault)
reply_by v meant.FuelSpent = calls.EndsAs meant.FuelSpent
reply_by v (meant.Full limit) = calls.EndsAs (meant.Full limit)
reply_by v meant.Stuck = calls.EndsAs meant.Stuck

-- a step ended as the code says, in the state that it leaves
pub record EndsWith (l : LinkedFile) (out : Outer) (old new : State) (reply : Reply) (before now : Option (List ℕ)) : Type 0 where
  pub end : meant.End
  pub is : IsReplyOf (reply_by (value_at_end (setting_in l out) (world old out) old.frames.living) end) reply
  pub ends : EndsAs l out old new end before now
  pub sized : IsSized (setting_in l out) new.arena.limits new.frames

-- a step went on, to a state that a run reaches
pub record GoesTo (l : LinkedFile) (out : Outer) (old new : State) (before now : Option (List ℕ)) : Type 0 where
  pub goes : GoesOnAs l out old new before now
  pub reached : IsReached l (adding goes.bytes out) new

-- no step was taken
pub record SpendsNothing (old new : State) (before now : Option (List ℕ)) : Type 0 where
  pub state : new ≡ old
  pub sink : now ≡ before

abbrev pub SpendsAs : LinkedFile → Outer → (old : State) → (fuel : ℕ) → Result Unit Reply → (new : State) → (left : ℕ) → (before now : Option (List ℕ)) → Type 0
SpendsAs l out old fuel (Ok u) new left before now = (fuel ≡ suc left) × GoesTo l out old new before now
SpendsAs l out old fuel (Err replies.FuelSpent) new left before now = (fuel ≡ 0) × SpendsNothing old new before now
SpendsAs l out old fuel (Err replies.WriteFault) new left before now = (fuel ≡ suc left) × FailsAs l out old new before now
SpendsAs l out old fuel (Err (replies.Value v)) new left before now = (fuel ≡ suc left) × EndsWith l out old new (replies.Value v) before now
SpendsAs l out old fuel (Err (replies.Uncaught thrown)) new left before now = (fuel ≡ suc left) × EndsWith l out old new (replies.Uncaught thrown) before now
SpendsAs l out old fuel (Err (replies.Profile method index fault)) new left before now = (fuel ≡ suc left) × EndsWith l out old new (replies.Profile method index fault) before now
SpendsAs l out old fuel (Err (replies.Full limit)) new left before now = (fuel ≡ suc left) × EndsWith l out old new (replies.Full limit) before now

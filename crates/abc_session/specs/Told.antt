-- What comes of one call, as code tells it, and what it leaves.
use Rattle.std.specs.Prelude.{◌≡◌, ◌≢◌, ℕ, ◌≤◌, List, ◌∷◌, ◌++◌, Ok, Err, IsSome}
use Rattle.std.specs.Io.KnownBytes.{append_known}
use Rattle.std.specs.declared.option.Option.{Option}
use Rattle.std.specs.declared.result.Result.{Result}
use Rattle.abc_base.specs.Faults.{Rose}
use Rattle.abc_heap_values.specs.declared.values.Span.{Span}
use Rattle.abc_heap_values.specs.declared.values.Value.{Value}
use Rattle.abc_meaning.specs.Calls.{Gives, Replied, silent}
use Rattle.abc_machine.specs.declared.ends.End.{End}
use Rattle.abc_machine.specs.declared.ends.End.TheVariants as ends
use Rattle.abc_machine.specs.Ended.{RunsAs}
use Rattle.abc_machine.specs.Machines.{IsReadyToCall, Opened}
use Rattle.abc_machine.specs.declared.replies.PlainValue.{PlainValue}
use Rattle.abc_machine.specs.declared.replies.PlainValue.TheVariants as values
use Rattle.abc_machine.specs.Replied.{plain_value}
use Rattle.abc_machine.specs.Texts.{CanTell}
use Rattle.abc_machine.specs.declared.replies.Reply.TheVariants as replies
use Rattle.abc_session.specs.declared.replies.SessionReply.{SessionReply}
use Rattle.abc_session.specs.declared.replies.SessionReply.TheVariants as answers
use Rattle.abc_file_types.specs.declared.tables.Abc.{Abc}
use Rattle.abc_session.specs.Ticks.{calls_run, value_line}

-- a text that a value tells can be told
abbrev pub HasToldText : Opened → PlainValue → Type 0
HasToldText m value = (s : Span) → value ≡ values.Text s → CanTell m s

-- the value that a call gave, or how all ends; a session that answers nothing ends as one whose sink failed
abbrev pub value_or_end : SessionReply → Result PlainValue End
value_or_end (answers.Reply (replies.Value value)) = Ok value
value_or_end (answers.Reply (replies.Uncaught thrown)) = Err (ends.Uncaught thrown)
value_or_end (answers.Reply (replies.Profile method index fault)) = Err (ends.Profile method index fault)
value_or_end (answers.Reply replies.FuelSpent) = Err ends.FuelSpent
value_or_end (answers.Reply (replies.Full limit)) = Err (ends.Full limit)
value_or_end (answers.Reply replies.WriteFault) = Err ends.WriteFault
value_or_end answers.NotReady = Err ends.WriteFault
value_or_end answers.Closed = Err ends.WriteFault

-- a call gave a value, which was told on its line
pub record Told (v : Abc) (r : Replied) (before now : Option (List ℕ)) : Type 0 where
  pub value : Value
  pub gives : r.reply ≡ Gives value
  pub sink : IsSome before → now ≡ append_known before (r.world.wrote ++ value_line v r.world.heap (plain_value value))

-- a call was told so; or all ends with it so, whatever calls would come after it
abbrev pub TellsAs : Abc → Replied → (before now : Option (List ℕ)) → Result Unit End → Type 0
TellsAs v r before now (Ok u) = Told v r before now
TellsAs v r before now (Err end) = (rest : List Replied) → RunsAs (calls_run v (r ∷ rest)) before now end

-- the session goes on from the world that a call left
pub record GoesOn (old new : Opened) (r : Replied) : Type 0 where
  pub ready : IsReadyToCall new
  pub linked : new.linked ≡ old.linked
  pub names : new.names ≡ old.names
  pub world : new.world ≡ silent r.world

abbrev pub GoesOnToCall : Opened → Opened → Replied → Result Unit End → Type 0
GoesOnToCall old new r (Ok u) = GoesOn old new r
GoesOnToCall old new r (Err end) = Unit {0}

-- the sink's count of faults never falls, and it rose where writing failed
pub record Tried (before now : ℕ) (result : Result Unit End) : Type 0 where
  pub later : before ≤ now
  pub failed : result ≡ Err ends.WriteFault → Rose before now

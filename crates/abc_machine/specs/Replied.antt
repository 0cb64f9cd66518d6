-- What comes of a call, as code answers it, and what it wrote (profile: docs/EMBEDDING.md, "A session").
use Rattle.std.specs.Prelude.{◌≡◌, ℕ, ◌≤◌, List, Bool, true, false, IsSome}
use Rattle.std.specs.Io.KnownBytes.{append_known}
use Rattle.std.specs.declared.option.Option.{Option}
use Rattle.abc_base.specs.Faults.{Rose}
use Rattle.abc_base.specs.Sinks.{GrowsByFront}
use Rattle.abc_meaning.specs.Calls as meant
use Rattle.abc_meaning.specs.Calls.{Replied}
use Rattle.abc_heap_values.specs.declared.values.Value.{Value}
use Rattle.abc_heap_values.specs.declared.values.Value.TheVariants as values
use Rattle.abc_machine.specs.declared.replies.PlainValue.{PlainValue}
use Rattle.abc_machine.specs.declared.replies.PlainValue.TheVariants as plains
use Rattle.abc_machine.specs.declared.replies.Reply.{Reply}
use Rattle.abc_machine.specs.declared.replies.Reply.TheVariants as replies
use Rattle.abc_meaning.specs.Throwing as ends

-- numbers and texts are told, and namespaces and objects are not
abbrev pub plain_value : Value → PlainValue
plain_value values.Undefined = plains.Undefined
plain_value values.Null = plains.Null
plain_value (values.Num n) = plains.Num n
plain_value (values.Bool b) = plains.Bool b
plain_value (values.Text s) = plains.Text s
plain_value (values.Space n) = plains.Other
plain_value (values.Obj o) = plains.Other

-- a call gives a value, which is told so
pub record TellsValue (r : meant.Reply) (v : PlainValue) : Type 0 where
  pub value : Value
  pub gives : r ≡ meant.Gives value
  pub told : plain_value value ≡ v

-- the code answers this reply of the meaning
abbrev pub IsReplyOf : meant.Reply → Reply → Type 0
IsReplyOf r (replies.Value v) = TellsValue r v
IsReplyOf r (replies.Uncaught thrown) = r ≡ meant.EndsAs (ends.Uncaught thrown)
IsReplyOf r (replies.Profile method index fault) = r ≡ meant.EndsAs (ends.Profile method index fault)
IsReplyOf r replies.FuelSpent = r ≡ meant.EndsAs ends.FuelSpent
IsReplyOf r (replies.Full limit) = r ≡ meant.EndsAs (ends.Full limit)
IsReplyOf r replies.WriteFault = ⊥

-- a call writes the meaning's output and answers its reply, or writes a front of that output and answers that writing failed: from
-- what the sink had written to what it has then, where it tells that
pub data RepliesAs : Replied → (old new : Option (List ℕ)) → Reply → Type 0 where
  replied : {old new : Option (List ℕ)} (r : Replied) (reply : Reply) → IsReplyOf r.reply reply → (IsSome old → new ≡ append_known old r.world.wrote) → RepliesAs r old new reply
  failed : {old new : Option (List ℕ)} (r : Replied) → (IsSome old → GrowsByFront old new r.world.wrote) → RepliesAs r old new replies.WriteFault

-- the sink's count of faults never falls, and it rose where writing failed
pub record HasReplied (before now : ℕ) (reply : Reply) : Type 0 where
  pub later : before ≤ now
  pub failed : reply ≡ replies.WriteFault → Rose before now

-- writing failed, after which nothing is told of the machine
abbrev pub is_write_fault : Reply → Bool
is_write_fault replies.WriteFault = true
is_write_fault (replies.Value v) = false
is_write_fault (replies.Uncaught thrown) = false
is_write_fault (replies.Profile method index fault) = false
is_write_fault replies.FuelSpent = false
is_write_fault (replies.Full limit) = false

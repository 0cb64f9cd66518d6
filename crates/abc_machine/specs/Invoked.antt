-- A call of a machine: what it means, what is answered, and what is left.
use Rattle.std.specs.Prelude.{◌≡◌, ◌≢◌, ℕ, List}
use Rattle.std.specs.declared.option.Option.{Option}
use Rattle.abc_base.specs.Hosts.{plain_arguments}
use Rattle.abc_base.specs.declared.formula.Formula.{Formula}
use Rattle.abc_base.specs.declared.plain.Plain.{Plain}
use Rattle.abc_meaning.specs.Calls.{Call, Replied, answers_call, silent}
use Rattle.abc_machine.specs.Machines.{Opened}
use Rattle.abc_machine.specs.Replied.{RepliesAs, is_write_fault}
use Rattle.abc_machine.specs.declared.replies.Reply.{Reply}
use Rattle.abc_machine.specs.declared.replies.Reply.TheVariants.{WriteFault}

-- a method is called with some numbers, beside a host of these formulas
abbrev pub call_of : (method : ℕ) → Plain → (fuel : ℕ) → List Formula → Call
call_of method args fuel formulas = record { method = method; args = plain_arguments args; fuel = fuel; formulas = formulas }

-- what it means, in the world of a machine
abbrev pub meant_by : Opened → Call → Replied
meant_by m c = answers_call m.linked m.world c

-- it is answered, and leaves its world to the next call; where writing failed, nothing is told of the world, and the machine is closed
pub record AnswersCall (old new : Opened) (c : Call) (before now : Option (List ℕ)) (reply : Reply) : Type 0 where
  pub replies : RepliesAs (meant_by old c) before now reply
  pub world : reply ≢ WriteFault → new.world ≡ silent (meant_by old c).world
  pub names : reply ≢ WriteFault → new.names ≡ old.names
  pub closed : new.closed ≡ is_write_fault reply
  pub ended : new.ended ≡ old.ended
  pub linked : new.linked ≡ old.linked
  pub steps : new.steps ≡ old.steps

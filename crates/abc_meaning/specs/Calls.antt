-- A call on a kept heap: a method of the last script is entered with numbers, and steps are taken until its frame has returned, or the run ends
-- otherwise. To enter it is no step. Afterwards all frames are gone; the heap and the started scripts stay (profile: docs/EMBEDDING.md, "A session").
use Rattle.std.specs.Prelude.{ℕ, ℤ, zero, suc, List, [], ◌∷◌, map}
use Rattle.abc_base.specs.declared.formula.Formula.{Formula}
use Rattle.abc_heap_values.specs.declared.values.Value.{Value}
use Rattle.abc_heap_values.specs.declared.values.Value.TheVariants.{Undefined, Num}
use Rattle.abc_link_names.specs.Linked.{LinkedFile}
use Rattle.abc_frames.specs.Frame.{Frame}
use Rattle.abc_meaning.specs.Entering.{enters_owned, global}
use Rattle.abc_meaning.specs.Setting.{Setting, routine_of}
use Rattle.abc_meaning.specs.World.{Faults, Outcome, Run, Stop, Stopped, Went, World, see, ◌>>=◌}
use Rattle.abc_meaning.specs.At.{Act, Returns}
use Rattle.abc_meaning.specs.Step.{puts, runs, step}
use Rattle.abc_meaning.specs.Throwing.{Done, End, Ends, FuelSpent, Machine, Profile, Stepped, Steps, last_script, stops}

-- what comes of a call: a value, or the end of the run, which is not Done
pub data Reply : Type 0 where
  Gives : Value → Reply
  EndsAs : End → Reply

pub record Replied : Type 0 where
  pub world : World
  pub reply : Reply

abbrev pub replies : World → Reply → Replied
replies w r = record { world = w; reply = r }

-- ---- the method is entered on the script's global object

abbrev pub numbers : List ℤ → List Value
numbers ns = map Num ns

abbrev pub enters_call : Setting → (method : ℕ) → List ℤ → Run Frame
enters_call p m args = see (global (last_script p)) >>= λ this. enters_owned p m this (numbers args)

-- no frame is there to catch an error, and a fault is at the method's first instruction
abbrev pub stops_call : Setting → (method : ℕ) → World → Stop → Stepped
stops_call p m w (Faults fault) = Ends w (Profile m 0 fault)
stops_call p m w why = stops p w [] why

abbrev pub entered_call : Setting → (method : ℕ) → Outcome Frame → Stepped
entered_call p m (Went w f) = puts p w f []
entered_call p m (Stopped w why) = stops_call p m w why

-- what comes of entering a method with these numbers, on the last script's global object: its frame, or an end
abbrev pub begins_call : Setting → World → (method : ℕ) → List ℤ → Stepped
begins_call p w m args = entered_call p m (enters_call p m args w)

-- ---- steps, until the frame of the method has returned

-- what an instruction returns, if it does
abbrev pub value_returned : Outcome Act → Value
value_returned (Went w (Returns v)) = v
value_returned other = Undefined

-- the value that the newest frame's instruction returns, where it does; else undefined
abbrev pub value_at_end : Setting → World → List Frame → Value
value_at_end p w [] = Undefined
value_at_end p w (f ∷ fs) = value_returned (runs p f (routine_of p f.method) w)

-- the run would be done where the last frame returns
abbrev pub then_replies : Value → Stepped → (Machine → Replied) → Replied
then_replies v (Steps q) go = go q
then_replies v (Ends w Done) go = replies w (Gives v)
then_replies v (Ends w e) go = replies w (EndsAs e)

abbrev pub replies_for : Setting → (fuel : ℕ) → Machine → Replied
replies_for p zero q = replies q.world (EndsAs FuelSpent)
replies_for p (suc fuel) q = then_replies (value_at_end p q.world q.frames) (step p q) (replies_for p fuel)

-- ---- the meaning of a call, from a world that is kept: its output is what is written in it

abbrev pub silent : World → World
silent w = record w { wrote = [] }

unfoldable pub call_meaning : Setting → (fuel : ℕ) → World → (method : ℕ) → List ℤ → Replied
call_meaning p fuel w m args = then_replies Undefined (begins_call p (silent w) m args) (replies_for p fuel)

-- ---- calls one after the other, each on the world that the one before left

pub record Call : Type 0 where
  pub method : ℕ
  pub args : List ℤ
  pub fuel : ℕ
  pub formulas : List Formula

abbrev pub answers_call : LinkedFile → World → Call → Replied
answers_call l w c = call_meaning (record { linked = l; formulas = c.formulas }) c.fuel w c.method c.args

abbrev pub session : LinkedFile → World → List Call → List Replied
session l w [] = []
session l w (c ∷ cs) = answers_call l w c ∷ session l (answers_call l w c).world cs

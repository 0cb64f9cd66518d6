-- How a run ends, as code answers it, and what it wrote.
use Rattle.std.specs.Prelude.{◌≡◌, ℕ, ◌≤◌, List, IsSome}
use Rattle.std.specs.Io.KnownBytes.{append_known}
use Rattle.std.specs.declared.option.Option.{Option}
use Rattle.abc_base.specs.Faults.{Rose}
use Rattle.abc_base.specs.Sinks.{GrowsByFront}
use Rattle.abc_machine.specs.declared.ends.End.{End}
use Rattle.abc_machine.specs.declared.ends.End.TheVariants as ends
use Rattle.abc_meaning.specs.Meaning.{Meaning, Ran}
use Rattle.abc_meaning.specs.Throwing as meant

-- the code answers this end of the meaning
abbrev pub IsEndOf : meant.End → End → Type 0
IsEndOf e ends.Done = e ≡ meant.Done
IsEndOf e (ends.Uncaught thrown) = e ≡ meant.Uncaught thrown
IsEndOf e (ends.Profile method index fault) = e ≡ meant.Profile method index fault
IsEndOf e ends.FuelSpent = e ≡ meant.FuelSpent
IsEndOf e (ends.Full limit) = e ≡ meant.Full limit
IsEndOf e ends.WriteFault = ⊥

-- a run writes the meaning's output and answers its end, or writes a front of that output and answers that writing failed: from
-- what the sink had written to what it has then, where it tells that
pub data RunsAs : Meaning → (old new : Option (List ℕ)) → End → Type 0 where
  ended : {old new : Option (List ℕ)} (wrote : List ℕ) (e : meant.End) (end : End) → IsEndOf e end → (IsSome old → new ≡ append_known old wrote) → RunsAs (Ran wrote e) old new end
  failed : {old new : Option (List ℕ)} (wrote : List ℕ) (e : meant.End) → (IsSome old → GrowsByFront old new wrote) → RunsAs (Ran wrote e) old new ends.WriteFault

-- the sink's count of faults never falls, and it rose where writing failed
pub record HasRun (before now : ℕ) (end : End) : Type 0 where
  pub later : before ≤ now
  pub failed : end ≡ ends.WriteFault → Rose before now

-- A machine is run once: what its run means, and what is left of it.
use Rattle.std.specs.Prelude.{◌≡◌, ◌≢◌, ℕ, List, Some}
use Rattle.abc_base.specs.declared.formula.Formula.{Formula}
use Rattle.abc_machine.specs.Machines.{Opened, world_run}
use Rattle.abc_machine.specs.declared.ends.End.{End}
use Rattle.abc_machine.specs.declared.ends.End.TheVariants.{WriteFault}
use Rattle.abc_meaning.specs.Calls.{silent}
use Rattle.abc_meaning.specs.Logs.{log, steps as steps_of}
use Rattle.abc_meaning.specs.Meaning.{Meaning, meaning}
use Rattle.abc_meaning.specs.Openings.{setting}

-- what the run of a machine means beside a host of these formulas, and its log
abbrev pub meaning_of : Opened → List Formula → (fuel : ℕ) → Meaning
meaning_of m formulas fuel = meaning (setting m.linked formulas) m.limits fuel

-- the step log of that run
abbrev pub log_of : Opened → List Formula → (fuel : ℕ) → List ℕ
log_of m formulas fuel = log (setting m.linked formulas) m.limits fuel

-- where writing didn't fail: the world of the meaning, the same host's names, and as many steps as the meaning takes
pub record LeavesRun (old new : Opened) (formulas : List Formula) (fuel : ℕ) (end : End) : Type 0 where
  pub world : end ≢ WriteFault → new.world ≡ silent (world_run old formulas fuel)
  pub names : end ≢ WriteFault → new.names ≡ old.names
  pub steps : end ≢ WriteFault → new.steps ≡ steps_of (setting old.linked formulas) old.limits fuel

-- in any case: its run has ended so, and what it runs is as it was
pub record HasEnded (old new : Opened) (end : End) : Type 0 where
  pub ended : new.ended ≡ Some end
  pub closed : new.closed ≡ old.closed
  pub linked : new.linked ≡ old.linked

-- a machine that was run answers how that ended, writes nothing to its sink, and stays as it is
abbrev pub AnswersAgain : {K : Type 0} → (old new : Opened) → (before now : K) → End → Type 0
AnswersAgain old new before now result = (end : End) → old.ended ≡ Some end → (result ≡ end) × (now ≡ before) × (new ≡ old)
